-- Stubs and scions: what stands at a node for each reference out of a bunch. Lists alone, so that the
-- rules of a node's step can cite them.
use Rattle.std.specs.Prelude.{◌≡◌, ℕ, Bool, true, false, ◌&&◌, ◌||◌, not, nat_le, ◌==◌, List, [], ◌∷◌, filter, count_by, refl}
use Rattle.bmx_types.specs.declared.names.Pair.{Pair}
use Rattle.bmx_inter.specs.declared.inter.Stub.{Stub}
use Rattle.bmx_inter.specs.declared.inter.Scion.{Scion}
use Rattle.bmx_inter.specs.Order.{is_listed, with_one}

-- what contracts see: stubs and scions in order, and for how many more references there is room
-- without memory
pub record Paired : Type 0 where
  pub stubs : List Stub
  pub scions : List Scion
  pub spare : ℕ

-- the reference that a stub stands for, and a scion
abbrev pub stub_pair : Stub → Pair
stub_pair s = record { source = s.source; target = s.target }

abbrev pub scion_pair : Scion → Pair
scion_pair s = record { source = s.source; target = s.target }

-- the stub of a reference out of an object of the bunch, and its scion, stored in the step of that number
abbrev pub stub_of : ℕ → ℕ → ℕ → Stub
stub_of source bunch target = record { source = source; bunch = bunch; target = target }

abbrev pub scion_of : ℕ → ℕ → ℕ → ℕ → Scion
scion_of source bunch target clock = record { target = target; source = source; bunch = bunch; clock = clock }

-- the stubs and the scions after it was stored
abbrev pub stubs_with : ℕ → ℕ → ℕ → List Stub → List Stub
stubs_with source bunch target stubs = with_one stub_pair (stub_of source bunch target) stubs

abbrev pub scions_with : ℕ → ℕ → ℕ → ℕ → List Scion → List Scion
scions_with source bunch target clock scions = with_one scion_pair (scion_of source bunch target clock) scions

-- a collection of the bunch keeps the stub: it is of another bunch, or its source is kept and has the
-- target in its copy
abbrev pub is_kept : ℕ → (ℕ → Bool) → (ℕ → ℕ → Bool) → Stub → Bool
is_kept bunch kept holds s = not (s.bunch == bunch) || (kept s.source && holds s.source s.target)

-- the stubs that stay
abbrev pub stubs_kept : ℕ → (ℕ → Bool) → (ℕ → ℕ → Bool) → List Stub → List Stub
stubs_kept bunch kept holds stubs = filter (is_kept bunch kept holds) stubs

-- A node's own table of a bunch, made in the step of that number, lists the references that have a
-- stub. It tells whether the scion is needed: that is of the bunch, and its reference was last stored
-- in that step or before it.
abbrev pub is_told_of : ℕ → ℕ → Scion → Bool
is_told_of bunch clock s = s.bunch == bunch && nat_le s.clock clock

-- the table ends the scion: it tells of it, and doesn't list its reference
abbrev pub is_stale : ℕ → ℕ → List Pair → Scion → Bool
is_stale bunch clock listed s = is_told_of bunch clock s && not (is_listed listed (scion_pair s))

-- the scions that stay
abbrev pub scions_cleaned : ℕ → ℕ → List Pair → List Scion → List Scion
scions_cleaned bunch clock listed scions = filter (λ s. not (is_stale bunch clock listed s)) scions

-- how many go
abbrev pub stale_count : ℕ → ℕ → List Pair → List Scion → ℕ
stale_count bunch clock listed scions = count_by (is_stale bunch clock listed) scions

-- stored in step 4 and again in step 9: one scion, of step 9
twice : List Scion
twice = scions_with 2 0 3 9 (scions_with 2 0 3 4 [])

stored_twice : twice ≡ record { target = 3; source = 2; bunch = 0; clock = 9 } ∷ []
unfolding twice
stored_twice = refl

-- a table of step 8 that doesn't list it ends nothing, one of step 9 ends it
kept_by_an_early_table : (scions_cleaned 0 8 [] twice ≡ twice) × (stale_count 0 8 [] twice ≡ 0)
unfolding twice
kept_by_an_early_table = (refl, refl)

ended_by_a_table : (scions_cleaned 0 9 [] twice ≡ []) × (stale_count 0 9 [] twice ≡ 1)
unfolding twice
ended_by_a_table = (refl, refl)

-- nor does one that lists it, or one of another bunch
kept_where_listed : (scions_cleaned 0 9 (record { source = 2; target = 3 } ∷ []) twice ≡ twice) × (scions_cleaned 1 9 [] twice ≡ twice)
unfolding twice
kept_where_listed = (refl, refl)

-- brought back in another bunch: both are of that bunch now
in_another_bunch : (stubs_with 2 5 3 (stubs_with 2 0 3 []) ≡ record { source = 2; bunch = 5; target = 3 } ∷ []) × (scions_with 2 5 3 9 (scions_with 2 0 3 4 []) ≡ record { target = 3; source = 2; bunch = 5; clock = 9 } ∷ [])
in_another_bunch = (refl, refl)

-- by source, then by target
in_order : stubs_with 2 0 4 (stubs_with 2 0 7 (stubs_with 3 0 1 [])) ≡ record { source = 2; bunch = 0; target = 4 } ∷ record { source = 2; bunch = 0; target = 7 } ∷ record { source = 3; bunch = 0; target = 1 } ∷ []
in_order = refl

-- a collection that keeps the source and sees no reference to the target ends the stub
forgotten_by_its_source : (stubs_kept 0 (λ _. true) (λ _ _. false) (stubs_with 2 0 3 []) ≡ []) × (stubs_kept 1 (λ _. true) (λ _ _. false) (stubs_with 2 0 3 []) ≡ stubs_with 2 0 3 [])
forgotten_by_its_source = (refl, refl)
