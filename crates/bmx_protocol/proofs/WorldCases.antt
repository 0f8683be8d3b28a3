-- What is said of nodes together, at the opening: all is quiet and at rest; and of two nodes and one
-- bunch the anchor has its chain, its parent answers for it, its copy is current, and a view shows node 1.
use Rattle.std.proofs.Common.{◌≡◌, ℕ, zero, suc, ◌<◌, ◌==◌, Bool, true, false, cond, [], ◌∷◌, replicate, find, refl, sym, ap, ◌∙◌, subst, arith, inl}
use Rattle.std.specs.Prelude.{nat_lt, ◌&&◌, Option, Some, None, slice_get}
use Rattle.std.specs.Option.{option_map, option_map_or}
use Rattle.std.proofs.lemmas.Bool.{cond_both}
use Rattle.std.proofs.lemmas.Bool.Decides.{nat_tests}
use Rattle.std.proofs.lemmas.List.{get_or-replicate}
use Rattle.std.proofs.lemmas.Option.{slice_get-get_or}
use Rattle.bmx_types.specs.declared.values.Val.TheVariants as val
use Rattle.bmx_types.specs.declared.openings.Birth.{Birth}
use Rattle.bmx_graph.specs.State.{opening_state}
use Rattle.bmx_token.specs.Transitions.{can_serve}
use Rattle.bmx_protocol.specs.declared.views.Entry.{Entry}
use Rattle.bmx_protocol.specs.declared.views.View.{View}
use Rattle.bmx_protocol.specs.Nodes.{Setting, Known, owned_birth, heard_birth, birth_of, is_anchor, first_known, first_state, entry_of, AreNumbers, Shows}
use Rattle.bmx_protocol.specs.Steps.{first_node}
use Rattle.bmx_protocol.specs.Worlds.{World, world_of, Owned, Kept, Here, On, HasChain, IsCurrent, IsHandedOver, AnswersFor, IsUnclaimed, IsAtRest}
use Rattle.bmx_protocol.specs.Runs.Programs.{CanServe, IsQuiet}
use Rattle.bmx_protocol.specs.Cases.{one_bunch}

-- ## at rest and quiet

abbrev at_first : Setting → World
at_first st = world_of (first_node st) []

-- what is known at first has a property where owned and heard births have it
at_first_all : (P : Known → Type 0) → ((b : Birth) → P (owned_birth b)) → ((b : Birth) → P (heard_birth b)) →
    (st : Setting) (n x : ℕ) (k : Known) → first_known st n x ≡ Some k → P k
at_first_all P owned heard st n x k e =
    cond_both (n == 0) (option_map owned_birth (birth_of st x)) (cond (nat_lt n st.nodes && is_anchor st x) (option_map heard_birth (birth_of st x)) None)
    (λ o. o ≡ Some k → P k)
    (λ _ known. mapped owned_birth owned (birth_of st x) known)
    (λ _ known. cond_both (nat_lt n st.nodes && is_anchor st x) (option_map heard_birth (birth_of st x)) None (λ o. o ≡ Some k → P k)
    (λ _ heard_of. mapped heard_birth heard (birth_of st x) heard_of)
    (λ _ none. cc) known)
    e
  where
    mapped : (f : Birth → Known) → ((b : Birth) → P (f b)) → (o : Option Birth) → option_map f o ≡ Some k → P k
    mapped f h None is = cc
    mapped f h (Some b) is = let same : f b ≡ k = cc in subst P same (h b)

opening_is_at_rest : (st : Setting) → IsAtRest st (at_first st)
opening_is_at_rest st = record {
  no_letter = λ n m _ _. refl;
  no_token = λ n x k _ known. at_first_all IsUnclaimed (λ b. record { held = refl; want = refl; ready = refl }) (λ b. record { held = refl; want = refl; ready = refl }) st n x k known;
}

-- nothing can be served
serves_nothing : (st : Setting) (n x : ℕ) (o : Option Known) → first_known st n x ≡ o → option_map_or (λ k. can_serve n k.part) o false ≡ false
serves_nothing st n x None e = refl
serves_nothing st n x (Some k) e = at_first_all (λ k. can_serve n k.part ≡ false) (λ b. refl) (λ b. refl) st n x k e

pub none_served : (st : Setting) (n name : ℕ) → CanServe n (first_node st n).state name → ⊥
none_served st n name serves =
    let none : option_map_or (λ k. can_serve n k.part) (first_known st n name) false ≡ false = serves_nothing st n name (first_known st n name) refl in
    let both : true ≡ false = sym serves ∙ none in
    cc

opening_is_quiet : (st : Setting) → IsQuiet st []
opening_is_quiet st = record {
  no_letter = λ n m _ _. refl;
  nodes = first_node st;
  lead = refl;
  no_serve = λ n name _ serves. none_served st n name serves;
}

-- ## two nodes and one bunch

abbrev two : Setting
two = one_bunch 2

abbrev the_birth : Birth
the_birth = record { name = 1; bunch = 0; fields = replicate 32 val.Null }

the_anchor_has_its_chain : HasChain two (at_first two) 1 1
the_anchor_has_its_chain = (
  1,
  omega arith,
  On (heard_birth the_birth) (record { known = refl; asks = refl })
      (Here (Owned (owned_birth the_birth) (record { known = refl; owns = refl }))),
)

nothing_is_handed_over : (x child parent : ℕ) → IsHandedOver (at_first two) x child parent → ⊥
nothing_is_handed_over x child parent given = let within : given.moves.there.0 < 0 = given.moves.there.1 in omega (arith, within)

its_parent_answers : AnswersFor (at_first two) 1 1 0
its_parent_answers = record {
  known = owned_birth the_birth;
  knows = refl;
  recorded = inl refl;
  wants = λ given. absurd (nothing_is_handed_over 1 1 0 given);
}

its_copy_is_current : IsCurrent (at_first two) (opening_state two.births) 1
its_copy_is_current = record {
  fields = replicate 32 val.Null;
  in_graph = refl;
  at_owner = Kept 0 (owned_birth the_birth) (record { known = refl; owns = refl }) refl;
}

-- ## node 1's view

abbrev its_view : View
its_view = record {
  entries = entry_of 1 (heard_birth the_birth) ∷ [];
  registers = replicate 16 val.Null;
  records = [];
  issued = 0 ∷ 0 ∷ [];
  taken = 0 ∷ 0 ∷ [];
  clock = 0;
  made = 0;
}

its_numbers : AreNumbers 2 (0 ∷ 0 ∷ []) (λ m. 0)
its_numbers = record { each = refl; same = by_node }
  where
    by_node : (m : ℕ) → m < 2 → slice_get {X = ℕ} (0 ∷ 0 ∷ []) m ≡ Some 0
    by_node zero h = refl
    by_node (suc zero) h = refl
    by_node (suc (suc m)) h = absurd (omega arith)

its_entries : (name : ℕ) → find (λ (e : Entry). e.name == name) its_view.entries ≡ option_map (entry_of name) (first_known two 1 name)
its_entries zero = refl
its_entries (suc zero) = refl
its_entries (suc (suc name)) = by_tests (1 == suc (suc name)) (is_anchor two (suc (suc name))) (grind (arith, nat_tests))
  where
    by_tests : (same anchor : Bool) → same ≡ false →
        cond same (Some (entry_of 1 (heard_birth the_birth))) None
        ≡ option_map (entry_of (suc (suc name))) (cond anchor (option_map heard_birth (cond same (Some the_birth) None)) None)
    by_tests true anchor e = cc
    by_tests false true e = refl
    by_tests false false e = refl

a_view_shows_it : Shows 2 its_view (first_state two 1)
a_view_shows_it = record {
  rising = λ i j d lt within. absurd (omega arith);
  entries = its_entries;
  all_registers = refl;
  registers = λ r within. slice_get-get_or (replicate 16 val.Null) r val.Null within ∙ ap Some (get_or-replicate 16 r val.Null val.Null within);
  in_order = λ i j d lt within. absurd (omega arith);
  records = λ name node. refl;
  issued = its_numbers;
  taken = its_numbers;
  clock = refl;
  made = refl;
}
