-- How a walk from the roots comes to exactly the names that are reached.
use Rattle.std.proofs.Common.{◌≡◌, ◌↔◌, ℕ, ◌+◌, ◌*◌, ◌/◌, ◌%◌, ◌<◌, ◌≤◌, List, [], ◌∷◌, length, Contains, Option, Some, None, Vec, Global, slice_get, slice_index_or, unwrap_or, refl, subst, sym, ap, ◌∙◌, ⊎_elim, below_more, arith, zero, suc}
use Rattle.std.specs.Option.{option_map}
use Rattle.std.specs.HashMap.{get}
use Rattle.std.proofs.lemmas.List.Elements.{Contains-get_or}
use Rattle.std.proofs.lemmas.Option.{slice_get_within}
use Rattle.bmx_types.specs.Words.{anchor_of}
use Rattle.bmx_types.specs.declared.values.Val.{Val}
use Rattle.bmx_types.specs.declared.values.Val.TheVariants as val
use Rattle.bmx_graph.specs.declared.graphs.Graph.{Graph}
use Rattle.bmx_graph.specs.declared.walks.Walk.{Walk}
use Rattle.bmx_graph.specs.State.{State, fields_of}
use Rattle.bmx_graph.specs.Graphs.{state_of, bunches_in, register_in, same_name}
use Rattle.bmx_graph.specs.Reached.{IsReached, InRegister, Anchor, InField}
use Rattle.bmx_graph.specs.Inside.Walks.{IsWalk, GoesTo}
use Rattle.bmx_graph.proofs.States.{register_in-there}
use Rattle.bmx_graph.proofs.Finding.{kept-found, Contains-at, at-Contains, Contains-one, Contains_none}

-- a set of names that has the roots, and the names in the fields of each of its names, has each name that is reached
pub reached_in : (nodes bunches : ℕ) (s : State) (P : ℕ → Type 0)
    → ((n r x : ℕ) → n < nodes → r < 16 → s.register n r ≡ val.Ref x → P x)
    → ((b : ℕ) → b < bunches → P (anchor_of b))
    → ((x y : ℕ) → P x → Contains (fields_of s x) (val.Ref y) → P y)
    → (x : ℕ) → IsReached nodes bunches s x → P x
reached_in nodes bunches s P registers anchors fields x (InRegister n r small place holds) = registers n r x small place holds
reached_in nodes bunches s P registers anchors fields x (Anchor b small) = anchors b small
reached_in nodes bunches s P registers anchors fields x (InField y from there) = fields y x (reached_in nodes bunches s P registers anchors fields y from) there

-- the i-th name found was looked at: the names in its fields are found
abbrev pub IsScanned : State → List ℕ → ℕ → Type 0
IsScanned s found i = (x : ℕ) × (slice_get found i ≡ Some x) × ((y : ℕ) → Contains (fields_of s x) (val.Ref y) → Contains found y)

-- a walk from the registers and so many anchors, of whose names so many were looked at
pub record IsReaching (g : Graph) (bunches next : ℕ) (w : Walk) : Type 0 where
  pub walk : IsWalk w
  pub registers : (x : ℕ) → Contains g.registers (val.Ref x) → Contains w.found.items x
  pub anchors : (b : ℕ) → b < bunches → Contains w.found.items (anchor_of b)
  pub sound : (x : ℕ) → Contains w.found.items x → IsReached 8 (bunches_in g) (state_of g) x
  pub scanned : (i : ℕ) → i < next → IsScanned (state_of g) w.found.items i

-- what stands in a register
in_register : (g : Graph) (x : ℕ) → length g.registers ≡ 128 → Contains g.registers (val.Ref x) → IsReached 8 (bunches_in g) (state_of g) x
unfolding state_of
in_register g x all h =
    let k = h.0 in
    let n = k / 16 in
    let r = k % 16 in
    let place : 16 * n + r ≡ k = omega arith in
    let small : r < 16 = omega arith in
    let few : n < 8 = omega (arith, h.1) in
    let there : 16 * n + r < length g.registers = omega (arith, h.1) in
    let read : slice_index_or g.registers (16 * n + r) (val.Ref x) ≡ register_in g.registers n r = register_in-there g.registers n r (val.Ref x) small there in
    InRegister n r few small (sym read ∙ ap (λ i. slice_index_or g.registers i (val.Ref x)) place ∙ h.2)

register_there : (g : Graph) (n r x : ℕ) → length g.registers ≡ 128 → n < 8 → r < 16 → (state_of g).register n r ≡ val.Ref x → Contains g.registers (val.Ref x)
unfolding state_of
register_there g n r x all few small h =
    let there : 16 * n + r < length g.registers = omega arith in
    let read : slice_index_or g.registers (16 * n + r) val.Null ≡ val.Ref x = register_in-there g.registers n r val.Null small there ∙ h in
    subst (Contains g.registers) read (Contains-get_or g.registers (16 * n + r) val.Null there)

-- the registers
pub reaching-registers : (g : Graph) (v w : Walk) → length g.registers ≡ 128 → v.found.items ≡ [] → GoesTo g.registers v w → IsReaching g 0 0 w
reaching-registers g v w all none to = record {
  walk = to.walk;
  registers = to.found;
  anchors = λ b h. absurd (omega arith);
  sound = λ x h. ⊎_elim
      (λ (a : Contains v.found.items x). absurd (Contains_none x (subst (λ xs. Contains xs x) none a)))
      (λ (a : Contains g.registers (val.Ref x)). in_register g x all a)
      (to.only x h);
  scanned = λ i h. absurd (omega arith);
}

-- one anchor more
pub reaching-anchor : (g : Graph) (b : ℕ) (v w : Walk) → b < bunches_in g → IsReaching g b 0 v → GoesTo (val.Ref (anchor_of b) ∷ []) v w → IsReaching g (b + 1) 0 w
reaching-anchor g b v w small r to =
    let values = val.Ref (anchor_of b) ∷ [] in
    record {
      walk = to.walk;
      registers = λ x h. kept-found values v w x to (r.registers x h);
      anchors = below_more (λ k. Contains w.found.items (anchor_of k)) b (λ k h. kept-found values v w (anchor_of k) to (r.anchors k h)) (to.found (anchor_of b) (0, omega arith, refl));
      sound = λ x h. ⊎_elim
          (λ (a : Contains v.found.items x). r.sound x a)
          (λ (a : Contains values (val.Ref x)). let same : anchor_of b ≡ x = cc (Contains-one _ _ a) in subst (IsReached 8 (bunches_in g) (state_of g)) same (Anchor b small))
          (to.only x h);
      scanned = λ i h. absurd (omega arith);
    }

-- one name more was looked at
pub reaching-fields : (g : Graph) (bunches i x : ℕ) (v w : Walk) → slice_get v.found.items i ≡ Some x → IsReaching g bunches i v → GoesTo (fields_of (state_of g) x) v w → IsReaching g bunches (i + 1) w
reaching-fields g bunches i x v w at r to =
    let values = fields_of (state_of g) x in
    record {
      walk = to.walk;
      registers = λ y h. kept-found values v w y to (r.registers y h);
      anchors = λ b h. kept-found values v w (anchor_of b) to (r.anchors b h);
      sound = λ y h. ⊎_elim
          (λ (a : Contains v.found.items y). r.sound y a)
          (λ (a : Contains values (val.Ref y)). InField x (r.sound x (at-Contains v.found.items i x at)) a)
          (to.only y h);
      scanned = below_more (IsScanned (state_of g) w.found.items) i
          (λ k h. let had = r.scanned k h in (had.0, to.kept k had.0 had.1, λ y f. kept-found values v w y to (had.2 y f)))
          (x, to.kept i x at, to.found);
    }

past_end : {A : Type 0} (xs : List A) (i : ℕ) → slice_get xs i ≡ None → length xs ≤ i
past_end [] i h = omega arith
past_end (x ∷ xs) zero h = absurd (cc)
past_end (x ∷ xs) (suc i) h = let rest = past_end xs i h in omega arith

-- where each name found was looked at, the names in its fields are found
found-fields : (s : State) (found : List ℕ) → ((i : ℕ) → i < length found → IsScanned s found i)
    → (x y : ℕ) → Contains found x → Contains (fields_of s x) (val.Ref y) → Contains found y
found-fields s found scanned x y h there =
    let at = Contains-at found x h in
    let looked = scanned at.0 (slice_get_within found at.0 x at.1) in
    let same : x ≡ looked.0 = cc (at.1, looked.1) in
    looked.2 y (subst (λ z. Contains (fields_of s z) (val.Ref y)) same there)

-- the end of the walk
pub reaching-end : (g : Graph) (i : ℕ) (w : Walk) → length g.registers ≡ 128 → slice_get w.found.items i ≡ None → IsReaching g (bunches_in g) i w
    → (x : ℕ) → Contains w.found.items x ↔ IsReached 8 (bunches_in g) (state_of g) x
reaching-end g i w all over r x =
    let whole : length w.found.items ≤ i = past_end w.found.items i over in (
      r.sound x,
      reached_in 8 (bunches_in g) (state_of g) (Contains w.found.items)
          (λ n k y few small h. r.registers y (register_there g n k y all few small h))
          r.anchors
          (found-fields (state_of g) w.found.items (λ k h. r.scanned k (omega arith)))
          x,
    )

-- the fields of a name, where the map of objects has it and where it has not
pub fields-there : (g : Graph) (x : ℕ) (v : Vec Val Global) → Some v ≡ get same_name g.objects x → fields_of (state_of g) x ≡ v.items
unfolding state_of
fields-there g x v h = ap (λ (o : Option (Vec Val Global)). unwrap_or (option_map (λ v. v.items) o) []) (sym h)

pub fields-none : (g : Graph) (x : ℕ) → None ≡ get same_name g.objects x → fields_of (state_of g) x ≡ []
unfolding state_of
fields-none g x h = ap (λ (o : Option (Vec Val Global)). unwrap_or (option_map (λ v. v.items) o) []) (sym h)
