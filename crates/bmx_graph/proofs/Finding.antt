-- How a walk over the graph goes on, and what it has found at its end.
use Rattle.std.proofs.Common.{◌≡◌, ◌↔◌, ◌⊎◌, inl, inr, ℕ, ◌+◌, Bool, true, false, not, cond, List, [], ◌∷◌, ◌++◌, take, Contains, Some, slice_get, BTreeSet, refl, subst, sym, ap, ◌∙◌, ⊎_elim, arith, zero, suc, nat_cmp}
use Rattle.std.proofs.Math.Path.{fun_ext}
use Rattle.std.specs.declared.cmp.Ordering.{Ordering}
use Rattle.std.specs.Ordering.{ordering_then, is_eq}
use Rattle.std.specs.Bool.{OnFalse}
use Rattle.std.specs.BTreeSet.{contains, IsOrdered}
use Rattle.std.specs.List.Sorted.{IsStrictlyIncreasing}
use Rattle.std.proofs.lemmas.Bool.{cases_eq}
use Rattle.std.proofs.lemmas.Bool.Decides.{nat_tests}
use Rattle.std.proofs.lemmas.Cmp.{nat_cmp_total}
use Rattle.std.proofs.lemmas.List.{take_more}
use Rattle.std.proofs.lemmas.List.Elements.{Contains-append_left, Contains-append_right, Contains-push, Contains-push_cases, Contains-append_cases}
use Rattle.std.proofs.lemmas.Map.Keys.{IsStrictlyIncreasing-from_sorted}
use Rattle.std.proofs.lemmas.Map.Lookups.{exact_unsigned}
use Rattle.std.proofs.lemmas.Map.Views.{btree_set_contains_iff}
use Rattle.std.proofs.lemmas.Option.{slice_get_within, slice_get-get_or, get_or_from_slice_get}
use Rattle.std.proofs.lemmas.Cmp.{tied_itself}
use Rattle.bmx_types.specs.Words.{maker, count_of}
use Rattle.bmx_types.specs.declared.values.Val.{Val}
use Rattle.bmx_types.specs.declared.values.Val.TheVariants as val
use Rattle.bmx_graph.specs.declared.walks.Walk.{Walk}
use Rattle.bmx_graph.specs.Inside.Walks.{IsWalk, GoesTo}

-- names are ordered by their words
abbrev pub name_cmp : ℕ → ℕ → Ordering
name_cmp x y = nat_cmp x y

name_cmp_at : (x y : ℕ) → name_cmp x y ≡ nat_cmp x y
name_cmp_at x y = refl

-- which is the order of their words
pub name_cmp-is : name_cmp ≡ nat_cmp
name_cmp-is = fun_ext (λ x. fun_ext (name_cmp_at x))

-- a set with one name more
inserted : (s n : BTreeSet ℕ) (x : ℕ) → ((q : ℕ) → contains nat_cmp n q ≡ cond (is_eq (nat_cmp x q)) true (contains nat_cmp s q))
    → (q : ℕ) → Contains n.keys q ↔ (Contains s.keys q ⊎ (x ≡ q))
inserted s n x h q =
    let old = btree_set_contains_iff nat_cmp_total exact_unsigned s q in
    let new = btree_set_contains_iff nat_cmp_total exact_unsigned n q in
    ⊎_elim
    (λ (e : x ≡ q).
    let here : contains nat_cmp n q ≡ true = h q ∙ ap (λ o. cond (is_eq o) true (contains nat_cmp s q)) (ap (nat_cmp x) (sym e) ∙ tied_itself nat_cmp_total x) in
    (λ _. inr e, λ _. new.0 here))
    (λ (ne : x ≡ q → ⊥).
    let same : contains nat_cmp n q ≡ contains nat_cmp s q = grind (arith, nat_tests, h q) in
    (λ had. inl (old.0 (sym same ∙ new.1 had)), λ has. ⊎_elim (λ (had : Contains s.keys q). new.0 (same ∙ old.1 had)) (λ (e : x ≡ q). absurd (ne e)) has))
    (cases_eq x q)

-- one item keeps the places of those before it
slice_get-append : {A : Type 0} (xs ys : List A) (i : ℕ) (x : A) → slice_get xs i ≡ Some x → slice_get (xs ++ ys) i ≡ Some x
slice_get-append [] ys i x h = absurd (cc)
slice_get-append (a ∷ xs) ys zero x h = h
slice_get-append (a ∷ xs) ys (suc i) x h = slice_get-append xs ys i x h

pub Contains-at : {A : Type 0} (xs : List A) (x : A) → Contains xs x → (i : ℕ) × (slice_get xs i ≡ Some x)
Contains-at xs x h = (h.0, slice_get-get_or xs h.0 x h.1 ∙ ap Some h.2)

pub at-Contains : {A : Type 0} (xs : List A) (i : ℕ) (x : A) → slice_get xs i ≡ Some x → Contains xs x
at-Contains xs i x h = (i, slice_get_within xs i x h, get_or_from_slice_get xs i x x h)

pub Contains_none : {A : Type 0} (x : A) → Contains [] x → ⊥
Contains_none x h = absurd (omega (arith, h.1))

pub Contains-one : {A : Type 0} (a x : A) → Contains (a ∷ []) x → a ≡ x
Contains-one a x h = ⊎_elim (λ (n : Contains [] x). absurd (Contains_none x n)) (λ (e : a ≡ x). e) (Contains-push_cases [] a x h)

-- what was found stays found
pub kept-found : (values : List Val) (v w : Walk) (x : ℕ) → GoesTo values v w → Contains v.found.items x → Contains w.found.items x
kept-found values v w x to had = let at = Contains-at v.found.items x had in at-Contains w.found.items at.0 x (to.kept at.0 x at.1)

-- no value
pub GoesTo-none : (w : Walk) → IsWalk w → GoesTo [] w w
GoesTo-none w walk = record {
  walk = walk;
  kept = λ i x h. h;
  found = λ x h. absurd (Contains_none _ h);
  only = λ x h. inl h;
}

-- a value that is no reference
pub GoesTo-other : (v : Val) (w : Walk) → ((x : ℕ) → v ≡ val.Ref x → ⊥) → IsWalk w → GoesTo (v ∷ []) w w
GoesTo-other v w none walk = record {
  walk = walk;
  kept = λ i x h. h;
  found = λ x h. absurd (none x (Contains-one _ _ h));
  only = λ x h. inl h;
}

-- some values and then others
pub GoesTo-append : (xs ys : List Val) (u v w : Walk) → GoesTo xs u v → GoesTo ys v w → GoesTo (xs ++ ys) u w
GoesTo-append xs ys u v w one two = record {
  walk = two.walk;
  kept = λ i x h. two.kept i x (one.kept i x h);
  found = λ x h. ⊎_elim
      (λ (a : Contains xs (val.Ref x)). kept-found ys v w x two (one.found x a))
      (λ (b : Contains ys (val.Ref x)). two.found x b)
      (Contains-append_cases xs ys (val.Ref x) h);
  only = λ x h. ⊎_elim
      (λ (a : Contains v.found.items x). ⊎_elim
      (λ (b : Contains u.found.items x). inl b)
      (λ (b : Contains xs (val.Ref x)). inr (Contains-append_left xs ys (val.Ref x) b))
      (one.only x a))
      (λ (a : Contains ys (val.Ref x)). inr (Contains-append_right xs ys (val.Ref x) a))
      (two.only x h);
}

-- one value more of a list
pub GoesTo-more : (values : List Val) (i : ℕ) (value : Val) (u v w : Walk) → slice_get values i ≡ Some value
    → GoesTo (take i values) u v → GoesTo (value ∷ []) v w → GoesTo (take (i + 1) values) u w
GoesTo-more values i value u v w at one two =
    let whole : take (i + 1) values ≡ take i values ++ value ∷ [] = take_more values i value (slice_get_within values i value at) ∙ ap (λ x. take i values ++ x ∷ []) (get_or_from_slice_get values i value value at) in
    subst (λ vs. GoesTo vs u w) (sym whole) (GoesTo-append (take i values) (value ∷ []) u v w one two)

-- a reference to a name that wasn't found yet
pub GoesTo-new : (v w : Walk) (x : ℕ) → IsWalk v
    → ((q : ℕ) → contains name_cmp w.seen q ≡ cond (is_eq (name_cmp x q)) true (contains name_cmp v.seen q))
    → w.found.items ≡ v.found.items ++ x ∷ []
    → GoesTo (val.Ref x ∷ []) v w
GoesTo-new v w x walk set list =
    let keys = inserted v.seen w.seen x (subst (λ R. (q : ℕ) → contains R w.seen q ≡ cond (is_eq (R x q)) true (contains R v.seen q)) name_cmp-is set) in
    record {
      walk = λ q. (
        λ h. subst (λ xs. Contains xs q) (sym list) (⊎_elim
            (λ (a : Contains v.seen.keys q). Contains-append_left v.found.items (x ∷ []) q ((walk q).0 a))
            (λ (e : x ≡ q). subst (Contains (v.found.items ++ x ∷ [])) e (Contains-push v.found.items x))
            ((keys q).0 h)),
        λ h. (keys q).1 (⊎_elim
            (λ (a : Contains v.found.items q). inl ((walk q).1 a))
            (λ (e : x ≡ q). inr e)
            (Contains-push_cases v.found.items x q (subst (λ xs. Contains xs q) list h))),
      );
      kept = λ i y h. subst (λ xs. slice_get xs i ≡ Some y) (sym list) (slice_get-append v.found.items (x ∷ []) i y h);
      found = λ y h. let same : x ≡ y = cc (Contains-one _ _ h) in subst (λ xs. Contains xs y) (sym list) (subst (Contains (v.found.items ++ x ∷ [])) same (Contains-push v.found.items x));
      only = λ y h. ⊎_elim
          (λ (a : Contains v.found.items y). inl a)
          (λ (e : x ≡ y). inr (subst (λ z. Contains (val.Ref x ∷ []) (val.Ref z)) e (Contains-push [] (val.Ref x))))
          (Contains-push_cases v.found.items x y (subst (λ xs. Contains xs y) list h));
    }

true_from_not : (b : Bool) → not b ≡ false → b ≡ true
true_from_not true h = refl
true_from_not false h = absurd (cc)

-- a reference to a name that was found
pub GoesTo-known : (v w : Walk) (x : ℕ) (added : Bool) → IsWalk v → added ≡ false
    → added ≡ not (contains name_cmp v.seen x) → OnFalse added (w.seen.keys ≡ v.seen.keys) → w.found.items ≡ v.found.items
    → GoesTo (val.Ref x ∷ []) v w
GoesTo-known v w x added walk none is stays list =
    let set : w.seen.keys ≡ v.seen.keys = subst (λ b. OnFalse b (w.seen.keys ≡ v.seen.keys)) none stays in
    let had : contains name_cmp v.seen x ≡ true = true_from_not _ (sym is ∙ none) in
    let known : Contains v.seen.keys x = (btree_set_contains_iff nat_cmp_total exact_unsigned v.seen x).0 (subst (λ R. contains R v.seen x ≡ true) name_cmp-is had) in
    record {
      walk = λ q. (
        λ h. subst (λ xs. Contains xs q) (sym list) ((walk q).0 (subst (λ xs. Contains xs q) set h)),
        λ h. subst (λ xs. Contains xs q) (sym set) ((walk q).1 (subst (λ xs. Contains xs q) list h)),
      );
      kept = λ i y h. subst (λ xs. slice_get xs i ≡ Some y) (sym list) h;
      found = λ y h. let same : x ≡ y = cc (Contains-one _ _ h) in subst (λ xs. Contains xs y) (sym list) (subst (Contains v.found.items) same ((walk x).0 known));
      only = λ y h. inl (subst (λ xs. Contains xs y) list h);
    }

-- the set in order
pub rises : (s : BTreeSet ℕ) (xs : List ℕ) → IsOrdered name_cmp s → xs ≡ s.keys → IsStrictlyIncreasing xs
rises s xs ordered is = subst IsStrictlyIncreasing (sym is) (IsStrictlyIncreasing-from_sorted s.keys (subst (λ R. IsOrdered R s) name_cmp-is ordered))
