-- Where a search ends, and what a write or an insert there makes.
use Rattle.std.proofs.Common.{◌≡◌, ℕ, zero, suc, ◌+◌, ◌<◌, ◌≤◌, Bool, true, false, List, [], ◌∷◌, ◌++◌, length, get_or, set, insert, sym, ap, ◌∙◌, subst, arith, ⊎_elim, Result, Ok, Err, is_ok, MatchResult, Some, None, find, refl, ◌||◌}
use Rattle.std.specs.List.{AllWithin, AllAdjacentBelow, IsAllAdjacentAnswer, list_any}
use Rattle.std.specs.List.Sorted.{IsPartitionPoint, IsPartitionedBy}
use Rattle.std.proofs.lemmas.Bool.{cases_eq, cases_lt, cond_both, or_left, or_right}
use Rattle.std.proofs.lemmas.List.{set_split, get_or_default}
use Rattle.bmx_types.specs.declared.names.Pair.{Pair}
use Rattle.bmx_inter.specs.Order.{is_same, is_ahead, is_listed, IsInOrder, with_one}
use Rattle.bmx_inter.specs.Inside.Search.{StandsAt, FitsAt}
use Rattle.bmx_inter.proofs.Keys.{key_cases, is_behind-of, is_same-ahead, is_same-behind, is_behind-ahead, is_ahead-trans, is_ahead-before_same, is_behind-after_same}
use Rattle.bmx_shelves.proofs.Parts.{filter_front, filter_rest, find_at, find_none}

clash : {b : Bool} → b ≡ true → b ≡ false → ⊥
clash t f = let e : true ≡ false = sym t ∙ f in cc

module _ {X : Type 0} (pair_of : X → Pair) where
  -- what stands before a pair stands in front
  pub is_ahead-partitioned : (xs : List X) (p : Pair) → IsInOrder pair_of xs → IsPartitionedBy (λ x. is_ahead (pair_of x) p) xs
  is_ahead-partitioned xs p order i j d le within h =
      ⊎_elim
      (λ same. subst (λ k. is_ahead (pair_of (get_or xs k d)) p ≡ true) (sym same) h)
      (λ apart. is_ahead-trans (pair_of (get_or xs i d)) (pair_of (get_or xs j d)) p (order i j d (omega arith) within) h)
      (cases_eq i j)

  -- a search that ends at an element for the pair
  pub StandsAt-from_point : (xs : List X) (p : Pair) (i : ℕ) (x : X) → IsInOrder pair_of xs → IsPartitionPoint (λ y. is_ahead (pair_of y) p ≡ true) (λ y. is_ahead (pair_of y) p ≡ false) xs i → i < length xs → x ≡ get_or xs i x → is_same (pair_of x) p ≡ true → StandsAt pair_of xs p i
  StandsAt-from_point xs p i x order point within read here =
      let at : (d : X) → is_same (pair_of (get_or xs i d)) p ≡ true = λ d. subst (λ y. is_same (pair_of y) p ≡ true) (read ∙ get_or_default xs i x d within) here in
      record {
        within = within;
        found = λ d. find_at (λ y. is_same (pair_of y) p) xs i d within (λ k e low high. is_same-ahead (pair_of (get_or xs k e)) p (point.0 k e low high)) (at d);
        ahead = filter_front (λ y. is_ahead (pair_of y) p) xs i (omega arith) point.0 point.1;
        behind = filter_rest (λ y. is_ahead p (pair_of y)) xs (suc i)
            (λ k e low high. ⊎_elim
            (λ same. is_behind-of (pair_of (get_or xs k e)) p (subst (λ n. is_same (pair_of (get_or xs n e)) p ≡ true) (sym same) (at e)))
            (λ apart. is_behind-ahead (pair_of (get_or xs k e)) p (point.0 k e low (omega arith)))
            (cases_eq k i))
            (λ k e low high. is_behind-after_same (pair_of (get_or xs i e)) (pair_of (get_or xs k e)) p (order i k e (omega arith) high) (at e));
      }

  -- a search that ends where there is none
  pub FitsAt-from_point : (xs : List X) (p : Pair) (i : ℕ) → IsInOrder pair_of xs → IsPartitionPoint (λ y. is_ahead (pair_of y) p ≡ true) (λ y. is_ahead (pair_of y) p ≡ false) xs i → i ≤ length xs → ((d : X) → i < length xs → is_same (pair_of (get_or xs i d)) p ≡ false) → FitsAt pair_of xs p i
  FitsAt-from_point xs p i order point within not_here =
      let rest : AllWithin (λ y. is_ahead p (pair_of y) ≡ true) xs i (length xs) = λ k e low high. ⊎_elim
      (λ is_before. absurd (clash is_before (point.1 k e low high)))
      (λ more. ⊎_elim
      (λ same. absurd (⊎_elim
      (λ at. clash same (subst (λ n. is_same (pair_of (get_or xs n e)) p ≡ false) (sym at) (not_here e (omega arith))))
      (λ apart. clash (is_ahead-before_same (pair_of (get_or xs i e)) (pair_of (get_or xs k e)) p (order i k e (omega arith) high) same) (point.1 i e (omega arith) (omega arith)))
      (cases_eq k i)))
      (λ is_later. is_later)
      more)
      (key_cases (pair_of (get_or xs k e)) p) in
      record {
        within = within;
        none = find_none (λ y. is_same (pair_of y) p) xs (λ k e low high. ⊎_elim
            (λ front. is_same-ahead (pair_of (get_or xs k e)) p (point.0 k e low front))
            (λ back. is_same-behind (pair_of (get_or xs k e)) p (rest k e back high))
            (cases_lt k i));
        ahead = filter_front (λ y. is_ahead (pair_of y) p) xs i within point.0 point.1;
        behind = filter_rest (λ y. is_ahead p (pair_of y)) xs i
            (λ k e low high. is_behind-ahead (pair_of (get_or xs k e)) p (point.0 k e low high))
            rest;
      }

  -- a write over the element for its pair
  pub with_one-at : (xs : List X) (x : X) (i : ℕ) → StandsAt pair_of xs (pair_of x) i → set xs i x ≡ with_one pair_of x xs
  with_one-at xs x i at =
      set_split xs i x at.within ∙ (λ j. at.ahead j ++ x ∷ at.behind j)

  -- an insert where it fits
  pub with_one-inserted : (xs : List X) (x : X) (i : ℕ) → FitsAt pair_of xs (pair_of x) i → insert xs i x ≡ with_one pair_of x xs
  with_one-inserted xs x i at = λ j. at.ahead j ++ x ∷ at.behind j

-- pairs each of which stands before the next are in order
pub IsInOrder-from_adjacent : (ps : List Pair) → AllAdjacentBelow (λ p q. is_ahead p q ≡ true) ps (length ps) → IsInOrder (λ p. p) ps
IsInOrder-from_adjacent ps next i zero d lt within = absurd (omega arith)
IsInOrder-from_adjacent ps next i (suc j) d lt within =
    let after : j + 1 ≡ suc j = omega arith in
    let here : is_ahead (get_or ps j d) (get_or ps (suc j) d) ≡ true = subst (λ k. is_ahead (get_or ps j d) (get_or ps k d) ≡ true) after (next j d (omega arith)) in
    ⊎_elim
    (λ same. subst (λ k. is_ahead (get_or ps k d) (get_or ps (suc j) d) ≡ true) (sym same) here)
    (λ apart. is_ahead-trans (get_or ps i d) (get_or ps j d) (get_or ps (suc j) d) (IsInOrder-from_adjacent ps next i j d (omega arith) (omega arith)) here)
    (cases_eq i j)

pub IsInOrder-from_answer : (ps : List Pair) (b : Bool) → IsAllAdjacentAnswer (λ p q r. r ≡ is_ahead p q) ps b → b ≡ true → IsInOrder (λ p. p) ps
IsInOrder-from_answer ps true answer h = IsInOrder-from_adjacent ps (λ k d lt. sym (answer k d lt))
IsInOrder-from_answer ps false answer h = cc

pub answer-from_IsInOrder : (ps : List Pair) (b : Bool) → IsAllAdjacentAnswer (λ p q r. r ≡ is_ahead p q) ps b → IsInOrder (λ p. p) ps → b ≡ true
answer-from_IsInOrder ps true answer order = refl
answer-from_IsInOrder ps false answer order =
    let none : Pair = record { source = 0; target = 0 } in
    absurd (clash (order answer.0 (answer.0 + 1) none (omega arith) answer.1) (sym (answer.2 none)))

-- what is found in a list of pairs is what it lists
any_found : (test : Pair → Bool) (ps : List Pair) (p : Pair) → find test ps ≡ Some p → list_any test ps ≡ true
any_found test [] p e = cc
any_found test (x ∷ ps) p e =
    cond_both (test x) (Some x) (find test ps) (λ o. o ≡ Some p → list_any test (x ∷ ps) ≡ true)
    (λ here _. or_left (test x) (list_any test ps) here)
    (λ _ rest. or_right (test x) (list_any test ps) (any_found test ps p rest)) e

any_missed : (test : Pair → Bool) (ps : List Pair) → find test ps ≡ None → list_any test ps ≡ false
any_missed test [] e = refl
any_missed test (x ∷ ps) e =
    cond_both (test x) (Some x) (find test ps) (λ o. o ≡ None → list_any test (x ∷ ps) ≡ false)
    (λ _ bad. cc)
    (λ out rest. ap (λ b. b || list_any test ps) out ∙ any_missed test ps rest) e

pub is_listed-searched : (ps : List Pair) (p : Pair) (r : Result ℕ ℕ) → MatchResult r (StandsAt (λ q. q) ps p) (FitsAt (λ q. q) ps p) → is_ok r ≡ is_listed ps p
is_listed-searched ps p (Ok i) h = sym (any_found (λ q. is_same q p) ps (get_or ps i p) (h.found p))
is_listed-searched ps p (Err i) h = sym (any_missed (λ q. is_same q p) ps h.none)
