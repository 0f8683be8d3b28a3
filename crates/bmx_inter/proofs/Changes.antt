-- What one that is put, and what goes, makes of the lists of the bunches.
use Rattle.std.proofs.Common.{◌≡◌, ◌≢◌, ℕ, ◌<◌, Bool, true, false, not, ◌&&◌, ◌==◌, List, [], ◌∷◌, ◌++◌, length, get_or, set, Some, None, is_none, refl, sym, ap, ◌∙◌, subst, arith, filter, find, All, count_by, ⊎_elim}
use Rattle.std.proofs.lemmas.Bool.{cond-false, cond_both, cases_Bool, cases_eq, eq-eqb, ne_eqb, eqb-true}
use Rattle.std.proofs.lemmas.Bool.Decides.{nat_tests}
use Rattle.std.proofs.lemmas.List.{get_or-set_same, get_or-set_other, length-set}
use Rattle.std.proofs.lemmas.List.Elements.{filter-append, filter_agree, All-cons, All-append, All-filter}
use Rattle.bmx_types.specs.declared.names.Pair.{Pair}
use Rattle.bmx_shelves.proofs.Parts.{find_none, AllPairs-tail, AllPairs-head}
use Rattle.bmx_shelves.proofs.Counts.{count_by-filter}
use Rattle.bmx_inter.specs.Order.{is_same, is_ahead, IsInOrder, find_one, with_one, without_one}
use Rattle.bmx_inter.specs.Inside.Sides.{Sided, AreParts, is_ended_in}
use Rattle.bmx_inter.proofs.Keys.{key_cases, is_behind-ahead, is_ahead-trans}
use Rattle.bmx_inter.proofs.Found.{IsInOrder-filter}
use Rattle.bmx_inter.proofs.Merged.{clash, into, out, none, every, filter-twice, filters-agree, filter-swap}

-- ## One pair

-- what stands behind one of the pair is of another
is_same-after : (p q r : Pair) → is_ahead p r ≡ true → is_same p q ≡ true → is_same r q ≡ false
is_same-after p q r h k = grind (arith, nat_tests)

module _ {X : Type 0} where
  find-skipped : (p s : X → Bool) (x : X) (xs : List X) → p x ≡ false → find p (filter s (x ∷ xs)) ≡ find p (filter s xs)
  find-skipped p s x xs h =
      ⊎_elim
      (λ (t : s x ≡ true). ap (find p) (into s x xs t) ∙ cond-false (p x) (Some x) (find p (filter s xs)) h)
      (λ (f : s x ≡ false). ap (find p) (out s x xs f))
      (cases_Bool (s x))

  find-missed : (p s : X → Bool) (xs : List X) → All (λ x. p x ≡ false) xs → find p (filter s xs) ≡ None
  find-missed p s xs h = find_none p (filter s xs) (λ k d low high. All-filter s (λ x. p x ≡ false) xs h k d high)

module _ {X : Type 0} (pair_of : X → Pair) where
  -- what is found in one part is in no other
  pub find-elsewhere : (q : Pair) (s t : X → Bool) → ((x : X) → s x ≡ true → t x ≡ false) → (xs : List X) → IsInOrder pair_of xs → is_none (find_one pair_of (filter s xs) q.source q.target) ≡ false → find_one pair_of (filter t xs) q.source q.target ≡ None
  find-elsewhere q s t apart [] order h = refl
  find-elsewhere q s t apart (x ∷ xs) order h =
      let p : X → Bool = λ y. is_same (pair_of y) q in
      let behind : All (λ y. is_ahead (pair_of x) (pair_of y) ≡ true) xs = AllPairs-head (λ y z. is_ahead (pair_of y) (pair_of z) ≡ true) x xs order in
      ⊎_elim
      (λ (here : p x ≡ true).
      let others : All (λ y. p y ≡ false) xs = λ k d lt. is_same-after (pair_of x) q (pair_of (get_or xs k d)) (behind k d lt) here in
      ⊎_elim
      (λ (in_s : s x ≡ true). ap (find p) (out t x xs (apart x in_s)) ∙ find-missed p t xs others)
      (λ (no_s : s x ≡ false). absurd (clash (ap is_none (ap (find p) (out s x xs no_s) ∙ find-missed p s xs others)) h))
      (cases_Bool (s x)))
      (λ (fails : p x ≡ false).
      find-skipped p t x xs fails
      ∙ find-elsewhere q s t apart xs (AllPairs-tail (λ y z. is_ahead (pair_of y) (pair_of z) ≡ true) x xs order) (sym (ap is_none (find-skipped p s x xs fails)) ∙ h))
      (cases_Bool (p x))

  -- a list without the one of a pair, where there is none
  pub without_one-none : (q : Pair) (xs : List X) → IsInOrder pair_of xs → find_one pair_of xs q.source q.target ≡ None → without_one pair_of q xs ≡ xs
  without_one-none q [] order h = refl
  without_one-none q (x ∷ xs) order h =
      let p : X → Bool = λ y. is_same (pair_of y) q in
      let front : X → Bool = λ y. is_ahead (pair_of y) q in
      let back : X → Bool = λ y. is_ahead q (pair_of y) in
      let behind : All (λ y. is_ahead (pair_of x) (pair_of y) ≡ true) xs = AllPairs-head (λ y z. is_ahead (pair_of y) (pair_of z) ≡ true) x xs order in
      cond_both (p x) (Some x) (find p xs) (λ o. o ≡ None → without_one pair_of q (x ∷ xs) ≡ x ∷ xs)
      (λ _ bad. cc)
      (λ fails rest. ⊎_elim
      (λ x_ahead. (λ i. into front x xs x_ahead i ++ out back x xs (is_behind-ahead (pair_of x) q x_ahead) i)
      ∙ ap (λ ys. x ∷ ys) (without_one-none q xs (AllPairs-tail (λ y z. is_ahead (pair_of y) (pair_of z) ≡ true) x xs order) rest))
      (λ more. ⊎_elim
      (λ same. absurd (clash same fails))
      (λ x_behind.
      let later : All (λ y. back y ≡ true) (x ∷ xs) = All-cons (λ y. back y ≡ true) x xs x_behind (λ k d lt. is_ahead-trans q (pair_of x) (pair_of (get_or xs k d)) x_behind (behind k d lt)) in
      (λ i. none front (x ∷ xs) (λ k d lt. is_behind-ahead q (pair_of (get_or (x ∷ xs) k d)) (later k d lt)) i ++ every back (x ∷ xs) later i))
      more)
      (key_cases (pair_of x) q))
      h

  module _ (bunch_of : X → ℕ) where
    -- ## One that is put

    part-here : (x : X) (xs : List X) → filter (λ y. bunch_of y == bunch_of x) (with_one pair_of x xs) ≡ with_one pair_of x (filter (λ y. bunch_of y == bunch_of x) xs)
    part-here x xs =
        let q : X → Bool = λ y. bunch_of y == bunch_of x in
        let front : X → Bool = λ y. is_ahead (pair_of y) (pair_of x) in
        let back : X → Bool = λ y. is_ahead (pair_of x) (pair_of y) in
        let rest : filter q (x ∷ filter back xs) ≡ x ∷ filter back (filter q xs) = into q x (filter back xs) (eq-eqb (bunch_of x) (bunch_of x) refl) ∙ ap (λ ys. x ∷ ys) (filter-swap q back xs) in
        filter-append q (filter front xs) (x ∷ filter back xs) ∙ (λ i. filter-swap q front xs i ++ rest i)

    part-elsewhere : (x : X) (c : ℕ) → c ≢ bunch_of x → (xs : List X) → filter (λ y. bunch_of y == c) (with_one pair_of x xs) ≡ without_one pair_of (pair_of x) (filter (λ y. bunch_of y == c) xs)
    part-elsewhere x c apart xs =
        let q : X → Bool = λ y. bunch_of y == c in
        let front : X → Bool = λ y. is_ahead (pair_of y) (pair_of x) in
        let back : X → Bool = λ y. is_ahead (pair_of x) (pair_of y) in
        let rest : filter q (x ∷ filter back xs) ≡ filter back (filter q xs) = out q x (filter back xs) (ne_eqb (bunch_of x) c (λ e. apart (sym e))) ∙ filter-swap q back xs in
        filter-append q (filter front xs) (x ∷ filter back xs) ∙ (λ i. filter-swap q front xs i ++ rest i)

    pub bounded-with : (n : ℕ) (x : X) (xs : List X) → bunch_of x < n → All (λ y. bunch_of y < n) xs → All (λ y. bunch_of y < n) (with_one pair_of x xs)
    bounded-with n x xs here h =
        let front : X → Bool = λ y. is_ahead (pair_of y) (pair_of x) in
        let back : X → Bool = λ y. is_ahead (pair_of x) (pair_of y) in
        All-append (λ y. bunch_of y < n) (filter front xs) (x ∷ filter back xs) (All-filter front (λ y. bunch_of y < n) xs h)
        (All-cons (λ y. bunch_of y < n) x (filter back xs) here (All-filter back (λ y. bunch_of y < n) xs h))

    pub AreParts-put : (all changed : List (Sided X)) (list : List X) (x : X) (b : ℕ) → b ≡ bunch_of x → length changed ≡ length all → ((d : Sided X) → b < length all → (get_or changed b d).list ≡ with_one pair_of x (get_or all b d).list) → ((c : ℕ) (d : Sided X) → c < length all → c ≢ b → (get_or changed c d).list ≡ without_one pair_of (pair_of x) (get_or all c d).list) → AreParts pair_of bunch_of all list → AreParts pair_of bunch_of changed (with_one pair_of x list)
    AreParts-put all changed list x b at long here elsewhere parts = λ c d lt.
        let within : c < length all = omega (arith, lt, long) in
        ⊎_elim
        (λ (same : c ≡ b).
        let b_within : b < length all = omega (arith, within, same) in
        subst (λ m. (get_or changed m d).list ≡ filter (λ y. bunch_of y == m) (with_one pair_of x list)) (sym same)
        (here d b_within ∙ ap (with_one pair_of x) (parts b d b_within)
        ∙ subst (λ m. with_one pair_of x (filter (λ y. bunch_of y == m) list) ≡ filter (λ y. bunch_of y == m) (with_one pair_of x list)) (sym at) (sym (part-here x list))))
        (λ (apart : c ≢ b).
        elsewhere c d within apart ∙ ap (without_one pair_of (pair_of x)) (parts c d within) ∙ sym (part-elsewhere x c (λ e. apart (e ∙ sym at)) list))
        (cases_eq c b)

    -- one that takes the place of another of its bunch is of no other bunch
    pub elsewhere-same : (all : List (Sided X)) (list : List X) (q : Pair) (b : ℕ) (e : Sided X) → IsInOrder pair_of list → AreParts pair_of bunch_of all list → b < length all → is_none (find_one pair_of (get_or all b e).list q.source q.target) ≡ false → (c : ℕ) (d : Sided X) → c < length all → c ≢ b → (get_or all c d).list ≡ without_one pair_of q (get_or all c d).list
    elsewhere-same all list q b e order parts within stood c d lt apart =
        let s : X → Bool = λ y. bunch_of y == b in
        let t : X → Bool = λ y. bunch_of y == c in
        let other : (x : X) → s x ≡ true → t x ≡ false = λ x h. ne_eqb (bunch_of x) c (λ k. apart (sym k ∙ eqb-true (bunch_of x) b h)) in
        let missed : find_one pair_of (filter t list) q.source q.target ≡ None = find-elsewhere q s t other list order (subst (λ ys. is_none (find_one pair_of ys q.source q.target) ≡ false) (parts b e within) stood) in
        subst (λ ys. ys ≡ without_one pair_of q ys) (sym (parts c d lt)) (sym (without_one-none q (filter t list) (IsInOrder-filter pair_of t list order) missed))

-- ## What goes

ended_here : (e t : Bool) → (not (e && t) && e) ≡ (e && not t)
ended_here true true = refl
ended_here true false = refl
ended_here false t = refl

ended_elsewhere : (e o t : Bool) → (o ≡ true → e ≡ false) → (not (e && t) && o) ≡ o
ended_elsewhere true true t h = let bad : true ≡ false = h refl in cc
ended_elsewhere true false true h = refl
ended_elsewhere true false false h = refl
ended_elsewhere false true t h = refl
ended_elsewhere false false t h = refl

module _ {X : Type 0} (pair_of : X → Pair) (bunch_of : X → ℕ) where
  part-ended : (b : ℕ) (ends : X → Bool) (xs : List X) → filter (λ x. bunch_of x == b) (filter (λ x. not (is_ended_in bunch_of b ends x)) xs) ≡ filter (λ x. not (ends x)) (filter (λ x. bunch_of x == b) xs)
  part-ended b ends xs = filters-agree (λ x. bunch_of x == b) (λ x. not (is_ended_in bunch_of b ends x)) (λ x. not (ends x)) (λ x. bunch_of x == b) (λ x. ended_here (bunch_of x == b) (ends x)) xs

  part-left : (b c : ℕ) → c ≢ b → (ends : X → Bool) (xs : List X) → filter (λ x. bunch_of x == c) (filter (λ x. not (is_ended_in bunch_of b ends x)) xs) ≡ filter (λ x. bunch_of x == c) xs
  part-left b c apart ends xs =
      filter-twice (λ x. bunch_of x == c) (λ x. not (is_ended_in bunch_of b ends x)) xs
      ∙ filter_agree (λ x. not (is_ended_in bunch_of b ends x) && (bunch_of x == c)) (λ x. bunch_of x == c)
      (λ x. ended_elsewhere (bunch_of x == b) (bunch_of x == c) (ends x) (λ h. ne_eqb (bunch_of x) b (λ k. apart (sym (eqb-true (bunch_of x) c h) ∙ k)))) xs

  pub AreParts-ended : (all : List (Sided X)) (list : List X) (b : ℕ) (ends : X → Bool) (was now : Sided X) → b < length all → was ≡ get_or all b was → now.list ≡ filter (λ x. not (ends x)) was.list → AreParts pair_of bunch_of all list → AreParts pair_of bunch_of (set all b now) (filter (λ x. not (is_ended_in bunch_of b ends x)) list)
  AreParts-ended all list b ends was now within read left parts = λ c d lt.
      let c_within : c < length all = omega (arith, lt, length-set all b now) in
      ⊎_elim
      (λ (same : c ≡ b).
      subst (λ m. (get_or (set all b now) m d).list ≡ filter (λ x. bunch_of x == m) (filter (λ x. not (is_ended_in bunch_of b ends x)) list)) (sym same)
      (ap (λ (s : Sided X). s.list) (get_or-set_same all b now d within)
      ∙ left
      ∙ ap (filter (λ x. not (ends x))) (ap (λ (s : Sided X). s.list) read ∙ parts b was within)
      ∙ sym (part-ended b ends list)))
      (λ (apart : c ≢ b).
      ap (λ (s : Sided X). s.list) (get_or-set_other all b c now d apart)
      ∙ parts c d c_within
      ∙ sym (part-left b c apart ends list))
      (cases_eq c b)

  -- as many go of the one list
  pub ended-count : (all : List (Sided X)) (list : List X) (b : ℕ) (ends : X → Bool) (was : Sided X) → b < length all → was ≡ get_or all b was → AreParts pair_of bunch_of all list → count_by ends was.list ≡ count_by (is_ended_in bunch_of b ends) list
  ended-count all list b ends was within read parts =
      ap (count_by ends) (ap (λ (s : Sided X). s.list) read ∙ parts b was within)
      ∙ count_by-filter ends (λ x. bunch_of x == b) list
