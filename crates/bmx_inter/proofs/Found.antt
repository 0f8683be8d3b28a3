-- What is found after one took its place, and that lists stay in order.
use Rattle.std.proofs.Common.{◌≡◌, Bool, true, false, List, ◌∷◌, Some, sym, ap, ◌∙◌, filter, find, All, AllPairs, ⊎_elim}
use Rattle.std.proofs.lemmas.Bool.{cond-true, cond-false, cases_Bool}
use Rattle.std.proofs.lemmas.List.Elements.{filter_passes, All-cons, All-weaker}
use Rattle.std.proofs.lemmas.List.Kept.{AllPairs-cons, AllPairs-filter}
use Rattle.bmx_types.specs.declared.names.Pair.{Pair}
use Rattle.bmx_types.specs.Updates.{put_at}
use Rattle.bmx_inter.specs.Order.{is_same, is_ahead, IsInOrder, find_one, with_one}
use Rattle.bmx_inter.proofs.Keys.{is_same-true, is_same-itself, key_cases, is_ahead-of, is_ahead-trans, is_ahead-crossed, is_behind-crossed, is_ahead-turned, is_behind-turned}
use Rattle.bmx_shelves.proofs.Updates.{put_at-from}
use Rattle.bmx_shelves.proofs.Parts.{find-filter_kept, find-filter_dropped, find-append_none, find-append_last, AllPairs-append}

clash : (b : Bool) → b ≡ true → b ≡ false → ⊥
clash b t f = let e : true ≡ false = sym t ∙ f in cc

module _ {X : Type 0} (pair_of : X → Pair) where
  -- what took its place is found
  pub find_one-with_one : (x : X) (xs : List X) → find_one pair_of (with_one pair_of x xs) (pair_of x).source (pair_of x).target ≡ Some x
  find_one-with_one x xs =
      let p : X → Bool = λ y. is_same (pair_of y) (pair_of x) in
      let front : X → Bool = λ y. is_ahead (pair_of y) (pair_of x) in
      let back : X → Bool = λ y. is_ahead (pair_of x) (pair_of y) in
      find-append_none p (filter front xs) (x ∷ filter back xs) (find-filter_dropped p front (λ y h. is_ahead-of (pair_of y) (pair_of x) h) xs)
      ∙ cond-true (p x) (Some x) (find p (filter back xs)) (is_same-itself (pair_of x))

  -- and for every other pair what was found before
  pub find_one-with_other : (x : X) (xs : List X) (q : Pair) → is_same (pair_of x) q ≡ false → find_one pair_of (with_one pair_of x xs) q.source q.target ≡ find_one pair_of xs q.source q.target
  find_one-with_other x xs q other =
      let p : X → Bool = λ y. is_same (pair_of y) q in
      let front : X → Bool = λ y. is_ahead (pair_of y) (pair_of x) in
      let back : X → Bool = λ y. is_ahead (pair_of x) (pair_of y) in
      let skips : find p (x ∷ filter back xs) ≡ find p (filter back xs) = cond-false (p x) (Some x) (find p (filter back xs)) other in
      ⊎_elim
      (λ x_ahead.
      find-append_none p (filter front xs) (x ∷ filter back xs) (find-filter_dropped p front (λ y h. is_ahead-crossed (pair_of y) q (pair_of x) x_ahead h) xs)
      ∙ skips
      ∙ find-filter_kept p back (λ y h. is_behind-crossed (pair_of y) q (pair_of x) x_ahead h) xs)
      (λ rest. ⊎_elim
      (λ same. absurd (clash (p x) same other))
      (λ x_behind.
      find-append_last p (filter front xs) (x ∷ filter back xs) (skips ∙ find-filter_dropped p back (λ y h. is_behind-turned (pair_of y) q (pair_of x) x_behind h) xs)
      ∙ find-filter_kept p front (λ y h. is_ahead-turned (pair_of y) q (pair_of x) x_behind h) xs)
      rest)
      (key_cases (pair_of x) q)

  -- so what is found changes at its source and its target alone
  pub find_one-put : (x : X) (xs : List X) → find_one pair_of (with_one pair_of x xs) ≡ put_at (find_one pair_of xs) (pair_of x).source (pair_of x).target (Some x)
  find_one-put x xs =
      put_at-from (find_one pair_of xs) (find_one pair_of (with_one pair_of x xs)) (pair_of x).source (pair_of x).target (Some x)
      (find_one-with_one x xs)
      (λ source target other.
      let q : Pair = record { source = source; target = target } in
      find_one-with_other x xs q (⊎_elim
      (λ same. let e : pair_of x ≡ q = is_same-true (pair_of x) q same in absurd (other (sym (ap (λ (p : Pair). p.source) e)) (sym (ap (λ (p : Pair). p.target) e))))
      (λ no_match. no_match)
      (cases_Bool (is_same (pair_of x) q))))

  -- the list stays in order
  pub IsInOrder-with_one : (x : X) (xs : List X) → IsInOrder pair_of xs → IsInOrder pair_of (with_one pair_of x xs)
  IsInOrder-with_one x xs order =
      let IsBefore : X → X → Type 0 = λ y z. is_ahead (pair_of y) (pair_of z) ≡ true in
      let front : X → Bool = λ y. is_ahead (pair_of y) (pair_of x) in
      let back : X → Bool = λ y. is_ahead (pair_of x) (pair_of y) in
      let before_x : All (λ y. front y ≡ true) (filter front xs) = filter_passes front xs in
      let after_x : All (λ y. back y ≡ true) (filter back xs) = filter_passes back xs in
      let rest : AllPairs IsBefore (x ∷ filter back xs) = AllPairs-cons IsBefore x (filter back xs) after_x (AllPairs-filter IsBefore back xs order) in
      AllPairs-append IsBefore (filter front xs) (x ∷ filter back xs)
      (AllPairs-filter IsBefore front xs order)
      rest
      (All-weaker (λ y. front y ≡ true) (λ y. All (IsBefore y) (x ∷ filter back xs))
      (λ y y_ahead. All-cons (IsBefore y) x (filter back xs) y_ahead
      (All-weaker (λ z. back z ≡ true) (IsBefore y) (λ z x_ahead. is_ahead-trans (pair_of y) (pair_of x) (pair_of z) y_ahead x_ahead) (filter back xs) after_x))
      (filter front xs) before_x)

  -- and so does what passes a test
  pub IsInOrder-filter : (test : X → Bool) (xs : List X) → IsInOrder pair_of xs → IsInOrder pair_of (filter test xs)
  IsInOrder-filter test xs order = AllPairs-filter (λ y z. is_ahead (pair_of y) (pair_of z) ≡ true) test xs order
