-- What the lists of a side keep as they change.
use Rattle.std.proofs.Common.{◌≡◌, ◌≢◌, ℕ, ◌+◌, ◌-◌, ◌<◌, ◌≤◌, not, Bool, List, [], ◌∷◌, length, get_or, set, take, Option, Some, None, is_some, is_none, true, false, refl, sym, ap, ◌∙◌, subst, arith, filter, All, ◌⊎◌, inl, inr, ⊎_elim}
use Rattle.std.proofs.lemmas.List.{length-set, get_or-set_same, get_or-set_other, get_or_default, take_more_set}
use Rattle.std.proofs.lemmas.List.Elements.{All-set, All-filter, All-push}
use Rattle.std.proofs.lemmas.Bool.{false≢true, cases_eq}
use Rattle.bmx_types.specs.declared.names.Pair.{Pair}
use Rattle.bmx_inter.specs.Order.{IsInOrder, find_one, with_one, without_one}
use Rattle.bmx_inter.specs.Inside.Sides.{Sided, IsBegun, AreParts, Kept, merged, is_ended_in}
use Rattle.bmx_inter.proofs.Found.{IsInOrder-with_one, IsInOrder-filter}
use Rattle.bmx_inter.proofs.Merged.{merged-order, merged-whole, Kept-of}
use Rattle.bmx_inter.proofs.Changes.{AreParts-put, AreParts-ended, bounded-with, elsewhere-same}

-- what is found is what was looked for
pub is_what_was_found : {X : Type 0} (o wanted : Option X) → is_some o ≡ true → ((x : X) → o ≡ Some x → wanted ≡ Some x) → o ≡ wanted
is_what_was_found None wanted e h = absurd (false≢true e)
is_what_was_found (Some x) wanted e h = sym (h x refl)

pub none_was_found : {X : Type 0} (o : Option X) → is_some o ≡ false → o ≡ None
none_was_found None e = refl
none_was_found (Some x) e = absurd (false≢true (sym e))

-- one of the lists with more room
module _ {X : Type 0} (all : List (Sided X)) (b : ℕ) (was now : Sided X) where
  pub list-kept : b < length all → was ≡ get_or all b was → now.list ≡ was.list → (k : ℕ) (d : Sided X) → (get_or (set all b now) k d).list ≡ (get_or all k d).list
  list-kept within read same k d =
      ⊎_elim
      (λ (e : k ≡ b). subst (λ m. (get_or (set all b now) m d).list ≡ (get_or all m d).list) (sym e)
      (ap (λ (s : Sided X). s.list) (get_or-set_same all b now d within) ∙ same ∙ ap (λ (s : Sided X). s.list) (read ∙ get_or_default all b was d within)))
      (λ (ne : k ≢ b). ap (λ (s : Sided X). s.list) (get_or-set_other all b k now d ne))
      (cases_eq k b)

  pub spare-kept : (room : ℕ) → b < length all → was ≡ get_or all b was → was.spare ≤ now.spare → All (λ s. room ≤ s.spare) all → All (λ s. room ≤ s.spare) (set all b now)
  spare-kept room within read more roomy =
      let old : room ≤ was.spare = subst (λ (s : Sided X). room ≤ s.spare) (sym read) (roomy b was within) in
      All-set (λ s. room ≤ s.spare) all b now (omega (arith, old, more)) roomy

  pub All-grown : (room : ℕ) → b < length all → room ≤ now.spare → All (λ s. room ≤ s.spare) (take b all) → All (λ s. room ≤ s.spare) (take (b + 1) (set all b now))
  All-grown room within here front =
      subst (All (λ s. room ≤ s.spare)) (sym (take_more_set all b now within)) (All-push (λ s. room ≤ s.spare) (take b all) now front here)

module _ {X : Type 0} (pair_of : X → Pair) (bunch_of : X → ℕ) where
  -- lists that are as they were, with other room
  module _ (all grown : List (Sided X)) (was room : ℕ) (kept : Kept pair_of bunch_of all was) (long : length grown ≡ length all) (same : (k : ℕ) (d : Sided X) → (get_or grown k d).list ≡ (get_or all k d).list) where
    grown-parts : AreParts pair_of bunch_of grown (merged pair_of all)
    grown-parts k d lt = same k d ∙ kept.parts k d (omega (arith, lt, long))

    grown-bounded : All (λ x. bunch_of x < length grown) (merged pair_of all)
    grown-bounded = subst (λ n. All (λ x. bunch_of x < n) (merged pair_of all)) (sym long) kept.bounded

    pub merged-grown : merged pair_of grown ≡ merged pair_of all
    merged-grown = merged-whole pair_of bunch_of grown (merged pair_of all) (merged-order pair_of all) grown-parts grown-bounded

    pub Kept-grown : ((length all ≡ 16) ⊎ ((length all ≡ 0) × (room ≡ 0))) → All (λ s. room ≤ s.spare) grown → Kept pair_of bunch_of grown room
    Kept-grown count roomy =
        Kept-of pair_of bunch_of grown room (merged pair_of all) (merged-order pair_of all)
        (subst (λ n. (n ≡ 16) ⊎ ((n ≡ 0) × (room ≡ 0))) (sym long) count) grown-parts grown-bounded roomy

  -- lists that are begun
  merged-empty : (all : List (Sided X)) → All (λ s. s.list ≡ []) all → (bound : ℕ) → bound ≡ length all → merged pair_of all ≡ []
  merged-empty all empty bound e =
      merged-whole pair_of bunch_of all [] (λ i j d lt within. absurd (omega arith)) (λ k d lt. empty k d lt) (λ k d lt. absurd (omega arith))

  merged-none : (all : List (Sided X)) → length all ≡ 0 → merged pair_of all ≡ []
  merged-none [] e = refl
  merged-none (s ∷ all) e = absurd (omega (arith, e))

  pub Kept-begun : (old new : List (Sided X)) (room : ℕ) → Kept pair_of bunch_of old room → IsBegun old new → (Kept pair_of bunch_of new room) × (length new ≡ 16) × (merged pair_of new ≡ merged pair_of old)
  Kept-begun old new room kept (inl h) = (
    subst (λ l. Kept pair_of bunch_of l room) (sym h.0) kept,
    ap length h.0 ∙ ⊎_elim (λ e. e) (λ e. absurd (omega (arith, h.1, e.0))) kept.count,
    ap (merged pair_of) h.0,
  )
  Kept-begun old new room kept (inr h) =
      let none : room ≡ 0 = ⊎_elim (λ e. absurd (omega (arith, h.0, e))) (λ e. e.1) kept.count in (
        Kept-of pair_of bunch_of new room [] (λ i j d lt within. absurd (omega arith)) (inl h.1) (λ k d lt. h.2 k d lt) (λ k d lt. absurd (omega arith)) (λ k d lt. omega (arith, none)),
        h.1,
        merged-empty new h.2 (length new) refl ∙ sym (merged-none old h.0),
      )

  -- one that is put
  module _ (all changed : List (Sided X)) (was room : ℕ) (x : X) (b : ℕ) (kept : Kept pair_of bunch_of all was) (at : b ≡ bunch_of x) (within : b < length all) (long : length changed ≡ length all) (here : (d : Sided X) → b < length all → (get_or changed b d).list ≡ with_one pair_of x (get_or all b d).list) (elsewhere : (c : ℕ) (d : Sided X) → c < length all → c ≢ b → (get_or changed c d).list ≡ without_one pair_of (pair_of x) (get_or all c d).list) where
    put-parts : AreParts pair_of bunch_of changed (with_one pair_of x (merged pair_of all))
    put-parts = AreParts-put pair_of bunch_of all changed (merged pair_of all) x b at long here elsewhere kept.parts

    put-bounded : All (λ y. bunch_of y < length changed) (with_one pair_of x (merged pair_of all))
    put-bounded = subst (λ n. All (λ y. bunch_of y < n) (with_one pair_of x (merged pair_of all))) (sym long) (bounded-with pair_of bunch_of (length all) x (merged pair_of all) (omega (arith, at, within)) kept.bounded)

    pub merged-put : merged pair_of changed ≡ with_one pair_of x (merged pair_of all)
    merged-put = merged-whole pair_of bunch_of changed (with_one pair_of x (merged pair_of all)) (IsInOrder-with_one pair_of x (merged pair_of all) (merged-order pair_of all)) put-parts put-bounded

    pub Kept-put : All (λ s. room ≤ s.spare) changed → Kept pair_of bunch_of changed room
    Kept-put roomy =
        let count : length changed ≡ 16 = long ∙ ⊎_elim (λ e. e) (λ e. absurd (omega (arith, within, e.0))) kept.count in
        Kept-of pair_of bunch_of changed room (with_one pair_of x (merged pair_of all)) (IsInOrder-with_one pair_of x (merged pair_of all) (merged-order pair_of all)) (inl count) put-parts put-bounded roomy

  -- what goes of a bunch
  module _ (all : List (Sided X)) (room b : ℕ) (ends : X → Bool) (was now : Sided X) (kept : Kept pair_of bunch_of all room) (within : b < length all) (read : was ≡ get_or all b was) (left : now.list ≡ filter (λ x. not (ends x)) was.list) where
    ended-parts : AreParts pair_of bunch_of (set all b now) (filter (λ x. not (is_ended_in bunch_of b ends x)) (merged pair_of all))
    ended-parts = AreParts-ended pair_of bunch_of all (merged pair_of all) b ends was now within read left kept.parts

    ended-bounded : All (λ y. bunch_of y < length (set all b now)) (filter (λ x. not (is_ended_in bunch_of b ends x)) (merged pair_of all))
    ended-bounded = subst (λ n. All (λ y. bunch_of y < n) (filter (λ x. not (is_ended_in bunch_of b ends x)) (merged pair_of all))) (sym (length-set all b now)) (All-filter (λ x. not (is_ended_in bunch_of b ends x)) (λ y. bunch_of y < length all) (merged pair_of all) kept.bounded)

    ended-order : IsInOrder pair_of (filter (λ x. not (is_ended_in bunch_of b ends x)) (merged pair_of all))
    ended-order = IsInOrder-filter pair_of (λ x. not (is_ended_in bunch_of b ends x)) (merged pair_of all) (merged-order pair_of all)

    pub merged-ended : merged pair_of (set all b now) ≡ filter (λ x. not (is_ended_in bunch_of b ends x)) (merged pair_of all)
    merged-ended = merged-whole pair_of bunch_of (set all b now) (filter (λ x. not (is_ended_in bunch_of b ends x)) (merged pair_of all)) ended-order ended-parts ended-bounded

    pub Kept-ended : was.spare ≤ now.spare → Kept pair_of bunch_of (set all b now) room
    Kept-ended more =
        let old : room ≤ was.spare = subst (λ (s : Sided X). room ≤ s.spare) (sym read) (kept.roomy b was within) in
        Kept-of pair_of bunch_of (set all b now) room (filter (λ x. not (is_ended_in bunch_of b ends x)) (merged pair_of all)) ended-order
        (subst (λ n. (n ≡ 16) ⊎ ((n ≡ 0) × (room ≡ 0))) (sym (length-set all b now)) kept.count) ended-parts ended-bounded
        (All-set (λ s. room ≤ s.spare) all b now (omega (arith, old, more)) kept.roomy)

  -- there are bunches where there is room
  pub has_bunches : (all : List (Sided X)) (room b : ℕ) → Kept pair_of bunch_of all room → 0 < room → b < 16 → b < length all
  has_bunches all room b kept some lt = ⊎_elim (λ e. omega (arith, lt, e)) (λ e. absurd (omega (arith, some, e.1))) kept.count

  -- no other bunch has one that stands already
  pub put-beside : (all : List (Sided X)) (b : ℕ) (x : X) (was now : Sided X) (room : ℕ) → Kept pair_of bunch_of all room → b < length all → was ≡ get_or all b was → is_none (find_one pair_of was.list (pair_of x).source (pair_of x).target) ≡ false → (c : ℕ) (d : Sided X) → c < length all → c ≢ b → (get_or (set all b now) c d).list ≡ without_one pair_of (pair_of x) (get_or all c d).list
  put-beside all b x was now room kept within read stood c d lt apart =
      ap (λ (s : Sided X). s.list) (get_or-set_other all b c now d apart)
      ∙ elsewhere-same pair_of bunch_of all (merged pair_of all) (pair_of x) b was (merged-order pair_of all) kept.parts within (subst (λ (s : Sided X). is_none (find_one pair_of s.list (pair_of x).source (pair_of x).target) ≡ false) read stood) c d lt apart

module _ {X : Type 0} (pair_of : X → Pair) where
  -- its own bunch has it, and another one that was looked through hasn't
  pub put-here : (all : List (Sided X)) (b : ℕ) (x : X) (was now : Sided X) → b < length all → was ≡ get_or all b was → now.list ≡ with_one pair_of x was.list → (d : Sided X) → (get_or (set all b now) b d).list ≡ with_one pair_of x (get_or all b d).list
  put-here all b x was now within read put d =
      ap (λ (s : Sided X). s.list) (get_or-set_same all b now d within)
      ∙ put
      ∙ ap (λ (s : Sided X). with_one pair_of x s.list) (read ∙ get_or_default all b was d within)

  pub put-elsewhere : (all changed : List (Sided X)) (b : ℕ) (x : X) (now : Sided X) (p : Pair) → p ≡ pair_of x → ((c : ℕ) (d : Sided X) → c < length (set all b now) → c ≢ b → (get_or changed c d).list ≡ without_one pair_of p (get_or (set all b now) c d).list) → (c : ℕ) (d : Sided X) → c < length all → c ≢ b → (get_or changed c d).list ≡ without_one pair_of (pair_of x) (get_or all c d).list
  put-elsewhere all changed b x now p is gone c d lt apart =
      gone c d (omega (arith, lt, length-set all b now)) apart
      ∙ (λ i. without_one pair_of (is i) (get_or-set_other all b c now d apart i).list)

  pub put-spare : (all : List (Sided X)) (b : ℕ) (was now : Sided X) (room : ℕ) → b < length all → was ≡ get_or all b was → was.spare ≤ now.spare + 1 → All (λ s. room ≤ s.spare) all → All (λ s. room - 1 ≤ s.spare) (set all b now)
  put-spare all b was now room within read less roomy =
      let old : room ≤ was.spare = subst (λ (s : Sided X). room ≤ s.spare) (sym read) (roomy b was within) in
      All-set (λ s. room - 1 ≤ s.spare) all b now (omega (arith, old, less)) (λ k d lt. let one : room ≤ (get_or all k d).spare = roomy k d lt in omega (arith, one))
