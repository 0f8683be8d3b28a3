-- For callers: which keys are in a list, and how many lists there are, after each call.
use Rattle.std.proofs.Common.{◌≡◌, ℕ, ◌<◌, Bool, true, false, ◌||◌, ◌==◌, List, [], ◌∷◌, ◌++◌, length, refl, sym, ap, ◌∙◌, inl, inr}
use Rattle.std.proofs.lemmas.Bool.{cases_eq, eq-eqb}
use Rattle.std.specs.FinSet as set
use Rattle.std.specs.Ordering.{nat_cmp}
use Rattle.std.specs.Cmp.{nat_cmp_total, unsigned_tied}
use Rattle.std.proofs.lemmas.List.{length-map, length-set, get_or-set_same, get_or-set_other}
use Rattle.bmx_ilist.specs.Sequences.{keys_of, has_key, is_in_list, pushed, unlinked}
use Rattle.bmx_ilist.proofs.Keys.{has_key-push}
use Rattle.bmx_ilist.proofs.Links.{in_range}
use Rattle.bmx_ilist.proofs.Steps.{in_some, some_list, loose_each, unlinked_loose}

pub length-pushed : (list key : ℕ) (lists : List (List ℕ)) → length (pushed list key lists) ≡ length lists
length-pushed list key lists = length-set lists list (keys_of lists list ++ key ∷ [])

pub length-unlinked : (key : ℕ) (lists : List (List ℕ)) → length (unlinked key lists) ≡ length lists
length-unlinked key lists = length-map lists _

or_true : (b : Bool) → (b || true) ≡ true
or_true true = refl
or_true false = refl

-- a new key lives
pub inserted_lives : (s : set.FinSet nat_cmp) (k : ℕ) → set.contains (set.insert s k) k ≡ true
inserted_lives s k =
    set.contains-insert nat_cmp_total s k k ∙ ap (λ b. b || set.contains s k) (unsigned_tied k k ∙ eq-eqb k k refl)

-- a key that was pushed is in a list
pub pushed_in : (list key : ℕ) (lists : List (List ℕ)) → list < length lists → is_in_list (pushed list key lists) key ≡ true
pushed_in list key lists within =
    in_some (pushed list key lists) list key
    (ap (has_key key) (get_or-set_same lists list (keys_of lists list ++ key ∷ []) [] within)
    ∙ has_key-push key key (keys_of lists list) ∙ ap (λ b. has_key key (keys_of lists list) || b) (eq-eqb key key refl) ∙ or_true (has_key key (keys_of lists list)))

-- and those that were stay in one
pub pushed_stays : (list key q : ℕ) (lists : List (List ℕ)) → is_in_list lists q ≡ true → is_in_list (pushed list key lists) q ≡ true
pushed_stays list key q lists h =
    let at = some_list lists q h in
    elim (cases_eq at.0 list) [
      | inl e ↦
          let here : has_key q (keys_of lists list) ≡ true = ap (λ j. has_key q (keys_of lists j)) (sym e) ∙ at.1 in
          in_some (pushed list key lists) list q
          (ap (has_key q) (get_or-set_same lists list (keys_of lists list ++ key ∷ []) [] (in_range lists list q here))
          ∙ has_key-push q key (keys_of lists list) ∙ ap (λ b. b || key == q) here)
      | inr ne ↦ in_some (pushed list key lists) at.0 q (ap (has_key q) (get_or-set_other lists list at.0 (keys_of lists list ++ key ∷ []) [] ne) ∙ at.1)
    ]

pub ruleset calls = (length-pushed, length-unlinked, inserted_lives, pushed_in, pushed_stays, unlinked_loose)
