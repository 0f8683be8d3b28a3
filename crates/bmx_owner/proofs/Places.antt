-- Where a search ends, and what a write or an insert there makes.
use Rattle.std.proofs.Common.{◌≡◌, ℕ, zero, suc, ◌<◌, ◌≤◌, Bool, true, false, List, [], ◌∷◌, ◌++◌, length, get_or, set, insert, sym, ap, ◌∙◌, subst, arith, ⊎_elim, nat_lt, ◌==◌, nat_cmp, Result, Ok, Err, is_ok, MatchResult, le_of_eq, le_of_lt, Some, unwrap_or}
use Rattle.std.specs.List.{AllWithin, list_any}
use Rattle.std.specs.List.Sorted.{IsPartitionPoint, IsPartitionedBy, IsStrictlyIncreasing, IsBinarySearchResult}
use Rattle.std.proofs.lemmas.List.Sorted.{searched}
use Rattle.std.proofs.lemmas.List.Kept.{AllPairs-from_increasing}
use Rattle.std.proofs.lemmas.Bool.{cases_eq, cases_lt, cases_Bool, or_left, or_right, eq-eqb, ne_eqb}
use Rattle.std.proofs.lemmas.Bool.Decides.{nat_tests}
use Rattle.std.proofs.Math.Nat.{max-eq_left}
use Rattle.std.proofs.lemmas.List.{set_split, set-get_or, get_or_default}
use Rattle.std.proofs.lemmas.List.Folds.{list_any_none}
use Rattle.bmx_owner.specs.declared.entering.Record.{Record}
use Rattle.bmx_owner.specs.Records.{is_of, is_ahead, is_behind, IsInOrder, find_record, has_record, with_record, blank, sent_by, got_by, given, taken_over}
use Rattle.bmx_owner.specs.Inside.Search.{StandsAt, FitsAt}
use Rattle.bmx_owner.proofs.Keys.{key_cases, is_behind-of, is_of-ahead, is_of-behind, is_behind-ahead, is_ahead-trans, is_ahead-before_of, is_behind-after_of}
use Rattle.bmx_owner.proofs.Found.{find_record-key}
use Rattle.bmx_owner.proofs.Parts.{filter_front, filter_rest, find_at, find_none}

clash : {b : Bool} → b ≡ true → b ≡ false → ⊥
clash t f = let e : true ≡ false = sym t ∙ f in cc

-- what stands before a key stands in front
pub is_ahead-partitioned : (records : List Record) (name node : ℕ) → IsInOrder records → IsPartitionedBy (is_ahead name node) records
is_ahead-partitioned records name node order i j d le within h =
    ⊎_elim
    (λ same. subst (λ k. is_ahead name node (get_or records k d) ≡ true) (sym same) h)
    (λ apart. is_ahead-trans name node (get_or records i d) (get_or records j d) (order i j d (omega arith) within) h)
    (cases_eq i j)

-- a search that ends at a record of the key
pub StandsAt-from_point : (records : List Record) (name node i : ℕ) (r : Record) → IsInOrder records → IsPartitionPoint (λ y. is_ahead name node y ≡ true) (λ y. is_ahead name node y ≡ false) records i → i < length records → r ≡ get_or records i r → is_of name node r ≡ true → StandsAt records name node i
StandsAt-from_point records name node i r order point within read here =
    let at : (d : Record) → is_of name node (get_or records i d) ≡ true = λ d. subst (λ x. is_of name node x ≡ true) (read ∙ get_or_default records i r d within) here in
    record {
      within = within;
      found = λ d. find_at (is_of name node) records i d within (λ k e low high. is_of-ahead name node (get_or records k e) (point.0 k e low high)) (at d);
      ahead = filter_front (is_ahead name node) records i (omega arith) point.0 point.1;
      behind = filter_rest (is_behind name node) records (suc i)
          (λ k e low high. ⊎_elim
          (λ same. is_behind-of name node (get_or records k e) (subst (λ n. is_of name node (get_or records n e) ≡ true) (sym same) (at e)))
          (λ apart. is_behind-ahead name node (get_or records k e) (point.0 k e low (omega arith)))
          (cases_eq k i))
          (λ k e low high. is_behind-after_of name node (get_or records i e) (get_or records k e) (order i k e (omega arith) high) (at e));
    }

-- a search that ends where there is none
pub FitsAt-from_point : (records : List Record) (name node i : ℕ) → IsInOrder records → IsPartitionPoint (λ y. is_ahead name node y ≡ true) (λ y. is_ahead name node y ≡ false) records i → i ≤ length records → ((d : Record) → i < length records → is_of name node (get_or records i d) ≡ false) → FitsAt records name node i
FitsAt-from_point records name node i order point within not_here =
    let rest : AllWithin (λ y. is_behind name node y ≡ true) records i (length records) = λ k e low high. ⊎_elim
    (λ is_before. absurd (clash is_before (point.1 k e low high)))
    (λ more. ⊎_elim
    (λ same. absurd (⊎_elim
    (λ at. clash same (subst (λ n. is_of name node (get_or records n e) ≡ false) (sym at) (not_here e (omega arith))))
    (λ apart. clash (is_ahead-before_of name node (get_or records i e) (get_or records k e) (order i k e (omega arith) high) same) (point.1 i e (omega arith) (omega arith)))
    (cases_eq k i)))
    (λ is_later. is_later)
    more)
    (key_cases name node (get_or records k e)) in
    record {
      within = within;
      none = find_none (is_of name node) records (λ k e low high. ⊎_elim
          (λ front. is_of-ahead name node (get_or records k e) (point.0 k e low front))
          (λ back. is_of-behind name node (get_or records k e) (rest k e back high))
          (cases_lt k i));
      ahead = filter_front (is_ahead name node) records i within point.0 point.1;
      behind = filter_rest (is_behind name node) records i
          (λ k e low high. is_behind-ahead name node (get_or records k e) (point.0 k e low high))
          rest;
    }

-- a write over the record of its key
pub with_record-at : (records : List Record) (r : Record) (i : ℕ) → StandsAt records r.name r.from i → set records i r ≡ with_record r records
with_record-at records r i at =
    set_split records i r at.within ∙ (λ j. at.ahead j ++ r ∷ at.behind j)

-- an insert where it fits
pub with_record-inserted : (records : List Record) (r : Record) (i : ℕ) → FitsAt records r.name r.from i → insert records i r ≡ with_record r records
with_record-inserted records r i at = λ j. at.ahead j ++ r ∷ at.behind j

-- what is read where a record stands is found, and is of its key
pub found-at : (records : List Record) (name node i : ℕ) (r : Record) → StandsAt records name node i → r ≡ get_or records i r → find_record records name node ≡ Some r
found-at records name node i r at read = at.found r ∙ ap Some (sym read)

pub StandsAt-own : (records : List Record) (name node i : ℕ) (r : Record) → StandsAt records name node i → r ≡ get_or records i r → StandsAt records r.name r.from i
StandsAt-own records name node i r at read =
    let key = find_record-key records name node r (found-at records name node i r at read) in
    subst (λ q. StandsAt records q r.from i) (sym key.0) (subst (λ m. StandsAt records name m i) (sym key.1) at)

-- in its own place nothing changes
with_record-own : (records : List Record) (name node i : ℕ) (r : Record) → StandsAt records name node i → r ≡ get_or records i r → with_record r records ≡ records
with_record-own records name node i r at read =
    sym (with_record-at records r i (StandsAt-own records name node i r at read))
    ∙ ap (set records i) read
    ∙ set-get_or records i r

-- a letter no later than those that the record knows
pub given-known : (records : List Record) (name bunch node seq i : ℕ) (r : Record) → StandsAt records name node i → r ≡ get_or records i r → seq ≤ r.sent → records ≡ given records name bunch node seq
given-known records name bunch node seq i r at read late =
    sym (with_record-own records name node i r at read)
    ∙ ap (λ n. with_record (record r { sent = n }) records) (sym (max-eq_left late))
    ∙ ap (λ o. with_record (sent_by seq (unwrap_or o (blank name bunch node))) records) (sym (found-at records name node i r at read))

pub taken_over-known : (records : List Record) (name bunch node seq i : ℕ) (r : Record) → StandsAt records name node i → r ≡ get_or records i r → seq ≤ r.got → records ≡ taken_over records name bunch node seq
taken_over-known records name bunch node seq i r at read late =
    sym (with_record-own records name node i r at read)
    ∙ ap (λ n. with_record (record r { got = n }) records) (sym (max-eq_left late))
    ∙ ap (λ o. with_record (got_by seq (unwrap_or o (blank name bunch node))) records) (sym (found-at records name node i r at read))

-- records with smaller names stand in front
pub named_below-partitioned : (records : List Record) (name : ℕ) → IsInOrder records → IsPartitionedBy (λ r. nat_lt r.name name) records
named_below-partitioned records name order i j d le within h =
    ⊎_elim
    (λ same. subst (λ k. nat_lt (get_or records k d).name name ≡ true) (sym same) h)
    (λ apart. let before = order i j d (omega arith) within in named_below (get_or records i d) (get_or records j d) before h)
    (cases_eq i j)
  where
    named_below : (r s : Record) → is_ahead s.name s.from r ≡ true → nat_lt s.name name ≡ true → nat_lt r.name name ≡ true
    named_below r s a b = grind (arith, nat_tests)

-- the first record that has no smaller name has the name, if any does
pub has_record-at : (records : List Record) (name i : ℕ) (r : Record) → IsInOrder records → IsPartitionPoint (λ y. nat_lt y.name name ≡ true) (λ y. nat_lt y.name name ≡ false) records i → i < length records → r ≡ get_or records i r → (r.name == name) ≡ has_record records name
has_record-at records name i r order point within read =
    let test : Record → Bool = λ x. x.name == name in
    ⊎_elim
    (λ here. here ∙ sym (list_any-at test records i r within (subst (λ x. test x ≡ true) read here)))
    (λ elsewhere. elsewhere ∙ sym (list_any_none test records (λ k d high. ⊎_elim
    (λ front. smaller_name (get_or records k d) (point.0 k d (omega arith) front))
    (λ back. ⊎_elim
    (λ same. subst (λ n. test (get_or records n d) ≡ false) (sym same) (subst (λ x. test x ≡ false) (read ∙ get_or_default records i r d within) elsewhere))
    (λ apart. later_name (get_or records i d) (get_or records k d) (order i k d (omega arith) high)
    (subst (λ x. test x ≡ false) (read ∙ get_or_default records i r d within) elsewhere)
    (point.1 i d (omega arith) within))
    (cases_eq k i))
    (cases_lt k i))))
    (cases_Bool (test r))
  where
    smaller_name : (x : Record) → nat_lt x.name name ≡ true → (x.name == name) ≡ false
    smaller_name x h = grind (arith, nat_tests)

    later_name : (x y : Record) → is_ahead y.name y.from x ≡ true → (x.name == name) ≡ false → nat_lt x.name name ≡ false → (y.name == name) ≡ false
    later_name x y a b h = grind (arith, nat_tests)

    list_any-at : (p : Record → Bool) (xs : List Record) (n : ℕ) (d : Record) → n < length xs → p (get_or xs n d) ≡ true → list_any p xs ≡ true
    list_any-at p [] n d lt h = absurd (omega arith)
    list_any-at p (x ∷ xs) zero d lt h = or_left (p x) (list_any p xs) h
    list_any-at p (x ∷ xs) (suc n) d lt h = or_right (p x) (list_any p xs) (list_any-at p xs n d (omega arith) h)

-- where all names are smaller none has it
pub has_record-none : (records : List Record) (name i : ℕ) → IsPartitionPoint (λ y. nat_lt y.name name ≡ true) (λ y. nat_lt y.name name ≡ false) records i → length records ≤ i → has_record records name ≡ false
has_record-none records name i point past = list_any_none (λ x. x.name == name) records (λ k d high. smaller_name (get_or records k d) (point.0 k d (omega arith) (omega arith)))
  where
    smaller_name : (x : Record) → nat_lt x.name name ≡ true → (x.name == name) ≡ false
    smaller_name x h = grind (arith, nat_tests)

-- what a binary search finds in rising numbers is what they list
pub is_listed-searched : (xs : List ℕ) (x : ℕ) (r : Result ℕ ℕ) → IsStrictlyIncreasing xs → IsBinarySearchResult (λ y. nat_cmp y x) xs r → is_ok r ≡ list_any (λ y. y == x) xs
is_listed-searched xs x r rising found =
    from_search r (searched xs x r found (λ i j le within. ⊎_elim
    (λ same. le_of_eq (ap (λ k. get_or xs k 0) same))
    (λ apart. le_of_lt (AllPairs-from_increasing xs rising i j 0 (omega arith) within))
    (cases_eq i j)))
  where
    at : (ys : List ℕ) (n : ℕ) → n < length ys → get_or ys n 0 ≡ x → list_any (λ y. y == x) ys ≡ true
    at [] n lt h = absurd (omega arith)
    at (y ∷ ys) zero lt h = or_left (y == x) (list_any (λ z. z == x) ys) (eq-eqb y x h)
    at (y ∷ ys) (suc n) lt h = or_right (y == x) (list_any (λ z. z == x) ys) (at ys n (omega arith) h)

    from_search : (q : Result ℕ ℕ) → MatchResult q (λ i. (i < length xs) × (get_or xs i 0 ≡ x)) (λ i. (i ≤ length xs) × ((k : ℕ) → k < i → get_or xs k 0 < x) × ((k : ℕ) → i ≤ k → k < length xs → x < get_or xs k 0)) → is_ok q ≡ list_any (λ y. y == x) xs
    from_search (Ok i) h = sym (at xs i h.0 h.1)
    from_search (Err i) h = sym (list_any_none (λ y. y == x) xs (λ k d high. ne_eqb (get_or xs k d) x (λ same.
        let e : get_or xs k 0 ≡ x = get_or_default xs k 0 d high ∙ same in
        ⊎_elim
        (λ front. let lt = h.1 k front in omega arith)
        (λ back. let lt = h.2 k back high in omega arith)
        (cases_lt k i))))
