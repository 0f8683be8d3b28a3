-- What is found in the records after a letter gave a name, after one handed an object over, and after
-- a table ended records; and that the records stay in order.
use Rattle.std.proofs.Common.{◌≡◌, ℕ, ◌+◌, Bool, true, false, cond, not, ◌||◌, ◌==◌, List, [], ◌∷◌, length, Option, Some, None, refl, sym, ap, ◌∙◌, subst, arith, filter, find, All, AllPairs, option_and_then, unwrap_or, ⊎_elim, ◌&&◌}
use Rattle.std.proofs.lemmas.Bool.{cond_both, cond-true, cond-false, cases_Bool, or_cases, or_left, or_right, and_left, and_right, eqb-true, eq-eqb, ne_eqb}
use Rattle.std.proofs.lemmas.Bool.Decides.{nat_tests, same_from_decides}
use Rattle.std.proofs.lemmas.List.Elements.{filter_passes, All-cons, All-weaker, AllWithin-from_all}
use Rattle.std.proofs.lemmas.List.Kept.{AllPairs-cons, AllPairs-filter}
use Rattle.bmx_types.specs.Updates.{put_at}
use Rattle.bmx_shelves.proofs.Updates.{put_at-from}
use Rattle.bmx_owner.specs.declared.entering.Record.{Record}
use Rattle.bmx_owner.specs.Records.{is_of, is_ahead, is_behind, IsBefore, IsInOrder, find_record, has_record, with_record, blank, record_or_blank, sent_by, got_by, given, taken_over, is_listed, is_under, is_settled, is_stale, cleaned, stale_count}
use Rattle.bmx_owner.proofs.Keys.{is_of-name, is_of-itself, key_cases, is_ahead-of, is_ahead-trans, is_ahead-crossed, is_behind-crossed, is_ahead-turned, is_behind-turned, is_of-later}
use Rattle.bmx_owner.proofs.Parts.{find-filter_kept, find-filter_dropped, find_passes, find_none, find-append_none, find-append_last, AllPairs-append, AllPairs-tail, AllPairs-head, length-filter_not}

clash : (b : Bool) → b ≡ true → b ≡ false → ⊥
clash b t f = let e : true ≡ false = sym t ∙ f in cc

-- the record in its place is found
pub find_record-with_record : (r : Record) (records : List Record) → find_record (with_record r records) r.name r.from ≡ Some r
find_record-with_record r records =
    let p = is_of r.name r.from in
    let ahead = filter (is_ahead r.name r.from) records in
    let behind = filter (is_behind r.name r.from) records in
    find-append_none p ahead (r ∷ behind) (find-filter_dropped p (is_ahead r.name r.from) (is_ahead-of r.name r.from) records)
    ∙ cond-true (p r) (Some r) (find p behind) (is_of-itself r)

-- and every other is found as before
pub find_record-with_other : (r : Record) (records : List Record) (name node : ℕ) → is_of name node r ≡ false → find_record (with_record r records) name node ≡ find_record records name node
find_record-with_other r records name node other =
    let p = is_of name node in
    let ahead = filter (is_ahead r.name r.from) records in
    let behind = filter (is_behind r.name r.from) records in
    let skips : find p (r ∷ behind) ≡ find p behind = cond-false (p r) (Some r) (find p behind) other in
    ⊎_elim
    (λ r_ahead.
    find-append_none p ahead (r ∷ behind) (find-filter_dropped p (is_ahead r.name r.from) (λ x h. is_ahead-crossed name node r x r_ahead h) records)
    ∙ skips
    ∙ find-filter_kept p (is_behind r.name r.from) (λ x h. is_behind-crossed name node r x r_ahead h) records)
    (λ rest. ⊎_elim
    (λ same. absurd (clash (p r) same other))
    (λ r_behind.
    find-append_last p ahead (r ∷ behind) (skips ∙ find-filter_dropped p (is_behind r.name r.from) (λ x h. is_behind-turned name node r x r_behind h) records)
    ∙ find-filter_kept p (is_ahead r.name r.from) (λ x h. is_ahead-turned name node r x r_behind h) records)
    rest)
    (key_cases name node r)

-- they stay in order
pub IsInOrder-with_record : (r : Record) (records : List Record) → IsInOrder records → IsInOrder (with_record r records)
IsInOrder-with_record r records order =
    let ahead = filter (is_ahead r.name r.from) records in
    let behind = filter (is_behind r.name r.from) records in
    let before_r : All (λ x. is_ahead r.name r.from x ≡ true) ahead = filter_passes (is_ahead r.name r.from) records in
    let after_r : All (λ x. is_behind r.name r.from x ≡ true) behind = filter_passes (is_behind r.name r.from) records in
    let rest : AllPairs IsBefore (r ∷ behind) = AllPairs-cons IsBefore r behind after_r (AllPairs-filter IsBefore (is_behind r.name r.from) records order) in
    AllPairs-append IsBefore ahead (r ∷ behind)
    (AllPairs-filter IsBefore (is_ahead r.name r.from) records order)
    rest
    (All-weaker (λ x. is_ahead r.name r.from x ≡ true) (λ x. All (IsBefore x) (r ∷ behind))
    (λ x x_ahead. All-cons (IsBefore x) r behind x_ahead
    (All-weaker (λ y. is_behind r.name r.from y ≡ true) (IsBefore x) (λ y r_ahead. is_ahead-trans y.name y.from x r x_ahead r_ahead) behind after_r))
    ahead before_r)

-- what is found has the name and the node
pub find_record-key : (records : List Record) (name node : ℕ) (r : Record) → find_record records name node ≡ Some r → (r.name ≡ name) × (r.from ≡ node)
find_record-key records name node r e = is_of-name name node r (find_passes (is_of name node) records r e)

or_blank_key : (name bunch node : ℕ) (o : Option Record) → ((r : Record) → o ≡ Some r → (r.name ≡ name) × (r.from ≡ node)) → ((unwrap_or o (blank name bunch node)).name ≡ name) × ((unwrap_or o (blank name bunch node)).from ≡ node)
or_blank_key name bunch node None h = (refl, refl)
or_blank_key name bunch node (Some r) h = h r refl

pub record_or_blank-key : (records : List Record) (name bunch node : ℕ) → ((record_or_blank records name bunch node).name ≡ name) × ((record_or_blank records name bunch node).from ≡ node)
record_or_blank-key records name bunch node = or_blank_key name bunch node (find_record records name node) (find_record-key records name node)

-- a record of another key
is_of-other : (name node : ℕ) (r : Record) (q m : ℕ) → (r.name ≡ name) × (r.from ≡ node) → (q ≡ name → m ≡ node → ⊥) → is_of q m r ≡ false
is_of-other name node r q m key other =
    ⊎_elim
    (λ same. let is = is_of-name q m r same in absurd (other (sym is.0 ∙ key.0) (sym is.1 ∙ key.1)))
    (λ no_match. no_match)
    (cases_Bool (is_of q m r))

-- with the record of a name and a node in its place that one is found, and all others as before
pub find_record-with_key : (records : List Record) (name node : ℕ) (r : Record) → (r.name ≡ name) × (r.from ≡ node) → find_record (with_record r records) ≡ put_at (find_record records) name node (Some r)
find_record-with_key records name node r key =
    let F : ℕ → ℕ → Type 0 = λ q m. find_record (with_record r records) q m ≡ Some r in
    put_at-from (find_record records) (find_record (with_record r records)) name node (Some r)
    (subst (λ q. F q node) key.0 (subst (λ m. F r.name m) key.1 (find_record-with_record r records)))
    (λ q m other. find_record-with_other r records q m (is_of-other name node r q m key other))

-- after a letter gave a name to a node
pub find_record-given : (records : List Record) (name bunch node seq : ℕ) → find_record (given records name bunch node seq) ≡ put_at (find_record records) name node (Some (sent_by seq (record_or_blank records name bunch node)))
find_record-given records name bunch node seq =
    find_record-with_key records name node (sent_by seq (record_or_blank records name bunch node)) (record_or_blank-key records name bunch node)

pub IsInOrder-given : (records : List Record) (name bunch node seq : ℕ) → IsInOrder records → IsInOrder (given records name bunch node seq)
IsInOrder-given records name bunch node seq order = IsInOrder-with_record (sent_by seq (record_or_blank records name bunch node)) records order

-- after a letter from a node handed an object over
pub find_record-taken_over : (records : List Record) (name bunch node seq : ℕ) → find_record (taken_over records name bunch node seq) ≡ put_at (find_record records) name node (Some (got_by seq (record_or_blank records name bunch node)))
find_record-taken_over records name bunch node seq =
    find_record-with_key records name node (got_by seq (record_or_blank records name bunch node)) (record_or_blank-key records name bunch node)

pub IsInOrder-taken_over : (records : List Record) (name bunch node seq : ℕ) → IsInOrder records → IsInOrder (taken_over records name bunch node seq)
IsInOrder-taken_over records name bunch node seq order = IsInOrder-with_record (got_by seq (record_or_blank records name bunch node)) records order

-- behind a record in order there is none of its key
find_record-behind : (name node : ℕ) (x : Record) (xs : List Record) → IsInOrder (x ∷ xs) → is_of name node x ≡ true → find_record xs name node ≡ None
find_record-behind name node x xs order here =
    find_none (is_of name node) xs
    (AllWithin-from_all (λ y. is_of name node y ≡ false) xs
    (All-weaker (IsBefore x) (λ y. is_of name node y ≡ false) (λ y h. is_of-later name node x y h here) xs (AllPairs-head IsBefore x xs order)))

-- nor is one of a key that stands before the first
find_record-before : (x y : Record) (ys : List Record) → IsInOrder (y ∷ ys) → is_ahead y.name y.from x ≡ true → find_record (y ∷ ys) x.name x.from ≡ None
find_record-before x y ys order h =
    let p = is_of x.name x.from in
    cond-false (p y) (Some y) (find p ys) (is_of-later x.name x.from x y h (is_of-itself x))
    ∙ find_none p ys
    (AllWithin-from_all (λ z. p z ≡ false) ys
    (All-weaker (IsBefore y) (λ z. p z ≡ false) (λ z k. is_of-later x.name x.from x z (is_ahead-trans z.name z.from x y h k) (is_of-itself x)) ys (AllPairs-head IsBefore y ys order)))

-- what is found in records in order that pass a test
pub find_record-filter : (test : Record → Bool) (records : List Record) (name node : ℕ) → IsInOrder records → find_record (filter test records) name node ≡ option_and_then (λ r. cond (test r) (Some r) None) (find_record records name node)
find_record-filter test [] name node order = refl
find_record-filter test (x ∷ xs) name node order =
    let p = is_of name node in
    let F : Option Record → Option Record = λ o. option_and_then (λ r. cond (test r) (Some r) None) o in
    let more : find p (filter test xs) ≡ F (find p xs) = find_record-filter test xs name node (AllPairs-tail IsBefore x xs order) in
    ⊎_elim
    (λ here.
    let gone : find p (filter test xs) ≡ None = more ∙ ap F (find_record-behind name node x xs order here) in
    let first : find p (x ∷ xs) ≡ Some x = cond-true (p x) (Some x) (find p xs) here in
    cond_both (test x) (x ∷ filter test xs) (filter test xs) (λ ys. find p ys ≡ F (find p (x ∷ xs)))
    (λ kept. cond-true (p x) (Some x) (find p (filter test xs)) here ∙ sym (ap F first ∙ cond-true (test x) (Some x) None kept))
    (λ out. gone ∙ sym (ap F first ∙ cond-false (test x) (Some x) None out)))
    (λ elsewhere.
    let rest : find p (x ∷ xs) ≡ find p xs = cond-false (p x) (Some x) (find p xs) elsewhere in
    cond_both (test x) (x ∷ filter test xs) (filter test xs) (λ ys. find p ys ≡ F (find p (x ∷ xs)))
    (λ _. cond-false (p x) (Some x) (find p (filter test xs)) elsewhere ∙ more ∙ sym (ap F rest))
    (λ _. more ∙ sym (ap F rest)))
    (cases_Bool (p x))

-- after a table of the bunch from the node ended records: what it ends isn't found, and all else as before
pub find_record-cleaned : (records : List Record) (bunch node sent got : ℕ) (listed : List ℕ) (q m : ℕ) → IsInOrder records → find_record (cleaned records bunch node sent got listed) q m ≡ option_and_then (λ r. cond (not (is_stale bunch node sent got listed r)) (Some r) None) (find_record records q m)
find_record-cleaned records bunch node sent got listed q m order = find_record-filter (λ r. not (is_stale bunch node sent got listed r)) records q m order

-- a record that the table doesn't end stands as it was
pub find_record-cleaned_kept : (records : List Record) (bunch node sent got : ℕ) (listed : List ℕ) (q m : ℕ) (r : Record) → IsInOrder records → find_record records q m ≡ Some r → is_stale bunch node sent got listed r ≡ false → find_record (cleaned records bunch node sent got listed) q m ≡ Some r
find_record-cleaned_kept records bunch node sent got listed q m r order e kept =
    let test : Record → Bool = λ x. not (is_stale bunch node sent got listed x) in
    find_record-cleaned records bunch node sent got listed q m order
    ∙ ap (λ o. option_and_then (λ x. cond (test x) (Some x) None) o) e
    ∙ ap (λ b. cond (not b) (Some r) None) kept

-- what is found afterwards was found before, and the table doesn't end it
pub find_record-from_cleaned : (records : List Record) (bunch node sent got : ℕ) (listed : List ℕ) (q m : ℕ) (r : Record) → IsInOrder records → find_record (cleaned records bunch node sent got listed) q m ≡ Some r → (find_record records q m ≡ Some r) × (is_stale bunch node sent got listed r ≡ false)
find_record-from_cleaned records bunch node sent got listed q m r order e =
    passed (find_record records q m) (sym (find_record-cleaned records bunch node sent got listed q m order) ∙ e)
  where
    of_test : (x : Record) (b : Bool) → is_stale bunch node sent got listed x ≡ b → cond (not b) (Some x) None ≡ Some r → (Some x ≡ Some r) × (is_stale bunch node sent got listed r ≡ false)
    of_test x true h k = cc
    of_test x false h k = let is : x ≡ r = cc in (k, subst (λ y. is_stale bunch node sent got listed y ≡ false) is h)

    passed : (o : Option Record) → option_and_then (λ x. cond (not (is_stale bunch node sent got listed x)) (Some x) None) o ≡ Some r → (o ≡ Some r) × (is_stale bunch node sent got listed r ≡ false)
    passed None k = cc
    passed (Some x) k = of_test x (is_stale bunch node sent got listed x) refl k

pub IsInOrder-cleaned : (records : List Record) (bunch node sent got : ℕ) (listed : List ℕ) → IsInOrder records → IsInOrder (cleaned records bunch node sent got listed)
IsInOrder-cleaned records bunch node sent got listed order = AllPairs-filter IsBefore (λ r. not (is_stale bunch node sent got listed r)) records order

-- what stays and what goes are all
pub length-cleaned : (records : List Record) (bunch node sent got : ℕ) (listed : List ℕ) → length (cleaned records bunch node sent got listed) + stale_count records bunch node sent got listed ≡ length records
length-cleaned records bunch node sent got listed = length-filter_not (is_stale bunch node sent got listed) records

-- records in order in which the same is found are the same
pub same_records : (xs ys : List Record) → IsInOrder xs → IsInOrder ys → ((name node : ℕ) → find_record xs name node ≡ find_record ys name node) → xs ≡ ys
same_records [] [] hx hy same = refl
same_records [] (y ∷ ys) hx hy same =
    let e : None ≡ Some y = same y.name y.from ∙ cond-true (is_of y.name y.from y) (Some y) (find_record ys y.name y.from) (is_of-itself y) in cc
same_records (x ∷ xs) [] hx hy same =
    let e : Some x ≡ None = sym (cond-true (is_of x.name x.from x) (Some x) (find_record xs x.name x.from) (is_of-itself x)) ∙ same x.name x.from in cc
same_records (x ∷ xs) (y ∷ ys) hx hy same =
    let here_x : find_record (x ∷ xs) x.name x.from ≡ Some x = cond-true (is_of x.name x.from x) (Some x) (find_record xs x.name x.from) (is_of-itself x) in
    let here_y : find_record (y ∷ ys) y.name y.from ≡ Some y = cond-true (is_of y.name y.from y) (Some y) (find_record ys y.name y.from) (is_of-itself y) in
    ⊎_elim
    (λ x_first. let e : Some x ≡ None = sym here_x ∙ (same x.name x.from ∙ find_record-before x y ys hy x_first) in cc)
    (λ rest. ⊎_elim
    (λ equal_keys.
    let at_y : find_record (x ∷ xs) y.name y.from ≡ Some x = cond-true (is_of y.name y.from x) (Some x) (find_record xs y.name y.from) equal_keys in
    let both : Some x ≡ Some y = sym at_y ∙ (same y.name y.from ∙ here_y) in
    let is : x ≡ y = cc in
    let tails : xs ≡ ys = same_records xs ys (AllPairs-tail IsBefore x xs hx) (AllPairs-tail IsBefore y ys hy) (λ name node. same_tails x y xs ys is hx hy name node (same name node)) in
    λ i. is i ∷ tails i)
    (λ y_first. let e : Some y ≡ None = sym here_y ∙ (sym (same y.name y.from) ∙ find_record-before y x xs hx y_first) in cc)
    rest)
    (key_cases y.name y.from x)
  where
    same_tails : (x y : Record) (xs ys : List Record) → x ≡ y → IsInOrder (x ∷ xs) → IsInOrder (y ∷ ys) → (name node : ℕ) → find_record (x ∷ xs) name node ≡ find_record (y ∷ ys) name node → find_record xs name node ≡ find_record ys name node
    same_tails x y xs ys is hx hy name node e =
        let p = is_of name node in
        ⊎_elim
        (λ here. find_record-behind name node x xs hx here ∙ sym (find_record-behind name node y ys hy (subst (λ z. p z ≡ true) is here)))
        (λ elsewhere.
        sym (cond-false (p x) (Some x) (find p xs) elsewhere)
        ∙ e
        ∙ cond-false (p y) (Some y) (find p ys) (subst (λ z. p z ≡ false) is elsewhere))
        (cases_Bool (p x))

-- a name of which some record is found is one that the records have, and the other way round
pub has_record-found : (records : List Record) (name node : ℕ) (r : Record) → find_record records name node ≡ Some r → has_record records name ≡ true
has_record-found [] name node r e = cc
has_record-found (x ∷ xs) name node r e =
    by (x.name == name) (x.from == node) (λ k. has_record-found xs name node r k) e
  where
    by : (a b : Bool) → (find_record xs name node ≡ Some r → has_record xs name ≡ true) → cond (a && b) (Some x) (find_record xs name node) ≡ Some r → (a || has_record xs name) ≡ true
    by true b more k = refl
    by false b more k = more k

pub found-has_record : (records : List Record) (name : ℕ) → has_record records name ≡ true → (node : ℕ) × (r : Record) × (find_record records name node ≡ Some r)
found-has_record [] name h = cc
found-has_record (x ∷ xs) name h =
    ⊎_elim
    (λ here. (x.from, x, cond-true (is_of name x.from x) (Some x) (find_record xs name x.from) (is_of-named name x here)))
    (λ rest.
    let w = found-has_record xs name rest in
    ⊎_elim
    (λ here. (w.0, x, cond-true (is_of name w.0 x) (Some x) (find_record xs name w.0) here))
    (λ elsewhere. (w.0, w.1, cond-false (is_of name w.0 x) (Some x) (find_record xs name w.0) elsewhere ∙ w.2))
    (cases_Bool (is_of name w.0 x)))
    (or_cases (x.name == name) (has_record xs name) h)
  where
    is_of-named : (name : ℕ) (r : Record) → (r.name == name) ≡ true → is_of name r.from r ≡ true
    is_of-named name r h = grind (arith, nat_tests)

-- which names the records have with one more in its place
pub has_record-with_record : (r : Record) (records : List Record) (q : ℕ) → has_record (with_record r records) q ≡ (r.name == q || has_record records q)
has_record-with_record r records q =
    let new = with_record r records in
    let P : Type 0 = (node : ℕ) × (x : Record) × (find_record new q node ≡ Some x) in
    let here : (r.name ≡ q) → P = λ e. (r.from, r, subst (λ n. find_record new n r.from ≡ Some r) e (find_record-with_record r records)) in
    same_from_decides {P = P} (has_record new q) (r.name == q || has_record records q)
    (found-has_record new q, λ w. has_record-found new q w.0 w.1 w.2) (
      λ h. ⊎_elim
          (λ first. here (eqb-true r.name q first))
          (λ rest.
          let w = found-has_record records q rest in
          ⊎_elim
          (λ same. here (is_of-name q w.0 r same).0)
          (λ other. (w.0, w.1, find_record-with_other r records q w.0 other ∙ w.2))
          (cases_Bool (is_of q w.0 r)))
          (or_cases (r.name == q) (has_record records q) h),
      λ w. ⊎_elim
          (λ same. or_left (r.name == q) (has_record records q) (eq-eqb r.name q (is_of-name q w.0 r same).0))
          (λ other. or_right (r.name == q) (has_record records q) (has_record-found records q w.0 w.1 (sym (find_record-with_other r records q w.0 other) ∙ w.2)))
          (cases_Bool (is_of q w.0 r)),
    )

pub has_record-given : (records : List Record) (name bunch node seq : ℕ) (q : ℕ) → has_record (given records name bunch node seq) q ≡ (name == q || has_record records q)
has_record-given records name bunch node seq q =
    has_record-with_record (sent_by seq (record_or_blank records name bunch node)) records q
    ∙ ap (λ n. n == q || has_record records q) (record_or_blank-key records name bunch node).0

pub has_record-taken_over : (records : List Record) (name bunch node seq : ℕ) (q : ℕ) → has_record (taken_over records name bunch node seq) q ≡ (name == q || has_record records q)
has_record-taken_over records name bunch node seq q =
    has_record-with_record (got_by seq (record_or_blank records name bunch node)) records q
    ∙ ap (λ n. n == q || has_record records q) (record_or_blank-key records name bunch node).0

-- a table brings no name
pub has_record-from_cleaned : (records : List Record) (bunch node sent got : ℕ) (listed : List ℕ) (q : ℕ) → IsInOrder records → has_record (cleaned records bunch node sent got listed) q ≡ true → has_record records q ≡ true
has_record-from_cleaned records bunch node sent got listed q order h =
    let w = found-has_record (cleaned records bunch node sent got listed) q h in
    has_record-found records q w.0 w.1 (find_record-from_cleaned records bunch node sent got listed q w.0 w.1 order w.2).0

-- nor does one of another node touch what is found from a node
pub find_record-cleaned_elsewhere : (records : List Record) (bunch node sent got : ℕ) (listed : List ℕ) (q m : ℕ) → IsInOrder records → (m ≡ node → ⊥) → find_record (cleaned records bunch node sent got listed) q m ≡ find_record records q m
find_record-cleaned_elsewhere records bunch node sent got listed q m order apart =
    find_record-cleaned records bunch node sent got listed q m order ∙ kept (find_record records q m) refl
  where
    kept : (o : Option Record) → find_record records q m ≡ o → option_and_then (λ r. cond (not (is_stale bunch node sent got listed r)) (Some r) None) o ≡ o
    kept None e = refl
    kept (Some r) e =
        let from : r.from ≡ m = (find_record-key records q m r e).1 in
        let elsewhere : (r.from == node) ≡ false = ne_eqb r.from node (λ same. apart (sym from ∙ same)) in
        let fresh : is_stale bunch node sent got listed r ≡ false =
        and_left (is_under bunch node r && is_settled sent got r) (not (is_listed listed r.name))
        (and_left (is_under bunch node r) (is_settled sent got r) (and_right (r.bunch == bunch) (r.from == node) elsewhere)) in
        ap (λ b. cond (not b) (Some r) None) fresh
