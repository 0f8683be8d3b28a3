-- The names of records on the shelves of their nodes: what a new record, a table and more room make of
-- them.
use Rattle.std.proofs.Common.{◌≡◌, ℕ, ◌+◌, ◌-◌, ◌<◌, ◌≤◌, Bool, true, false, cond, not, ◌&&◌, ◌==◌, List, [], ◌∷◌, ◌++◌, length, get_or, set, insert, Option, Some, None, refl, sym, ap, ◌∙◌, subst, arith, filter, All, count_by, add-zero, inl, inr}
use Rattle.std.specs.Option.{option_map_or}
use Rattle.std.proofs.lemmas.Bool.{cases_eq, and_left, and_right, eqb-true, eq-eqb, ne_eqb}
use Rattle.std.proofs.lemmas.List.{get_or_default}
use Rattle.bmx_shelves.specs.Shelves.{Shelved, on_shelf}
use Rattle.bmx_owner.specs.declared.entering.Record.{Record}
use Rattle.bmx_owner.specs.Records.{IsInOrder, is_of, is_ahead, find_record, is_stale, is_under, is_settled, is_listed, cleaned}
use Rattle.bmx_owner.specs.Inside.Named.{ends_name, AreElsewhere, AreNamed, OnShelves, AreShelved, HasOneMore, HasTheSame, Kept}
use Rattle.bmx_owner.proofs.Keys.{is_of-ahead, is_of-itself}
use Rattle.bmx_owner.proofs.Parts.{find_at}
use Rattle.bmx_owner.proofs.Found.{IsInOrder-cleaned, length-cleaned}
use Rattle.bmx_owner.proofs.Counts.{count_by-push, count_by-insert, count_by-set, count_by-filter, count_by-agree, filter-none_pass}

-- each record is the one that is found by its name and node
pub found_each : (list : List Record) → IsInOrder list → All (λ r. find_record list r.name r.from ≡ Some r) list
found_each list order k d within =
    let r : Record = get_or list k d in
    find_at (is_of r.name r.from) list k d within
    (λ j e low high. is_of-ahead r.name r.from (get_or list j e) (subst (λ (y : Record). is_ahead y.name y.from (get_or list j e) ≡ true) (get_or_default list k e d within) (order j k e high within)))
    (is_of-itself r)

-- ## What a table ends

ends_both : (e en st pn : Bool) → (e ≡ true → en ≡ st) → (e ≡ false → st ≡ false) → (e && (not en && pn)) ≡ (not st && (e && pn))
ends_both true en st pn same gone = ap (λ b. not b && pn) (same refl)
ends_both false en st pn same gone = sym (ap (λ b. not b && false) (gone refl))

ends_other : (em st pn : Bool) → (em ≡ true → st ≡ false) → (em && pn) ≡ (not st && (em && pn))
ends_other true st pn gone = sym (ap (λ b. not b && pn) (gone refl))
ends_other false st pn gone = sym (and_right (not st) false refl)

ends_all : (e en st : Bool) → (e ≡ true → en ≡ st) → (e ≡ false → st ≡ false) → (e && en) ≡ st
ends_all true en st same gone = same refl
ends_all false en st same gone = sym (gone refl)

module _ (bunch node sent got : ℕ) (listed : List ℕ) (list : List Record) (order : IsInOrder list) where
  -- of a record of the node the table ends the name where it ends the record
  own : (r : Record) → find_record list r.name r.from ≡ Some r → (r.from == node) ≡ true → ends_name bunch node sent got listed list r.name ≡ is_stale bunch node sent got listed r
  own r found e =
      ap (λ (o : Option Record). option_map_or (is_stale bunch node sent got listed) o false)
      (subst (λ n. find_record list r.name n ≡ Some r) (eqb-true r.from node e) found)

  -- and no record of another node
  elsewhere : (r : Record) → (r.from == node) ≡ false → is_stale bunch node sent got listed r ≡ false
  elsewhere r e =
      and_left (is_under bunch node r && is_settled sent got r) (not (is_listed listed r.name))
      (and_left (is_under bunch node r) (is_settled sent got r) (and_right (r.bunch == bunch) (r.from == node) e))

  -- as many names go as records
  pub as_many_go : (s : Shelved ℕ) → node < 8 → AreNamed list s.shelves → count_by (λ name. ends_name bunch node sent got listed list name) (on_shelf s.shelves node) ≡ count_by (is_stale bunch node sent got listed) list
  as_many_go s lt named =
      named node lt (λ name. ends_name bunch node sent got listed list name)
      ∙ count_by-agree (λ r. r.from == node && ends_name bunch node sent got listed list r.name) (is_stale bunch node sent got listed) list
      (λ k d within.
      let r : Record = get_or list k d in
      ends_all (r.from == node) (ends_name bunch node sent got listed list r.name) (is_stale bunch node sent got listed r) (own r (found_each list order k d within)) (elsewhere r))

  -- the names of the records that stay are on their shelves
  named_still : (s t : Shelved ℕ) → node < 8 → AreNamed list s.shelves → on_shelf t.shelves node ≡ filter (λ name. not (ends_name bunch node sent got listed list name)) (on_shelf s.shelves node) → AreElsewhere node s.shelves t.shelves → AreNamed (filter (λ r. not (is_stale bunch node sent got listed r)) list) t.shelves
  named_still s t lt named here others m within p =
      elim (cases_eq m node) [
        | inl e ↦
            ap (λ n. count_by p (on_shelf t.shelves n)) e
            ∙ ap (count_by p) here
            ∙ count_by-filter p (λ name. not (ends_name bunch node sent got listed list name)) (on_shelf s.shelves node)
            ∙ named node lt (λ name. not (ends_name bunch node sent got listed list name) && p name)
            ∙ count_by-agree (λ r. r.from == node && (not (ends_name bunch node sent got listed list r.name) && p r.name)) (λ r. not (is_stale bunch node sent got listed r) && (r.from == node && p r.name)) list
            (λ k d short.
            let r : Record = get_or list k d in
            ends_both (r.from == node) (ends_name bunch node sent got listed list r.name) (is_stale bunch node sent got listed r) (p r.name) (own r (found_each list order k d short)) (elsewhere r))
            ∙ sym (count_by-filter (λ r. r.from == node && p r.name) (λ r. not (is_stale bunch node sent got listed r)) list)
            ∙ ap (λ n. count_by (λ (r : Record). r.from == n && p r.name) (filter (λ r. not (is_stale bunch node sent got listed r)) list)) (sym e)
        | inr ne ↦
            ap (count_by p) (others m ne)
            ∙ named m within p
            ∙ count_by-agree (λ r. r.from == m && p r.name) (λ r. not (is_stale bunch node sent got listed r) && (r.from == m && p r.name)) list
            (λ k d short.
            let r : Record = get_or list k d in
            ends_other (r.from == m) (is_stale bunch node sent got listed r) (p r.name) (λ at. elsewhere r (ne_eqb r.from node (λ same. ne (sym (eqb-true r.from m at) ∙ same)))))
            ∙ sym (count_by-filter (λ r. r.from == m && p r.name) (λ r. not (is_stale bunch node sent got listed r)) list)
      ]

  pub OnShelves-cleaned : (s t : Shelved ℕ) (room : ℕ) → node < 8 → OnShelves list room s → length t.shelves ≡ 9 → on_shelf t.shelves node ≡ filter (λ name. not (ends_name bunch node sent got listed list name)) (on_shelf s.shelves node) → AreElsewhere node s.shelves t.shelves → t.spare ≡ s.spare + count_by (λ name. ends_name bunch node sent got listed list name) (on_shelf s.shelves node) → OnShelves (filter (λ r. not (is_stale bunch node sent got listed r)) list) (room + count_by (is_stale bunch node sent got listed) list) t
  OnShelves-cleaned s t room lt on count here others spare =
      let gone = as_many_go s lt on.named in
      let some : room ≤ s.spare = on.roomy in
      record {
        count = count;
        seen = others 8 (λ e. absurd (omega arith)) ∙ on.seen;
        roomy = omega (arith, gone, spare, some);
        named = named_still s t lt on.named here others;
      }

  -- where no name goes all records stay
  pub none_go : (s : Shelved ℕ) → node < 8 → AreNamed list s.shelves → count_by (λ name. ends_name bunch node sent got listed list name) (on_shelf s.shelves node) ≡ 0 → filter (λ r. not (is_stale bunch node sent got listed r)) list ≡ list
  none_go s lt named none = filter-none_pass (is_stale bunch node sent got listed) list (sym (as_many_go s lt named) ∙ none)

-- ## A new record, and one in the place of another

pub OnShelves-noted : (old new : List Record) (r : Record) (room : ℕ) (s t : Shelved ℕ) → r.from < 8 → OnShelves old (room + 1) s → HasOneMore r old new → length t.shelves ≡ length s.shelves → on_shelf t.shelves r.from ≡ on_shelf s.shelves r.from ++ r.name ∷ [] → AreElsewhere r.from s.shelves t.shelves → t.spare + 1 ≡ s.spare → OnShelves new room t
OnShelves-noted old new r room s t lt on more count here others spare =
    let some : room + 1 ≤ s.spare = on.roomy in
    record {
      count = count ∙ on.count;
      seen = others 8 (λ e. absurd (omega arith)) ∙ on.seen;
      roomy = omega arith;
      named = λ m within p. elim (cases_eq m r.from) [
        | inl e ↦
            ap (λ n. count_by p (on_shelf t.shelves n)) e
            ∙ ap (count_by p) here
            ∙ count_by-push p (on_shelf s.shelves r.from) r.name
            ∙ ap (λ k. k + cond (p r.name) 1 0) (on.named r.from lt p)
            ∙ ap (λ b. count_by (λ (x : Record). x.from == r.from && p x.name) old + cond (b && p r.name) 1 0) (sym (eq-eqb r.from r.from refl))
            ∙ sym (more (λ x. x.from == r.from && p x.name))
            ∙ ap (λ n. count_by (λ (x : Record). x.from == n && p x.name) new) (sym e)
        | inr ne ↦
            ap (count_by p) (others m ne)
            ∙ on.named m within p
            ∙ sym (add-zero (count_by (λ (x : Record). x.from == m && p x.name) old))
            ∙ ap (λ b. count_by (λ (x : Record). x.from == m && p x.name) old + cond (b && p r.name) 1 0) (sym (ne_eqb r.from m (λ same. ne (sym same))))
            ∙ sym (more (λ x. x.from == m && p x.name))
      ];
    }

pub HasOneMore-inserted : (list : List Record) (i : ℕ) (r : Record) → HasOneMore r list (insert list i r)
HasOneMore-inserted list i r p = count_by-insert p list i r

pub HasTheSame-set : (list : List Record) (i : ℕ) (r d : Record) → i < length list → r.name ≡ (get_or list i d).name → r.from ≡ (get_or list i d).from → HasTheSame list (set list i r)
HasTheSame-set list i r d within name from m p =
    count_by-set (λ x. x.from == m && p x.name) list i r d within
    (ap (λ n. n == m && p r.name) from ∙ ap (λ n. (get_or list i d).from == m && p n) name)

pub AreShelved-same : (old new : List Record) (room : ℕ) (names : Option (Shelved ℕ)) → 0 < length old → HasTheSame old new → AreShelved old room names → AreShelved new room names
AreShelved-same old new room None some same on =
    let empty : length old ≡ 0 = ap length on.0 in
    absurd (omega arith)
AreShelved-same old new room (Some s) some same on = record {
  count = on.count;
  seen = on.seen;
  roomy = on.roomy;
  named = λ m lt p. on.named m lt p ∙ sym (same m p);
}

-- ## More room

pub OnShelves-roomier : (list : List Record) (room more : ℕ) (s t : Shelved ℕ) → OnShelves list room s → length t.shelves ≡ length s.shelves → ((m : ℕ) → on_shelf t.shelves m ≡ on_shelf s.shelves m) → t.spare ≡ s.spare + more → OnShelves list (room + more) t
OnShelves-roomier list room more s t on count items spare =
    let some : room ≤ s.spare = on.roomy in
    record {
      count = count ∙ on.count;
      seen = items 8 ∙ on.seen;
      roomy = omega arith;
      named = λ m lt p. ap (count_by p) (items m) ∙ on.named m lt p;
    }

pub OnShelves-first : (list : List Record) (room : ℕ) (s : Shelved ℕ) → (list ≡ []) × (room ≡ 0) → length s.shelves ≡ 9 → ((m : ℕ) → on_shelf s.shelves m ≡ []) → OnShelves list room s
OnShelves-first list room s none count items =
    let empty : room ≡ 0 = none.1 in
    record {
      count = count;
      seen = items 8;
      roomy = omega arith;
      named = λ m lt p. ap (count_by p) (items m) ∙ ap (count_by (λ (r : Record). r.from == m && p r.name)) (sym none.0);
    }

-- ## What is kept of the records that a table leaves

pub Kept-cleaned : (bunch node sent got : ℕ) (listed : List ℕ) (items left : List Record) (len capacity room left_len left_capacity before after : ℕ) (names walked : Option (Shelved ℕ)) → Kept items len capacity room names → len ≡ length items → left_len ≡ length left → capacity ≤ left_capacity → before ≡ len → after ≡ left_len → left ≡ cleaned items bunch node sent got listed → AreShelved (cleaned items bunch node sent got listed) (room + count_by (is_stale bunch node sent got listed) items) walked → Kept left left_len left_capacity (room + (before - after)) walked
Kept-cleaned bunch node sent got listed items left len capacity room left_len left_capacity before after names walked kept len_is left_is larger before_is after_is is shelved =
    let all : length (cleaned items bunch node sent got listed) + count_by (is_stale bunch node sent got listed) items ≡ length items = length-cleaned items bunch node sent got listed in
    let some : length left ≡ length (cleaned items bunch node sent got listed) = ap length is in
    let fits : len + room ≤ capacity = kept.fits in
    let gone : before - after ≡ count_by (is_stale bunch node sent got listed) items = omega (arith, all, some, len_is, left_is, before_is, after_is) in
    record {
      order = subst IsInOrder (sym is) (IsInOrder-cleaned items bunch node sent got listed kept.order);
      fits = omega (arith, all, some, len_is, left_is, before_is, after_is, fits, larger);
      shelved = subst (λ k. AreShelved left (room + k) walked) (sym gone) (subst (λ xs. AreShelved xs (room + count_by (is_stale bunch node sent got listed) items) walked) (sym is) shelved);
    }
