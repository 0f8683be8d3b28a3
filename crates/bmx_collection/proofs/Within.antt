-- What a node knows and has records of stays below a bound: as a store opens, and by changes of names below it.
use Rattle.std.proofs.Common.{◌≡◌, ℕ, ◌<◌, ◌≤◌, ◌==◌, ◌&&◌, nat_lt, Bool, true, false, cond, List, [], ◌∷◌, find, refl, ap, sym, ◌∙◌, subst, arith}
use Rattle.std.specs.Prelude.{Option, Some, None, is_some, unwrap_or}
use Rattle.std.specs.Option.{option_map, option_map_or}
use Rattle.std.proofs.lemmas.Bool.Decides.{nat_tests}
use Rattle.bmx_types.specs.Updates.{put, put_at}
use Rattle.bmx_types.specs.declared.addresses.Info.{Info}
use Rattle.bmx_types.specs.declared.openings.Birth.{Birth}
use Rattle.bmx_owner.specs.declared.entering.Record.{Record}
use Rattle.bmx_owner.specs.Records.{is_listed, blank, sent_by, got_by}
use Rattle.bmx_table.specs.declared.tables.Table.{Table}
use Rattle.bmx_clean.specs.Cleaning.{record_left, ends_record}
use Rattle.bmx_protocol.specs.Nodes.{Setting, NodeState, Known, owned_birth, heard_birth, birth_of, is_anchor, first_known, first_entering, first_state}
use Rattle.bmx_protocol.specs.Changes.{Change, Sets, Makes, Knows, Hears, Gives, Gets, Issues, Takes, heard_of, heard, record_of, after_change, after_changes, with_step}
use Rattle.bmx_protocol.proofs.Basics.{eqb_is}
use Rattle.bmx_collection.specs.Forgetting.{forgotten}
use Rattle.bmx_collection.specs.Tables.{state_cleaned}
use Rattle.bmx_collection.specs.Laws.{IsRecordBelow, IsWithin}
use Rattle.bmx_collection.proofs.Listing.{both}
use Rattle.bmx_collection.proofs.Tokens.{left_was}

pub is_less : (a b : ℕ) → nat_lt a b ≡ true → a < b
is_less a b e = grind (arith, nat_tests)

-- ## as a store opens

abbrev pub births_below : ℕ → List Birth → Bool
births_below n [] = true
births_below n (b ∷ bs) = nat_lt b.name n && births_below n bs

birth_below : (n : ℕ) (bs : List Birth) (name : ℕ) (b : Birth) → births_below n bs ≡ true → find (λ b. b.name == name) bs ≡ Some b → name < n
birth_below n [] name b all e = cc
birth_below n (x ∷ bs) name b all e =
    let split : (nat_lt x.name n ≡ true) × (births_below n bs ≡ true) = both (nat_lt x.name n) (births_below n bs) all in
    by (x.name == name) refl e split.0 (birth_below n bs name b split.1)
  where
    by : (t : Bool) → (x.name == name) ≡ t → cond t (Some x) (find (λ b. b.name == name) bs) ≡ Some b → nat_lt x.name n ≡ true →
        (find (λ b. b.name == name) bs ≡ Some b → name < n) → name < n
    by true is e less rest = subst (λ (y : ℕ). y < n) (eqb_is x.name name is) (is_less x.name n less)
    by false is e less rest = rest e

module _ (n : ℕ) (st : Setting) (me : ℕ) (all : births_below n st.births ≡ true) (nodes : st.nodes ≤ n) where
  known_below : (name : ℕ) (k : Known) → first_known st me name ≡ Some k → name < n
  known_below name k e = by (me == 0) (nat_lt me st.nodes && is_anchor st name) (birth_of st name) refl e
    where
      by : (a c : Bool) (o : Option Birth) → birth_of st name ≡ o → cond a (option_map owned_birth o) (cond c (option_map heard_birth o) None) ≡ Some k → name < n
      by true c None is e = cc
      by false true None is e = cc
      by false false None is e = cc
      by true c (Some b) is e = birth_below n st.births name b all is
      by false true (Some b) is e = birth_below n st.births name b all is
      by false false (Some b) is e = cc

  entering_below : (name node : ℕ) (r : Record) → first_entering st me name node ≡ Some r → IsRecordBelow n name node r
  entering_below name node r e = by (me == 0) (nat_lt 0 node) (nat_lt node st.nodes) (is_anchor st name) (birth_of st name) refl refl e
    where
      by : (m a b c : Bool) (o : Option Birth) → nat_lt node st.nodes ≡ b → birth_of st name ≡ o →
          cond (m && a && b && c) (option_map (λ (x : Birth). blank name x.bunch node) o) None ≡ Some r → IsRecordBelow n name node r
      by true true true true (Some x) less is e =
          let same : blank name x.bunch node ≡ r = cc in
          let below : node < st.nodes = is_less node st.nodes less in
          subst (IsRecordBelow n name node) same
          (record { of_name = refl; of_node = refl; name_below = birth_below n st.births name x all is; node_below = omega (arith, below, nodes) })
      by m a b c o less is e = cc

  pub first_within : IsWithin n (first_state st me)
  first_within = record { names = known_below; records = entering_below }

-- ## by changes

-- a change speaks of names and nodes below n
abbrev pub change_below : ℕ → Change → Bool
change_below n (Sets register v) = true
change_below n Makes = true
change_below n (Knows name k) = nat_lt name n
change_below n (Hears from info) = nat_lt info.name n
change_below n (Gives name to seq) = nat_lt name n && nat_lt to n
change_below n (Gets name from seq) = nat_lt name n && nat_lt from n
change_below n (Issues to) = true
change_below n (Takes from) = true

abbrev pub changes_below : ℕ → List Change → Bool
changes_below n [] = true
changes_below n (c ∷ cs) = change_below n c && changes_below n cs

put_below : (n : ℕ) (known : ℕ → Option Known) (name : ℕ) (k : Known) → ((x : ℕ) (j : Known) → known x ≡ Some j → x < n) → name < n →
    (x : ℕ) (j : Known) → put known name (Some k) x ≡ Some j → x < n
put_below n known name k names less x j e = by (name == x) refl e
  where
    by : (t : Bool) → (name == x) ≡ t → cond t (Some k) (known x) ≡ Some j → x < n
    by true is e = subst (λ (y : ℕ). y < n) (eqb_is name x is) less
    by false is e = names x j e

heard_below : (n from : ℕ) (known : ℕ → Option Known) (info : Info) → ((x : ℕ) (j : Known) → known x ≡ Some j → x < n) → info.name < n →
    (x : ℕ) (j : Known) → heard from known info x ≡ Some j → x < n
heard_below n from known info names less = by (is_some (known info.name))
  where
    by : (t : Bool) (x : ℕ) (j : Known) → cond t known (put known info.name (Some (heard_of from info))) x ≡ Some j → x < n
    by true x j e = names x j e
    by false x j e = put_below n known info.name (heard_of from info) names less x j e

-- the record of a name and a node, as it stood or a blank one
record_of_is : (n : ℕ) (s : NodeState) (name node : ℕ) → IsWithin n s → ((record_of s name node).name ≡ name) × ((record_of s name node).from ≡ node)
record_of_is n s name node w = by (s.entering name node) refl
  where
    by : (o : Option Record) → s.entering name node ≡ o →
        ((unwrap_or o (blank name (option_map_or (λ (k : Known). k.bunch) (s.known name) 0) node)).name ≡ name)
        × ((unwrap_or o (blank name (option_map_or (λ (k : Known). k.bunch) (s.known name) 0) node)).from ≡ node)
    by None e = (refl, refl)
    by (Some r) e = ((w.records name node r e).of_name, (w.records name node r e).of_node)

put_record_below : (n : ℕ) (entering : ℕ → ℕ → Option Record) (name node : ℕ) (r : Record) →
    ((x m : ℕ) (q : Record) → entering x m ≡ Some q → IsRecordBelow n x m q) → IsRecordBelow n name node r →
    (x m : ℕ) (q : Record) → put_at entering name node (Some r) x m ≡ Some q → IsRecordBelow n x m q
put_record_below n entering name node r records is x m q e = by (name == x) (node == m) refl refl e
  where
    by : (t u : Bool) → (name == x) ≡ t → (node == m) ≡ u → cond t (λ (y : ℕ). cond (node == y) (Some r) (entering name y)) (entering x) m ≡ Some q → IsRecordBelow n x m q
    by true true same_name same_node e =
        let it : cond true (Some r) (entering name m) ≡ Some q = sym (ap (λ (b : Bool). cond b (Some r) (entering name m)) same_node) ∙ e in
        let one : r ≡ q = cc in
        subst (λ (y : ℕ). IsRecordBelow n y m q) (eqb_is name x same_name) (subst (λ (y : ℕ). IsRecordBelow n name y q) (eqb_is node m same_node) (subst (IsRecordBelow n name node) one is))
    by true false same_name other e =
        let it : cond false (Some r) (entering name m) ≡ Some q = sym (ap (λ (b : Bool). cond b (Some r) (entering name m)) other) ∙ e in
        subst (λ (y : ℕ). IsRecordBelow n y m q) (eqb_is name x same_name) (records name m q it)
    by false u other place e = records x m q e

record_below : (n : ℕ) (s : NodeState) (name node : ℕ) (r : Record) → r.name ≡ (record_of s name node).name → r.from ≡ (record_of s name node).from →
    IsWithin n s → name < n → node < n → IsRecordBelow n name node r
record_below n s name node r same_name same_node w a b =
    let is : ((record_of s name node).name ≡ name) × ((record_of s name node).from ≡ node) = record_of_is n s name node w in
    record { of_name = same_name ∙ is.0; of_node = same_node ∙ is.1; name_below = a; node_below = b }

change_within : (n : ℕ) (s : NodeState) (c : Change) → change_below n c ≡ true → IsWithin n s → IsWithin n (after_change s c)
change_within n s (Sets register v) ok w = record { names = w.names; records = w.records }
change_within n s Makes ok w = record { names = w.names; records = w.records }
change_within n s (Knows name k) ok w = record { names = put_below n s.known name k w.names (is_less name n ok); records = w.records }
change_within n s (Hears from info) ok w = record { names = heard_below n from s.known info w.names (is_less info.name n ok); records = w.records }
change_within n s (Gives name to seq) ok w =
    let less : (nat_lt name n ≡ true) × (nat_lt to n ≡ true) = both (nat_lt name n) (nat_lt to n) ok in
    record {
      names = w.names;
      records = put_record_below n s.entering name to (sent_by seq (record_of s name to)) w.records
          (record_below n s name to (sent_by seq (record_of s name to)) refl refl w (is_less name n less.0) (is_less to n less.1));
    }
change_within n s (Gets name from seq) ok w =
    let less : (nat_lt name n ≡ true) × (nat_lt from n ≡ true) = both (nat_lt name n) (nat_lt from n) ok in
    record {
      names = w.names;
      records = put_record_below n s.entering name from (got_by seq (record_of s name from)) w.records
          (record_below n s name from (got_by seq (record_of s name from)) refl refl w (is_less name n less.0) (is_less from n less.1));
    }
change_within n s (Issues to) ok w = record { names = w.names; records = w.records }
change_within n s (Takes from) ok w = record { names = w.names; records = w.records }

pub changes_within : (n : ℕ) (cs : List Change) (s : NodeState) → changes_below n cs ≡ true → IsWithin n s → IsWithin n (after_changes s cs)
changes_within n [] s ok w = w
changes_within n (c ∷ cs) s ok w =
    let split : (change_below n c ≡ true) × (changes_below n cs ≡ true) = both (change_below n c) (changes_below n cs) ok in
    changes_within n cs (after_change s c) split.1 (change_within n s c split.0 w)

pub step_within : (n : ℕ) (s : NodeState) → IsWithin n s → IsWithin n (with_step s)
step_within n s w = record { names = w.names; records = w.records }

-- ## by a collector

pub forgotten_within : (n bunch : ℕ) (kept : List ℕ) (s : NodeState) → IsWithin n s → IsWithin n (forgotten bunch kept s)
forgotten_within n bunch kept s w = record {
  names = λ name k e. w.names name k (left_was bunch (is_listed kept name) (s.known name) k e);
  records = w.records;
}

record_was : (taken : ℕ) (t : Table) (o : Option Record) (r : Record) → record_left taken t o ≡ Some r → o ≡ Some r
record_was taken t None r e = e
record_was taken t (Some q) r e = by (ends_record taken t q) e
  where
    by : (b : Bool) → cond b None (Some q) ≡ Some r → Some q ≡ Some r
    by true e = cc
    by false e = e

pub cleaned_within : (n : ℕ) (t : Table) (s : NodeState) → IsWithin n s → IsWithin n (state_cleaned t s)
cleaned_within n t s w = record {
  names = w.names;
  records = λ name node r e. w.records name node r (record_was (s.taken t.from) t (s.entering name node) r e);
}
