-- Letters that a node issues, seen for one name: the model issues them one after another, and records and counts
-- are then those of the node's state.
use Rattle.std.proofs.Common.{◌≡◌, ℕ, ◌+◌, arith, refl, ap, sym, subst, ◌∙◌, Bool, true, false, cond, List, [], ◌∷◌, ◌++◌, map, append_assoc}
use Rattle.std.specs.Prelude.{◌==◌, ◌||◌, max, Option, Some, None, unwrap_or}
use Rattle.std.specs.List.{flat_map}
use Rattle.std.proofs.lemmas.List.{append-nil}
use Rattle.std.proofs.lemmas.Bool.Decides.{nat_tests}
use Rattle.bmx_types.specs.declared.numbers.Mode.TheVariants as mode
use Rattle.bmx_types.specs.Updates.{put, put_at}
use Rattle.bmx_msg.specs.declared.letters.Letter.{Letter}
use Rattle.bmx_msg.specs.declared.letters.Msg.{Msg}
use Rattle.bmx_msg.specs.declared.letters.Msg.TheVariants as msg
use Rattle.bmx_msg.specs.Letters.{given, targets}
use Rattle.bmx_owner.specs.declared.entering.Record.{Record}
use Rattle.bmx_owner.specs.Records.{sent_by, got_by}
use Rattle.bmx_token.specs.Transitions.{Note, Grants}
use Rattle.bmx_token_model.specs.Machine.{Message, Numbers, Object, no_numbers, is_gift, gives, sent_in, got_in, issue, issue_all}
use Rattle.bmx_protocol.specs.declared.inputs.Sending.{Sending}
use Rattle.bmx_protocol.specs.Nodes.{NodeState}
use Rattle.bmx_protocol.specs.Changes.{Change, Sets, Makes, Knows, Hears, Gives, Gets, Issues, Takes, record_of, after_change, after_changes}
use Rattle.bmx_protocol.specs.Rules.{Draft}
use Rattle.bmx_protocol.specs.Steps.{numbered, sent_changes}
use Rattle.bmx_protocol.specs.Histories.{letters_to}
use Rattle.bmx_protocol.proofs.Changing.{after_append, Each, each_append}
use Rattle.bmx_protocol.proofs.Counts.{letter_issues}
use Rattle.bmx_store_laws.specs.Inside.Seen.{has_name, seen_note, tells_of, seen_message, seen_draft, seen_record}
use Rattle.bmx_protocol.proofs.Basics.{eqb_of, eqb_same, Two, Same, Apart, two, put_at_row, put_at_else}

-- the records of x at a node
abbrev pub records_of : ℕ → NodeState → ℕ → Option Numbers
records_of x s m = seen_record (s.entering x m)

abbrev pub numbers_in : Record → Numbers
numbers_in r = record { sent = r.sent; got = r.got }

-- ## the names that a letter gives

asks_give : (b : Bool) (n : Note) → is_gift n ≡ false → gives (cond b (Some n) None) false ≡ false
asks_give true n h = ap (λ (g : Bool). g || false) h
asks_give false n h = refl

pub notes_give : (x : ℕ) (m : Msg) → gives (seen_note x m) (tells_of x m) ≡ has_name x (given m)
notes_give x (msg.ReadReq name asker) = asks_give (name == x) _ refl
notes_give x (msg.WriteReq name asker) = asks_give (name == x) _ refl
notes_give x (msg.ReadGrant info fields) = by_test (info.name == x)
  where
    by_test : (b : Bool) → gives (cond b (Some (Grants mode.Read)) None) (has_name x (targets fields)) ≡ (b || has_name x (targets fields))
    by_test true = refl
    by_test false = refl
notes_give x (msg.WriteGrant info fields) = by_test (info.name == x)
  where
    by_test : (b : Bool) → gives (cond b (Some (Grants mode.Write)) None) (has_name x (targets fields)) ≡ has_name x (targets fields)
    by_test true = refl
    by_test false = refl
notes_give x (msg.Inval name) = asks_give (name == x) _ refl
notes_give x (msg.InvAck name) = asks_give (name == x) _ refl

-- ## their records

-- records once letter number seq to a node gave the object, or not
abbrev pub given_records : Bool → (ℕ → Option Numbers) → ℕ → ℕ → ℕ → Option Numbers
given_records b f to seq m = cond b (cond (to == m) (Some (sent_in seq (f to))) (f m)) (f m)

max_again : (a b : ℕ) → max (max a b) b ≡ max a b
max_again a b = grind (arith, nat_tests)

sent_again : (seq : ℕ) (r : Option Numbers) → sent_in seq (Some (sent_in seq r)) ≡ sent_in seq r
sent_again seq None i = record { sent = max_again 0 seq i; got = 0 }
sent_again seq (Some r) i = record { sent = max_again r.sent seq i; got = r.got }

-- a record that is written over another, or over none
pub sent_is : (seq : ℕ) (r : Option Record) (d : Record) → numbers_in d ≡ no_numbers → numbers_in (sent_by seq (unwrap_or r d)) ≡ sent_in seq (seen_record r)
sent_is seq None d blank = ap (λ (q : Numbers). record q { sent = max q.sent seq }) blank
sent_is seq (Some r) d blank = refl

pub got_is : (seq : ℕ) (r : Option Record) (d : Record) → numbers_in d ≡ no_numbers → numbers_in (got_by seq (unwrap_or r d)) ≡ got_in seq (seen_record r)
got_is seq None d blank = ap (λ (q : Numbers). record q { got = max q.got seq }) blank
got_is seq (Some r) d blank = refl

-- the records of x where the record of a name and a node is another
pub record_at : (s : NodeState) (y to x m : ℕ) (r : Record) →
    seen_record (put_at s.entering y to (Some r) x m)
    ≡ cond (y == x) (cond (to == m) (Some (numbers_in r)) (records_of x s m)) (records_of x s m)
record_at s y to x m r = by_two (two y x)
  where
    by_test : (d : Bool) (e : Option Record) → seen_record (cond d (Some r) e) ≡ cond d (Some (numbers_in r)) (seen_record e)
    by_test true e = refl
    by_test false e = refl

    here : seen_record (put_at s.entering y to (Some r) y m) ≡ cond (y == y) (cond (to == m) (Some (numbers_in r)) (records_of y s m)) (records_of y s m)
    here = ap seen_record (put_at_row s.entering y to m (Some r)) ∙ by_test (to == m) (s.entering y m)
        ∙ ap (λ (b : Bool). cond b (cond (to == m) (Some (numbers_in r)) (records_of y s m)) (records_of y s m)) (sym (eqb_same y))

    by_two : Two y x → seen_record (put_at s.entering y to (Some r) x m)
        ≡ cond (y == x) (cond (to == m) (Some (numbers_in r)) (records_of x s m)) (records_of x s m)
    by_two (Same e) = subst (λ (z : ℕ). seen_record (put_at s.entering y to (Some r) z m)
        ≡ cond (y == z) (cond (to == m) (Some (numbers_in r)) (records_of z s m)) (records_of z s m)) e here
    by_two (Apart h d) = ap seen_record (put_at_else s.entering y to x m (Some r) h)
        ∙ ap (λ (b : Bool). cond b (cond (to == m) (Some (numbers_in r)) (records_of x s m)) (records_of x s m)) (sym h)

-- one name is given
name_numbers : (x to seq y : ℕ) (s : NodeState) (m : ℕ) →
    records_of x (after_change s (Gives y to seq)) m ≡ given_records (y == x) (records_of x s) to seq m
name_numbers x to seq y s m =
    record_at s y to x m (sent_by seq (record_of s y to)) ∙ by_two (two y x)
  where
    by_two : Two y x →
        cond (y == x) (cond (to == m) (Some (numbers_in (sent_by seq (record_of s y to)))) (records_of x s m)) (records_of x s m)
        ≡ given_records (y == x) (records_of x s) to seq m
    by_two (Same e) = ap (λ (r : Numbers). cond (y == x) (cond (to == m) (Some r) (records_of x s m)) (records_of x s m))
        (sent_is seq (s.entering y to) _ refl ∙ ap (λ (z : ℕ). sent_in seq (records_of z s to)) e)
    by_two (Apart h d) = rw h refl

-- and another
given_twice : (b l : Bool) (f : ℕ → Option Numbers) (to seq m : ℕ) → given_records l (given_records b f to seq) to seq m ≡ given_records (b || l) f to seq m
given_twice false l f to seq m = refl
given_twice true false f to seq m = refl
given_twice true true f to seq m = by_test (to == m)
  where
    by_test : (d : Bool) → cond d (Some (sent_in seq (cond (to == to) (Some (sent_in seq (f to))) (f to)))) (cond d (Some (sent_in seq (f to))) (f m))
        ≡ cond d (Some (sent_in seq (f to))) (f m)
    by_test true = ap (λ (b : Bool). Some (sent_in seq (cond b (Some (sent_in seq (f to))) (f to)))) (eqb_same to) ∙ ap Some (sent_again seq (f to))
    by_test false = refl

names_numbers : (x to seq : ℕ) (names : List ℕ) (s : NodeState) (m : ℕ) →
    records_of x (after_changes s (map (λ name. Gives name to seq) names)) m ≡ given_records (has_name x names) (records_of x s) to seq m
names_numbers x to seq [] s m = refl
names_numbers x to seq (y ∷ names) s m =
    names_numbers x to seq names (after_change s (Gives y to seq)) m
    ∙ (λ i. given_records (has_name x names) (λ k. name_numbers x to seq y s k i) to seq m)
    ∙ given_twice (y == x) (has_name x names) (records_of x s) to seq m

-- ## one letter

-- the letter of a draft
abbrev pub sending : NodeState → ℕ → Draft → Sending
sending s stamp d = record { to = d.to; letter = record { seq = s.issued d.to + 1; stamp = stamp; msg = d.msg } }

-- the records and counts of an object at a node are those of a state
pub record IsAt (x : ℕ) (o : Object) (me : ℕ) (s : NodeState) : Type 0 where
  pub records : (m : ℕ) → o.entering me m ≡ records_of x s m
  pub counts : (m : ℕ) → o.issued me m ≡ s.issued m

letter_numbers : (x : ℕ) (s : NodeState) (l : Sending) (m : ℕ) →
    records_of x (after_changes s (sent_changes l)) m ≡ given_records (has_name x (given l.letter.msg)) (records_of x s) l.to l.letter.seq m
letter_numbers x s l m =
    ap (λ (t : NodeState). records_of x t m) (after_append s (map (λ name. Gives name l.to l.letter.seq) (given l.letter.msg)) (Issues l.to ∷ []))
    ∙ names_numbers x l.to l.letter.seq (given l.letter.msg) s m

one_at : (x : ℕ) (o : Object) (me stamp : ℕ) (s : NodeState) (d : Draft) → IsAt x o me s →
    IsAt x (issue o me (seen_draft x d)) me (after_changes s (sent_changes (sending s stamp d)))
one_at x o me stamp s d at = record {
  records = λ m. records m (gives (seen_note x d.msg) (tells_of x d.msg)) (notes_give x d.msg) ∙ sym (letter_numbers x s (sending s stamp d) m);
  counts = λ m. put_at_row o.issued me d.to m (o.issued me d.to + 1)
      ∙ (λ i. cond (d.to == m) (at.counts d.to i + 1) (at.counts m i))
      ∙ ap (λ (f : ℕ → ℕ). f m) (sym (letter_issues s (sending s stamp d)));
}
  where
    seq : ℕ
    seq = o.issued me d.to + 1

    records : (m : ℕ) (b : Bool) → b ≡ has_name x (given d.msg) →
        cond b (put_at o.entering me d.to (Some (sent_in seq (o.entering me d.to)))) o.entering me m
        ≡ given_records (has_name x (given d.msg)) (records_of x s) d.to (s.issued d.to + 1) m
    records m true is =
        put_at_row o.entering me d.to m (Some (sent_in seq (o.entering me d.to)))
        ∙ (λ i. given_records true (λ k. at.records k i) d.to (at.counts d.to i + 1) m)
        ∙ ap (λ (b : Bool). given_records b (records_of x s) d.to (s.issued d.to + 1) m) is
    records m false is = at.records m ∙ ap (λ (b : Bool). given_records b (records_of x s) d.to (s.issued d.to + 1) m) is

-- ## all letters

-- an object after node me has issued letters, beside what it was
pub record IsSent (x : ℕ) (o q : Object) (me : ℕ) (s : NodeState) (letters : List Sending) : Type 0 where
  pub holds : q.holds ≡ o.holds
  pub taken : q.taken ≡ o.taken
  pub channel : (n m : ℕ) → q.channel n m ≡ cond (me == n) (o.channel n m ++ map (seen_message x) (letters_to m letters)) (o.channel n m)
  pub at : IsAt x q me (after_changes s (flat_map sent_changes letters))
  pub records_else : (n m : ℕ) → (me == n) ≡ false → q.entering n m ≡ o.entering n m
  pub issued_else : (n m : ℕ) → (me == n) ≡ false → q.issued n m ≡ o.issued n m

same_way : {A : Type 0} (b : Bool) (w : List A) → w ≡ cond b (w ++ []) w
same_way true w = sym (append-nil w)
same_way false w = refl

-- the letters in a channel after the first of them, and after all
way_first : (x : ℕ) (o : Object) (me stamp : ℕ) (s : NodeState) (d : Draft) (rest : List Sending) → IsAt x o me s → (n m : ℕ) →
    cond (me == n) ((issue o me (seen_draft x d)).channel n m ++ map (seen_message x) (letters_to m rest)) ((issue o me (seen_draft x d)).channel n m)
    ≡ cond (me == n) (o.channel n m ++ map (seen_message x) (letters_to m (sending s stamp d ∷ rest))) (o.channel n m)
way_first x o me stamp s d rest at n m = by_two (two me n)
  where
    message : Message
    message = record { seq = o.issued me d.to + 1; note = seen_note x d.msg; tells = tells_of x d.msg }

    l : Letter
    l = record { seq = s.issued d.to + 1; stamp = stamp; msg = d.msg }

    is : message ≡ seen_message x l
    is i = record { seq = at.counts d.to i + 1; note = seen_note x d.msg; tells = tells_of x d.msg }

    more : List Message
    more = map (seen_message x) (letters_to m rest)

    by_to : Two d.to m → put (o.channel me) d.to (o.channel me d.to ++ message ∷ []) m ++ more
        ≡ o.channel me m ++ map (seen_message x) (cond (d.to == m) (l ∷ letters_to m rest) (letters_to m rest))
    by_to (Same e) =
        (λ i. cond (eqb_of e i) (o.channel me (e i) ++ message ∷ []) (o.channel me m) ++ more)
        ∙ append_assoc (o.channel me m) (message ∷ []) more
        ∙ ap (λ (k : Message). o.channel me m ++ k ∷ more) is
        ∙ (λ i. o.channel me m ++ map (seen_message x) (cond (sym (eqb_of e) i) (l ∷ letters_to m rest) (letters_to m rest)))
    by_to (Apart h e) =
        (λ i. cond (h i) (o.channel me d.to ++ message ∷ []) (o.channel me m) ++ more)
        ∙ (λ i. o.channel me m ++ map (seen_message x) (cond (sym h i) (l ∷ letters_to m rest) (letters_to m rest)))

    by_two : Two me n →
        cond (me == n) (put_at o.channel me d.to (o.channel me d.to ++ message ∷ []) n m ++ more) (put_at o.channel me d.to (o.channel me d.to ++ message ∷ []) n m)
        ≡ cond (me == n) (o.channel n m ++ map (seen_message x) (letters_to m (sending s stamp d ∷ rest))) (o.channel n m)
    by_two (Same e) = subst (λ (z : ℕ). cond (me == z) (put_at o.channel me d.to (o.channel me d.to ++ message ∷ []) z m ++ more) (put_at o.channel me d.to (o.channel me d.to ++ message ∷ []) z m)
        ≡ cond (me == z) (o.channel z m ++ map (seen_message x) (letters_to m (sending s stamp d ∷ rest))) (o.channel z m)) e
        ((λ i. cond (eqb_same me i) (put_at o.channel me d.to (o.channel me d.to ++ message ∷ []) me m ++ more) (put_at o.channel me d.to (o.channel me d.to ++ message ∷ []) me m))
        ∙ ap (λ (w : List Message). w ++ more) (put_at_row o.channel me d.to m (o.channel me d.to ++ message ∷ []))
        ∙ by_to (two d.to m)
        ∙ (λ i. cond (sym (eqb_same me) i) (o.channel me m ++ map (seen_message x) (letters_to m (sending s stamp d ∷ rest))) (o.channel me m)))
    by_two (Apart h e) =
        (λ i. cond (h i) (put_at o.channel me d.to (o.channel me d.to ++ message ∷ []) n m ++ more) (put_at o.channel me d.to (o.channel me d.to ++ message ∷ []) n m))
        ∙ put_at_else o.channel me d.to n m (o.channel me d.to ++ message ∷ []) h
        ∙ (λ i. cond (sym h i) (o.channel n m ++ map (seen_message x) (letters_to m (sending s stamp d ∷ rest))) (o.channel n m))

entering_else : (o : Object) (me : ℕ) (x : ℕ) (d : Draft) (n m : ℕ) → (me == n) ≡ false → (issue o me (seen_draft x d)).entering n m ≡ o.entering n m
entering_else o me x d n m h = by_test (gives (seen_note x d.msg) (tells_of x d.msg))
  where
    by_test : (b : Bool) → cond b (put_at o.entering me d.to (Some (sent_in (o.issued me d.to + 1) (o.entering me d.to)))) o.entering n m ≡ o.entering n m
    by_test true = put_at_else o.entering me d.to n m _ h
    by_test false = refl

pub all_sent : (x me stamp : ℕ) (drafts : List Draft) (o : Object) (s : NodeState) → IsAt x o me s →
    IsSent x o (issue_all o me (map (seen_draft x) drafts)) me s (numbered s.issued stamp drafts)
all_sent x me stamp [] o s at = record {
  holds = refl;
  taken = refl;
  channel = λ n m. same_way (me == n) (o.channel n m);
  at = at;
  records_else = λ n m h. refl;
  issued_else = λ n m h. refl;
}
all_sent x me stamp (d ∷ drafts) o s at = by_rest (numbered t.issued stamp drafts) (ap (λ (f : ℕ → ℕ). numbered f stamp drafts) (letter_issues s l))
    (all_sent x me stamp drafts p t (one_at x o me stamp s d at))
  where
    l : Sending
    l = sending s stamp d

    p : Object
    p = issue o me (seen_draft x d)

    t : NodeState
    t = after_changes s (sent_changes l)

    q : Object
    q = issue_all p me (map (seen_draft x) drafts)

    by_rest : (rest : List Sending) → rest ≡ numbered (put s.issued d.to (s.issued d.to + 1)) stamp drafts → IsSent x p q me t rest →
        IsSent x o q me s (l ∷ numbered (put s.issued d.to (s.issued d.to + 1)) stamp drafts)
    by_rest rest is sent = subst (λ (k : List Sending). IsSent x o q me s (l ∷ k)) is record {
      holds = sent.holds;
      taken = sent.taken;
      channel = λ n m. sent.channel n m ∙ way_first x o me stamp s d rest at n m;
      at = subst (IsAt x q me) (sym (after_append s (sent_changes l) (flat_map sent_changes rest))) sent.at;
      records_else = λ n m h. sent.records_else n m h ∙ entering_else o me x d n m h;
      issued_else = λ n m h. sent.issued_else n m h ∙ put_at_else o.issued me d.to n m (o.issued me d.to + 1) h;
    }

-- ## what letters leave

-- a change of what was issued and given alone
abbrev pub IsSending : Change → Type 0
IsSending (Sets register v) = ⊥
IsSending Makes = ⊥
IsSending (Knows name k) = ⊥
IsSending (Hears from info) = ⊥
IsSending (Gives name to seq) = Unit {0}
IsSending (Gets name from seq) = ⊥
IsSending (Issues to) = Unit {0}
IsSending (Takes from) = ⊥

-- a state that differs in records and what was issued alone
pub record IsLeft (s t : NodeState) : Type 0 where
  pub known : t.known ≡ s.known
  pub register : t.register ≡ s.register
  pub taken : t.taken ≡ s.taken
  pub made : t.made ≡ s.made

names_left : (to seq : ℕ) (names : List ℕ) → Each IsSending (map (λ name. Gives name to seq) names)
names_left to seq [] = tt
names_left to seq (name ∷ names) = (tt, names_left to seq names)

all_sending : (letters : List Sending) → Each IsSending (flat_map sent_changes letters)
all_sending [] = tt
all_sending (l ∷ letters) = each_append IsSending (sent_changes l) (flat_map sent_changes letters)
    (each_append IsSending (map (λ name. Gives name l.to l.letter.seq) (given l.letter.msg)) (Issues l.to ∷ []) (names_left l.to l.letter.seq (given l.letter.msg)) (tt, tt))
    (all_sending letters)

changes_left : (changes : List Change) → Each IsSending changes → (s t : NodeState) → IsLeft s t → IsLeft s (after_changes t changes)
changes_left [] each s t left = left
changes_left (c ∷ changes) each s t left = changes_left changes each.1 s (after_change t c) (by_change c each.0)
  where
    by_change : (c : Change) → IsSending c → IsLeft s (after_change t c)
    by_change (Sets register v) is = absurd is
    by_change Makes is = absurd is
    by_change (Knows name k) is = absurd is
    by_change (Hears from info) is = absurd is
    by_change (Gives name to seq) is = record { known = left.known; register = left.register; taken = left.taken; made = left.made }
    by_change (Gets name from seq) is = absurd is
    by_change (Issues to) is = record { known = left.known; register = left.register; taken = left.taken; made = left.made }
    by_change (Takes from) is = absurd is

pub letters_left : (letters : List Sending) (s : NodeState) → IsLeft s (after_changes s (flat_map sent_changes letters))
letters_left letters s = changes_left (flat_map sent_changes letters) (all_sending letters) s s (record { known = refl; register = refl; taken = refl; made = refl })
