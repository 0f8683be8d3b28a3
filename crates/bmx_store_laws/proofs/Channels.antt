-- Letters between two nodes: their numbers, how many were taken, and those in flight after one more event.
use Rattle.std.proofs.Common.{◌≡◌, ℕ, ◌+◌, ◌≤◌, arith, refl, ap, sym, subst, ◌∙◌, Bool, true, false, cond, List, [], ◌∷◌, ◌++◌, length, drop, zero, suc, append_assoc, length-append}
use Rattle.std.specs.Prelude.{◌==◌, ◌≢◌, Some, None, slice_get, filter}
use Rattle.std.proofs.lemmas.List.{append-nil, drop-append-le}
use Rattle.std.proofs.lemmas.List.Elements.{filter_map-append, filter-append}
use Rattle.bmx_types.specs.Updates.{put}
use Rattle.bmx_msg.specs.declared.letters.Letter.{Letter}
use Rattle.bmx_protocol.specs.declared.inputs.Sending.{Sending}
use Rattle.bmx_protocol.specs.declared.events.Event.{Event}
use Rattle.bmx_protocol.specs.Rules.{Draft}
use Rattle.bmx_protocol.specs.Steps.{Node, numbered, is_taken}
use Rattle.bmx_protocol.specs.Histories.{letters_to, issued, letter_from, arrived, taken, in_flight}
use Rattle.bmx_protocol.proofs.Basics.{eqb_of, eqb_is, Two, Same, Apart, two}

-- ## numbers

-- letters are numbered one after another from k
abbrev pub Numbered : ℕ → List Letter → Type 0
Numbered k [] = Unit {0}
Numbered k (l ∷ letters) = (l.seq ≡ k + 1) × Numbered (k + 1) letters

numbered_append : (a b : List Letter) (k : ℕ) → Numbered k a → Numbered (k + length a) b → Numbered k (a ++ b)
numbered_append [] b k ha hb = subst (λ (j : ℕ). Numbered j b) (omega arith) hb
numbered_append (l ∷ a) b k ha hb =
    let e : k + length (l ∷ a) ≡ (k + 1) + length a = omega arith in
    (ha.0, numbered_append a b (k + 1) ha.1 (subst (λ (j : ℕ). Numbered j b) e hb))

pub numbered_at : (letters : List Letter) (k i : ℕ) (l : Letter) → Numbered k letters → slice_get letters i ≡ Some l → l.seq ≡ k + i + 1
numbered_at [] k i l h e = absurd (cc)
numbered_at (f ∷ letters) k zero l h e =
    let same : f ≡ l = cc in
    ap (λ (x : Letter). x.seq) (sym same) ∙ h.0 ∙ omega arith
numbered_at (f ∷ letters) k (suc i) l h e =
    let rest : l.seq ≡ (k + 1) + i + 1 = numbered_at letters (k + 1) i l h.1 e in
    omega arith

drafts_numbered : (c : ℕ → ℕ) (stamp : ℕ) (drafts : List Draft) (m : ℕ) → Numbered (c m) (letters_to m (numbered c stamp drafts))
drafts_numbered c stamp [] m = tt
drafts_numbered c stamp (d ∷ drafts) m =
    step (d.to == m) (eqb_is d.to m) (letters_to m (numbered (put c d.to (c d.to + 1)) stamp drafts))
    (drafts_numbered (put c d.to (c d.to + 1)) stamp drafts m)
  where
    step : (b : Bool) → (b ≡ true → d.to ≡ m) → (letters : List Letter) → Numbered (cond b (c d.to + 1) (c m)) letters →
        Numbered (c m) (cond b (record { seq = c d.to + 1; stamp = stamp; msg = d.msg } ∷ letters) letters)
    step true q letters h =
        let same : c d.to ≡ c m = ap c (q refl) in
        (ap (λ (k : ℕ). k + 1) same, subst (λ (k : ℕ). Numbered k letters) (ap (λ (k : ℕ). k + 1) same) h)
    step false q letters h = h

-- ## lists

pub slice_drop : {A : Type 0} (xs : List A) (i : ℕ) (x : A) → slice_get xs i ≡ Some x → drop i xs ≡ x ∷ drop (suc i) xs
slice_drop [] i x h = absurd (cc)
slice_drop (y ∷ xs) zero x h =
    let same : y ≡ x = cc in
    ap (λ z. z ∷ xs) same
slice_drop (y ∷ xs) (suc i) x h = slice_drop xs i x h

drop_next : {A : Type 0} (xs : List A) (i : ℕ) (x : A) (rest : List A) → drop i xs ≡ x ∷ rest → (drop (suc i) xs ≡ rest) × (suc i ≤ length xs)
drop_next [] zero x rest h = absurd (cc)
drop_next [] (suc i) x rest h = absurd (cc)
drop_next (y ∷ xs) zero x rest h = (cc, omega arith)
drop_next (y ∷ xs) (suc i) x rest h =
    let more : (drop (suc i) xs ≡ rest) × (suc i ≤ length xs) = drop_next xs i x rest h in
    (more.0, omega (arith, more.1))

-- ## one more event

-- the letters that an event issues from n to m
abbrev pub letters_by : Event → ℕ → ℕ → List Letter
letters_by e n m = cond (e.node == n) (letters_to m e.done.letters) []

pub issued_more : (n m : ℕ) (past : List Event) (e : Event) → issued n m (past ++ e ∷ []) ≡ issued n m past ++ letters_by e n m
issued_more n m [] e = by_test (e.node == n)
  where
    by_test : (b : Bool) → cond b (letters_to m e.done.letters ++ []) [] ≡ cond b (letters_to m e.done.letters) []
    by_test true = append-nil (letters_to m e.done.letters)
    by_test false = refl
issued_more n m (f ∷ past) e = by_test (f.node == n) (issued_more n m past e)
  where
    by_test : (b : Bool) → issued n m (past ++ e ∷ []) ≡ issued n m past ++ letters_by e n m →
        cond b (letters_to m f.done.letters ++ issued n m (past ++ e ∷ [])) (issued n m (past ++ e ∷ []))
        ≡ cond b (letters_to m f.done.letters ++ issued n m past) (issued n m past) ++ letters_by e n m
    by_test true h = ap (λ (l : List Letter). letters_to m f.done.letters ++ l) h
        ∙ sym (append_assoc (letters_to m f.done.letters) (issued n m past) (letters_by e n m))
    by_test false h = h

pub taken_more : (n m : ℕ) (past : List Event) (e : Event) → taken n m (past ++ e ∷ []) ≡ taken n m past ++ taken n m (e ∷ [])
taken_more n m past e =
    ap (arrived n m) (filter-append (λ (f : Event). is_taken f.done.answer) past (e ∷ []))
    ∙ filter_map-append (λ (f : Event). cond (f.node == m) (letter_from n f.input) None) (filter (λ (f : Event). is_taken f.done.answer) past)
    (filter (λ (f : Event). is_taken f.done.answer) (e ∷ []))

-- ## what an event takes

-- it takes nothing, or the first letter in flight from a node
pub data Now (past : List Event) (e : Event) (old new : ℕ → ℕ) : Type 0 where
  Nothing : ((n m : ℕ) → taken n m (e ∷ []) ≡ []) → ((m : ℕ) → new m ≡ old m) → Now past e old new
  First : (from : ℕ) (l : Letter) (rest : List Letter) → in_flight from e.node past ≡ l ∷ rest →
      ((n m : ℕ) → taken n m (e ∷ []) ≡ cond (e.node == m) (cond (from == n) (l ∷ []) []) []) →
      ((m : ℕ) → new m ≡ put old from (old from + 1) m) → Now past e old new

-- the letters in flight without those that the event takes
abbrev pub way_left : List Event → (e : Event) → ℕ → List Letter → ℕ → ℕ → List Letter
way_left past e from rest n m = cond (e.node == m) (cond (from == n) rest (in_flight n m past)) (in_flight n m past)

pub way_nothing : (n m : ℕ) (past : List Event) (e : Event) → length (taken n m past) ≤ length (issued n m past) → taken n m (e ∷ []) ≡ [] →
    in_flight n m (past ++ e ∷ []) ≡ in_flight n m past ++ letters_by e n m
way_nothing n m past e within none =
    (λ i. drop (length (taken_more n m past e i)) (issued_more n m past e i))
    ∙ ap (λ (l : List Letter). drop (length (taken n m past ++ l)) (issued n m past ++ letters_by e n m)) none
    ∙ ap (λ (l : List Letter). drop (length l) (issued n m past ++ letters_by e n m)) (append-nil (taken n m past))
    ∙ drop-append-le (length (taken n m past)) (issued n m past) (letters_by e n m) within

length_one : (letters : List Letter) (l : Letter) → length (letters ++ l ∷ []) ≡ suc (length letters)
length_one letters l = omega (arith, length-append letters (l ∷ []))

way_first : (n m : ℕ) (past : List Event) (e : Event) (l : Letter) (rest : List Letter) → in_flight n m past ≡ l ∷ rest → taken n m (e ∷ []) ≡ l ∷ [] →
    in_flight n m (past ++ e ∷ []) ≡ rest ++ letters_by e n m
way_first n m past e l rest first one =
    let next : (drop (suc (length (taken n m past))) (issued n m past) ≡ rest) × (suc (length (taken n m past)) ≤ length (issued n m past)) =
    drop_next (issued n m past) (length (taken n m past)) l rest first in
    (λ i. drop (length (taken_more n m past e i)) (issued_more n m past e i))
    ∙ ap (λ (k : List Letter). drop (length (taken n m past ++ k)) (issued n m past ++ letters_by e n m)) one
    ∙ ap (λ (k : ℕ). drop k (issued n m past ++ letters_by e n m)) (length_one (taken n m past) l)
    ∙ drop-append-le (suc (length (taken n m past))) (issued n m past) (letters_by e n m) next.1
    ∙ ap (λ (k : List Letter). k ++ letters_by e n m) next.0

pub way_taken : (n m : ℕ) (past : List Event) (e : Event) (from : ℕ) (l : Letter) (rest : List Letter) → length (taken n m past) ≤ length (issued n m past) →
    in_flight from e.node past ≡ l ∷ rest → taken n m (e ∷ []) ≡ cond (e.node == m) (cond (from == n) (l ∷ []) []) [] →
    in_flight n m (past ++ e ∷ []) ≡ way_left past e from rest n m ++ letters_by e n m
way_taken n m past e from l rest within first now = by_two (two e.node m) (two from n)
  where
    by_two : Two e.node m → Two from n → in_flight n m (past ++ e ∷ []) ≡ way_left past e from rest n m ++ letters_by e n m
    by_two (Same a) (Same b) =
        let at : (e.node == m) ≡ true = eqb_of a in
        let of : (from == n) ≡ true = eqb_of b in
        let here : in_flight n m past ≡ l ∷ rest = (λ i. in_flight (sym b i) (sym a i) past) ∙ first in
        let one : taken n m (e ∷ []) ≡ l ∷ [] = now ∙ (λ i. cond (at i) (cond (of i) (l ∷ []) []) []) in
        way_first n m past e l rest here one ∙ (λ i. cond (sym at i) (cond (sym of i) rest (in_flight n m past)) (in_flight n m past) ++ letters_by e n m)
    by_two (Same a) (Apart h d) =
        let at : (e.node == m) ≡ true = eqb_of a in
        let one : taken n m (e ∷ []) ≡ [] = now ∙ (λ i. cond (at i) (cond (h i) (l ∷ []) []) []) in
        way_nothing n m past e within one ∙ (λ i. cond (sym at i) (cond (sym h i) rest (in_flight n m past)) (in_flight n m past) ++ letters_by e n m)
    by_two (Apart h d) q =
        let one : taken n m (e ∷ []) ≡ [] = now ∙ (λ i. cond (h i) (cond (from == n) (l ∷ []) []) []) in
        way_nothing n m past e within one ∙ (λ i. cond (sym h i) (cond (from == n) rest (in_flight n m past)) (in_flight n m past) ++ letters_by e n m)

-- ## the counts of all nodes

-- the letters of a history are numbered, and counted where they are taken
pub record Channels (past : List Event) (nodes : ℕ → Node) : Type 0 where
  pub counts : (n m : ℕ) → (nodes m).state.taken n ≡ length (taken n m past)
  pub within : (n m : ℕ) → length (taken n m past) ≤ length (issued n m past)
  pub numbers : (n m : ℕ) → Numbered 0 (issued n m past)

length_taken : (n m : ℕ) (past : List Event) (e : Event) →
    length (taken n m (past ++ e ∷ [])) ≡ length (taken n m past) + length (taken n m (e ∷ []))
length_taken n m past e = ap length (taken_more n m past e) ∙ length-append (taken n m past) (taken n m (e ∷ []))

length_issued : (n m : ℕ) (past : List Event) (e : Event) → length (issued n m past) ≤ length (issued n m (past ++ e ∷ []))
length_issued n m past e =
    let all : length (issued n m (past ++ e ∷ [])) ≡ length (issued n m past) + length (letters_by e n m) =
    ap length (issued_more n m past e) ∙ length-append (issued n m past) (letters_by e n m) in
    omega arith

-- what an event takes from n at m is nothing, or the one letter
data NowAt (past : List Event) (e : Event) (old new : ℕ → ℕ) (n m : ℕ) : Type 0 where
  None_here : length (taken n m (e ∷ [])) ≡ 0 → (m ≡ e.node → new n ≡ old n) → NowAt past e old new n m
  One_here : length (taken n m (e ∷ [])) ≡ 1 → suc (length (taken n m past)) ≤ length (issued n m past) → (m ≡ e.node → new n ≡ old n + 1) → m ≡ e.node →
      NowAt past e old new n m

now_at : (past : List Event) (e : Event) (old new : ℕ → ℕ) → Now past e old new → (n m : ℕ) → NowAt past e old new n m
now_at past e old new (Nothing none same) n m = None_here (ap length (none n m)) (λ at. same n)
now_at past e old new (First from l rest first now one) n m = by_two (two e.node m) (two from n)
  where
    by_two : Two e.node m → Two from n → NowAt past e old new n m
    by_two (Same a) (Same b) =
        let at : (e.node == m) ≡ true = eqb_of a in
        let of : (from == n) ≡ true = eqb_of b in
        let here : in_flight n m past ≡ l ∷ rest = (λ i. in_flight (sym b i) (sym a i) past) ∙ first in
        let next : (drop (suc (length (taken n m past))) (issued n m past) ≡ rest) × (suc (length (taken n m past)) ≤ length (issued n m past)) =
        drop_next (issued n m past) (length (taken n m past)) l rest here in
        One_here (ap length (now n m ∙ (λ i. cond (at i) (cond (of i) (l ∷ []) []) []))) next.1
        (λ q. one n ∙ (λ i. cond (of i) (old (b i) + 1) (old n))) (sym a)
    by_two (Same a) (Apart h d) =
        let at : (e.node == m) ≡ true = eqb_of a in
        None_here (ap length (now n m ∙ (λ i. cond (at i) (cond (h i) (l ∷ []) []) [])))
        (λ q. one n ∙ (λ i. cond (h i) (old from + 1) (old n)))
    by_two (Apart h d) q = None_here (ap length (now n m ∙ (λ i. cond (h i) (cond (from == n) (l ∷ []) []) []))) (λ a. absurd (d (sym a)))

within_more : (past : List Event) (e : Event) (old new : ℕ → ℕ) (n m : ℕ) → NowAt past e old new n m → length (taken n m past) ≤ length (issued n m past) →
    length (taken n m (past ++ e ∷ [])) ≤ length (issued n m (past ++ e ∷ []))
within_more past e old new n m (None_here none same) within =
    omega (arith, length_taken n m past e, length_issued n m past e)
within_more past e old new n m (One_here one next same at) within =
    omega (arith, length_taken n m past e, length_issued n m past e)

counts_more : (past : List Event) (e : Event) (old new : ℕ → ℕ) (n m : ℕ) → NowAt past e old new n m → m ≡ e.node → old n ≡ length (taken n m past) →
    new n ≡ length (taken n m (past ++ e ∷ []))
counts_more past e old new n m (None_here none same) at is =
    let now : new n ≡ old n = same at in
    omega (arith, length_taken n m past e)
counts_more past e old new n m (One_here one next same here) at is =
    let now : new n ≡ old n + 1 = same at in
    omega (arith, length_taken n m past e)

others_more : (past : List Event) (e : Event) (old new : ℕ → ℕ) (n m : ℕ) → NowAt past e old new n m → e.node ≢ m →
    length (taken n m past) ≡ length (taken n m (past ++ e ∷ []))
others_more past e old new n m (None_here none same) apart = omega (arith, length_taken n m past e)
others_more past e old new n m (One_here one next same here) apart = absurd (apart (sym here))

-- letters of a node's step, by its drafts
pub record IssuesDrafts (past : List Event) (e : Event) : Type 0 where
  pub counts : ℕ → ℕ
  pub stamp : ℕ
  pub drafts : List Draft
  pub letters : e.done.letters ≡ numbered counts stamp drafts
  pub from_past : (m : ℕ) → counts m ≡ length (issued e.node m past)

numbers_more : (past : List Event) (e : Event) (p : IssuesDrafts past e) (n m : ℕ) → Numbered 0 (issued n m past) →
    Numbered 0 (issued n m (past ++ e ∷ []))
numbers_more past e p n m old = subst (Numbered 0) (sym (issued_more n m past e)) (by_two (two e.node n))
  where
    by_two : Two e.node n → Numbered 0 (issued n m past ++ letters_by e n m)
    by_two (Same a) =
        let at : (e.node == n) ≡ true = eqb_of a in
        let more : Numbered (p.counts m) (letters_to m e.done.letters) =
        subst (λ (l : List Sending). Numbered (p.counts m) (letters_to m l)) (sym p.letters) (drafts_numbered p.counts p.stamp p.drafts m) in
        let count : p.counts m ≡ 0 + length (issued n m past) = p.from_past m ∙ ap (λ (z : ℕ). length (issued z m past)) a ∙ omega arith in
        numbered_append (issued n m past) (letters_by e n m) 0 old
        (subst (λ (b : Bool). Numbered (0 + length (issued n m past)) (cond b (letters_to m e.done.letters) [])) (sym at)
        (subst (λ (k : ℕ). Numbered k (letters_to m e.done.letters)) count more))
    by_two (Apart h d) = subst (Numbered 0) ((sym (append-nil (issued n m past))) ∙ (λ i. issued n m past ++ cond (sym h i) (letters_to m e.done.letters) [])) old

-- after one more event
pub channels_more : (past : List Event) (nodes : ℕ → Node) (e : Event) (after : Node) → IssuesDrafts past e →
    Now past e (nodes e.node).state.taken after.state.taken → Channels past nodes → Channels (past ++ e ∷ []) (put nodes e.node after)
channels_more past nodes e after p now c = record {
  counts = λ n m. counts n m (two e.node m);
  within = λ n m. within_more past e old new n m (now_at past e old new now n m) (c.within n m);
  numbers = λ n m. numbers_more past e p n m (c.numbers n m);
}
  where
    old : ℕ → ℕ
    old = (nodes e.node).state.taken

    new : ℕ → ℕ
    new = after.state.taken

    counts : (n m : ℕ) → Two e.node m → (put nodes e.node after m).state.taken n ≡ length (taken n m (past ++ e ∷ []))
    counts n m (Same a) =
        let at : (e.node == m) ≡ true = eqb_of a in
        ap (λ (b : Bool). (cond b after (nodes m)).state.taken n) at
        ∙ counts_more past e old new n m (now_at past e old new now n m) (sym a)
        (ap (λ (z : ℕ). (nodes z).state.taken n) a ∙ c.counts n m)
    counts n m (Apart h d) =
        ap (λ (b : Bool). (cond b after (nodes m)).state.taken n) h
        ∙ c.counts n m ∙ others_more past e old new n m (now_at past e old new now n m) d
