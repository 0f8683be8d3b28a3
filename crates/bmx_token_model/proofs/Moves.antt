-- A step of the object as one act of one node: what is left in each channel, and what is put behind it.
use Rattle.std.proofs.Common.{◌≡◌, ◌≢◌, ◌⊎◌, inl, inr, ℕ, ◌+◌, arith, List, [], ◌∷◌, ◌++◌, append_assoc, append-nil, map, refl, ap, sym, subst, ◌∙◌, Bool, true, false, cond}
use Rattle.std.specs.Prelude.{◌==◌, if◌then◌else◌, Option, Some, None}
use Rattle.std.specs.Option.{option_to_list}
use Rattle.bmx_types.specs.declared.numbers.Mode.{Mode}
use Rattle.bmx_types.specs.Updates.{put}
use Rattle.bmx_token.specs.declared.parts.Ask.{Ask}
use Rattle.bmx_token.specs.Transitions.{Share, Note, Asks, Recalls, Send, send, Transition, Operation, transition_of, made_share, silently}
use Rattle.bmx_token_model.specs.Machine.{Message, Unnumbered, Object, Step, Run, Stays, Goes, IsNowhere, IsUnneeded, draft, numbered, with_holding, issue, issue_all, moved, popped, letter_transition}
use Rattle.bmx_token_model.specs.Machine as machine
use Rattle.bmx_token_model.proofs.Tallies.{tally, tally-append, notes, notes-append, Same, Apart, cases, same_true, apart_false, put_at-all}
use Rattle.bmx_token_model.proofs.Acts.{Acts, Rests}
use Rattle.bmx_token_model.proofs.Handlers.{transition_acts, letter_acts}

-- ## what is sent

-- the notes to a node
abbrev pub notes_to : ℕ → List Send → List Note
notes_to k [] = []
notes_to k (s ∷ sends) = (if s.to == k then s.note ∷ [] else []) ++ notes_to k sends

-- what node me sends from one node to another
abbrev pub sent : ℕ → List Send → ℕ → ℕ → List Note
sent me sends n k = if me == n then notes_to k sends else []

-- what node me took of the channel from a node to another
abbrev pub came : ℕ → ℕ → Option Note → ℕ → ℕ → List Note
came from me taken n k = if me == k then (if from == n then option_to_list taken else []) else []

-- ## letters issued

-- the note of a draft, in a channel
abbrev pub drafted : ℕ → Unnumbered → ℕ → ℕ → List Note
drafted me d n k = if me == n then (if d.to == k then option_to_list d.note else []) else []

drafted-here : (me : ℕ) (d : Unnumbered) → drafted me d me d.to ≡ option_to_list d.note
drafted-here me d = rw (same_true me, same_true d.to) refl

drafted-apart : (me : ℕ) (d : Unnumbered) (n k : ℕ) → (n ≢ me) ⊎ (k ≢ d.to) → drafted me d n k ≡ []
drafted-apart me d n k (inl h) = rw (apart_false me n (λ e. h (sym e))) refl
drafted-apart me d n k (inr h) = by_test (me == n) (d.to == k) (apart_false d.to k (λ e. h (sym e)))
  where
    by_test : (t u : Bool) → u ≡ false → cond t (cond u (option_to_list d.note) []) [] ≡ []
    by_test true u e = rw e refl
    by_test false u e = refl

pub issue_notes : (o : Object) (me : ℕ) (d : Unnumbered) (n k : ℕ) → notes ((issue o me d).channel n k) ≡ notes (o.channel n k) ++ drafted me d n k
issue_notes o me d n k = put_at-all (λ x y w. notes w ≡ notes (o.channel x y) ++ drafted me d x y) o.channel me d.to _ here
    (λ x y h. sym (append-nil (notes (o.channel x y))) ∙ ap (λ (z : List Note). notes (o.channel x y) ++ z) (sym (drafted-apart me d x y h))) n k
  where
    here : notes (o.channel me d.to ++ numbered (o.issued me d.to + 1) d ∷ []) ≡ notes (o.channel me d.to) ++ drafted me d me d.to
    here = notes-append (o.channel me d.to) (numbered (o.issued me d.to + 1) d ∷ [])
        ∙ ap (λ (x : List Note). notes (o.channel me d.to) ++ x) (append-nil (option_to_list d.note) ∙ sym (drafted-here me d))

pub issue_all_holds : (o : Object) (me : ℕ) (drafts : List Unnumbered) → (issue_all o me drafts).holds ≡ o.holds
issue_all_holds o me [] = refl
issue_all_holds o me (d ∷ drafts) = issue_all_holds (issue o me d) me drafts

pub holds_moved : (o : Object) (me : ℕ) (refers : Bool) (t : Transition) (n : ℕ) → (moved o me refers t).holds n ≡ put o.holds me t.after n
holds_moved o me refers t n = ap (λ (f : ℕ → Option Share). f n) (issue_all_holds (with_holding o me t.after) me (map (draft refers) t.sends))

sent-more : (o : Object) (me : ℕ) (refers : Bool) (s : Send) (sends : List Send) (n k : ℕ) → drafted me (draft refers s) n k ++ sent me sends n k ≡ sent me (s ∷ sends) n k
sent-more o me refers s sends n k = by_test (me == n)
  where
    by_test : (t : Bool) → cond t (cond (s.to == k) (s.note ∷ []) []) [] ++ cond t (notes_to k sends) [] ≡ cond t (notes_to k (s ∷ sends)) []
    by_test true = refl
    by_test false = refl

pub sent-none : (me n k : ℕ) → sent me [] n k ≡ []
sent-none me n k = by_test (me == n)
  where
    by_test : (t : Bool) → cond {A = List Note} t [] [] ≡ []
    by_test true = refl
    by_test false = refl

pub sends_notes : (o : Object) (me : ℕ) (refers : Bool) (sends : List Send) (n k : ℕ) →
    notes ((issue_all o me (map (draft refers) sends)).channel n k) ≡ notes (o.channel n k) ++ sent me sends n k
sends_notes o me refers [] n k = sym (append-nil (notes (o.channel n k))) ∙ ap (λ (x : List Note). notes (o.channel n k) ++ x) (sym (sent-none me n k))
sends_notes o me refers (s ∷ sends) n k =
    sends_notes (issue o me (draft refers s)) me refers sends n k
    ∙ ap (λ (x : List Note). x ++ sent me sends n k) (issue_notes o me (draft refers s) n k)
    ∙ append_assoc (notes (o.channel n k)) (drafted me (draft refers s) n k) (sent me sends n k)
    ∙ ap (λ (x : List Note). notes (o.channel n k) ++ x) (sent-more o me refers s sends n k)

pub moved_notes : (o : Object) (me : ℕ) (refers : Bool) (t : Transition) (n k : ℕ) → notes ((moved o me refers t).channel n k) ≡ notes (o.channel n k) ++ sent me t.sends n k
moved_notes o me refers t n k = sends_notes (with_holding o me t.after) me refers t.sends n k

-- a letter about another object says nothing
pub silent_notes : (o : Object) (me to : ℕ) (tells : Bool) (n k : ℕ) → notes ((issue o me (record { to = to; note = None; tells = tells })).channel n k) ≡ notes (o.channel n k)
silent_notes o me to tells n k = issue_notes o me (record { to = to; note = None; tells = tells }) n k ∙ by_tests (me == n) (to == k)
  where
    by_tests : (t u : Bool) → notes (o.channel n k) ++ cond t (cond {A = List Note} u [] []) [] ≡ notes (o.channel n k)
    by_tests true true = append-nil (notes (o.channel n k))
    by_tests true false = append-nil (notes (o.channel n k))
    by_tests false u = append-nil (notes (o.channel n k))

-- ## letters taken

came-none : (from me n k : ℕ) → came from me None n k ≡ []
came-none from me n k = by_test (me == k) (from == n)
  where
    by_test : (t u : Bool) → cond {A = List Note} t (cond u [] []) [] ≡ []
    by_test true true = refl
    by_test true false = refl
    by_test false u = refl

pub came-here : (from me : ℕ) (taken : Option Note) → came from me taken from me ≡ option_to_list taken
came-here from me taken = rw (same_true me, same_true from) refl

pub came-apart : (from me : ℕ) (taken : Option Note) (n k : ℕ) → (n ≢ from) ⊎ (k ≢ me) → came from me taken n k ≡ []
came-apart from me taken n k (inr h) = rw (apart_false me k (λ e. h (sym e))) refl
came-apart from me taken n k (inl h) = by_test (me == k) (from == n) (apart_false from n (λ e. h (sym e)))
  where
    by_test : (t u : Bool) → u ≡ false → cond t (cond u (option_to_list taken) []) [] ≡ []
    by_test true u e = rw e refl
    by_test false u e = refl

pub popped_notes : (o : Object) (from me : ℕ) (l : Message) (rest : List Message) → o.channel from me ≡ l ∷ rest → (n k : ℕ) →
    notes (o.channel n k) ≡ came from me l.note n k ++ notes ((popped o from me l rest).channel n k)
popped_notes o from me l rest channel n k = put_at-all (λ x y w. notes (o.channel x y) ≡ came from me l.note x y ++ notes w) o.channel from me rest
    (ap notes channel ∙ ap (λ (x : List Note). x ++ notes rest) (sym (came-here from me l.note)))
    (λ x y h. ap (λ (z : List Note). z ++ notes (o.channel x y)) (sym (came-apart from me l.note x y h))) n k

-- ## what a step does to shares and channels

-- node me took a note of the channel from a node, if any, and made a transition
pub record Moves (o p : Object) (me from : ℕ) (taken : Option Note) (t : Transition) : Type 0 where
  pub left : ℕ → ℕ → List Note
  pub before : (n k : ℕ) → notes (o.channel n k) ≡ came from me taken n k ++ left n k
  pub after : (n k : ℕ) → notes (p.channel n k) ≡ left n k ++ sent me t.sends n k
  pub holds : (n : ℕ) → p.holds n ≡ put o.holds me t.after n

-- and the transition is within the outcomes
pub record Acted (o p : Object) : Type 0 where
  pub me : ℕ
  pub from : ℕ
  pub taken : Option Note
  pub tells : Bool
  pub transition : Transition
  pub moves : Moves o p me from taken transition
  pub acts : Acts me from taken tells (o.holds me) transition

-- a node makes the object, acts, or forgets it
pub data Changes (o p : Object) : Type 0 where
  Makes : (me : ℕ) → IsNowhere o → Moves o p me me None (silently made_share) → Changes o p
  Transits : Acted o p → Changes o p
  Forgets : (me : ℕ) (h : Share) → o.holds me ≡ Some h → IsUnneeded o me h → p ≡ with_holding o me None → Changes o p

pub none_moves : (o : Object) (me : ℕ) (refers : Bool) (t : Transition) → Moves o (moved o me refers t) me me None t
none_moves o me refers t = record {
  left = λ n k. notes (o.channel n k);
  before = λ n k. ap (λ (x : List Note). x ++ notes (o.channel n k)) (sym (came-none me me n k));
  after = λ n k. moved_notes o me refers t n k;
  holds = λ n. holds_moved o me refers t n;
}

-- shares and notes as they were
put-same : (f : ℕ → Option Share) (n k : ℕ) → f k ≡ put f n (f n) k
put-same f n k = elim (cases k n) [
  | Same e t ↦ rw t (ap f e)
  | Apart e t ↦ rw t refl
]

pub still_acted : (o p : Object) → ((n : ℕ) → p.holds n ≡ o.holds n) → ((n k : ℕ) → notes (p.channel n k) ≡ notes (o.channel n k)) → Acted o p
still_acted o p holds channel = record {
  me = 0;
  from = 0;
  taken = None;
  tells = false;
  transition = record { after = o.holds 0; sends = [] };
  moves = record {
    left = λ n k. notes (o.channel n k);
    before = λ n k. ap (λ (x : List Note). x ++ notes (o.channel n k)) (sym (came-none 0 0 n k));
    after = λ n k. channel n k ∙ sym (append-nil (notes (o.channel n k))) ∙ ap (λ (x : List Note). notes (o.channel n k) ++ x) (sym (sent-none 0 n k));
    holds = λ n. holds n ∙ put-same o.holds 0 n;
  };
  acts = Rests refl refl;
}

-- node me takes the first letter from another, or none
pub data Taking (o : Object) (me from : ℕ) (taken : Option Note) (tells : Bool) (q : Object) : Type 0 where
  Nothing : taken ≡ None → tells ≡ false → q ≡ o → Taking o me from taken tells q
  Letter : (l : Message) (rest : List Message) → o.channel from me ≡ l ∷ rest → from ≢ me → l.note ≡ taken → l.tells ≡ tells → q ≡ popped o from me l rest →
      Taking o me from taken tells q

-- and makes a transition within the outcomes
pub record Acting (o p : Object) : Type 0 where
  pub me : ℕ
  pub from : ℕ
  pub taken : Option Note
  pub tells : Bool
  pub transition : Transition
  pub refers : Bool
  pub between : Object
  pub taking : Taking o me from taken tells between
  pub acts : Acts me from taken tells (o.holds me) transition
  pub is : p ≡ moved between me refers transition

pub does_acting : (o p : Object) (me : ℕ) (refers : Bool) (a : Operation) (h : Share) (t : Transition) → o.holds me ≡ Some h → transition_of me a h ≡ Some t → p ≡ moved o me refers t → Acting o p
does_acting o p me refers a h t has is e = record {
  me = me;
  from = me;
  taken = None;
  tells = false;
  transition = t;
  refers = refers;
  between = o;
  taking = Nothing refl refl refl;
  acts = subst (λ x. Acts me me None false x t) (sym has) (transition_acts me a h t is);
  is = e;
}

pub takes_acting : (o p : Object) (from me : ℕ) (l : Message) (rest : List Message) (t : Transition) → from ≢ me → o.channel from me ≡ l ∷ rest →
    letter_transition me from l (o.holds me) ≡ Some t → p ≡ moved (popped o from me l rest) me false t → Acting o p
takes_acting o p from me l rest t apart channel is e = record {
  me = me;
  from = from;
  taken = l.note;
  tells = l.tells;
  transition = t;
  refers = false;
  between = popped o from me l rest;
  taking = Letter l rest channel apart refl refl refl;
  acts = letter_acts me from l (o.holds me) t is;
  is = e;
}

-- what a node has is as it was once a letter is taken
pub taking_holds : (o : Object) (me from : ℕ) (taken : Option Note) (tells : Bool) (q : Object) → Taking o me from taken tells q → q.holds ≡ o.holds
taking_holds o me from taken tells q (Nothing x y e) = ap (λ (z : Object). z.holds) e
taking_holds o me from taken tells q (Letter l rest channel apart x y e) = ap (λ (z : Object). z.holds) e

pub acting_moves : (o p : Object) (me from : ℕ) (taken : Option Note) (tells : Bool) (t : Transition) (refers : Bool) (q : Object) → Taking o me from taken tells q → p ≡ moved q me refers t →
    Moves o p me from taken t
acting_moves o p me from taken tells t refers q (Nothing x y f) e = rw (e, f, x) record {
  left = λ n k. notes (o.channel n k);
  before = λ n k. ap (λ (z : List Note). z ++ notes (o.channel n k)) (sym (came-none from me n k));
  after = λ n k. moved_notes o me refers t n k;
  holds = λ n. holds_moved o me refers t n;
}
acting_moves o p me from taken tells t refers q (Letter l rest channel apart x y f) e = rw (e, f) (subst (λ z. Moves o (moved (popped o from me l rest) me refers t) me from z t) x record {
  left = λ n k. notes ((popped o from me l rest).channel n k);
  before = λ n k. popped_notes o from me l rest channel n k;
  after = λ n k. moved_notes (popped o from me l rest) me refers t n k;
  holds = λ n. holds_moved (popped o from me l rest) me refers t n;
})

pub acting_acted : (o p : Object) → Acting o p → Acted o p
acting_acted o p a = record {
  me = a.me;
  from = a.from;
  taken = a.taken;
  tells = a.tells;
  transition = a.transition;
  moves = acting_moves o p a.me a.from a.taken a.tells a.transition a.refers a.between a.taking a.is;
  acts = a.acts;
}

pub makes_moves : (o p : Object) (me : ℕ) → p ≡ with_holding o me (Some made_share) → Moves o p me me None (silently made_share)
makes_moves o p me e = subst (λ x. Moves o x me me None (silently made_share)) (sym e) (none_moves o me false (silently made_share))

pub step_changes : (o p : Object) → Step o p → Changes o p
step_changes o p (machine.Makes me nowhere e) = Makes me nowhere (makes_moves o p me e)
step_changes o p (machine.Does me refers a h t has is e) = Transits (acting_acted o p (does_acting o p me refers a h t has is e))
step_changes o p (machine.Receives from me l rest t apart channel is e) = Transits (acting_acted o p (takes_acting o p from me l rest t apart channel is e))
step_changes o p (machine.Writes me to tells told e) =
    Transits (still_acted o p (λ n. ap (λ (q : Object). q.holds n) e) (λ n k. ap (λ (q : Object). notes (q.channel n k)) e ∙ silent_notes o me to tells n k))
step_changes o p (machine.Forgets me h has u e) = Forgets me h has u e
step_changes o p (machine.Clears me other u e) = Transits (still_acted o p (λ n. ap (λ (q : Object). q.holds n) e) (λ n k. ap (λ (q : Object). notes (q.channel n k)) e))

-- ## over runs

-- what each step keeps, where more is known of each state of the run
pub kept_object : (K P : Object → Type 0) → ((o p : Object) → K o → K p → P o → Step o p → P p) →
    (start : Object) → ((p : Object) → Run start p → K p) → P start → (p : Object) → Run start p → P p
kept_object K P step start known first p Stays = first
kept_object K P step start known first p (Goes {p = q} run s) =
    step q p (known q run) (known p (Goes run s)) (kept_object K P step start known first q run) s

-- what each step keeps
pub kept_run : (P : Object → Type 0) → ((o p : Object) → P o → Step o p → P p) → (o p : Object) → P o → Run o p → P p
kept_run P kept o p h Stays = h
kept_run P kept o p h (Goes {p = q} run step) = kept q p (kept_run P kept o q h run) step

-- what each change keeps
pub kept_changes : (P : Object → Type 0) → ((o p : Object) → P o → Changes o p → P p) → (o p : Object) → P o → Run o p → P p
kept_changes P kept = kept_run P (λ o p h s. kept o p h (step_changes o p s))

-- ## tallies

pub tally-came : (f : Note → ℕ) (from me : ℕ) (taken : Option Note) (n k : ℕ) →
    tally f (came from me taken n k) ≡ cond (me == k) (cond (from == n) (tally f (option_to_list taken)) 0) 0
tally-came f from me taken n k = by_test (me == k) (from == n)
  where
    by_test : (t u : Bool) → tally f (cond t (cond u (option_to_list taken) []) []) ≡ cond t (cond u (tally f (option_to_list taken)) 0) 0
    by_test true true = refl
    by_test true false = refl
    by_test false u = refl

pub tally-sent : (f : Note → ℕ) (me : ℕ) (sends : List Send) (n k : ℕ) → tally f (sent me sends n k) ≡ cond (me == n) (tally f (notes_to k sends)) 0
tally-sent f me sends n k = by_test (me == n)
  where
    by_test : (t : Bool) → tally f (cond t (notes_to k sends) []) ≡ cond t (tally f (notes_to k sends)) 0
    by_test true = refl
    by_test false = refl

pub came-nothing : (f : Note → ℕ) (from me : ℕ) (taken : Option Note) (n k : ℕ) → tally f (option_to_list taken) ≡ 0 → tally f (came from me taken n k) ≡ 0
came-nothing f from me taken n k h = tally-came f from me taken n k ∙ by_test (me == k) (from == n)
  where
    by_test : (t u : Bool) → cond t (cond u (tally f (option_to_list taken)) 0) 0 ≡ 0
    by_test true true = h
    by_test true false = refl
    by_test false u = refl

pub sent-nothing : (f : Note → ℕ) (me : ℕ) (sends : List Send) (n k : ℕ) → tally f (notes_to k sends) ≡ 0 → tally f (sent me sends n k) ≡ 0
sent-nothing f me sends n k h = tally-sent f me sends n k ∙ by_test (me == n)
  where
    by_test : (t : Bool) → cond t (tally f (notes_to k sends)) 0 ≡ 0
    by_test true = h
    by_test false = refl

pub tally-before : (f : Note → ℕ) (o p : Object) (me from : ℕ) (taken : Option Note) (t : Transition) (h : Moves o p me from taken t) (n k : ℕ) →
    tally f (notes (o.channel n k)) ≡ tally f (came from me taken n k) + tally f (h.left n k)
tally-before f o p me from taken t h n k = ap (λ (x : List Note). tally f x) (h.before n k) ∙ tally-append f (came from me taken n k) (h.left n k)

pub tally-after : (f : Note → ℕ) (o p : Object) (me from : ℕ) (taken : Option Note) (t : Transition) (h : Moves o p me from taken t) (n k : ℕ) →
    tally f (notes (p.channel n k)) ≡ tally f (h.left n k) + tally f (sent me t.sends n k)
tally-after f o p me from taken t h n k = ap (λ (x : List Note). tally f x) (h.after n k) ∙ tally-append f (h.left n k) (sent me t.sends n k)

pub tally-send : (f : Note → ℕ) (k to : ℕ) (note : Note) (sends : List Send) →
    tally f (notes_to k (send to note ∷ sends)) ≡ cond (to == k) (f note) 0 + tally f (notes_to k sends)
tally-send f k to note sends = by_test (to == k)
  where
    by_test : (t : Bool) → tally f (cond t (note ∷ []) [] ++ notes_to k sends) ≡ cond t (f note) 0 + tally f (notes_to k sends)
    by_test true = refl
    by_test false = omega arith

pub nothing-send : (f : Note → ℕ) (k to : ℕ) (note : Note) (sends : List Send) → f note ≡ 0 → tally f (notes_to k sends) ≡ 0 →
    tally f (notes_to k (send to note ∷ sends)) ≡ 0
nothing-send f k to note sends h rest = tally-send f k to note sends ∙ by_test (to == k)
  where
    by_test : (t : Bool) → cond t (f note) 0 + tally f (notes_to k sends) ≡ 0
    by_test true = omega (arith, h, rest)
    by_test false = omega (arith, rest)

-- requests sent on, and recalls sent to all
pub asks-send : (f : Note → ℕ) → ((m : Mode) (asker : ℕ) → f (Asks m asker) ≡ 0) → (k to : ℕ) (rest : List Ask) →
    tally f (notes_to k (map (λ (a : Ask). send to (Asks a.mode a.asker)) rest)) ≡ 0
asks-send f h k to [] = refl
asks-send f h k to (a ∷ rest) =
    nothing-send f k to (Asks a.mode a.asker) (map (λ (a : Ask). send to (Asks a.mode a.asker)) rest) (h a.mode a.asker) (asks-send f h k to rest)

pub recalls-nothing : (f : Note → ℕ) → f Recalls ≡ 0 → (k : ℕ) (nodes : List ℕ) → tally f (notes_to k (map (λ n. send n Recalls) nodes)) ≡ 0
recalls-nothing f h k [] = refl
recalls-nothing f h k (n ∷ nodes) = nothing-send f k n Recalls (map (λ n. send n Recalls) nodes) h (recalls-nothing f h k nodes)
