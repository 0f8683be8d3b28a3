-- A legal history grows by one event.
use Rattle.std.proofs.Common.{◌≡◌, ◌≢◌, ◌⊎◌, inl, inr, ℕ, ◌+◌, ◌^◌, ◌<◌, ◌≤◌, zero, suc, max, arith, refl, ap, sym, subst, ◌∙◌, Bool, true, false, cond, List, [], ◌∷◌, ◌++◌, length, drop, length-append}
use Rattle.std.specs.Prelude.{◌==◌, nat_lt, Some, slice_get, filter, count_by, Contains}
use Rattle.std.proofs.lemmas.Bool.Decides.{nat_tests}
use Rattle.std.proofs.lemmas.List.Elements.{Contains-push, Contains-push_cases}
use Rattle.std.proofs.lemmas.List.Sums.{count_by-le-length, sum_by-append}
use Rattle.bmx_types.specs.Openings.{IsOpening}
use Rattle.bmx_types.specs.Updates.{put}
use Rattle.bmx_msg.specs.declared.letters.Letter.{Letter}
use Rattle.bmx_protocol.specs.declared.inputs.Input.{Input}
use Rattle.bmx_protocol.specs.declared.inputs.Input.TheVariants as input
use Rattle.bmx_protocol.specs.declared.inputs.NodeAnswer.{NodeAnswer}
use Rattle.bmx_protocol.specs.declared.inputs.NodeAnswer.TheVariants as answer
use Rattle.bmx_protocol.specs.declared.inputs.Sending.{Sending}
use Rattle.bmx_protocol.specs.declared.inputs.Done.{Done}
use Rattle.bmx_protocol.specs.declared.events.Event.{Event}
use Rattle.bmx_protocol.specs.Nodes.{Setting, NodeState}
use Rattle.bmx_protocol.specs.Changes.{Change, Sets, Makes, Knows, Hears, Gives, Gets, Issues, Takes, after_change, after_changes}
use Rattle.bmx_protocol.specs.Rules.{Draft}
use Rattle.bmx_protocol.specs.Strays.{too_large}
use Rattle.bmx_protocol.specs.Steps.{Node, first_node, IsStep, rule, changes_of, numbered, is_taken, stamp_after}
use Rattle.bmx_protocol.specs.Histories.{issued, arrived, taken, IsNext, IsLater, Fits, EachFits, Replays, AreAfter, IsLegal}
use Rattle.bmx_protocol.proofs.Basics.{Every, two, Two, Same, Apart, eqb_is, put_same, put_apart}
use Rattle.bmx_protocol.proofs.Prefixes.{not_empty, empty_is_legal}
use Rattle.bmx_places.proofs.Always.{no_letter_is_stray}
use Rattle.bmx_places.proofs.Next.{all_issued, every_at}
use Rattle.bmx_legal.specs.Growing.{Leads, TakesFirst, MayFollow}
use Rattle.bmx_legal.specs.Laws.{HistoryBegins, HistoryGrows}

-- ## lists

-- a list with one more at its end is split before the end, or at it
data Ending (past : List Event) (e : Event) (p r : List Event) (f : Event) : Type 0 where
  Last : p ≡ past → f ≡ e → Ending past e p r f
  Before : (q : List Event) → p ++ f ∷ q ≡ past → Ending past e p r f

ending : (past : List Event) (e : Event) (p r : List Event) (f : Event) → p ++ f ∷ r ≡ past ++ e ∷ [] → Ending past e p r f
ending [] e [] r f h = (let same : f ≡ e = cc in Last refl same)
ending [] e (g ∷ p) r f h = (let rest : p ++ f ∷ r ≡ [] = cc in absurd (not_empty p r f rest))
ending (g ∷ past) e [] r f h = (let same : f ≡ g = cc in Before past (ap (λ (x : Event). x ∷ past) same))
ending (g ∷ past) e (d ∷ p) r f h =
    let same : d ≡ g = cc in
    let rest : p ++ f ∷ r ≡ past ++ e ∷ [] = cc in
    by_end same (ending past e p r f rest)
  where
    by_end : d ≡ g → Ending past e p r f → Ending (g ∷ past) e (d ∷ p) r f
    by_end same (Last a b) = Last (λ i. same i ∷ a i) b
    by_end same (Before q k) = Before q (λ i. same i ∷ k i)

-- what is in a list stands between two parts of it
pub parted : {A : Type 0} (xs : List A) (x : A) → Contains xs x → (p : List A) × (r : List A) × (p ++ x ∷ r ≡ xs)
parted [] x c = absurd (omega (arith, c.1))
parted (y ∷ xs) x (zero, below, is) = (let same : x ≡ y = sym is in ([], xs, λ i. same i ∷ xs))
parted (y ∷ xs) x (suc k, below, is) =
    let more = parted xs x (k, omega arith, is) in
    (y ∷ more.0, more.1, λ i. y ∷ more.2 i)

every_of : {A : Type 0} (P : A → Type 0) (xs : List A) → ((x : A) → Contains xs x → P x) → Every P xs
every_of P [] each = tt
every_of P (x ∷ xs) each = (each x (0, omega arith, refl), every_of P xs (λ y c. each y (suc c.0, omega (arith, c.1), c.2)))

pub every_there : {A : Type 0} (P : A → Type 0) (xs : List A) (x : A) → Every P xs → Contains xs x → P x
every_there P [] x h c = absurd (omega (arith, c.1))
every_there P (y ∷ xs) x h (zero, below, is) = subst P is h.0
every_there P (y ∷ xs) x h (suc k, below, is) = every_there P xs x h.1 (k, omega arith, is)

pub drop_first : {A : Type 0} (k : ℕ) (xs : List A) (x : A) → slice_get (drop k xs) 0 ≡ Some x → slice_get xs k ≡ Some x
drop_first zero [] x h = h
drop_first zero (y ∷ xs) x h = h
drop_first (suc k) [] x h = absurd cc
drop_first (suc k) (y ∷ xs) x h = drop_first k xs x h

-- ## events of a legal history

-- an event of a history fits those before it
pub record Fitted (st : Setting) (history : List Event) (e : Event) : Type 0 where
  pub past : List Event
  pub rest : List Event
  pub all : past ++ e ∷ rest ≡ history
  pub fits : Fits st past e

pub fitted : (st : Setting) (history : List Event) (e : Event) → EachFits st history → Contains history e → Fitted st history e
fitted st history e each there =
    let p = parted history e there in
    record { past = p.0; rest = p.1; all = p.2; fits = each p.0 p.1 e p.2 }

-- only nodes of the store act
pub acts : (st : Setting) (history : List Event) (e : Event) → EachFits st history → Contains history e → e.node < st.nodes
acts st history e each there = (fitted st history e each there).fits.a_node

-- a stamp is at most the number of events
pub stamp_few : (st : Setting) (history : List Event) (e : Event) → EachFits st history → Contains history e → e.stamp ≤ length history
stamp_few st history e each there =
    let f : Fitted st history e = fitted st history e each there in
    let all : length (f.past ++ e ∷ f.rest) ≡ length history = ap length f.all in
    omega (arith, f.fits.early, length-append f.past (e ∷ f.rest), all)

-- one more event that fits
pub fits_more : (st : Setting) (past : List Event) (e : Event) → EachFits st past → Fits st past e → EachFits st (past ++ e ∷ [])
fits_more st past e each fits p r f h = by_end (ending past e p r f h)
  where
    by_end : Ending past e p r f → Fits st p f
    by_end (Last a b) = subst (λ (x : List Event). Fits st x f) (sym a) (subst (Fits st past) (sym b) fits)
    by_end (Before q k) = each p q f k

-- one more step
pub replays_more : (st : Setting) (past : List Event) (e : Event) (start mid : ℕ → Node) (n : Node) → Replays st start past mid →
    IsStep st e.node (mid e.node) e.stamp e.input e.done n → Replays st start (past ++ e ∷ []) (put mid e.node n)
replays_more st [] e start mid n h step = subst (λ (f : ℕ → Node). Replays st f (e ∷ []) (put mid e.node n)) (sym h) (n, step, refl)
replays_more st (f ∷ past) e start mid n h step = (h.0, h.1, replays_more st past e (put start f.node h.0) mid n h.2 step)

-- ## stamps of letters

numbered_stamps : (counts : ℕ → ℕ) (stamp : ℕ) (drafts : List Draft) → Every (λ (l : Sending). l.letter.stamp ≡ stamp) (numbered counts stamp drafts)
numbered_stamps counts stamp [] = tt
numbered_stamps counts stamp (d ∷ drafts) = (refl, numbered_stamps (put counts d.to (counts d.to + 1)) stamp drafts)

every_weaker : {A : Type 0} (P Q : A → Type 0) → ((x : A) → P x → Q x) → (xs : List A) → Every P xs → Every Q xs
every_weaker P Q from [] h = tt
every_weaker P Q from (x ∷ xs) h = (from x h.0, every_weaker P Q from xs h.1)

-- a letter has the stamp of the event that issued it
letter_stamps : (st : Setting) (events : List Event) (start last : ℕ → Node) → Replays st start events last → (k : ℕ) → Every (λ (e : Event). e.stamp ≤ k) events →
    Every (λ (e : Event). Every (λ (l : Sending). l.letter.stamp ≤ k) e.done.letters) events
letter_stamps st [] start last h k few = tt
letter_stamps st (e ∷ events) start last h k few = (
  every_weaker (λ (l : Sending). l.letter.stamp ≡ e.stamp) (λ (l : Sending). l.letter.stamp ≤ k) (λ l is. (let at : e.stamp ≤ k = few.0 in omega arith)) e.done.letters
      (subst (Every (λ (l : Sending). l.letter.stamp ≡ e.stamp)) (ap (λ (d : Done). d.letters) (sym h.1.outcome))
      (numbered_stamps (start e.node).state.issued e.stamp (rule st e.node (start e.node).state h.1.told e.input).drafts)),
  letter_stamps st events (put start e.node h.0) last h.2 k few.1,
)

-- letters that were issued have stamps that are at most the number of events
pub issued_few : (st : Setting) (past : List Event) (nodes : ℕ → Node) → EachFits st past → AreAfter st past nodes → (n m : ℕ) →
    Every (λ (l : Letter). l.stamp ≤ length past) (issued n m past)
issued_few st past nodes each after n m =
    all_issued (λ (l : Letter). l.stamp ≤ length past) n m past
    (letter_stamps st past (first_node st) nodes after (length past) (every_of (λ (e : Event). e.stamp ≤ length past) past (λ e c. stamp_few st past e each c)))

-- ## taken and arrived

taken_unless : (a : NodeAnswer) → a ≢ answer.Stray → is_taken a ≡ true
taken_unless answer.Nil h = refl
taken_unless (answer.Value v) h = refl
taken_unless answer.Yes h = refl
taken_unless answer.No h = refl
taken_unless answer.Wait h = refl
taken_unless (answer.Refused why) h = refl
taken_unless answer.Idle h = refl
taken_unless answer.Stray h = absurd (h refl)

-- no event of a legal history is stray
pub not_stray : (st : Setting) (history : List Event) (e : Event) → IsOpening st.nodes st.limit st.births → IsLegal st history → Contains history e →
    is_taken e.done.answer ≡ true
not_stray st history e opening legal there = taken_unless e.done.answer (no_letter_is_stray st history e opening legal there)

-- nor is one that was just added
pub last_not_stray : (st : Setting) (past : List Event) (e : Event) → IsOpening st.nodes st.limit st.births → IsLegal st (past ++ e ∷ []) →
    is_taken e.done.answer ≡ true
last_not_stray st past e opening legal = not_stray st (past ++ e ∷ []) e opening legal (Contains-push past e)

all_kept : (events : List Event) → Every (λ (e : Event). is_taken e.done.answer ≡ true) events → filter (λ (e : Event). is_taken e.done.answer) events ≡ events
all_kept [] h = refl
all_kept (e ∷ events) h = by_test (is_taken e.done.answer) h.0 (all_kept events h.1)
  where
    by_test : (b : Bool) → b ≡ true → filter (λ (f : Event). is_taken f.done.answer) events ≡ events →
        cond b (e ∷ filter (λ (f : Event). is_taken f.done.answer) events) (filter (λ (f : Event). is_taken f.done.answer) events) ≡ e ∷ events
    by_test true q rest = ap (λ (l : List Event). e ∷ l) rest
    by_test false q rest = absurd cc

-- so each letter that arrived was taken
pub taken_arrived : (st : Setting) (history : List Event) → IsOpening st.nodes st.limit st.births → IsLegal st history → (n m : ℕ) →
    taken n m history ≡ arrived n m history
taken_arrived st history opening legal n m =
    ap (arrived n m) (all_kept history (every_of (λ (e : Event). is_taken e.done.answer ≡ true) history (λ e c. not_stray st history e opening legal c)))

-- ## counts of events

pub count_few : (n : ℕ) (past : List Event) → count_by (λ (e : Event). e.node == n) past ≤ length past
count_few n past = count_by-le-length (λ (e : Event). e.node == n) past

change_clock : (s : NodeState) (c : Change) → (after_change s c).clock ≡ s.clock
change_clock s (Sets register v) = refl
change_clock s Makes = refl
change_clock s (Knows name k) = refl
change_clock s (Hears from info) = refl
change_clock s (Gives name to seq) = refl
change_clock s (Gets name from seq) = refl
change_clock s (Issues to) = refl
change_clock s (Takes from) = refl

changes_clock : (changes : List Change) (s : NodeState) → (after_changes s changes).clock ≡ s.clock
changes_clock [] s = refl
changes_clock (c ∷ changes) s = changes_clock changes (after_change s c) ∙ change_clock s c

step_clock : (st : Setting) (me stamp : ℕ) (i : Input) (n n' : Node) (d : Done) → IsStep st me n stamp i d n' → n'.state.clock ≡ n.state.clock + 1
step_clock st me stamp i n n' d step =
    ap (λ (s : NodeState). s.clock) step.state
    ∙ ap (λ (k : ℕ). k + 1) (changes_clock (changes_of stamp n.state (rule st me n.state step.told i)) n.state)

replay_clock : (st : Setting) (start : ℕ → Node) (events : List Event) (last : ℕ → Node) → Replays st start events last → (n : ℕ) →
    (last n).state.clock ≡ (start n).state.clock + count_by (λ (e : Event). e.node == n) events
replay_clock st start [] last h n =
    let e : (last n).state.clock ≡ (start n).state.clock = ap (λ (f : ℕ → Node). (f n).state.clock) (sym h) in
    omega arith
replay_clock st start (e ∷ events) last h n =
    replay_clock st (put start e.node h.0) events last h.2 n
    ∙ by_node (e.node == n) (eqb_is e.node n) (count_by (λ (f : Event). f.node == n) (e ∷ events))
    (sum_by-append (λ (f : Event). cond (f.node == n) 1 0) (e ∷ []) events)
  where
    by_node : (b : Bool) → (b ≡ true → e.node ≡ n) → (all : ℕ) → all ≡ (0 + cond b 1 0) + count_by (λ (f : Event). f.node == n) events →
        (cond b h.0 (start n)).state.clock + count_by (λ (f : Event). f.node == n) events ≡ (start n).state.clock + all
    by_node true q all is =
        let here : h.0.state.clock ≡ (start e.node).state.clock + 1 = step_clock st e.node e.stamp e.input (start e.node) h.0 e.done h.1 in
        let same : (start e.node).state.clock ≡ (start n).state.clock = ap (λ (k : ℕ). (start k).state.clock) (q refl) in
        omega (arith, is)
    by_node false q all is = omega (arith, is)

-- a node's clock counts its events
pub clock_is : (st : Setting) (past : List Event) (nodes : ℕ → Node) → AreAfter st past nodes → (n : ℕ) →
    (nodes n).state.clock ≡ count_by (λ (e : Event). e.node == n) past
clock_is st past nodes after n =
    let all : (nodes n).state.clock ≡ 0 + count_by (λ (e : Event). e.node == n) past = replay_clock st (first_node st) past nodes after n in
    omega arith

pub clock_few : (st : Setting) (past : List Event) (nodes : ℕ → Node) → AreAfter st past nodes → (n : ℕ) → (nodes n).state.clock ≤ length past
clock_few st past nodes after n = omega (arith, clock_is st past nodes after n, count_few n past)

-- ## one more event

-- the stamp of an event that takes the first letter
stamp_fits : (past : List Event) (me old stamp : ℕ) (i : Input) → ((n m : ℕ) → Every (λ (l : Letter). l.stamp ≤ length past) (issued n m past)) →
    TakesFirst past me i → stamp ≡ stamp_after old i → old ≤ length past → length past + 1 < 2 ^ 55 →
    IsLater i stamp × (stamp ≤ length past + 1)
stamp_fits past me old stamp (input.Do c) few first is at short = (tt, omega (arith, is))
stamp_fits past me old stamp (input.Serve name) few first is at short = (tt, omega (arith, is))
stamp_fits past me old stamp (input.Take from l) few first is at short = (omega (arith, now, early), omega (arith, now, early))
  where
    early : l.stamp ≤ length past
    early = every_at (λ (k : Letter). k.stamp ≤ length past) (issued from me past) (length (taken from me past)) l (few from me)
        (drop_first (length (taken from me past)) (issued from me past) l first)

    small : nat_lt l.stamp too_large ≡ true
    small = (let below : l.stamp < too_large = omega (arith, early, short) in grind (arith, nat_tests))

    now : stamp ≡ max old l.stamp + 1
    now = is ∙ ap (λ (b : Bool). max old (cond b l.stamp 0) + 1) small

next_fits : (past : List Event) (me : ℕ) (i : Input) → ((n m : ℕ) → taken n m past ≡ arrived n m past) → TakesFirst past me i → IsNext past me i
next_fits past me (input.Do c) same first = tt
next_fits past me (input.Serve name) same first = tt
next_fits past me (input.Take from l) same first =
    subst (λ (k : List Letter). slice_get (issued from me past) (length k) ≡ Some l) (same from me)
    (drop_first (length (taken from me past)) (issued from me past) l first)

above : (old : ℕ) (i : Input) → old < stamp_after old i
above old i = omega arith

module _ (st : Setting) (past : List Event) (nodes : ℕ → Node) (stamps : ℕ → ℕ) (e : Event) (n : Node)
    (opening : IsOpening st.nodes st.limit st.births) (leads : Leads st past nodes stamps) (next : MayFollow st past nodes stamps e n)
    (short : length past + 1 < 2 ^ 55) where
  new_stamp : IsLater e.input e.stamp × (e.stamp ≤ length past + 1)
  new_stamp = stamp_fits past e.node (stamps e.node) e.stamp e.input (λ k m. issued_few st past nodes leads.legal.fits leads.reached k m)
      next.first next.stamp (leads.stamped.few e.node) short

  rises : stamps e.node < e.stamp
  rises = omega (arith, above (stamps e.node) e.input, next.stamp)

  new_fits : Fits st past e
  new_fits = record {
    a_node = next.a_node;
    an_input = next.an_input;
    few = omega (arith, count_few e.node past, short);
    rising = λ f c at. (let last : f.stamp ≤ stamps f.node = leads.stamped.last f c in
        let same : stamps f.node ≡ stamps e.node = ap stamps at in omega (arith, rises));
    later = new_stamp.0;
    early = new_stamp.1;
    next = next_fits past e.node e.input (λ k m. taken_arrived st past opening leads.legal k m) next.first;
    again = next.again;
  }

  length_more : length (past ++ e ∷ []) ≡ length past + 1
  length_more = length-append past (e ∷ [])

  new_last : (f : Event) → Contains (past ++ e ∷ []) f → f.stamp ≤ put stamps e.node e.stamp f.node
  new_last f c = by_place (Contains-push_cases past e f c) (two e.node f.node)
    where
      by_place : Contains past f ⊎ (e ≡ f) → Two e.node f.node → f.stamp ≤ put stamps e.node e.stamp f.node
      by_place (inl old) (Same a) =
          let now : put stamps e.node e.stamp f.node ≡ e.stamp = ap (put stamps e.node e.stamp) (sym a) ∙ put_same stamps e.node e.stamp in
          let same : stamps e.node ≡ stamps f.node = ap stamps a in
          omega (arith, now, same, leads.stamped.last f old, rises)
      by_place (inl old) (Apart h d) =
          let now : put stamps e.node e.stamp f.node ≡ stamps f.node = put_apart stamps e.node f.node e.stamp h in
          omega (arith, now, leads.stamped.last f old)
      by_place (inr same) t = subst (λ (g : Event). g.stamp ≤ put stamps e.node e.stamp g.node) same
          (let now : put stamps e.node e.stamp e.node ≡ e.stamp = put_same stamps e.node e.stamp in omega arith)

  new_few : (k : ℕ) → put stamps e.node e.stamp k ≤ length (past ++ e ∷ [])
  new_few k = by_test (e.node == k)
    where
      by_test : (b : Bool) → cond b e.stamp (stamps k) ≤ length (past ++ e ∷ [])
      by_test true = omega (arith, length_more, new_stamp.1)
      by_test false = omega (arith, length_more, leads.stamped.few k)

  grown : Leads st (past ++ e ∷ []) (put nodes e.node n) (put stamps e.node e.stamp)
  grown = (let replay : AreAfter st (past ++ e ∷ []) (put nodes e.node n) = replays_more st past e (first_node st) nodes n leads.reached next.step in record {
    legal = record { fits = fits_more st past e leads.legal.fits new_fits; steps = (put nodes e.node n, replay) };
    reached = replay;
    stamped = record { last = new_last; few = new_few };
  })

-- ## the laws

pub history_begins : HistoryBegins
history_begins st = record {
  legal = empty_is_legal st;
  reached = refl;
  stamped = record { last = λ e c. absurd (omega (arith, c.1)); few = λ n. omega arith };
}

pub history_grows : HistoryGrows
history_grows st past nodes stamps e n opening leads next short = grown st past nodes stamps e n opening leads next short
