-- The letters in flight as a legal history grows.
use Rattle.std.proofs.Common.{◌≡◌, ◌≢◌, ℕ, ◌+◌, ◌<◌, ◌≤◌, zero, suc, arith, refl, ap, sym, subst, ◌∙◌, Bool, true, false, cond, List, [], ◌∷◌, ◌++◌, length, drop, length-append, append_assoc, append-nil}
use Rattle.std.specs.Prelude.{◌==◌, ◌||◌, not, nat_le, Option, Some, None, Contains}
use Rattle.std.specs.List.{cons_option}
use Rattle.std.proofs.lemmas.List.{drop-append-le}
use Rattle.std.proofs.lemmas.List.Elements.{filter_map-append}
use Rattle.std.proofs.lemmas.Option.{slice_get_within}
use Rattle.bmx_types.specs.Openings.{IsOpening}
use Rattle.bmx_msg.specs.declared.letters.Letter.{Letter}
use Rattle.bmx_protocol.specs.declared.inputs.Input.{Input}
use Rattle.bmx_protocol.specs.declared.inputs.Input.TheVariants as input
use Rattle.bmx_protocol.specs.declared.inputs.NodeAnswer.TheVariants as answer
use Rattle.bmx_protocol.specs.declared.inputs.Done.{Done}
use Rattle.bmx_protocol.specs.declared.events.Event.{Event}
use Rattle.bmx_protocol.specs.Nodes.{Setting}
use Rattle.bmx_protocol.specs.Rules.{only, take_rule}
use Rattle.bmx_protocol.specs.Strays.{is_no_node, too_large, is_bad_msg}
use Rattle.bmx_protocol.specs.Steps.{Node, first_node, IsStep, rule, is_taken}
use Rattle.bmx_protocol.specs.Histories.{letters_to, letter_from, issued, arrived, taken, in_flight, IsNext, EachFits, Replays, IsLegal}
use Rattle.bmx_protocol.proofs.Basics.{two, Two, Same, Apart, eqb_of, eqb_apart}
use Rattle.bmx_protocol.proofs.Prefixes.{prefix_is_legal}
use Rattle.bmx_store_laws.specs.Inside.Seen.{seen, first_world}
use Rattle.bmx_store_laws.proofs.Histories.{Came, came_after}
use Rattle.bmx_legal.specs.Laws.{FlightGrows}
use Rattle.bmx_legal.proofs.Growing.{acts, last_not_stray, taken_arrived}

-- ## lists

drop_none : {A : Type 0} (k : ℕ) (xs : List A) → xs ≡ [] → drop k xs ≡ []
drop_none k xs e = ap (drop k) e ∙ none k
  where
    none : {A : Type 0} (k : ℕ) → drop {A = A} k [] ≡ []
    none zero = refl
    none (suc k) = refl

-- ## issued and arrived

pub issued_append : (n m : ℕ) (past more : List Event) → issued n m (past ++ more) ≡ issued n m past ++ issued n m more
issued_append n m [] more = refl
issued_append n m (f ∷ past) more = by_test (f.node == n) (issued_append n m past more)
  where
    by_test : (b : Bool) → issued n m (past ++ more) ≡ issued n m past ++ issued n m more →
        cond b (letters_to m f.done.letters ++ issued n m (past ++ more)) (issued n m (past ++ more))
        ≡ cond b (letters_to m f.done.letters ++ issued n m past) (issued n m past) ++ issued n m more
    by_test true h = ap (λ (l : List Letter). letters_to m f.done.letters ++ l) h
        ∙ sym (append_assoc (letters_to m f.done.letters) (issued n m past) (issued n m more))
    by_test false h = h

pub arrived_append : (n m : ℕ) (past more : List Event) → arrived n m (past ++ more) ≡ arrived n m past ++ arrived n m more
arrived_append n m past more = filter_map-append (λ (f : Event). cond (f.node == m) (letter_from n f.input) None) past more

-- what an event issues
pub issued_here : (n m : ℕ) (e : Event) → e.node ≡ n → issued n m (e ∷ []) ≡ letters_to m e.done.letters
issued_here n m e at = ap (λ (b : Bool). cond b (letters_to m e.done.letters ++ []) []) (eqb_of at) ∙ append-nil (letters_to m e.done.letters)

pub issued_elsewhere : (n m : ℕ) (e : Event) → e.node ≢ n → issued n m (e ∷ []) ≡ []
issued_elsewhere n m e apart = ap (λ (b : Bool). cond b (letters_to m e.done.letters ++ []) []) (eqb_apart e.node n apart)

-- what an event takes
arrived_here : (n m : ℕ) (e : Event) → e.node ≡ m → arrived n m (e ∷ []) ≡ cons_option (letter_from n e.input) []
arrived_here n m e at = ap (λ (b : Bool). cons_option (cond b (letter_from n e.input) None) []) (eqb_of at)

arrived_elsewhere : (n m : ℕ) (e : Event) → e.node ≢ m → arrived n m (e ∷ []) ≡ []
arrived_elsewhere n m e apart = ap (λ (b : Bool). cons_option (cond b (letter_from n e.input) None) []) (eqb_apart e.node m apart)

-- it takes at most the next
within_next : (past : List Event) (n m : ℕ) (i : Input) → IsNext past m i → length (arrived n m past) ≤ length (issued n m past) →
    length (arrived n m past) + length (cons_option (letter_from n i) []) ≤ length (issued n m past)
within_next past n m (input.Do c) next within = omega (arith, within)
within_next past n m (input.Serve name) next within = omega (arith, within)
within_next past n m (input.Take from l) next within = by_two (two from n)
  where
    by_test : (b : Bool) → length (cons_option (cond b (Some l) None) []) ≤ 1
    by_test true = omega arith
    by_test false = omega arith

    by_two : Two from n → length (arrived n m past) + length (cons_option (cond (from == n) (Some l) None) []) ≤ length (issued n m past)
    by_two (Same a) =
        let below : length (arrived n m past) < length (issued n m past) =
        subst (λ (k : ℕ). length (arrived k m past) < length (issued k m past)) a (slice_get_within (issued from m past) (length (arrived from m past)) l next) in
        omega (arith, below, by_test (from == n))
    by_two (Apart h d) =
        let none : length (cons_option (cond (from == n) (Some l) None) []) ≡ 0 = ap (λ (b : Bool). length (cons_option (cond b (Some l) None) [])) h in
        omega (arith, within, none)

within_event : (past : List Event) (n m : ℕ) (e : Event) → IsNext past e.node e.input → length (arrived n m past) ≤ length (issued n m past) →
    length (arrived n m past) + length (arrived n m (e ∷ [])) ≤ length (issued n m past)
within_event past n m e next within = by_two (two e.node m)
  where
    by_two : Two e.node m → length (arrived n m past) + length (arrived n m (e ∷ [])) ≤ length (issued n m past)
    by_two (Same a) =
        let some : length (arrived n m (e ∷ [])) ≡ length (cons_option (letter_from n e.input) []) = ap length (arrived_here n m e a) in
        omega (arith, some, within_next past n m e.input (subst (λ (k : ℕ). IsNext past k e.input) a next) within)
    by_two (Apart h d) =
        let none : length (arrived n m (e ∷ [])) ≡ 0 = ap length (arrived_elsewhere n m e d) in
        omega (arith, within, none)

-- ## the law

drop_both : {A : Type 0} (j k : ℕ) (xs ys : List A) → j + k ≤ length xs → drop (j + k) (xs ++ ys) ≡ drop k (drop j xs) ++ ys
drop_both {A = A} j k xs ys within = drop-append-le (j + k) xs ys within ∙ ap (λ (l : List A). l ++ ys) (twice j k xs)
  where
    twice : {A : Type 0} (j k : ℕ) (xs : List A) → drop (j + k) xs ≡ drop k (drop j xs)
    twice zero k xs = (let same : zero + k ≡ k = omega arith in ap (λ (z : ℕ). drop z xs) same)
    twice (suc j) k [] = drop_none (suc j + k) [] refl ∙ sym (drop_none k (drop (suc j) []) refl)
    twice (suc j) k (x ∷ xs) = (let same : suc j + k ≡ suc (j + k) = omega arith in ap (λ (z : ℕ). drop z (x ∷ xs)) same ∙ twice j k xs)

pub flight_grows : FlightGrows
flight_grows st past e opening legal n m =
    (λ i. drop (length (count i)) (issued_append n m past (e ∷ []) i))
    ∙ ap (λ (k : ℕ). drop k (issued n m past ++ issued n m (e ∷ []))) (length-append (arrived n m past) (arrived n m (e ∷ [])))
    ∙ drop_both (length (arrived n m past)) (length (arrived n m (e ∷ []))) (issued n m past) (issued n m (e ∷ [])) all_within
    ∙ ap (λ (l : List Letter). drop (length (arrived n m (e ∷ []))) (drop (length l) (issued n m past)) ++ issued n m (e ∷ [])) (sym before)
  where
    old : IsLegal st past
    old = prefix_is_legal st past (e ∷ []) legal

    before : taken n m past ≡ arrived n m past
    before = taken_arrived st past opening old n m

    count : taken n m (past ++ e ∷ []) ≡ arrived n m past ++ arrived n m (e ∷ [])
    count = taken_arrived st (past ++ e ∷ []) opening legal n m ∙ arrived_append n m past (e ∷ [])

    came : Came st 0 (seen 0 (first_world st)) past old.steps.0
    came = came_after st past old.steps.0 opening old old.steps.1 0

    within : length (arrived n m past) ≤ length (issued n m past)
    within = subst (λ (l : List Letter). length l ≤ length (issued n m past)) before (came.channels.within n m)

    all_within : length (arrived n m past) + length (arrived n m (e ∷ [])) ≤ length (issued n m past)
    all_within = within_event past n m e (legal.fits past [] e refl).next within

-- ## for whoever adds an event

-- nothing is in flight as a store opens
pub flight_begins : (n m : ℕ) → in_flight n m [] ≡ []
flight_begins n m = refl

-- where an event takes nothing from n at m
flight_untaken : (st : Setting) (past : List Event) (e : Event) → IsOpening st.nodes st.limit st.births → IsLegal st (past ++ e ∷ []) → (n m : ℕ) →
    arrived n m (e ∷ []) ≡ [] → in_flight n m (past ++ e ∷ []) ≡ in_flight n m past ++ issued n m (e ∷ [])
flight_untaken st past e opening legal n m none =
    flight_grows st past e opening legal n m ∙ ap (λ (l : List Letter). drop (length l) (in_flight n m past) ++ issued n m (e ∷ [])) none

-- ### nobody takes from itself

-- the last step of a history
last_step : (st : Setting) (past : List Event) (e : Event) (start last : ℕ → Node) → Replays st start (past ++ e ∷ []) last →
    (old : Node) × (new : Node) × IsStep st e.node old e.stamp e.input e.done new
last_step st [] e start last h = (start e.node, h.0, h.1)
last_step st (f ∷ past) e start last h = last_step st past e _ last h.2

stray_from_itself : (st : Setting) (me stamp from : ℕ) (l : Letter) (i : Input) (old new : Node) (done : Done) → IsStep st me old stamp i done new → i ≡ input.Take from l →
    from ≡ me → done.answer ≡ answer.Stray
stray_from_itself st me stamp from l i old new done step is own =
    ap (λ (d : Done). d.answer) step.outcome
    ∙ ap (λ (j : Input). (rule st me old.state step.told j).answer) is
    ∙ ap (λ (b : Bool). (cond ((b || is_no_node st from || not (l.seq == old.state.taken from + 1) || nat_le too_large l.stamp || is_bad_msg st me old.state l.msg) || step.told.clash)
    (only answer.Stray) (take_rule me old.state step.told.lies from l.seq l.msg)).answer) (eqb_of own)

pub never_own : (st : Setting) (past : List Event) (e : Event) (from : ℕ) (l : Letter) → IsOpening st.nodes st.limit st.births → IsLegal st (past ++ e ∷ []) →
    e.input ≡ input.Take from l → from ≢ e.node
never_own st past e from l opening legal is own =
    let s = last_step st past e (first_node st) legal.steps.0 legal.steps.1 in
    let stray : e.done.answer ≡ answer.Stray = stray_from_itself st e.node e.stamp from l e.input s.0 s.1 e.done s.2 is own in
    let taken : is_taken e.done.answer ≡ true = last_not_stray st past e opening legal in
    absurd (no (sym taken ∙ ap is_taken stray))
  where
    no : true ≡ false → ⊥
    no h = cc

-- ### pair by pair

-- the event takes the first letter from a node: the others stay
pub flight_shorter : (st : Setting) (past : List Event) (e : Event) (from : ℕ) (l k : Letter) (rest : List Letter) → IsOpening st.nodes st.limit st.births →
    IsLegal st (past ++ e ∷ []) → e.input ≡ input.Take from l → in_flight from e.node past ≡ k ∷ rest → in_flight from e.node (past ++ e ∷ []) ≡ rest
flight_shorter st past e from l k rest opening legal is first =
    flight_grows st past e opening legal from e.node
    ∙ ap (λ (all : List Letter). drop (length (arrived from e.node (e ∷ []))) all ++ issued from e.node (e ∷ [])) first
    ∙ (λ i. drop (length (one i)) (k ∷ rest) ++ none i)
    ∙ append-nil rest
  where
    one : arrived from e.node (e ∷ []) ≡ l ∷ []
    one = arrived_here from e.node e refl ∙ ap (λ (i : Input). cons_option (letter_from from i) []) is
        ∙ ap (λ (b : Bool). cons_option (cond b (Some l) None) []) (eqb_of {a = from} refl)

    none : issued from e.node (e ∷ []) ≡ []
    none = issued_elsewhere from e.node e (λ own. never_own st past e from l opening legal is (sym own))

pub flight_taken : (st : Setting) (past : List Event) (e : Event) (from : ℕ) (l : Letter) (rest : List Letter) → IsOpening st.nodes st.limit st.births →
    IsLegal st (past ++ e ∷ []) → e.input ≡ input.Take from l → in_flight from e.node past ≡ l ∷ rest → in_flight from e.node (past ++ e ∷ []) ≡ rest
flight_taken st past e from l rest opening legal is first = flight_shorter st past e from l l rest opening legal is first

-- it takes nothing from itself
own_untaken : (st : Setting) (past : List Event) (e : Event) (m : ℕ) → IsOpening st.nodes st.limit st.births → IsLegal st (past ++ e ∷ []) →
    arrived e.node m (e ∷ []) ≡ []
own_untaken st past e m opening legal = by_two (two e.node m)
  where
    by_input : (i : Input) → e.input ≡ i → cons_option (letter_from e.node i) [] ≡ []
    by_input (input.Do c) is = refl
    by_input (input.Serve name) is = refl
    by_input (input.Take from l) is = ap (λ (b : Bool). cons_option (cond b (Some l) None) []) (eqb_apart from e.node (never_own st past e from l opening legal is))

    by_two : Two e.node m → arrived e.node m (e ∷ []) ≡ []
    by_two (Same a) = arrived_here e.node m e a ∙ by_input e.input refl
    by_two (Apart h d) = arrived_elsewhere e.node m e d

-- the letters that the event issues come last
pub flight_sent : (st : Setting) (past : List Event) (e : Event) → IsOpening st.nodes st.limit st.births → IsLegal st (past ++ e ∷ []) → (m : ℕ) →
    in_flight e.node m (past ++ e ∷ []) ≡ in_flight e.node m past ++ letters_to m e.done.letters
flight_sent st past e opening legal m =
    flight_untaken st past e opening legal e.node m (own_untaken st past e m opening legal)
    ∙ ap (λ (l : List Letter). in_flight e.node m past ++ l) (issued_here e.node m e refl)

-- between other nodes all stays
pub flight_apart : (st : Setting) (past : List Event) (e : Event) → IsOpening st.nodes st.limit st.births → IsLegal st (past ++ e ∷ []) → (n m : ℕ) →
    e.node ≢ n → e.node ≢ m → in_flight n m (past ++ e ∷ []) ≡ in_flight n m past
flight_apart st past e opening legal n m not_from not_to =
    flight_untaken st past e opening legal n m (arrived_elsewhere n m e not_to)
    ∙ ap (λ (l : List Letter). in_flight n m past ++ l) (issued_elsewhere n m e not_from) ∙ append-nil (in_flight n m past)

-- and so it does from a node from which the event doesn't take
pub flight_kept : (st : Setting) (past : List Event) (e : Event) → IsOpening st.nodes st.limit st.births → IsLegal st (past ++ e ∷ []) → (n m : ℕ) →
    e.node ≢ n → letter_from n e.input ≡ None → in_flight n m (past ++ e ∷ []) ≡ in_flight n m past
flight_kept st past e opening legal n m not_from untaken =
    flight_untaken st past e opening legal n m (by_two (two e.node m))
    ∙ ap (λ (l : List Letter). in_flight n m past ++ l) (issued_elsewhere n m e not_from) ∙ append-nil (in_flight n m past)
  where
    by_two : Two e.node m → arrived n m (e ∷ []) ≡ []
    by_two (Same a) = arrived_here n m e a ∙ ap (λ (o : Option Letter). cons_option o []) untaken
    by_two (Apart h d) = arrived_elsewhere n m e d

-- ## senders

unsent : (n m : ℕ) (past : List Event) → ((e : Event) → Contains past e → e.node ≢ n) → issued n m past ≡ []
unsent n m [] each = refl
unsent n m (e ∷ past) each =
    ap (λ (b : Bool). cond b (letters_to m e.done.letters ++ issued n m past) (issued n m past)) (eqb_apart e.node n (each e (0, omega arith, refl)))
    ∙ unsent n m past (λ f c. each f (suc c.0, omega (arith, c.1), c.2))

-- only nodes of the store send
pub senders : (st : Setting) (past : List Event) → EachFits st past → (n m : ℕ) → st.nodes ≤ n → in_flight n m past ≡ []
senders st past each n m beyond =
    drop_none (length (taken n m past)) (issued n m past)
    (unsent n m past (λ e c same. (let below : e.node < st.nodes = acts st past e each c in absurd (omega (arith, below, same, beyond)))))
