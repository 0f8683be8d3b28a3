-- Two runs worked by hand are legal.
use Rattle.std.proofs.Common.{◌≡◌, ℕ, ◌+◌, ◌^◌, ◌<◌, ◌≤◌, arith, refl, ap, sym, subst, ◌∙◌, Bool, true, false, List, [], ◌∷◌, ◌++◌, length, take, zero, suc, cond}
use Rattle.std.specs.Prelude.{nat_lt, nat_le, ◌&&◌, ◌==◌, Contains, None, if◌then◌else◌, slice_index_or, count_by}
use Rattle.std.proofs.lemmas.Bool.Decides.{nat_tests}
use Rattle.bmx_types.specs.Updates.{put}
use Rattle.bmx_protocol.specs.declared.events.Event.{Event}
use Rattle.bmx_protocol.specs.declared.inputs.Input.{Input}
use Rattle.bmx_protocol.specs.declared.inputs.Input.TheVariants as input
use Rattle.bmx_protocol.specs.declared.inputs.NodeAnswer.{NodeAnswer}
use Rattle.bmx_protocol.specs.declared.inputs.NodeAnswer.TheVariants as answer
use Rattle.bmx_protocol.specs.Nodes.{Setting}
use Rattle.bmx_protocol.specs.Steps.{Node, first_node, Told, rule, done_of, closed, MovesTo, IsStep}
use Rattle.bmx_protocol.specs.Histories.{IsInputOf, IsNext, IsLater, waits_with, IsAgain, Fits, Replays}
use Rattle.bmx_protocol.specs.Cases.{told_at, places_after, one_bunch, told_of_the_object, written_by_its_taker}
use Rattle.bmx_protocol.specs.Laws.{WorkedRunsAreLegal}
use Rattle.bmx_protocol.proofs.Prefixes.{joined, not_empty}

lt_sound : (a b : ℕ) → nat_lt a b ≡ true → a < b
lt_sound a b h = grind (arith, nat_tests)

le_sound : (a b : ℕ) → nat_le a b ≡ true → a ≤ b
le_sound a b h = grind (arith, nat_tests)

-- ## each event fits

abbrev FitAll : Setting → List Event → List Event → Type 0
FitAll st past [] = Unit {0}
FitAll st past (e ∷ events) = Fits st past e × FitAll st (past ++ e ∷ []) events

first_of_list : Event → List Event → Event
first_of_list d [] = d
first_of_list d (e ∷ events) = e

rest_of_list : List Event → List Event
rest_of_list [] = []
rest_of_list (e ∷ events) = events

at_end : (past : List Event) → past ++ [] ≡ past
at_end [] = refl
at_end (e ∷ past) = ap (λ (l : List Event). e ∷ l) (at_end past)

same_first : (e f : Event) (p q : List Event) → e ∷ p ≡ f ∷ q → e ≡ f
unfolding first_of_list
same_first e f p q h = ap (first_of_list e) h

same_rest : (e f : Event) (p q : List Event) → e ∷ p ≡ f ∷ q → p ≡ q
unfolding rest_of_list
same_rest e f p q h = ap rest_of_list h

fit_each : (st : Setting) (past events : List Event) → FitAll st past events →
    (p r : List Event) (e : Event) → p ++ e ∷ r ≡ events → Fits st (past ++ p) e
fit_each st past [] fit p r e h = absurd (not_empty p r e h)
fit_each st past (x ∷ xs) fit [] r e h =
    subst (λ (l : List Event). Fits st l e) (sym (at_end past)) (subst (Fits st past) (sym (same_first e x r xs h)) fit.0)
fit_each st past (x ∷ xs) fit (y ∷ q) r e h =
    let there : Fits st ((past ++ x ∷ []) ++ q) e =
    fit_each st (past ++ x ∷ []) xs fit.1 q r e (same_rest y x (q ++ e ∷ r) xs h) in
    let same : (past ++ x ∷ []) ++ q ≡ past ++ y ∷ q =
    joined past (x ∷ []) q ∙ ap (λ (f : Event). past ++ f ∷ q) (sym (same_first y x (q ++ e ∷ r) xs h)) in
    subst (λ (l : List Event). Fits st l e) same there

-- ## each event is a step

after_event : Setting → (ℕ → Node) → Event → Node
after_event st nodes e = record {
  state = closed e.stamp (nodes e.node).state (rule st e.node (nodes e.node).state (told_at st e.node (nodes e.node) e.input) e.input);
  places = places_after e.node (nodes e.node) e.input e.done.answer;
}

abbrev StepAll : Setting → (ℕ → Node) → List Event → Type 0
unfolding after_event
StepAll st nodes [] = Unit {0}
StepAll st nodes (e ∷ events) =
    (e.done ≡ done_of e.stamp (nodes e.node).state (rule st e.node (nodes e.node).state (told_at st e.node (nodes e.node) e.input) e.input))
    × StepAll st (put nodes e.node (after_event st nodes e)) events

moves : (me : ℕ) (n : Node) (t : Told) (i : Input) (a : NodeAnswer) → MovesTo me n t i a (places_after me n i a)
moves me n t (input.Do c) a = refl
moves me n t (input.Serve name) a = refl
moves me n t (input.Take from l) a = refl

replay_all : (st : Setting) (nodes : ℕ → Node) (events : List Event) → StepAll st nodes events →
    (last : ℕ → Node) × Replays st nodes events last
unfolding StepAll after_event
replay_all st nodes [] h = (nodes, refl)
replay_all st nodes (e ∷ events) h =
    let t : (last : ℕ → Node) × Replays st (put nodes e.node (after_event st nodes e)) events last =
    replay_all st (put nodes e.node (after_event st nodes e)) events h.1 in
    let step : IsStep st e.node (nodes e.node) e.stamp e.input e.done (after_event st nodes e) =
    record {
      told = told_at st e.node (nodes e.node) e.input;
      is_told = record { full = refl; clash = refl; lies = λ name. refl };
      outcome = h.0;
      state = refl;
      places = moves e.node (nodes e.node) (told_at st e.node (nodes e.node) e.input) e.input e.done.answer;
    } in
    (t.0, (after_event st nodes e, step, t.1))

-- ## stamps rise

abbrev rises : List Event → ℕ → ℕ → Bool
rises [] n stamp = true
rises (f ∷ past) n stamp = if f.node == n then nat_lt f.stamp stamp && rises past n stamp else rises past n stamp

and_cond : (b c d : Bool) → cond b (c && d) d ≡ true → (d ≡ true) × (b ≡ true → c ≡ true)
and_cond true true d h = (h, λ _. refl)
and_cond true false d h = cc
and_cond false c d h = (h, λ q. cc)

eq_true : (a b : ℕ) → a ≡ b → (a == b) ≡ true
eq_true a b h = grind (arith, nat_tests)

rises_sound : (past : List Event) (n stamp : ℕ) → rises past n stamp ≡ true →
    (f : Event) (k : ℕ) → k < length past → slice_index_or past k f ≡ f → f.node ≡ n → f.stamp < stamp
rises_sound [] n stamp h f k within at q = absurd (omega arith)
rises_sound (g ∷ past) n stamp h f zero within at q =
    let here : (g.node == n) ≡ true = eq_true g.node n (ap (λ (e : Event). e.node) at ∙ q) in
    let below : nat_lt g.stamp stamp ≡ true = (and_cond (g.node == n) (nat_lt g.stamp stamp) (rises past n stamp) h).1 here in
    subst (λ (e : Event). e.stamp < stamp) at (lt_sound g.stamp stamp below)
rises_sound (g ∷ past) n stamp h f (suc k) within at q =
    rises_sound past n stamp (and_cond (g.node == n) (nat_lt g.stamp stamp) (rises past n stamp) h).0 f k (omega arith) at q

-- the stamp of an event is above the earlier ones of its node
rising : (past : List Event) (e : Event) → rises past e.node e.stamp ≡ true →
    (f : Event) → Contains past f → f.node ≡ e.node → f.stamp < e.stamp
rising past e h f there same = rises_sound past e.node e.stamp h f there.0 there.1 there.2 same

-- ## events by what they compute

-- an event of a store of nodes fits, by tests of its numbers
fits_by : (st : Setting) (past : List Event) (e : Event) → nat_lt e.node st.nodes ≡ true → IsInputOf st e.input →
    nat_lt (count_by (λ f. f.node == e.node) past + 1) (2 ^ 55) ≡ true → rises past e.node e.stamp ≡ true → IsLater e.input e.stamp →
    nat_le e.stamp (length past + 1) ≡ true → IsNext past e.node e.input → IsAgain (waits_with e.node None past) e.input → Fits st past e
fits_by st past e real input few rise later early next again = record {
  a_node = lt_sound _ _ real;
  an_input = input;
  few = lt_sound _ _ few;
  rising = rising past e rise;
  later = later;
  early = le_sound _ _ early;
  next = next;
  again = again;
}

abbrev st : Setting
st = one_bunch 2

-- event k of a run, from 0
abbrev event_of : List Event → ℕ → Event
event_of run k = slice_index_or run k (record { node = 0; stamp = 0; input = input.Serve 0; done = record { answer = answer.Idle; letters = [] } })

-- ## a run with an object stored

abbrev told : List Event
told = told_of_the_object.past

told_0 : Fits st (take 0 told) (event_of told 0)
told_0 = fits_by _ _ _ refl (lt_sound _ _ refl, lt_sound _ _ refl, le_sound _ _ refl) refl refl tt refl tt tt

told_1 : Fits st (take 1 told) (event_of told 1)
told_1 = fits_by _ _ _ refl (lt_sound _ _ refl) refl refl tt refl tt tt

told_2 : Fits st (take 2 told) (event_of told 2)
told_2 = fits_by _ _ _ refl (lt_sound _ _ refl, lt_sound _ _ refl) refl refl tt refl tt tt

told_3 : Fits st (take 3 told) (event_of told 3)
told_3 = fits_by _ _ _ refl (lt_sound _ _ refl) refl refl tt refl tt tt

told_4 : Fits st (take 4 told) (event_of told 4)
told_4 = fits_by _ _ _ refl (lt_sound _ _ refl) refl refl tt refl tt tt

told_5 : Fits st (take 5 told) (event_of told 5)
told_5 = fits_by _ _ _ refl (lt_sound _ _ refl) refl refl (lt_sound _ _ refl) refl refl tt

told_6 : Fits st (take 6 told) (event_of told 6)
told_6 = fits_by _ _ _ refl tt refl refl tt refl tt tt

told_7 : Fits st (take 7 told) (event_of told 7)
told_7 = fits_by _ _ _ refl (lt_sound _ _ refl) refl refl (lt_sound _ _ refl) refl refl tt

-- ## a run with ownership handed over

abbrev written : List Event
written = written_by_its_taker.past

written_0 : Fits st (take 0 written) (event_of written 0)
written_0 = fits_by _ _ _ refl (lt_sound _ _ refl) refl refl tt refl tt tt

written_1 : Fits st (take 1 written) (event_of written 1)
written_1 = fits_by _ _ _ refl (lt_sound _ _ refl) refl refl (lt_sound _ _ refl) refl refl tt

written_2 : Fits st (take 2 written) (event_of written 2)
written_2 = fits_by _ _ _ refl tt refl refl tt refl tt tt

written_3 : Fits st (take 3 written) (event_of written 3)
written_3 = fits_by _ _ _ refl (lt_sound _ _ refl) refl refl (lt_sound _ _ refl) refl refl tt

written_4 : Fits st (take 4 written) (event_of written 4)
written_4 = fits_by _ _ _ refl (lt_sound _ _ refl) refl refl tt refl tt refl

written_5 : Fits st (take 5 written) (event_of written 5)
written_5 = fits_by _ _ _ refl (lt_sound _ _ refl) refl refl tt refl tt tt

written_6 : Fits st (take 6 written) (event_of written 6)
written_6 = fits_by _ _ _ refl (lt_sound _ _ refl) refl refl (lt_sound _ _ refl) refl refl tt

pub worked_runs_are_legal : WorkedRunsAreLegal
unfolding after_event
worked_runs_are_legal = (
  record {
    fits = fit_each st [] told (told_0, (told_1, (told_2, (told_3, (told_4, (told_5, (told_6, (told_7, tt))))))));
    steps = replay_all st (first_node st) told (refl, (refl, (refl, (refl, (refl, (refl, (refl, (refl, tt))))))));
  },
  record {
    fits = fit_each st [] written (written_0, (written_1, (written_2, (written_3, (written_4, (written_5, (written_6, tt)))))));
    steps = replay_all st (first_node st) written (refl, (refl, (refl, (refl, (refl, (refl, (refl, tt)))))));
  },
)
