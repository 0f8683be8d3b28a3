-- What a turn makes of a run: it goes on by an event, or has stopped before it or behind it.
use Rattle.std.proofs.Common.{◌≡◌, ℕ, ◌-◌, ◌<◌, ◌≤◌, ◌^◌, inl, inr, arith, refl, ap, sym, ◌∙◌, subst, cond, List, [], ◌∷◌, ◌++◌, length, Some, None}
use Rattle.std.specs.Prelude.{◌==◌, slice_get, string_bytes}
use Rattle.std.proofs.lemmas.List.{length-append}
use Rattle.bmx_script.specs.declared.lines.Line.{Line}
use Rattle.bmx_protocol.specs.declared.inputs.Input.{Input}
use Rattle.bmx_protocol.specs.declared.events.Event.{Event}
use Rattle.bmx_protocol.specs.Nodes.{Setting}
use Rattle.bmx_protocol.specs.Steps.{Node}
use Rattle.bmx_protocol.specs.Histories.{IsInputOf, IsAgain, waits_with}
use Rattle.bmx_protocol.specs.Runs.Turns.{Action, actor, input_of, picked, ComesNext}
use Rattle.bmx_protocol.proofs.Basics.{some_same}
use Rattle.bmx_protocol.proofs.Prefixes.{joined}
use Rattle.bmx_legal.specs.Growing.{Leads, TakesFirst}
use Rattle.bmx_legal.specs.Inside.Spots.{spots_to}
use Rattle.bmx_legal.proofs.Spots.{slice_end}
use Rattle.bmx_lanes.specs.Sending.{lane_of}
use Rattle.bmx_turns.proofs.Completing.{begins_one}
use Rattle.bmx_turns.proofs.Turning.{next_tried, takes_one}
use Rattle.bmx_world.specs.Scripts.{setting_of_script}
use Rattle.bmx_world.specs.Texts.{text_of}
use Rattle.bmx_run.specs.declared.actions.Action.{Action as Choice}
use Rattle.bmx_run.specs.declared.runner.Runner.{Runner}
use Rattle.bmx_run.specs.Inside.Seats.{AreSeats}
use Rattle.bmx_run.specs.Inside.Steps.{AreNodes, nodes_in, stamps_in, Steps, SameRun, event_of}
use Rattle.bmx_run.specs.Inside.Posting.{Posts}
use Rattle.bmx_run.specs.Inside.Running.{Point, store_of, history_of, with_event, IsWhole, IsInPhase, IsAt, IsStopped, IsOpen, Turned, Halted}
use Rattle.bmx_run.specs.Inside.Picking.{served_in, ServesAll, actions_at, MayTurn}
use Rattle.bmx_run.proofs.Stepping.{whole_grows}
use Rattle.bmx_run.proofs.Flying.{AllFound, added}

-- ## the same run

-- a runner that shows the same
pub whole_same : (lines : List Line) (history : List Event) (old new : Runner) → IsWhole lines history old → SameRun (setting_of_script lines) old new →
    new.budget ≡ old.budget → string_bytes new.text ≡ string_bytes old.text → IsWhole lines history new
whole_same lines history old new w same budget text = record {
  history = same.history ∙ w.history;
  few = subst (λ (k : ℕ). length history ≤ k) (sym budget) w.few;
  small = subst (λ (k : ℕ). k < 2 ^ 55) (sym budget) w.small;
  opens = w.opens;
  nodes = same.nodes.nodes;
  leads =
      subst (λ (f : ℕ → ℕ). Leads st history (nodes_in st new.nodes.items) f) (sym same.nodes.stamps)
      (subst (λ (f : ℕ → Node). Leads st history f (stamps_in old.nodes.items)) (sym same.nodes.seen) w.leads);
  stamped = same.nodes.stamps ∙ w.stamped;
  text = text ∙ w.text;
}
  where
    st : Setting
    st = setting_of_script lines

-- where nothing of it changed
pub run_same : (st : Setting) (old new : Runner) → AreNodes st old.nodes.items → new.history.items ≡ old.history.items → new.nodes.items ≡ old.nodes.items → SameRun st old new
run_same st old new are history nodes = record {
  history = history;
  nodes = record {
    nodes = subst (AreNodes st) (sym nodes) are;
    seen = ap (nodes_in st) nodes;
    stamps = ap stamps_in nodes;
  };
}

-- it stopped before the event
pub halted_before : (p : Point) (old new : Runner) → IsAt p old → SameRun (store_of p) old new → new.budget ≡ old.budget → string_bytes new.text ≡ string_bytes old.text → Halted p new
halted_before p old new at same budget text = record {
  at = p;
  same = inl refl;
  stopped = record { whole = whole_same p.lines (history_of p) old new at.whole same budget text; phase = at.phase };
}

-- ## an event more

-- a phase with the event of an action that the turn picked
pub phase_grows : (p : Point) (old : Runner) (e : Event) (a : Action) → IsAt p old → IsOpen p → ((n : ℕ) → n < (store_of p).nodes → ServesAll p old n) →
    picked p.seed (length (history_of p)) (actions_at p old) ≡ Some a → e.node ≡ actor a → e.input ≡ input_of a → IsInPhase (with_event p e)
phase_grows p old e a at goes_on served picks by_node by_input = record {
  comes = at.phase.comes;
  begun = begins_one p.stage p.part e at.phase.begun (next_tried (store_of p) p.seed p.stage p.past p.part e next);
  turns = takes_one (store_of p) p.seed p.past p.stage p.part e at.phase.turns goes_on next;
}
  where
    next : ComesNext (store_of p) p.seed p.stage p.past p.part e
    next = record {
      nodes = nodes_in (store_of p) old.nodes.items;
      lead = at.whole.leads.reached;
      names = served_in old.nodes.items;
      served = served;
      turn = record { action = a; picks = picks; by_node = by_node; by_input = by_input };
    }

-- an input is one that a node may be given at a point
pub record Fitting (p : Point) (n : ℕ) (i : Input) : Type 0 where
  pub of_store : IsInputOf (store_of p) i
  pub first : TakesFirst (history_of p) n i
  pub again : IsAgain (waits_with n None (history_of p)) i

-- a runner has an event more, in its phase
pub record Gone (p : Point) (e : Event) (r : Runner) : Type 0 where
  pub whole : IsWhole p.lines (history_of p ++ e ∷ []) r
  pub phase : IsInPhase (with_event p e)

pub gone : (p : Point) (old : Runner) (c : Choice) (n : ℕ) (i : Input) (mid last : Runner) → (t : MayTurn p old c) → (s : Steps (store_of p) old n i mid) →
    n ≡ actor t.action → i ≡ input_of t.action → Fitting p n i →
    last.history.items ≡ mid.history.items → last.nodes.items ≡ mid.nodes.items → last.budget ≡ old.budget →
    string_bytes last.text ≡ text_of p.lines (history_of p ++ event_of n i s.behind s.done ∷ []) →
    Gone p (event_of n i s.behind s.done) last
gone p old c n i mid last t s by_node by_input f same_history same_nodes same_budget text = record {
  whole = whole_grows p.lines (history_of p) old n i mid t.is_at.whole s f.of_store f.first f.again t.room last same_history same_nodes same_budget text;
  phase = phase_grows p old (event_of n i s.behind s.done) t.action t.is_at t.goes_on t.served t.picks by_node by_input;
}

-- the history of the next point
pub history_next : (p : Point) (e : Event) → history_of p ++ e ∷ [] ≡ history_of (with_event p e)
history_next p e = joined p.past p.part (e ∷ [])

pub stopped_there : (p : Point) (e : Event) (r : Runner) → Gone p e r → IsStopped (with_event p e) r
stopped_there p e r g = record { whole = subst (λ (l : List Event). IsWhole p.lines l r) (history_next p e) g.whole; phase = g.phase }

-- it stopped behind the event
pub halted_behind : (p : Point) (e : Event) (r : Runner) → Gone p e r → Halted p r
halted_behind p e r g = record { at = with_event p e; same = inr (e, refl); stopped = stopped_there p e r g }

-- it goes on
pub turned : (p : Point) (e : Event) (old r : Runner) → IsAt p old → Gone p e r →
    AreSeats (store_of p).nodes p.stage.commands (p.part ++ e ∷ []) (history_of p ++ e ∷ []) r.seats.items → AllFound (history_of p ++ e ∷ []) (lane_of r.lanes) → Turned p r
turned p e old r at g seats lanes = record {
  event = e;
  is_at = record {
    whole = subst (λ (l : List Event). IsWhole p.lines l r) (history_next p e) g.whole;
    ready = record {
      given = at.ready.given;
      seats = subst (λ (l : List Event). AreSeats (store_of p).nodes p.stage.commands (p.part ++ e ∷ []) l r.seats.items) (history_next p e) seats;
      lanes = subst (λ (l : List Event). AllFound l (lane_of r.lanes)) (history_next p e) lanes;
    };
    phase = g.phase;
  };
}

-- ## the letters of the event

-- the history behind a step
pub history_behind : (p : Point) (old : Runner) (n : ℕ) (i : Input) (mid : Runner) → IsAt p old → (s : Steps (store_of p) old n i mid) →
    mid.history.items ≡ history_of p ++ event_of n i s.behind s.done ∷ []
history_behind p old n i mid at s = s.history ∙ ap (λ (l : List Event). l ++ event_of n i s.behind s.done ∷ []) at.whole.history

-- the last event of a history
pub last_place : (items past : List Event) (e : Event) → items ≡ past ++ e ∷ [] → length items - 1 ≡ length past
last_place items past e is = (let long : length items ≡ length (past ++ e ∷ []) = ap (λ (l : List Event). length l) is in omega (arith, long, length-append past (e ∷ [])))

pub last_is : (items past : List Event) (e f : Event) → items ≡ past ++ e ∷ [] → slice_get items (length items - 1) ≡ Some f → f ≡ e
last_is items past e f is there =
    some_same (sym there ∙ (λ j. slice_get (is j) (last_place items past e is j)) ∙ slice_end past e [])

-- where letters stand that were posted
pub posted : (past : List Event) (e : Event) (mid last : Runner) → mid.history.items ≡ past ++ e ∷ [] → Posts mid e.node last → (from to : ℕ) →
    lane_of last.lanes from to ≡ lane_of mid.lanes from to ++ added e.node (length past) e.done.letters from to
posted past e mid last is post from to =
    post.lanes from to
    ∙ (λ j. lane_of mid.lanes from to ++ cond (from == e.node) (spots_to to (last_place mid.history.items past e is j) 0 (same j).done.letters) [])
  where
    same : post.event ≡ e
    same = last_is mid.history.items past e post.event is post.there
