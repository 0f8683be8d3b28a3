-- What a runner does in a phase: where it ends, and what it is then.
use Rattle.std.proofs.Common.{◌≡◌, ℕ, zero, suc, ◌+◌, ◌%◌, ◌<◌, ◌≤◌, ◌⊎◌, inl, inr, arith, refl, ap, sym, ◌∙◌, subst, Bool, true, false, cond, List, [], ◌∷◌, ◌++◌, length, Some, None, ⊎_elim}
use Rattle.std.specs.Prelude.{slice_get, string_bytes, IsTrue, ◌↔◌, not}
use Rattle.std.proofs.Math.Nat.{mod-lt}
use Rattle.std.proofs.lemmas.Bool.{false≢true}
use Rattle.std.proofs.lemmas.Option.{slice_get_past, slice_get_within}
use Rattle.std.proofs.lemmas.List.{append-nil, length-append}
use Rattle.rand_pcg.specs.Lcg.{Lcg, advance}
use Rattle.rand_pcg.specs.Pcg.{multiplier_64, pcg32}
use Rattle.bmx_script.specs.declared.lines.Line.{Line}
use Rattle.bmx_protocol.specs.declared.events.Event.{Event}
use Rattle.bmx_protocol.specs.Nodes.{Setting}
use Rattle.bmx_protocol.specs.Histories.{waits_with, in_flight}
use Rattle.bmx_protocol.specs.Runs.Programs.{Order, Stage, program_in, completed, BeginsStage, DoesStage, EndsPhase}
use Rattle.bmx_protocol.specs.Runs.Turns.{Action, word, picked, generator}
use Rattle.bmx_legal.specs.Inside.Spots.{Finds}
use Rattle.bmx_lanes.specs.Sending.{lane_of}
use Rattle.bmx_turns.specs.Stuck.{IsUnfinished}
use Rattle.bmx_turns.proofs.Completing.{completes_few, does_over, over_done}
use Rattle.bmx_turns.proofs.Growing.{comes_next}
use Rattle.bmx_turns.proofs.Stopping.{none_is_done}
use Rattle.bmx_world.specs.Scripts.{setting_of_script}
use Rattle.bmx_run.specs.declared.seats.Seat.{Seat}
use Rattle.bmx_run.specs.declared.actions.Action.{Action as Choice}
use Rattle.bmx_run.specs.declared.runner.Runner.{Runner}
use Rattle.bmx_run.specs.Inside.Seats.{command_at, SitsAt}
use Rattle.bmx_run.specs.Inside.Steps.{nodes_in}
use Rattle.bmx_run.specs.Inside.Running.{Point, store_of, history_of, with_event, IsWhole, IsAt, IsStopped, IsOpen, Draws, Turned, Halted, IsBetween}
use Rattle.bmx_run.specs.Inside.Picking.{actions_at, served_in, ChoosesAt, Counts, AreTries, MayTurn, IsNextIfTried}
use Rattle.bmx_run.specs.Inside.Phases.{MayGoOn, AreCompleted, AreCleared, with_part, ServeAll, IsDone, IsLeft, IsStuckThere, IsSpentThere}
use Rattle.bmx_run.proofs.Listing.{word_steps}
use Rattle.bmx_run.proofs.Quiet.{none_where_quiet}
use Rattle.bmx_run.proofs.Turned.{whole_same, run_same}

-- ## runners that are alike

-- with the same history, nodes and text
pub whole_with : (lines : List Line) (events : List Event) (r s : Runner) → IsWhole lines events r →
    s.history.items ≡ r.history.items → s.nodes.items ≡ r.nodes.items → s.budget ≡ r.budget → string_bytes s.text ≡ string_bytes r.text → IsWhole lines events s
whole_with lines events r s w history nodes budget text =
    whole_same lines events r s w (run_same (setting_of_script lines) r s w.nodes history nodes) budget text

-- a runner whose generator alone went on is where it was
pub at_drawn : (p : Point) (r : Runner) (g : Lcg) → IsAt p r → IsAt p (record r { generator = g })
at_drawn p r g at = record {
  whole = whole_with p.lines (history_of p) r (record r { generator = g }) at.whole refl refl refl refl;
  ready = record { given = at.ready.given; seats = at.ready.seats; lanes = at.ready.lanes };
  phase = at.phase;
}

-- and may try the same there
pub tries_drawn : (p : Point) (r : Runner) (g : Lcg) (tries : List Bool) → AreTries p r tries → AreTries p (record r { generator = g }) tries
tries_drawn p r g tries are n below = are n below

-- ## the turn

-- the generator's state after one word more
pub draws_next : (seed n : ℕ) (old new : Lcg) (w : ℕ) → (w, new) ≡ pcg32 old → old ≡ advance 64 multiplier_64 n (generator seed) → new ≡ advance 64 multiplier_64 (n + 1) (generator seed)
draws_next seed n old new w step draws =
    let more : suc n ≡ n + 1 = omega arith in
    ap (λ (x : ℕ × Lcg). x.1) step ∙ ap (λ (g : Lcg). (pcg32 g).1) draws ∙ word_steps n (generator seed)
    ∙ ap (λ (k : ℕ). advance 64 multiplier_64 k (generator seed)) more

-- and the word
pub word_drawn : (seed n : ℕ) (old new : Lcg) (w : ℕ) → (w, new) ≡ pcg32 old → old ≡ advance 64 multiplier_64 n (generator seed) → w ≡ word seed n
word_drawn seed n old new w step draws = ap (λ (x : ℕ × Lcg). x.0) step ∙ ap (λ (g : Lcg). (pcg32 g).0) draws

picked_is : (seed i : ℕ) (listed : List Action) → 0 < length listed → picked seed i listed ≡ slice_get listed (word seed i % length listed)
picked_is seed i [] some = absurd (omega (arith, some))
picked_is seed i (a ∷ more) some = refl

-- the place of the turn is one of the actions
pub place_fits : (p : Point) (r : Runner) (tries : List Bool) (count w place : ℕ) → MayGoOn p r tries count → place ≡ w % count → place < length (actions_at p r)
place_fits p r tries count w place m is =
    let below : w % count < count = mod-lt w m.some in
    omega (arith, is, below, m.counts.all)

-- so is what is chosen there
pub may_turn : (p : Point) (r : Runner) (tries : List Bool) (count : ℕ) (g : Lcg) (w place : ℕ) (c : Choice) → MayGoOn p r tries count → w ≡ word p.seed (length (history_of p)) → place ≡ w % count →
    ChoosesAt p (actions_at p (record r { generator = g })) place c → MayTurn p (record r { generator = g }) c
may_turn p r tries count g w place c m drawn is chosen = record {
  is_at = at_drawn p r g m.is_at;
  goes_on = m.goes_on;
  room = m.room;
  served = m.counts.served;
  action = chosen.action;
  picks = picked_is p.seed (length (history_of p)) (actions_at p r) some
      ∙ ap (slice_get (actions_at p r)) (sym (is ∙ ap (λ (k : ℕ). k % count) drawn ∙ ap (λ (k : ℕ). word p.seed (length (history_of p)) % k) m.counts.all))
      ∙ chosen.there;
  means = chosen.means;
}
  where
    some : 0 < length (actions_at p r)
    some = omega (arith, m.some, m.counts.all)

-- a choice by the generator's next word is the turn's
pub turn_may : (p : Point) (r : Runner) (tries : List Bool) (count : ℕ) (g : Lcg) (w place : ℕ) (found c : Choice) → MayGoOn p r tries count → (w, g) ≡ pcg32 r.generator → place ≡ w % count →
    ((q : Point) → IsAt q (record r { generator = g }) → AreTries q (record r { generator = g }) tries → ChoosesAt q (actions_at q (record r { generator = g })) place found) → found ≡ c →
    MayTurn p (record r { generator = g }) c × IsNextIfTried p c
turn_may p r tries count g w place found c m step is chooses same =
    let drawn : w ≡ word p.seed (length (history_of p)) = word_drawn p.seed (length (history_of p)) r.generator g w step m.draws in
    let chosen : ChoosesAt p (actions_at p (record r { generator = g })) place c =
    subst (λ (x : Choice). ChoosesAt p (actions_at p (record r { generator = g })) place x) same (chooses p (at_drawn p r g m.is_at) (tries_drawn p r g tries m.known)) in
    (may_turn p r tries count g w place c m drawn is chosen, chosen.next)

-- ## when all programs are completed

pub there_at : {A : Type 0} (xs : List A) (i : ℕ) → i < length xs → (x : A) × (slice_get xs i ≡ Some x)
there_at [] i h = absurd (omega (arith, h))
there_at (x ∷ xs) zero h = (x, refl)
there_at (x ∷ xs) (suc i) h = there_at xs i (omega (arith, h))

none_past : {A : Type 0} (xs : List A) (i : ℕ) → slice_get xs i ≡ None → length xs ≤ i
none_past [] i h = omega arith
none_past (x ∷ xs) zero h = absurd cc
none_past (x ∷ xs) (suc i) h = (let more : length xs ≤ i = none_past xs i h in omega (arith, more))

-- a seat has no next command where its node's program is completed
seat_completed : (s : Stage) (part history : List Event) (n : ℕ) (seat : Seat) → BeginsStage s part → SitsAt s.commands part history n seat →
    slice_get seat.orders.items seat.completed ≡ None → length (completed n part) ≡ length (program_in s n)
seat_completed s part history n seat begun sits none =
    let past : length seat.orders.items ≤ seat.completed = none_past seat.orders.items seat.completed none in
    let few : length (completed n part) ≤ length (program_in s n) = completes_few s n part begun in
    let same : length seat.orders.items ≡ length (program_in s n) = ap (λ (l : List Order). length l) sits.program in
    omega (arith, past, few, same, sits.completed)

seat_finished : (s : Stage) (part history : List Event) (n : ℕ) (seat : Seat) → SitsAt s.commands part history n seat →
    length (completed n part) ≡ length (program_in s n) → slice_get seat.orders.items seat.completed ≡ None
seat_finished s part history n seat sits all =
    let same : length seat.orders.items ≡ length (program_in s n) = ap (λ (l : List Order). length l) sits.program in
    slice_get_past seat.orders.items seat.completed (omega (arith, same, all, sits.completed))

-- no seat has a next command
abbrev pub NoneNext : List Seat → Type 0
NoneNext seats = (n : ℕ) (s : Seat) → slice_get seats n ≡ Some s → slice_get s.orders.items s.completed ≡ None

pub completed_where_none : (p : Point) (r : Runner) → IsAt p r → NoneNext r.seats.items → AreCompleted p
completed_where_none p r at none n n_is =
    let s : (x : Seat) × (slice_get r.seats.items n ≡ Some x) = there_at r.seats.items n (omega (arith, n_is, at.ready.seats.each)) in
    seat_completed p.stage p.part (history_of p) n s.0 at.phase.begun (at.ready.seats.sits n s.0 s.1) (none n s.0 s.1)

pub none_where_completed : (p : Point) (r : Runner) → IsAt p r → AreCompleted p → NoneNext r.seats.items
none_where_completed p r at all n s there =
    let within : n < length r.seats.items = slice_get_within r.seats.items n s there in
    seat_finished p.stage p.part (history_of p) n s (at.ready.seats.sits n s there) (all n (omega (arith, within, at.ready.seats.each)))

-- ## when the phase is done

-- done, where it needn't be quiet
pub done_plainly : (p : Point) (r : Runner) → IsAt p r → AreCompleted p → p.stage.quiet ≡ false → DoesStage (store_of p) p.past p.stage p.part
done_plainly p r at all plain =
    does_over (store_of p) p.past p.stage p.part at.phase.begun
    (record { each = all; ended = subst (λ (b : Bool). EndsPhase (store_of p) b (history_of p)) (sym plain) tt })

-- done, where no action is enabled
pub done_idly : (p : Point) (r : Runner) → IsAt p r → ServeAll p r → AreCompleted p → actions_at p r ≡ [] → DoesStage (store_of p) p.past p.stage p.part
done_idly p r at served all none =
    none_is_done (store_of p) p.stage p.past p.part (nodes_in (store_of p) r.nodes.items) (served_in r.nodes.items) at.whole.leads.reached served none at.phase.begun all

-- not done, where a program isn't completed
pub done_completes : (p : Point) → DoesStage (store_of p) p.past p.stage p.part → AreCompleted p
done_completes p does = (over_done (store_of p) p.past p.stage p.part does).each

-- nor where it ends quietly, and an action is enabled
pub done_is_idle : (p : Point) (r : Runner) → IsAt p r → ServeAll p r → p.stage.quiet ≡ true → DoesStage (store_of p) p.past p.stage p.part → actions_at p r ≡ []
done_is_idle p r at served quiet does =
    none_where_quiet (store_of p) p.stage p.past p.part (nodes_in (store_of p) r.nodes.items) (served_in r.nodes.items) at.whole.leads.reached served
    (λ n n_is. slice_get_past (program_in p.stage n) (length (completed n p.part)) (omega (arith, done_completes p does n n_is)))
    (subst (λ (b : Bool). EndsPhase (store_of p) b (history_of p)) quiet does.ended)

length_none : {A : Type 0} (xs : List A) → length xs ≡ 0 → xs ≡ []
length_none [] h = refl
length_none (x ∷ xs) h = absurd (omega (arith, h))

-- by what a runner sees: whether all programs are completed, whether the phase ends quietly, and how many actions are enabled
pub done_seen : (p : Point) (r : Runner) (count : ℕ) → IsAt p r → Counts p r count → AreCompleted p → (p.stage.quiet ≡ false) ⊎ (count ≤ 0) → DoesStage (store_of p) p.past p.stage p.part
done_seen p r count at counts all (inl plain) = done_plainly p r at all plain
done_seen p r count at counts all (inr idle) = done_idly p r at counts.served all (length_none (actions_at p r) (omega (arith, idle, counts.all)))

pub not_done_seen : (p : Point) (r : Runner) (count : ℕ) → IsAt p r → Counts p r count → p.stage.quiet ≡ true → 0 < count → IsOpen p
not_done_seen p r count at counts quiet some does =
    let none : length (actions_at p r) ≡ 0 = ap (λ (l : List Action). length l) (done_is_idle p r at counts.served quiet does) in
    omega (arith, none, some, counts.all)

-- the same of a test
pub done_told : (p : Point) (r : Runner) (count : ℕ) → IsAt p r → Counts p r count → AreCompleted p → (busy : Bool) →
    (busy ≡ false → (p.stage.quiet ≡ false) ⊎ (count ≤ 0)) → (busy ≡ true → (p.stage.quiet ≡ true) × (0 < count)) →
    IsTrue (not busy) ↔ DoesStage (store_of p) p.past p.stage p.part
done_told p r count at counts all true idle goes =
    let seen : (p.stage.quiet ≡ true) × (0 < count) = goes refl in
    (λ h. absurd (false≢true h), λ does. absurd (not_done_seen p r count at counts seen.0 seen.1 does))
done_told p r count at counts all false idle goes = (λ _. done_seen p r count at counts all (idle refl), λ _. refl)

-- ## unfinished programs

-- of the first so many nodes one hasn't completed its program, or each has
unfinished_below : (st : Setting) (s : Stage) (part : List Event) → BeginsStage s part → (k : ℕ) → k ≤ st.nodes →
    IsUnfinished st s part ⊎ ((n : ℕ) → n < k → length (completed n part) ≡ length (program_in s n))
unfinished_below st s part begun zero few = inr (λ n h. absurd (omega (arith, h)))
unfinished_below st s part begun (suc k) few = by_rest (unfinished_below st s part begun k (omega (arith, few))) (cases_here (length (completed k part)) (length (program_in s k)) (completes_few s k part begun))
  where
    cases_here : (a b : ℕ) → a ≤ b → (a < b) ⊎ (a ≡ b)
    cases_here a b le = ⊎_elim (λ lt. inl lt) (λ ge. inr (omega (arith, le, ge))) (cases_of a b)
      where
        cases_of : (a b : ℕ) → (a < b) ⊎ (b ≤ a)
        cases_of zero zero = inr (omega arith)
        cases_of zero (suc b) = inl (omega arith)
        cases_of (suc a) zero = inr (omega arith)
        cases_of (suc a) (suc b) = ⊎_elim (λ lt. inl (omega (arith, lt))) (λ ge. inr (omega (arith, ge))) (cases_of a b)

    by_rest : IsUnfinished st s part ⊎ ((n : ℕ) → n < k → length (completed n part) ≡ length (program_in s n)) →
        (length (completed k part) < length (program_in s k)) ⊎ (length (completed k part) ≡ length (program_in s k)) →
        IsUnfinished st s part ⊎ ((n : ℕ) → n < suc k → length (completed n part) ≡ length (program_in s n))
    by_rest (inl u) here = inl u
    by_rest (inr all) (inl short) = inl (record { node = k; real = omega (arith, few); short = short })
    by_rest (inr all) (inr same) = inr (λ n h. ⊎_elim (λ below. all n below) (λ e. ap (λ (m : ℕ). length (completed m part)) e ∙ same ∙ ap (λ (m : ℕ). length (program_in s m)) (sym e)) (cases_here n k (omega (arith, h))))

-- a phase that isn't done, with no action enabled, has an unfinished program
pub unfinished_here : (p : Point) (r : Runner) → IsAt p r → ServeAll p r → IsOpen p → actions_at p r ≡ [] → IsUnfinished (store_of p) p.stage p.part
unfinished_here p r at served goes none =
    ⊎_elim (λ u. u) (λ all. absurd (goes (done_idly p r at served all none)))
    (unfinished_below (store_of p) p.stage p.part at.phase.begun (store_of p).nodes (omega arith))

-- ## the walk through a phase

-- a runner goes through the phase that begins at p
pub record IsOn (p : Point) (r : Runner) : Type 0 where
  pub part : List Event
  pub is_at : IsAt (with_part p part) r
  pub draws : Draws p.seed (length (p.past ++ part)) r

length_more : (past part : List Event) (e : Event) → length (past ++ part) + 1 ≡ length (past ++ (part ++ e ∷ []))
length_more past part e =
    let a : length (past ++ part) ≡ length past + length part = length-append past part in
    let b : length (past ++ (part ++ e ∷ [])) ≡ length past + length (part ++ e ∷ []) = length-append past (part ++ e ∷ []) in
    let d : length (part ++ e ∷ []) ≡ length part + 1 = length-append part (e ∷ []) in
    omega (arith, a, b, d)

-- it goes on by an event
on_more : (p : Point) (part : List Event) (r : Runner) → Turned (with_part p part) r → Draws p.seed (length (p.past ++ part) + 1) r → IsOn p r
on_more p part r turned draws = record {
  part = part ++ turned.event ∷ [];
  is_at = turned.is_at;
  draws = draws ∙ ap (λ (k : ℕ). advance 64 multiplier_64 k (generator p.seed)) (length_more p.past part turned.event);
}

-- with what its nodes may try
pub on_still : (p : Point) (part : List Event) (r : Runner) (tries : List Bool) → (t : Turned (with_part p part) r) → Draws p.seed (length (p.past ++ part) + 1) r →
    AreTries (with_event (with_part p part) t.event) r tries → (on : IsOn p r) × AreTries (with_part p on.part) r tries
unfolding on_more
on_still p part r tries turned draws are = (on_more p part r turned draws, are)

-- and has one event more
pub longer : (p : Point) (part : List Event) (old new : Runner) → IsAt (with_part p part) old → Turned (with_part p part) new → length new.history.items ≡ length old.history.items + 1
longer p part old new at turned =
    let a : length old.history.items ≡ length (p.past ++ part) = ap (λ (l : List Event). length l) at.whole.history in
    let b : length new.history.items ≡ length (p.past ++ (part ++ turned.event ∷ [])) = ap (λ (l : List Event). length l) turned.is_at.whole.history in
    omega (arith, a, b, length_more p.past part turned.event)

-- it stops without memory
pub left : (p : Point) (part : List Event) (r : Runner) → Halted (with_part p part) r → IsLeft p r
left p part r h = by_same h.same
  where
    by_same : (h.at ≡ with_part p part) ⊎ ((e : Event) × (h.at ≡ with_event (with_part p part) e)) → IsLeft p r
    by_same (inl same) = record { part = part; stopped = subst (λ (q : Point). IsStopped q r) same h.stopped }
    by_same (inr (e, same)) = record { part = part ++ e ∷ []; stopped = subst (λ (q : Point). IsStopped q r) same h.stopped }

pub positive : (n : ℕ) → (n ≡ 0 → ⊥) → 0 < n
positive zero h = absurd (h refl)
positive (suc n) h = omega arith

-- it isn't done, where it is seen so
pub not_done : {P : Type 0} (r : Bool) → IsTrue r ↔ P → r ≡ false → P → ⊥
not_done r told seen does = false≢true (sym seen ∙ told.1 does)

-- it is stuck
pub stuck_there : (p : Point) (r : Runner) (count : ℕ) (on : IsOn p r) → Counts (with_part p on.part) r count → IsOpen (with_part p on.part) → count ≡ 0 → IsStuckThere p r
stuck_there p r count on counts goes zero_is = record {
  part = on.part;
  is_at = on.is_at;
  served = counts.served;
  none = none;
  unfinished = unfinished_here (with_part p on.part) r on.is_at counts.served goes none;
}
  where
    none : actions_at (with_part p on.part) r ≡ []
    none = length_none (actions_at (with_part p on.part) r) (sym counts.all ∙ zero_is)

-- or has no event left
pub spent_there : (p : Point) (r : Runner) (count : ℕ) (on : IsOn p r) → Counts (with_part p on.part) r count → IsOpen (with_part p on.part) → 0 < count →
    length r.history.items ≡ r.budget → IsSpentThere p r
spent_there p r count on counts goes some all = record {
  part = on.part;
  is_at = on.is_at;
  spent = ap (λ (l : List Event). length l) (sym on.is_at.whole.history) ∙ all;
  goes_on = goes;
  served = counts.served;
  some = omega (arith, some, counts.all);
}

-- or may go on
may_go_on : (p : Point) (r : Runner) (tries : List Bool) (count : ℕ) (on : IsOn p r) → AreTries (with_part p on.part) r tries → Counts (with_part p on.part) r count →
    IsOpen (with_part p on.part) → 0 < count → (length r.history.items ≡ r.budget → ⊥) → MayGoOn (with_part p on.part) r tries count
may_go_on p r tries count on are counts goes some room = record {
  is_at = on.is_at;
  goes_on = goes;
  room = below (length (p.past ++ on.part)) r.budget on.is_at.whole.few (λ same. room (ap (λ (l : List Event). length l) on.is_at.whole.history ∙ same));
  draws = on.draws;
  known = are;
  counts = counts;
  some = some;
}
  where
    below : (a b : ℕ) → a ≤ b → (a ≡ b → ⊥) → a < b
    below a b le not = grind (arith, le, not)

-- the same by what the loop has seen: how many actions are enabled, and that the phase isn't done
pub seen_may_go : (p : Point) (quiet : Bool) (r : Runner) (count : ℕ) (tries : List Bool) → (known : (on : IsOn p r) × AreTries (with_part p on.part) r tries) →
    p.stage.quiet ≡ quiet → ((q : Point) → IsAt q r → AreTries q r tries → Counts q r count) →
    (done : Bool) → ((q : Point) → IsAt q r → q.stage.quiet ≡ quiet → Counts q r count → IsTrue done ↔ DoesStage (store_of q) q.past q.stage q.part) → done ≡ false →
    (count ≡ 0 → ⊥) → (length r.history.items ≡ r.budget → ⊥) → MayGoOn (with_part p known.0.part) r tries count
seen_may_go p quiet r count tries known ends counted done told unseen some room =
    let here : Counts (with_part p known.0.part) r count = counted (with_part p known.0.part) known.0.is_at known.1 in
    may_go_on p r tries count known.0 known.1 here (not_done done (told (with_part p known.0.part) known.0.is_at ends here) unseen) (positive count some) room

-- ## the end of a phase

-- where a seat has no next command its node doesn't wait
seat_calm : (orders : List Order) (part history : List Event) (n : ℕ) (s : Seat) → SitsAt orders part history n s → slice_get s.orders.items s.completed ≡ None → waits_with n None history ≡ None
seat_calm orders part history n s sits none = sits.waits ∙ by_waits s.waits
  where
    no_command : command_at s.orders.items s.completed ≡ None
    no_command = rw none refl

    by_waits : (b : Bool) → cond b (command_at s.orders.items s.completed) None ≡ None
    by_waits true = no_command
    by_waits false = refl

-- the phase is done, and the seats are cleared
pub done_there : (p : Point) (old new : Runner) (on : IsOn p old) → DoesStage (store_of p) p.past p.stage on.part → AreCleared old.seats.items new.seats.items →
    new ≡ record old { seats = new.seats } → IsDone p new
done_there p old new on does cleared rest =
    record { part = on.part; between = subst (IsBetween p.lines p.seed (p.past ++ on.part) [] p.rest) (sym rest) here }
  where
    at : IsAt (with_part p on.part) old
    at = on.is_at

    history : List Event
    history = p.past ++ on.part

    after : Runner
    after = record old { seats = new.seats }

    same : history ≡ history ++ []
    same = sym (append-nil history)

    none : NoneNext old.seats.items
    none = none_where_completed (with_part p on.part) old at (done_completes (with_part p on.part) does)

    calm_at : (n : ℕ) → n < length old.seats.items → waits_with n None (history ++ []) ≡ None
    calm_at n h =
        let s : (x : Seat) × (slice_get old.seats.items n ≡ Some x) = there_at old.seats.items n h in
        ap (λ (l : List Event). waits_with n None l) (sym same) ∙ seat_calm p.stage.commands on.part history n s.0 (at.ready.seats.sits n s.0 s.1) (none n s.0 s.1)

    sits : (n : ℕ) (s : Seat) → slice_get new.seats.items n ≡ Some s → SitsAt [] [] (history ++ []) n s
    sits n s got =
        let bare : (s.orders.items ≡ []) × (s.completed ≡ 0) × (s.waits ≡ false) = cleared.none n s got in
        let within : n < length new.seats.items = slice_get_within new.seats.items n s got in
        record {
          program = bare.0;
          completed = bare.1;
          waits = calm_at n (omega (arith, within, cleared.each)) ∙ sym (ap (λ (b : Bool). cond b (command_at s.orders.items s.completed) None) bare.2);
        }

    here : IsBetween p.lines p.seed history [] p.rest after
    here = record {
      whole = whole_with p.lines history old after at.whole refl refl refl refl;
      ready = record {
        given = λ g c. absurd (omega (arith, c.1));
        seats = record { each = cleared.each ∙ at.ready.seats.each; sits = sits };
        lanes = λ from to. subst (λ (l : List Event). Finds l (lane_of old.lanes from to) (in_flight from to l)) same (at.ready.lanes from to);
      };
      calm = λ n s got. (cleared.none n s got).2;
      comes = comes_next (store_of p) p.seed _ p.past p.stage p.rest on.part at.phase.comes at.phase.turns does;
      draws = on.draws;
    }
