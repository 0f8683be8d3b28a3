-- Inputs that a node may be given by a choice of the turn.
use Rattle.std.proofs.Common.{◌≡◌, ℕ, zero, suc, ◌<◌, ◌≤◌, ◌⊎◌, inl, inr, arith, refl, ap, sym, ◌∙◌, subst, Bool, true, false, cond, List, [], ◌∷◌, ◌++◌, length, filter, Option, Some, None}
use Rattle.std.specs.Prelude.{◌==◌, slice_get, Contains, IfSome}
use Rattle.std.specs.Option.{option_map}
use Rattle.std.proofs.lemmas.List.{length-append}
use Rattle.std.proofs.lemmas.Option.{slice_get_within}
use Rattle.bmx_types.specs.Openings.{bunches_of}
use Rattle.bmx_types.specs.declared.commands.Operand.{Operand}
use Rattle.bmx_types.specs.declared.commands.Operand.TheVariants as operand
use Rattle.bmx_types.specs.declared.commands.Command.{Command}
use Rattle.bmx_types.specs.declared.commands.Command.TheVariants as command
use Rattle.bmx_msg.specs.declared.letters.Letter.{Letter}
use Rattle.bmx_protocol.specs.declared.inputs.Input.{Input}
use Rattle.bmx_protocol.specs.declared.inputs.Input.TheVariants as input
use Rattle.bmx_protocol.specs.declared.events.Event.{Event}
use Rattle.bmx_protocol.specs.Nodes.{Setting}
use Rattle.bmx_protocol.specs.Steps.{Node, command_in}
use Rattle.bmx_protocol.specs.Histories.{in_flight, IsOperandOf, IsCommandOf, IsAgain, waits_with}
use Rattle.bmx_protocol.specs.Runs.Programs.{Order, program_in, completed}
use Rattle.bmx_protocol.specs.Runs.Turns.{Action, ServesName, actor}
use Rattle.bmx_protocol.proofs.Basics.{some_same}
use Rattle.bmx_legal.specs.Inside.Spots.{Finds, StandsAt}
use Rattle.bmx_legal.proofs.Growing.{clock_few}
use Rattle.bmx_legal.proofs.Flight.{senders}
use Rattle.bmx_lanes.specs.Sending.{lane_of}
use Rattle.bmx_node.specs.declared.holdings.Holdings.{Holdings}
use Rattle.bmx_node.specs.Seen.{state_of, FitsOperand, FitsCommand, FitsInput}
use Rattle.bmx_run.specs.declared.actions.Action.{Action as Choice}
use Rattle.bmx_run.specs.declared.actions.Action.TheVariants as choice
use Rattle.bmx_run.specs.declared.seats.Seat.{Seat}
use Rattle.bmx_run.specs.declared.runner.Runner.{Runner}
use Rattle.bmx_run.specs.Inside.Seats.{orders_of, command_at, SitsAt}
use Rattle.bmx_run.specs.Inside.Steps.{nodes_in, CanStep, Steps, event_of}
use Rattle.bmx_run.specs.Inside.Running.{Point, store_of, history_of, IsGiven, IsAt}
use Rattle.bmx_run.specs.Inside.Picking.{served_in, IsNextOrder, MayTurn}
use Rattle.bmx_run.proofs.Stepping.{node_here}
use Rattle.bmx_run.proofs.Acting.{picked_acts, FirstTaken, action_is}
use Rattle.bmx_run.proofs.Turned.{Fitting}

-- ## lists

-- what stands at a place within a list
pub record Got {A : Type 0} (xs : List A) (n : ℕ) : Type 0 where
  pub item : A
  pub there : slice_get xs n ≡ Some item

pub got : {A : Type 0} (xs : List A) (n : ℕ) → n < length xs → Got xs n
got [] n h = absurd (omega (arith, h))
got (x ∷ xs) zero h = record { item = x; there = refl }
got (x ∷ xs) (suc n) h = (let more : Got xs n = got xs n (omega (arith, h)) in record { item = more.item; there = more.there })

-- what stands in what was filtered stands in the list
pub filter_there : {A : Type 0} (t : A → Bool) (xs : List A) (k : ℕ) (x : A) → slice_get (filter t xs) k ≡ Some x → Contains xs x
filter_there t [] k x is = absurd cc
filter_there t (y ∷ xs) k x is = by_test (t y) k (λ j h. filter_there t xs j x h) is
  where
    more : Contains xs x → Contains (y ∷ xs) x
    more c = (suc c.0, omega (arith, c.1), c.2)

    by_test : (b : Bool) (k : ℕ) → ((j : ℕ) → slice_get (filter t xs) j ≡ Some x → Contains xs x) → slice_get (cond b (y ∷ filter t xs) (filter t xs)) k ≡ Some x → Contains (y ∷ xs) x
    by_test false k rest h = more (rest k h)
    by_test true zero rest h = (0, omega arith, some_same h)
    by_test true (suc k) rest h = more (rest k h)

below_or : (a b : ℕ) → (a < b) ⊎ (b ≤ a)
below_or zero zero = inr (omega arith)
below_or zero (suc b) = inl (omega arith)
below_or (suc a) zero = inr (omega arith)
below_or (suc a) (suc b) = by_less (below_or a b)
  where
    by_less : (a < b) ⊎ (b ≤ a) → (suc a < suc b) ⊎ (suc b ≤ suc a)
    by_less (inl h) = inl (omega (arith, h))
    by_less (inr h) = inr (omega (arith, h))

-- ## commands

operand_of : (st : Setting) (o : Operand) → FitsOperand (bunches_of st.births) o → IsOperandOf st o
operand_of st (operand.Register r) h = h
operand_of st (operand.Anchor bunch) h = h
operand_of st (operand.Int k) h = h
operand_of st operand.Null h = h

pub command_of : (st : Setting) (c : Command) → FitsCommand (bunches_of st.births) c → IsCommandOf st c
command_of st (command.New register bunch size) h = h
command_of st (command.Copy register value) h = (h.0, operand_of st value h.1)
command_of st (command.Drop register) h = h
command_of st (command.Read on) h = operand_of st on h
command_of st (command.Write on) h = operand_of st on h
command_of st (command.Done on) h = operand_of st on h
command_of st (command.Set on index value) h = (operand_of st on h.0, operand_of st value h.1)
command_of st (command.Add on index by) h = operand_of st on h
command_of st (command.Get register on index) h = (h.0, operand_of st on h.1)
command_of st (command.Show on index) h = operand_of st on h
command_of st (command.Same left right) h = (operand_of st left h.0, operand_of st right h.1)

-- the next order of a node was given
pub next_given : (p : Point) (r : Runner) (g : Order) → IsAt p r → IsNextOrder p g → IsGiven (store_of p) g
next_given p r g at is = at.ready.given g (filter_there (λ (h : Order). h.node == g.node) p.stage.commands (length (completed g.node p.part)) g is)

-- a seat of the next order
pub record NextSeat (p : Point) (r : Runner) (g : Order) : Type 0 where
  pub seat : Seat
  pub there : slice_get r.seats.items g.node ≡ Some seat
  pub sits : SitsAt p.stage.commands p.part (history_of p) g.node seat
  pub next : seat.completed < length seat.orders.items
  pub command : command_at seat.orders.items seat.completed ≡ Some g.command

pub next_seat : (p : Point) (r : Runner) (g : Order) → IsAt p r → IsNextOrder p g → NextSeat p r g
next_seat p r g at is = record {
  seat = s.item;
  there = s.there;
  sits = sits;
  next = subst (λ (l : List Order). s.item.completed < length l) (sym sits.program)
      (subst (λ (k : ℕ). k < length (orders_of g.node p.stage.commands)) (sym sits.completed)
      (slice_get_within (program_in p.stage g.node) (length (completed g.node p.part)) g is));
  command = (λ i. command_at (sits.program i) (sits.completed i)) ∙ ap (λ (o : Option Order). option_map (λ (h : Order). h.command) o) is;
}
  where
    short : g.node < length r.seats.items
    short = (let a : g.node < (store_of p).nodes = (next_given p r g at is).a_node in omega (arith, a, at.ready.seats.each))

    s : Got r.seats.items g.node
    s = got r.seats.items g.node short

    sits : SitsAt p.stage.commands p.part (history_of p) g.node s.item
    sits = at.ready.seats.sits g.node s.item s.there

-- the next order is one that the node may be given
pub fits_order : (p : Point) (r : Runner) (g : Order) → IsAt p r → IsNextOrder p g → Fitting p g.node (input.Do g.command)
fits_order p r g at is = record {
  of_store = command_of (store_of p) g.command (next_given p r g at is).fits;
  first = tt;
  again = subst (λ (w : Option Command). IsAgain w (input.Do g.command)) (sym (s.sits.waits ∙ ap (λ (o : Option Command). cond s.seat.waits o None) s.command)) (by_test s.seat.waits);
}
  where
    s : NextSeat p r g
    s = next_seat p r g at is

    by_test : (b : Bool) → IsAgain (cond b (Some g.command) None) (input.Do g.command)
    by_test true = refl
    by_test false = tt

-- ## serves and letters

again_silent : (w : Option Command) (i : Input) → command_in i ≡ None → IsAgain w i
again_silent None i h = tt
again_silent (Some c) i h = subst (λ (o : Option Command). IfSome o (λ (d : Command). d ≡ c)) (sym h) tt

pub fits_serve : (p : Point) (n name : ℕ) → Fitting p n (input.Serve name)
fits_serve p n name = record { of_store = tt; first = tt; again = again_silent (waits_with n None (history_of p)) (input.Serve name) refl }

pub fits_take : (p : Point) (r : Runner) (n from : ℕ) (l : Letter) (rest : List Letter) → IsAt p r → in_flight from n (history_of p) ≡ l ∷ rest → Fitting p n (input.Take from l)
fits_take p r n from l rest at flight = record {
  of_store = by_less (below_or from (store_of p).nodes);
  first = ap (λ (letters : List Letter). slice_get letters 0) flight;
  again = again_silent (waits_with n None (history_of p)) (input.Take from l) refl;
}
  where
    by_less : (from < (store_of p).nodes) ⊎ ((store_of p).nodes ≤ from) → from < (store_of p).nodes
    by_less (inl h) = h
    by_less (inr h) = absurd (no_letter (sym flight ∙ senders (store_of p) (history_of p) at.whole.leads.legal.fits from n h))
      where
        no_letter : l ∷ rest ≡ [] → ⊥
        no_letter e = cc

-- ## steps

clock_of : (h : Holdings) → (state_of h).clock ≡ h.clock
unfolding state_of
clock_of h = refl

pub can_step : (p : Point) (r : Runner) (n : ℕ) (i : Input) → IsAt p r → length (history_of p) < r.budget → n < (store_of p).nodes →
    FitsInput (bunches_of (store_of p).births) i → CanStep r n i
can_step p r n i at room lt fits = record {
  node = d.item;
  there = d.there;
  early = omega (arith, few, clock, room, at.whole.small);
  fits = subst (λ (b : ℕ). FitsInput b i) (at.whole.nodes.suits n d.item d.there).bunches fits;
}
  where
    short : n < length r.nodes.items
    short = omega (arith, lt, at.whole.nodes.each)

    d : Got r.nodes.items n
    d = got r.nodes.items n short

    few : (nodes_in (store_of p) r.nodes.items n).state.clock ≤ length (history_of p)
    few = clock_few (store_of p) (history_of p) (nodes_in (store_of p) r.nodes.items) at.whole.leads.reached n

    clock : (nodes_in (store_of p) r.nodes.items n).state.clock ≡ d.item.holdings.clock
    clock = ap (λ (m : Node). m.state.clock) (node_here (store_of p) r.nodes.items n d.item d.there) ∙ clock_of d.item.holdings

-- the node of an action that was picked
pub acts_there : (p : Point) (r : Runner) (c : Choice) → (t : MayTurn p r c) → actor t.action < (store_of p).nodes
acts_there p r c t =
    picked_acts (store_of p) p.seed (length (history_of p)) p.stage p.past p.part (nodes_in (store_of p) r.nodes.items) (served_in r.nodes.items) t.action t.picks

-- ## the first letter

-- where the letter stands that is taken
pub record Front (p : Point) (r : Runner) (n from : ℕ) : Type 0 where
  pub letter : Letter
  pub rest : List Letter
  pub flight : in_flight from n (history_of p) ≡ letter ∷ rest
  pub spot : ℕ × ℕ
  pub first : slice_get (lane_of r.lanes from n) 0 ≡ Some spot
  pub stands : StandsAt r.history.items spot letter

pub first_spot : (history : List Event) (spots : List (ℕ × ℕ)) (l : Letter) (rest : List Letter) → Finds history spots (l ∷ rest) →
    (spot : ℕ × ℕ) × (slice_get spots 0 ≡ Some spot) × StandsAt history spot l
first_spot history [] l rest f = absurd f
first_spot history (spot ∷ spots) l rest f = (spot, refl, f.0)

abbrev pub front_of : (p : Point) (r : Runner) (n from : ℕ) (a : Action) → IsAt p r → FirstTaken (history_of p) n from a → Front p r n from
front_of p r n from a at taken = record {
  letter = taken.letter;
  rest = taken.rest;
  flight = taken.first;
  spot = found.0;
  first = found.1;
  stands = subst (λ (l : List Event). StandsAt l found.0 taken.letter) (sym at.whole.history) found.2;
}
  where
    found : (spot : ℕ × ℕ) × (slice_get (lane_of r.lanes from n) 0 ≡ Some spot) × StandsAt (history_of p) spot taken.letter
    found =
        first_spot (history_of p) (lane_of r.lanes from n) taken.letter taken.rest
        (subst (λ (letters : List Letter). Finds (history_of p) (lane_of r.lanes from n) letters) taken.first (at.ready.lanes from n))

pub can_serve_step : (p : Point) (r : Runner) (n name : ℕ) → MayTurn p r (choice.Serve n name) → CanStep r n (input.Serve name)
can_serve_step p r n name t = can_step p r n (input.Serve name) t.is_at t.room (subst (λ (a : Action). actor a < (store_of p).nodes) is (acts_there p r (choice.Serve n name) t)) tt
  where
    is : t.action ≡ ServesName n name
    is = action_is (history_of p) (choice.Serve n name) t.action t.means

pub can_take_step : (p : Point) (r : Runner) (n from : ℕ) (l : Letter) → MayTurn p r (choice.Take n from) → CanStep r n (input.Take from l)
can_take_step p r n from l t = can_step p r n (input.Take from l) t.is_at t.room (subst (λ (a : Action). actor a < (store_of p).nodes) taken.is (acts_there p r (choice.Take n from) t)) tt
  where
    taken : FirstTaken (history_of p) n from t.action
    taken = action_is (history_of p) (choice.Take n from) t.action t.means

pub can_try_step : (p : Point) (r : Runner) (g : Order) → MayTurn p r (choice.Try g) → IsNextOrder p g → CanStep r g.node (input.Do g.command)
can_try_step p r g t is = (let given : IsGiven (store_of p) g = next_given p r g t.is_at is in can_step p r g.node (input.Do g.command) t.is_at t.room given.a_node given.fits)

-- behind a step there are events
pub some_events : (st : Setting) (old : Runner) (n : ℕ) (i : Input) (new : Runner) → Steps st old n i new → 0 < length new.history.items
some_events st old n i new s =
    let long : length new.history.items ≡ length (old.history.items ++ event_of n i s.behind s.done ∷ []) = ap (λ (l : List Event). length l) s.history in
    omega (arith, long, length-append old.history.items (event_of n i s.behind s.done ∷ []))
