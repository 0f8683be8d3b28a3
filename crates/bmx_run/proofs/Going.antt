-- A run after a serve, a letter or a command.
use Rattle.std.proofs.Common.{◌≡◌, ℕ, ◌+◌, ◌≤◌, refl, ap, sym, ◌∙◌, subst, List, [], ◌∷◌, ◌++◌, length, drop, Some, None}
use Rattle.std.specs.Prelude.{slice_get, slice_set, string_bytes, string_len, string_capacity}
use Rattle.bmx_types.specs.Updates.{put_at}
use Rattle.bmx_msg.specs.declared.letters.Letter.{Letter}
use Rattle.bmx_protocol.specs.declared.inputs.Input.{Input}
use Rattle.bmx_protocol.specs.declared.inputs.Input.TheVariants as input
use Rattle.bmx_protocol.specs.declared.events.Event.{Event}
use Rattle.bmx_protocol.specs.Steps.{command_in}
use Rattle.bmx_protocol.specs.Histories.{in_flight, is_wait}
use Rattle.bmx_protocol.specs.Runs.Programs.{Order, completed}
use Rattle.bmx_protocol.specs.Runs.Turns.{TriesCommand, ServesName, TakesLetter, actor, input_of}
use Rattle.bmx_protocol.proofs.Basics.{some_same, none_some}
use Rattle.bmx_legal.specs.Inside.Spots.{StandsAt}
use Rattle.bmx_legal.proofs.Spots.{slice_end}
use Rattle.bmx_turns.proofs.Completing as completing
use Rattle.bmx_lanes.specs.Sending.{lane_of}
use Rattle.bmx_world.specs.Texts.{printed_of, line_if}
use Rattle.bmx_run.specs.declared.actions.Action.{Action as Choice}
use Rattle.bmx_run.specs.declared.actions.Action.TheVariants as choice
use Rattle.bmx_run.specs.declared.seats.Seat.{Seat}
use Rattle.bmx_run.specs.declared.runner.Runner.{Runner}
use Rattle.bmx_run.specs.Inside.Seats.{AreSeats, SeatAfter}
use Rattle.bmx_run.specs.Inside.Steps.{Steps, SameRest, event_of}
use Rattle.bmx_run.specs.Inside.Noting.{CanNote, Notes}
use Rattle.bmx_run.specs.Inside.Posting.{Posts, SameBesidesLanes}
use Rattle.bmx_run.specs.Inside.Running.{Point, store_of, history_of, IsAt, Turned, Halted}
use Rattle.bmx_run.specs.Inside.Picking.{MayTurn, IsNextOrder}
use Rattle.bmx_run.proofs.Flying.{lanes_sent, lanes_taken, added}
use Rattle.bmx_run.proofs.Sitting.{seats_stay, seats_tried}
use Rattle.bmx_run.proofs.Acting.{FirstTaken, action_is}
use Rattle.bmx_run.proofs.Turned.{Fitting, Gone, gone, turned, halted_behind, history_behind, last_place, last_is, posted}
use Rattle.bmx_run.proofs.Printed.{text_silent, text_tried}
use Rattle.bmx_run.proofs.Trying.{fits_serve, fits_take, fits_order, next_given, NextSeat, next_seat, Front, front_of}

-- ## an event with no command

module _ (p : Point) (old : Runner) (c : Choice) (n : ℕ) (i : Input) (mid popped last : Runner) (t : MayTurn p old c) (s : Steps (store_of p) old n i mid)
    (rest : SameRest old mid) (pops : SameBesidesLanes mid popped) (same : SameBesidesLanes popped last) where
  abbrev e : Event
  e = event_of n i s.behind s.done

  silent_gone : n ≡ actor t.action → i ≡ input_of t.action → Fitting p n i → command_in i ≡ None → Gone p e last
  silent_gone by_node by_input fits none =
      gone p old c n i mid last t s by_node by_input fits
      (ap (λ h. h.items) (same.history ∙ pops.history)) (ap (λ h. h.items) (same.nodes ∙ pops.nodes)) (same.budget ∙ pops.budget ∙ rest.budget)
      (ap string_bytes (same.text ∙ pops.text ∙ rest.text) ∙ t.is_at.whole.text ∙ sym (text_silent p.lines (history_of p) e none))

  silent_seats : command_in i ≡ None → AreSeats (store_of p).nodes p.stage.commands (p.part ++ e ∷ []) (history_of p ++ e ∷ []) last.seats.items
  silent_seats none =
      subst (λ (l : List Seat). AreSeats (store_of p).nodes p.stage.commands (p.part ++ e ∷ []) (history_of p ++ e ∷ []) l)
      (sym (ap (λ v. v.items) (same.seats ∙ pops.seats ∙ rest.seats)))
      (seats_stay (store_of p).nodes p.stage.commands p.part (history_of p) e old.seats.items none t.is_at.ready.seats)

  silent_lanes : Posts popped n last → (from to : ℕ) → lane_of last.lanes from to ≡ lane_of popped.lanes from to ++ added n (length (history_of p)) s.done.letters from to
  silent_lanes post from to =
      posted (history_of p) e popped last (ap (λ h. h.items) pops.history ∙ history_behind p old n i mid t.is_at s) post from to

-- ## a serve

abbrev same_beside : (r : Runner) → SameBesidesLanes r r
same_beside r = record { history = refl; nodes = refl; seats = refl; generator = refl; text = refl; budget = refl }

serve_gone : (p : Point) (old mid last : Runner) (n name : ℕ) → (t : MayTurn p old (choice.Serve n name)) → (s : Steps (store_of p) old n (input.Serve name) mid) →
    SameRest old mid → SameBesidesLanes mid last → Gone p (event_of n (input.Serve name) s.behind s.done) last
serve_gone p old mid last n name t s rest same =
    silent_gone p old (choice.Serve n name) n (input.Serve name) mid mid last t s rest (same_beside mid) same
    (sym (ap actor is)) (sym (ap input_of is)) (fits_serve p n name) refl
  where
    is : t.action ≡ ServesName n name
    is = action_is (history_of p) (choice.Serve n name) t.action t.means

pub serve_turned : (p : Point) (old mid last : Runner) (n name : ℕ) → MayTurn p old (choice.Serve n name) → Steps (store_of p) old n (input.Serve name) mid →
    SameRest old mid → Posts mid n last → SameBesidesLanes mid last → Turned p last
serve_turned p old mid last n name t s rest post same =
    turned p e old last t.is_at g
    (silent_seats p old (choice.Serve n name) n (input.Serve name) mid mid last t s rest (same_beside mid) same refl)
    (lanes_sent (store_of p) (history_of p) e (lane_of old.lanes) (lane_of last.lanes) t.is_at.whole.opens g.whole.leads.legal refl t.is_at.ready.lanes
    (λ from to. silent_lanes p old (choice.Serve n name) n (input.Serve name) mid mid last t s rest (same_beside mid) same post from to
    ∙ ap (λ l. lane_of l from to ++ added n (length (history_of p)) s.done.letters from to) rest.lanes))
  where
    e : Event
    e = event_of n (input.Serve name) s.behind s.done

    g : Gone p e last
    g = serve_gone p old mid last n name t s rest same

pub serve_halted : (p : Point) (old mid last : Runner) (n name : ℕ) → MayTurn p old (choice.Serve n name) → Steps (store_of p) old n (input.Serve name) mid →
    SameRest old mid → SameBesidesLanes mid last → Halted p last
serve_halted p old mid last n name t s rest same = halted_behind p (event_of n (input.Serve name) s.behind s.done) last (serve_gone p old mid last n name t s rest same)

-- ## a letter

-- what is known of the letter that a choice takes
abbrev pub taken_of : (p : Point) (old : Runner) (n from : ℕ) → (t : MayTurn p old (choice.Take n from)) → FirstTaken (history_of p) n from t.action
taken_of p old n from t = action_is (history_of p) (choice.Take n from) t.action t.means

module _ (p : Point) (old mid popped last : Runner) (n from : ℕ) (l : Letter) (t : MayTurn p old (choice.Take n from)) (is : l ≡ (taken_of p old n from t).letter)
    (s : Steps (store_of p) old n (input.Take from l) mid) (rest : SameRest old mid) (pops : SameBesidesLanes mid popped) (same : SameBesidesLanes popped last) where
  abbrev first : FirstTaken (history_of p) n from t.action
  first = taken_of p old n from t

  flight : in_flight from n (history_of p) ≡ l ∷ first.rest
  flight = first.first ∙ ap (λ (k : Letter). k ∷ first.rest) (sym is)

  action : t.action ≡ TakesLetter n from l
  action = first.is ∙ ap (TakesLetter n from) (sym is)

  abbrev f : Event
  f = event_of n (input.Take from l) s.behind s.done

  take_gone : Gone p f last
  take_gone =
      silent_gone p old (choice.Take n from) n (input.Take from l) mid popped last t s rest pops same
      (sym (ap actor action)) (sym (ap input_of action)) (fits_take p old n from l first.rest t.is_at flight) refl

  pub take_halted : Halted p last
  take_halted = halted_behind p f last take_gone

  pub take_turned : lane_of popped.lanes ≡ put_at (lane_of mid.lanes) from n (drop 1 (lane_of mid.lanes from n)) → Posts popped n last → Turned p last
  take_turned popped_is post =
      turned p f old last t.is_at take_gone
      (silent_seats p old (choice.Take n from) n (input.Take from l) mid popped last t s rest pops same refl)
      (lanes_taken (store_of p) (history_of p) f from l first.rest (lane_of old.lanes) (lane_of last.lanes) t.is_at.whole.opens take_gone.whole.leads.legal refl flight
      t.is_at.ready.lanes
      (λ a b. silent_lanes p old (choice.Take n from) n (input.Take from l) mid popped last t s rest pops same post a b
      ∙ ap (λ (lane : ℕ → ℕ → List (ℕ × ℕ)). lane a b ++ added n (length (history_of p)) s.done.letters a b)
      (popped_is ∙ ap (λ lanes. put_at (lane_of lanes) from n (drop 1 (lane_of lanes from n))) rest.lanes)))

-- it is the one that stands where the lane leads
pub take_stands : (p : Point) (old : Runner) (n from : ℕ) → (t : MayTurn p old (choice.Take n from)) → (spot : ℕ × ℕ) → slice_get (lane_of old.lanes from n) 0 ≡ Some spot →
    StandsAt old.history.items spot (taken_of p old n from t).letter
take_stands p old n from t spot is =
    let f : Front p old n from = front_of p old n from t.action t.is_at (taken_of p old n from t) in
    subst (λ (x : ℕ × ℕ). StandsAt old.history.items x (taken_of p old n from t).letter) (some_same (sym f.first ∙ is)) f.stands

pub take_some : (p : Point) (old : Runner) (n from : ℕ) → (t : MayTurn p old (choice.Take n from)) → slice_get (lane_of old.lanes from n) 0 ≡ None → ⊥
take_some p old n from t none =
    let f : Front p old n from = front_of p old n from t.action t.is_at (taken_of p old n from t) in
    none_some (sym none ∙ f.first)

pub lanes_only : (r : Runner) (lanes : List (List (List (ℕ × ℕ)))) → SameBesidesLanes r (record r { lanes = lanes })
lanes_only r lanes = record { history = refl; nodes = refl; seats = refl; generator = refl; text = refl; budget = refl }

-- ## a command

module _ (p : Point) (old mid noted last : Runner) (g : Order) (t : MayTurn p old (choice.Try g)) (is : IsNextOrder p g)
    (s : Steps (store_of p) old g.node (input.Do g.command) mid) (rest : SameRest old mid) (notes : Notes mid g noted) (same : SameBesidesLanes noted last) where
  abbrev h : Event
  h = event_of g.node (input.Do g.command) s.behind s.done

  tried_action : t.action ≡ TriesCommand g.node g.command
  tried_action = action_is (history_of p) (choice.Try g) t.action t.means

  behind : mid.history.items ≡ history_of p ++ h ∷ []
  behind = history_behind p old g.node (input.Do g.command) mid t.is_at s

  last_event : notes.event ≡ h
  last_event = last_is mid.history.items (history_of p) h notes.event behind notes.last

  try_gone : Gone p h last
  try_gone =
      gone p old (choice.Try g) g.node (input.Do g.command) mid last t s (sym (ap actor tried_action)) (sym (ap input_of tried_action)) (fits_order p old g t.is_at is)
      (ap (λ v. v.items) (same.history ∙ notes.history)) (ap (λ v. v.items) (same.nodes ∙ notes.nodes)) (same.budget ∙ notes.budget ∙ rest.budget)
      (ap string_bytes same.text ∙ notes.text
      ∙ ap (λ (e : Event). string_bytes mid.text ++ line_if g.node g.line (printed_of g.command e.done.answer)) last_event
      ∙ ap (λ (l : List ℕ). l ++ line_if g.node g.line (printed_of g.command s.done.answer)) (ap string_bytes rest.text ∙ t.is_at.whole.text)
      ∙ sym (text_tried p g s.behind.stamp s.done t.is_at.phase (next_given p old g t.is_at is).a_node is))

  pub try_halted : Halted p last
  try_halted = halted_behind p h last try_gone

  try_seats : AreSeats (store_of p).nodes p.stage.commands (p.part ++ h ∷ []) (history_of p ++ h ∷ []) last.seats.items
  try_seats =
      subst (λ (l : List Seat). AreSeats (store_of p).nodes p.stage.commands (p.part ++ h ∷ []) (history_of p ++ h ∷ []) l)
      (sym (ap (λ v. v.items) same.seats ∙ notes.seats ∙ ap (λ v. slice_set v.items g.node notes.behind) rest.seats))
      (seats_tried (store_of p).nodes p.stage.commands p.part (history_of p) g.node s.behind.stamp g.command s.done old.seats.items notes.before notes.behind t.is_at.ready.seats
      (ap (λ v. slice_get v.items g.node) (sym rest.seats) ∙ notes.there)
      (completing.command_at p.stage g.node (length (completed g.node p.part)) g is)
      (subst (λ (e : Event). SeatAfter (is_wait e.done.answer) notes.before notes.behind) last_event notes.after))

  pub try_turned : Posts noted g.node last → Turned p last
  try_turned post =
      turned p h old last t.is_at try_gone try_seats
      (lanes_sent (store_of p) (history_of p) h (lane_of old.lanes) (lane_of last.lanes) t.is_at.whole.opens try_gone.whole.leads.legal refl t.is_at.ready.lanes
      (λ from to. posted (history_of p) h noted last (ap (λ v. v.items) notes.history ∙ behind) post from to
      ∙ ap (λ l. lane_of l from to ++ added g.node (length (history_of p)) s.done.letters from to) (notes.lanes ∙ rest.lanes)))

-- there is a command to note
pub can_note : (p : Point) (old mid : Runner) (g : Order) → IsAt p old → IsNextOrder p g → (s : Steps (store_of p) old g.node (input.Do g.command) mid) → SameRest old mid →
    string_len old.text + 96 ≤ string_capacity old.text → CanNote mid g
can_note p old mid g at is s rest room = record {
  event = event_of g.node (input.Do g.command) s.behind s.done;
  last = (λ j. slice_get (behind_is j) (last_place mid.history.items (history_of p) e behind_is j)) ∙ slice_end (history_of p) e [];
  seat = seat.seat;
  there = ap (λ v. slice_get v.items g.node) rest.seats ∙ seat.there;
  next = seat.next;
  room = subst (λ x. string_len x + 96 ≤ string_capacity x) (sym rest.text) room;
}
  where
    e : Event
    e = event_of g.node (input.Do g.command) s.behind s.done

    behind_is : mid.history.items ≡ history_of p ++ e ∷ []
    behind_is = history_behind p old g.node (input.Do g.command) mid at s

    seat : NextSeat p old g
    seat = next_seat p old g at is

-- a run whose text has more room
pub with_room : (p : Point) (r : Runner) (c : Choice) (text : _) → string_bytes text ≡ string_bytes r.text → MayTurn p r c → MayTurn p (record r { text = text }) c
with_room p r c text is t = record {
  is_at = record {
    whole = record {
      history = t.is_at.whole.history;
      few = t.is_at.whole.few;
      small = t.is_at.whole.small;
      opens = t.is_at.whole.opens;
      nodes = t.is_at.whole.nodes;
      leads = t.is_at.whole.leads;
      stamped = t.is_at.whole.stamped;
      text = is ∙ t.is_at.whole.text;
    };
    ready = record { given = t.is_at.ready.given; seats = t.is_at.ready.seats; lanes = t.is_at.ready.lanes };
    phase = t.is_at.phase;
  };
  goes_on = t.goes_on;
  room = t.room;
  served = t.served;
  action = t.action;
  picks = t.picks;
  means = t.means;
}

-- the same order
pub as_order : (p : Point) (r : Runner) (g h : Order) → g ≡ h → MayTurn p r (choice.Try h) → MayTurn p r (choice.Try g)
as_order p r g h same t = subst (λ (x : Order). MayTurn p r (choice.Try x)) (sym same) t

pub as_next : (p : Point) (g h : Order) → g ≡ h → IsNextOrder p h → IsNextOrder p g
as_next p g h same is = subst (λ (x : Order). IsNextOrder p x) (sym same) is
