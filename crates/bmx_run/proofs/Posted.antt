-- Letters that are sent one after another stand at the ends of their lanes; what is noted of a command.
use Rattle.std.proofs.Common.{◌≡◌, ℕ, ◌+◌, ◌-◌, ◌<◌, ◌≤◌, arith, refl, ap, sym, ◌∙◌, subst, Bool, true, false, cond, List, [], ◌∷◌, ◌++◌, length, take, get_or, Option}
use Rattle.std.specs.Prelude.{◌==◌, slice_set, string_bytes}
use Rattle.std.proofs.lemmas.List.{append-nil, append_assoc, take_more, take_all, length-take-le}
use Rattle.std.proofs.lemmas.Option.{slice_get_read}
use Rattle.bmx_types.specs.Updates.{put, put_at}
use Rattle.bmx_script.specs.declared.printing.Shown.{Shown}
use Rattle.bmx_protocol.specs.declared.inputs.Sending.{Sending}
use Rattle.bmx_protocol.specs.declared.events.Event.{Event}
use Rattle.bmx_protocol.specs.Histories.{is_wait}
use Rattle.bmx_protocol.specs.Runs.Programs.{Order}
use Rattle.bmx_protocol.proofs.Basics.{Two, Same, Apart, two, eqb_same, eqb_apart, put_same, put_apart, put_at_row, put_at_else}
use Rattle.bmx_legal.specs.Inside.Spots.{spots_to}
use Rattle.bmx_legal.proofs.Spots.{spots_append, spots_one, spots_no}
use Rattle.bmx_lanes.specs.Sending.{lane_of}
use Rattle.bmx_world.specs.Texts.{printed_of, line_if}
use Rattle.bmx_run.specs.declared.seats.Seat.{Seat}
use Rattle.bmx_run.specs.declared.runner.Runner.{Runner}
use Rattle.bmx_run.specs.Inside.Seats.{SeatAfter}
use Rattle.bmx_run.specs.Inside.Noting.{CanNote, Notes}
use Rattle.bmx_run.specs.Inside.Posting.{Posts, Sends}
use Rattle.bmx_run.proofs.Stepped.{read_is}

abbrev Lists : Type 0
Lists = List (List (List (ℕ × ℕ)))

-- ## letters that are sent

pub sends_none : (old : Lists) (node event : ℕ) → Sends old node event [] old
sends_none old node event from to = by_test (from == node)
  where
    by_test : (b : Bool) → lane_of old from to ≡ lane_of old from to ++ cond b [] []
    by_test true = sym (append-nil (lane_of old from to))
    by_test false = sym (append-nil (lane_of old from to))

sends_one : (old mid new : Lists) (node event : ℕ) (sent : List Sending) (s : Sending) → Sends old node event sent mid →
    lane_of new ≡ put_at (lane_of mid) node s.to (lane_of mid node s.to ++ (event, length sent) ∷ []) → Sends old node event (sent ++ s ∷ []) new
sends_one old mid new node event sent s before is from to = by_node (two from node)
  where
    here : ℕ × ℕ
    here = (event, length sent)

    put_there : List (ℕ × ℕ)
    put_there = lane_of mid node s.to ++ here ∷ []

    all : ℕ → List (ℕ × ℕ)
    all m = spots_to m event 0 (sent ++ s ∷ [])

    own : (m : ℕ) → lane_of mid node m ≡ lane_of old node m ++ spots_to m event 0 sent
    own m = before node m ∙ ap (λ (b : Bool). lane_of old node m ++ cond b (spots_to m event 0 sent) []) (eqb_same node)

    more : (m : ℕ) → all m ≡ spots_to m event 0 sent ++ spots_to m event (length sent) (s ∷ [])
    more m =
        let same : 0 + length sent ≡ length sent = omega arith in
        spots_append m event 0 sent (s ∷ []) ∙ ap (λ (k : ℕ). spots_to m event 0 sent ++ spots_to m event k (s ∷ [])) same

    at_node : (m : ℕ) → Two s.to m → lane_of new node m ≡ lane_of old node m ++ all m
    at_node m (Same e) =
        (λ i. is i node m) ∙ put_at_row (lane_of mid) node s.to m put_there
        ∙ ap (λ (k : ℕ). put (lane_of mid node) s.to put_there k) (sym e) ∙ put_same (lane_of mid node) s.to put_there
        ∙ ap (λ (k : ℕ). lane_of mid node k ++ here ∷ []) e
        ∙ ap (λ (l : List (ℕ × ℕ)). l ++ here ∷ []) (own m)
        ∙ append_assoc (lane_of old node m) (spots_to m event 0 sent) (here ∷ [])
        ∙ ap (λ (l : List (ℕ × ℕ)). lane_of old node m ++ l)
        (sym (more m ∙ ap (λ (l : List (ℕ × ℕ)). spots_to m event 0 sent ++ l) (spots_one m event (length sent) s e)))
    at_node m (Apart t q) =
        (λ i. is i node m) ∙ put_at_row (lane_of mid) node s.to m put_there ∙ put_apart (lane_of mid node) s.to m put_there t ∙ own m
        ∙ ap (λ (l : List (ℕ × ℕ)). lane_of old node m ++ l)
        (sym (more m ∙ ap (λ (l : List (ℕ × ℕ)). spots_to m event 0 sent ++ l) (spots_no m event (length sent) s q) ∙ append-nil (spots_to m event 0 sent)))

    by_node : Two from node → lane_of new from to ≡ lane_of old from to ++ cond (from == node) (all to) []
    by_node (Same e) =
        subst (λ (n : ℕ). lane_of new n to ≡ lane_of old n to ++ cond (n == node) (all to) []) (sym e)
        (at_node to (two s.to to) ∙ ap (λ (b : Bool). lane_of old node to ++ cond b (all to) []) (sym (eqb_same node)))
    by_node (Apart t q) =
        (λ i. is i from to) ∙ put_at_else (lane_of mid) node s.to from to put_there (eqb_apart node from (λ e. q (sym e))) ∙ before from to
        ∙ ap (λ (b : Bool). lane_of old from to ++ cond b (spots_to to event 0 sent) []) t
        ∙ ap (λ (b : Bool). lane_of old from to ++ cond b (all to) []) (sym t)

-- one letter more
pub sends_more : (old mid new : Lists) (node event k : ℕ) (letters : List Sending) (s : Sending) → k < length letters → s ≡ get_or letters k s →
    Sends old node event (take k letters) mid → lane_of new ≡ put_at (lane_of mid) node s.to (lane_of mid node s.to ++ (event, k) ∷ []) →
    Sends old node event (take (k + 1) letters) new
sends_more old mid new node event k letters s short read before is =
    subst (λ (l : List Sending). Sends old node event l new) (sym (take_more letters k s short ∙ ap (λ (x : Sending). take k letters ++ x ∷ []) (sym read)))
    (sends_one old mid new node event (take k letters) s before
    (is ∙ ap (λ (j : ℕ). put_at (lane_of mid) node s.to (lane_of mid node s.to ++ (event, j) ∷ [])) (sym (length-take-le k letters (omega (arith, short))))))

-- all of them
pub sends_all : (old new : Lists) (node event k : ℕ) (letters : List Sending) → length letters ≤ k → Sends old node event (take k letters) new → Sends old node event letters new
sends_all old new node event k letters long sent = subst (λ (l : List Sending). Sends old node event l new) (take_all k letters long) sent

-- those of the last event
pub posts_by : (old new : Runner) (node k : ℕ) (e : Event) (letters : List Sending) → 0 < length old.history.items → k ≡ length old.history.items - 1 → e ≡ get_or old.history.items k e →
    letters ≡ e.done.letters → Sends old.lanes node k letters new.lanes → Posts old node new
posts_by old new node k e letters some last read are sent = record {
  event = e;
  there = slice_get_read old.history.items (length old.history.items) (length old.history.items - 1) e refl (omega (arith, some)) (read ∙ ap (λ (j : ℕ). get_or old.history.items j e) last);
  lanes = subst (λ (j : ℕ). Sends old.lanes node j e.done.letters new.lanes) last (subst (λ (l : List Sending). Sends old.lanes node k l new.lanes) are sent);
}

-- ## what is noted

pub noted : (old new : Runner) (g : Order) (r : CanNote old g) (e : Event) (k i : ℕ) (seat behind : Seat) (o : Option Shown) →
    e ≡ get_or old.history.items k e → k ≡ length old.history.items - 1 → seat ≡ get_or old.seats.items i seat → i ≡ g.node →
    SeatAfter (is_wait e.done.answer) seat behind → o ≡ printed_of g.command e.done.answer →
    new.seats.items ≡ slice_set old.seats.items i behind → string_bytes new.text ≡ string_bytes old.text ++ line_if g.node g.line o →
    new.history ≡ old.history → new.nodes ≡ old.nodes → new.lanes ≡ old.lanes → new.generator ≡ old.generator → new.budget ≡ old.budget → Notes old g new
noted old new g r e k i seat behind o event_read last seat_read place after shown seats text history nodes lanes generator budget = record {
  event = r.event;
  last = r.last;
  before = r.seat;
  behind = behind;
  there = r.there;
  after = subst (λ (x : Event). SeatAfter (is_wait x.done.answer) r.seat behind) same_event (subst (λ (s : Seat). SeatAfter (is_wait e.done.answer) s behind) same_seat after);
  seats = seats ∙ ap (λ (j : ℕ). slice_set old.seats.items j behind) place;
  text = text ∙ ap (λ (s : Option Shown). string_bytes old.text ++ line_if g.node g.line s) (shown ∙ ap (λ (x : Event). printed_of g.command x.done.answer) same_event);
  history = history;
  nodes = nodes;
  lanes = lanes;
  generator = generator;
  budget = budget;
}
  where
    same_event : e ≡ r.event
    same_event = read_is old.history.items (length old.history.items - 1) k r.event e r.last last event_read

    same_seat : seat ≡ r.seat
    same_seat = read_is old.seats.items g.node i r.seat seat r.there place seat_read
