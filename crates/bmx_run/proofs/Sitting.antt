-- What an event makes of the seats of nodes.
use Rattle.std.proofs.Common.{◌≡◌, ℕ, ◌+◌, ◌<◌, refl, ap, sym, ◌∙◌, subst, Bool, true, false, cond, List, [], ◌∷◌, ◌++◌, length, map, Option, Some, None}
use Rattle.std.specs.Prelude.{◌==◌, slice_get, slice_set}
use Rattle.std.specs.Option.{option_map_or, option_and_then}
use Rattle.std.proofs.lemmas.List.{length-append}
use Rattle.std.proofs.lemmas.Option.{slice_get-map, slice_get_within}
use Rattle.bmx_types.specs.declared.commands.Command.{Command}
use Rattle.bmx_protocol.specs.declared.inputs.Input.TheVariants as input
use Rattle.bmx_protocol.specs.declared.inputs.Done.{Done}
use Rattle.bmx_protocol.specs.declared.events.Event.{Event}
use Rattle.bmx_protocol.specs.Steps.{command_in}
use Rattle.bmx_protocol.specs.Histories.{is_wait, waits_after, waits_with}
use Rattle.bmx_protocol.specs.Runs.Programs.{Order, completed, completion}
use Rattle.bmx_protocol.proofs.Basics.{Two, Same, Apart, two, eqb_of, some_same}
use Rattle.bmx_turns.proofs.Completing.{completed_by, completed_not, completed_here}
use Rattle.bmx_turns.proofs.Printing.{waits_one}
use Rattle.bmx_run.specs.declared.seats.Seat.{Seat}
use Rattle.bmx_run.specs.Inside.Seats.{orders_of, command_at, SitsAt, AreSeats, SeatAfter}
use Rattle.bmx_run.proofs.Listing.{got_same, got_other, length_set}

-- an event of another node, or with no command, leaves what a node completed and waits with
pub record Leaves (n : ℕ) (part history : List Event) (e : Event) : Type 0 where
  pub completed : completed n (part ++ e ∷ []) ≡ completed n part
  pub waits : waits_with n None (history ++ e ∷ []) ≡ waits_with n None history

pub leaves_apart : (n : ℕ) (part history : List Event) (e : Event) → (e.node == n) ≡ false → Leaves n part history e
leaves_apart n part history e apart = record {
  completed = completed_not n part e (ap (λ (b : Bool). cond b (completion e.input e.done.answer) None) apart);
  waits = waits_one n None history e ∙ ap (λ (b : Bool). cond b (waits_after (waits_with n None history) e.input e.done.answer) (waits_with n None history)) apart;
}

leaves_silent : (n : ℕ) (part history : List Event) (e : Event) → command_in e.input ≡ None → Leaves n part history e
leaves_silent n part history e none = record {
  completed = completed_not n part e (by_test (e.node == n));
  waits = waits_one n None history e ∙ by_test_waits (e.node == n);
}
  where
    nothing : completion e.input e.done.answer ≡ None
    nothing = ap (λ (o : Option Command). option_and_then (λ c. cond (is_wait e.done.answer) None (Some c)) o) none

    by_test : (b : Bool) → cond b (completion e.input e.done.answer) None ≡ None
    by_test true = nothing
    by_test false = refl

    w : Option Command
    w = waits_with n None history

    by_test_waits : (b : Bool) → cond b (waits_after w e.input e.done.answer) w ≡ w
    by_test_waits true = ap (λ (o : Option Command). option_map_or (λ c. cond (is_wait e.done.answer) (Some c) None) o w) none
    by_test_waits false = refl

sits_left : (orders : List Order) (part history : List Event) (e : Event) (n : ℕ) (s : Seat) → Leaves n part history e → SitsAt orders part history n s →
    SitsAt orders (part ++ e ∷ []) (history ++ e ∷ []) n s
sits_left orders part history e n s l sits = record {
  program = sits.program;
  completed = sits.completed ∙ ap (λ (c : List Command). length c) (sym l.completed);
  waits = l.waits ∙ sits.waits;
}

-- seats after an event with no command
pub seats_stay : (nodes : ℕ) (orders : List Order) (part history : List Event) (e : Event) (seats : List Seat) → command_in e.input ≡ None →
    AreSeats nodes orders part history seats → AreSeats nodes orders (part ++ e ∷ []) (history ++ e ∷ []) seats
seats_stay nodes orders part history e seats none are = record {
  each = are.each;
  sits = λ n s got. sits_left orders part history e n s (leaves_silent n part history e none) (are.sits n s got);
}

-- the seat of the node that tried a command
sits_tried : (orders : List Order) (part history : List Event) (n stamp : ℕ) (c : Command) (done : Done) (s t : Seat) →
    SitsAt orders part history n s → slice_get (map (λ (g : Order). g.command) (orders_of n orders)) (length (completed n part)) ≡ Some c →
    (b : Bool) → is_wait done.answer ≡ b → SeatAfter b s t →
    SitsAt orders (part ++ record { node = n; stamp = stamp; input = input.Do c; done = done } ∷ []) (history ++ record { node = n; stamp = stamp; input = input.Do c; done = done } ∷ []) n t
sits_tried orders part history n stamp c done s t sits next b is after = record {
  program = after.program ∙ sits.program;
  completed = after.completed ∙ by_completed b (is);
  waits = waits_one n None history e ∙ ap (λ (x : Bool). cond x (waits_after w e.input done.answer) w) (eqb_of {a = n} refl) ∙ by_waits b is ∙ ap (λ (x : Bool). cond x (command_at t.orders.items t.completed) None) (sym after.waits);
}
  where
    e : Event
    e = record { node = n; stamp = stamp; input = input.Do c; done = done }

    w : Option Command
    w = waits_with n None history

    by : (x : Bool) → is_wait done.answer ≡ x → completed_by n e ≡ cond x None (Some c)
    by x h = ap (λ (y : Bool). cond y (completion e.input done.answer) None) (eqb_of {a = n} refl) ∙ ap (λ (y : Bool). cond y None (Some c)) h

    by_completed : (x : Bool) → is_wait done.answer ≡ x → cond x s.completed (s.completed + 1) ≡ length (completed n (part ++ e ∷ []))
    by_completed true h = sits.completed ∙ ap (λ (l : List Command). length l) (sym (completed_not n part e (by true h)))
    by_completed false h =
        ap (λ (k : ℕ). k + 1) sits.completed ∙ sym (length-append (completed n part) (c ∷ [])) ∙ ap (λ (l : List Command). length l) (sym (completed_here n part e c (by false h)))

    at : command_at t.orders.items s.completed ≡ Some c
    at =
        ap (λ (l : List Order). command_at l s.completed) (after.program ∙ sits.program)
        ∙ sym (slice_get-map (λ (g : Order). g.command) (orders_of n orders) s.completed)
        ∙ ap (slice_get (map (λ (g : Order). g.command) (orders_of n orders))) sits.completed ∙ next

    by_waits : (x : Bool) → is_wait done.answer ≡ x → waits_after w e.input done.answer ≡ cond b (command_at t.orders.items t.completed) None
    by_waits x h =
        ap (λ (y : Bool). cond y (Some c) None) is ∙ by_b b refl
      where
        by_b : (y : Bool) → b ≡ y → cond y (Some c) None ≡ cond y (command_at t.orders.items t.completed) None
        by_b true q = sym at ∙ ap (command_at t.orders.items) (sym (after.completed ∙ ap (λ (z : Bool). cond z s.completed (s.completed + 1)) q))
        by_b false q = refl

-- seats after a command was tried
pub seats_tried : (nodes : ℕ) (orders : List Order) (part history : List Event) (n stamp : ℕ) (c : Command) (done : Done) (seats : List Seat) (s t : Seat) →
    AreSeats nodes orders part history seats → slice_get seats n ≡ Some s →
    slice_get (map (λ (g : Order). g.command) (orders_of n orders)) (length (completed n part)) ≡ Some c → SeatAfter (is_wait done.answer) s t →
    AreSeats nodes orders (part ++ record { node = n; stamp = stamp; input = input.Do c; done = done } ∷ []) (history ++ record { node = n; stamp = stamp; input = input.Do c; done = done } ∷ []) (slice_set seats n t)
seats_tried nodes orders part history n stamp c done seats s t are there next after = record {
  each = length_set seats n t ∙ are.each;
  sits = λ m x got. at m x got (two n m);
}
  where
    e : Event
    e = record { node = n; stamp = stamp; input = input.Do c; done = done }

    short : n < length seats
    short = slice_get_within seats n s there

    at : (m : ℕ) (x : Seat) → slice_get (slice_set seats n t) m ≡ Some x → Two n m → SitsAt orders (part ++ e ∷ []) (history ++ e ∷ []) m x
    at m x got (Same q) =
        let same : t ≡ x = some_same (sym (got_same seats n t short) ∙ ap (slice_get (slice_set seats n t)) q ∙ got) in
        subst (λ (k : ℕ). SitsAt orders (part ++ e ∷ []) (history ++ e ∷ []) k x) q
        (subst (λ (y : Seat). SitsAt orders (part ++ e ∷ []) (history ++ e ∷ []) n y) same
        (sits_tried orders part history n stamp c done s t (are.sits n s there) next (is_wait done.answer) refl after))
    at m x got (Apart u q) =
        sits_left orders part history e m x (leaves_apart m part history e u) (are.sits m x (sym (got_other seats n m t q) ∙ got))
