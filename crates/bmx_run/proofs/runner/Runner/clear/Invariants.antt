use Rattle.std.proofs.Common.{◌≡◌, ℕ, ◌<◌, false, length, [], Some}
use Rattle.std.specs.Prelude.{slice_get}
use Rattle.bmx_run.specs.declared.seats.Seat.{Seat}
use Rattle.bmx_run.proofs.runner.Runner.clear.Given as goal

abbrev pub invariant-loop-seat : goal.invariant-loop-seat
invariant-loop-seat l =
    (length l.seat-items ≡ length l.initial.seat-items)
    × ((n : ℕ) (s : Seat) → n < l.seat-index → slice_get l.seat-items n ≡ Some s → (s.orders.items ≡ []) × (s.completed ≡ 0) × (s.waits ≡ false))
