use Rattle.std.proofs.Common.{◌≡◌, ◌+◌, length}
use Rattle.bmx_protocol.specs.Runs.Turns.{letter_actions}
use Rattle.bmx_run.specs.Inside.Running.{Point, history_of, IsAt}
use Rattle.bmx_run.proofs.runner.Runner.next_letter.Given as goal

-- the letters of the senders so far stand before the place
abbrev pub invariant-loop-number : goal.invariant-loop-number
invariant-loop-number l = (p : Point) → IsAt p l.self → l.place + length (letter_actions (history_of p) l.node l.number) ≡ l.fn.place
