use Rattle.std.proofs.Common.{◌≡◌, ℕ, ◌<◌, get_or, vec_len}
use Rattle.bmx_segment.specs.Blocks.{Block}
use Rattle.bmx_segment.specs.Inside.Stores.{IsBlank}
use Rattle.bmx_segment.proofs.store.blanks.Given as goal

abbrev pub invariant-loop : goal.invariant-loop
invariant-loop l =
    (vec_len l.segments ≡ l.counter) × ((i : ℕ) (d : Block) → i < vec_len l.segments → IsBlank (get_or l.segments.items i d))
