use Rattle.std.proofs.Common.{◌≡◌, ℕ, ◌+◌, ◌-◌, ◌<◌, ◌≤◌, Bool, true, false, List, sym, subst, arith}
use Rattle.std.specs.Prelude.{is_some, if◌then◌else◌}
use Rattle.bmx_segment.specs.Blocks.{Block}
use Rattle.bmx_segment.specs.Stores.{Maps, block_at, segment_key}
use Rattle.bmx_segment.proofs.Keeping.{Maps-more}
use Rattle.bmx_segment.proofs.store.Store.map_range.Goals as goal

less : (b : Bool) → (if b then 0 else 1) ≤ 1
less true = omega arith
less false = omega arith

pub loop-number-preserved : goal.loop-number-preserved
loop-number-preserved c =
    let number : ℕ = c.loop-number.number in
    let first : ℕ = c.args.first in
    let mid : List Block = c.loop-number.self.blocks in
    let low : first ≤ number = c.loop-number.auto.number in
    let test : number < first + c.args.more = c.loop-number-test.true in
    let whole : first + (number - first) ≡ number = omega arith in
    let next : number + 1 - first ≡ (number - first) + 1 = omega arith in
    let P : ℕ → Type 0 = λ n. Maps mid c.map.new.self.blocks c.args.home n 1 in
    let one : P (first + (number - first)) = subst P (sym whole) c.in-Ok.ensures.ok in
    let spare = c.in-Ok.ensures.spare in
    let used = less (is_some (block_at mid (segment_key c.args.home number))) in
    let enough = c.loop-number.invariant.1 in (
      rw next (Maps-more c.reserve.new.self.blocks mid c.map.new.self.blocks c.args.home first (number - first) c.loop-number.invariant.0 one),
      omega arith,
      omega arith,
    )
