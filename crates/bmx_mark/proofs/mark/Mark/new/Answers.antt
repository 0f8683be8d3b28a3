use Rattle.std.proofs.Common.{ℕ, List, sym, subst, arith}
use Rattle.std.specs.HashMap.{spare}
use Rattle.bmx_mark.specs.Inside.Marks.{IsMark}
use Rattle.bmx_mark.proofs.Kept.{IsMark-empty}
use Rattle.bmx_mark.proofs.Listed.{AreListed-none}
use Rattle.bmx_mark.proofs.mark.Mark.new.Goals as goal

pub invariant_of-result : goal.invariant_of-result
invariant_of-result c =
    subst (λ (l : List (ℕ × ℕ)). IsMark c.in-Ok.lists l (spare c.new-2.result) 0 0) (sym c.new-2.ensures.empty)
    (IsMark-empty c.in-Ok.lists (spare c.new-2.result) 0 c.in-Ok.ensures.lists (AreListed-none c.in-Ok.lists c.in-Ok.ensures.live) (omega arith) (omega arith))
