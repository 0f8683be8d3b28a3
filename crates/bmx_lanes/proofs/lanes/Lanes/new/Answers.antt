use Rattle.std.proofs.Common.{◌≡◌, [], replicate, arith, ap, ◌∙◌}
use Rattle.bmx_lanes.specs.Sending.{lane_of}
use Rattle.bmx_lanes.proofs.Sending.{nothing_sent}
use Rattle.bmx_lanes.proofs.lanes.Lanes.new.Goals as goal

pub returns : goal.returns
returns g c =
    let eight : c.loop.counter ≡ 8 = omega (arith, c.loop.auto.counter-end, c.loop-test.false) in
    ap lane_of c.loop.invariant ∙ ap (λ n. lane_of (replicate n (replicate 8 []))) eight ∙ nothing_sent 8 8
