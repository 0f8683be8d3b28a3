use Rattle.std.proofs.Common.{arith, ◌<◌, length}
use Rattle.bmx_run.proofs.Posted.{sends_more}
use Rattle.bmx_run.proofs.events.send.Goals as goal

pub loop-letter-preserved : goal.loop-letter-preserved
loop-letter-preserved c =
    let short : c.loop-letter.letter < length c.args.letters.now = omega (arith, c.loop-letter-test.true, c.loop-letter.auto.letter-end) in
    sends_more c.args.lanes.now c.loop-letter.lanes c.push.new.self c.args.node c.args.event c.loop-letter.letter c.args.letters.now c.index-letters-letter.result short
    c.index-letters-letter.is c.loop-letter.invariant c.in_ok-push.ensures.ok
