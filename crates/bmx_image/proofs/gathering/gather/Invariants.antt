use Rattle.std.proofs.Common.{◌-◌, ◌^◌, length}
use Rattle.bmx_image.specs.Inside.Mentions.{HasGathered}
use Rattle.bmx_image.proofs.gathering.gather.Given as goal

abbrev pub invariant-loop-name : goal.invariant-loop-name
invariant-loop-name g l = HasGathered (g.G.Fields.bunches l.graph) (g.G.Fields.fields l.graph) l.fn.anchor l.mentions l.objects

abbrev pub decreases-loop-name : goal.decreases-loop-name
decreases-loop-name g l = 2 ^ 64 - length l.objects
