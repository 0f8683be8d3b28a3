use Rattle.std.proofs.Common.{take}
use Rattle.bmx_image.specs.Inside.Mentions.{Goes}
use Rattle.bmx_image.proofs.gathering.Mentions.fields.Given as goal

abbrev pub invariant-loop-i : goal.invariant-loop-i
invariant-loop-i g l = Goes (g.G.Fields.bunches l.graph) (take l.i (g.G.Fields.fields l.graph l.name)) l.fields.items l.initial.self l.self
