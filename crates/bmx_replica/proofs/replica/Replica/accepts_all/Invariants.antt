use Rattle.std.proofs.Common.{take}
use Rattle.bmx_replica.specs.Letters.{infos_told, sketch_of, CanLearn}
use Rattle.bmx_replica.proofs.replica.Replica.accepts_all.Given as goal

-- the Infos so far can be learned
abbrev pub invariant-loop-place : goal.invariant-loop-place
invariant-loop-place l = CanLearn (sketch_of l.self) (infos_told l.object (take l.place l.fields))
