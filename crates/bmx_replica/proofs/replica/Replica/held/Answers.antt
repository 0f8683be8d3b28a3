use Rattle.std.proofs.Common.{subst, sym}
use Rattle.bmx_replica.specs.Replicas.{HasTarget}
use Rattle.bmx_replica.proofs.replica.Replica.held.Goals as goal

pub held_by-requires-clause-target : goal.held_by-requires-clause-target
held_by-requires-clause-target c = subst (HasTarget c.args.self.now) (sym c.word-word.ensures.holds) c.requires
