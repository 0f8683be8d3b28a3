use Rattle.bmx_protocol.proofs.Worked.{worked_runs_are_legal}
use Rattle.bmx_world.proofs.laws.worked_runs_are_legal.Goals as goal

pub returns : goal.returns
returns c = worked_runs_are_legal
