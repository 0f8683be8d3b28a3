use Rattle.bmx_collection.proofs.Worked.{worked_runs_are_legal_linked}
use Rattle.bmx_collection.proofs.laws.worked_runs_are_legal_linked.Goals as goal

pub returns : goal.returns
returns c = worked_runs_are_legal_linked
