use Rattle.bmx_legal.proofs.Growing.{history_begins}
use Rattle.bmx_legal.proofs.laws.history_begins.Goals as goal

pub returns : goal.returns
returns c = history_begins
