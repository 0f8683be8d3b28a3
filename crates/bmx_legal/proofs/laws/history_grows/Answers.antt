use Rattle.bmx_legal.proofs.Growing.{history_grows}
use Rattle.bmx_legal.proofs.laws.history_grows.Goals as goal

pub returns : goal.returns
returns c = history_grows
