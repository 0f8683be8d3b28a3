use Rattle.bmx_legal.proofs.Applied.{laws_tell}
use Rattle.bmx_legal.proofs.laws.laws_tell.Goals as goal

pub returns : goal.returns
returns c = laws_tell
