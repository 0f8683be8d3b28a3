use Rattle.bmx_store_laws.proofs.Applied.{laws_apply}
use Rattle.bmx_world.proofs.laws.token_laws_apply.Goals as goal

pub returns : goal.returns
returns c = laws_apply
