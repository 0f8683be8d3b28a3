use Rattle.bmx_world.proofs.Promised.{every_history_keeps_one_store}
use Rattle.bmx_world.proofs.laws.every_history_keeps_one_store.Goals as goal

pub returns : goal.returns
returns c = every_history_keeps_one_store
