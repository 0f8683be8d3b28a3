use Rattle.bmx_store_laws.proofs.Lifted.{parents_answer_always}
use Rattle.bmx_world.proofs.laws.parents_answer.Goals as goal

pub returns : goal.returns
returns c = parents_answer_always
