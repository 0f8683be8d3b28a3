use Rattle.bmx_store_laws.proofs.Lifted.{parents_lead_always}
use Rattle.bmx_world.proofs.laws.parents_lead.Goals as goal

pub returns : goal.returns
returns c = parents_lead_always
