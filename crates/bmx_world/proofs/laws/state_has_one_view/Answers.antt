use Rattle.bmx_protocol.proofs.Shown.{state_has_one_view}
use Rattle.bmx_world.proofs.laws.state_has_one_view.Goals as goal

pub returns : goal.returns
returns c = state_has_one_view
