use Rattle.bmx_protocol.proofs.ShownSteps.{shown_steps_agree}
use Rattle.bmx_world.proofs.laws.shown_steps_agree.Goals as goal

pub returns : goal.returns
returns c = shown_steps_agree
