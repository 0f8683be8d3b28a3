use Rattle.bmx_coherence.proofs.CaseFacts.{wrong_rules_break}
use Rattle.bmx_world.proofs.laws.wrong_rules_break.Goals as goal

pub returns : goal.returns
returns c = wrong_rules_break
