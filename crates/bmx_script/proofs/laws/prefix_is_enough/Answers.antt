use Rattle.bmx_script.proofs.Prefixes.{prefix_is_enough}
use Rattle.bmx_script.proofs.laws.prefix_is_enough.Goals as goal

pub returns : goal.returns
returns c = prefix_is_enough
