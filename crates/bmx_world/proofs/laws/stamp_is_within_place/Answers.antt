use Rattle.bmx_protocol.proofs.Prefixes.{stamp_is_within_place}
use Rattle.bmx_world.proofs.laws.stamp_is_within_place.Goals as goal

pub returns : goal.returns
returns c = stamp_is_within_place
