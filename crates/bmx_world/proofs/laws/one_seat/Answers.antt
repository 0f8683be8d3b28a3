use Rattle.bmx_store_laws.proofs.Lifted.{one_seat}
use Rattle.bmx_world.proofs.laws.one_seat.Goals as goal

pub returns : goal.returns
returns c = one_seat
