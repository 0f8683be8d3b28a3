use Rattle.bmx_legal.proofs.Flight.{flight_grows}
use Rattle.bmx_legal.proofs.laws.flight_grows.Goals as goal

pub returns : goal.returns
returns c = flight_grows
