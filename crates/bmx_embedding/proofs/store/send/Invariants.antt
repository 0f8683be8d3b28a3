use Rattle.std.proofs.Common.{◌≡◌, ◌++◌}
use Rattle.bmx_embedding.specs.Stores.{parcels}
use Rattle.bmx_embedding.proofs.store.send.Given as goal

abbrev pub invariant-loop-to : goal.invariant-loop-to
invariant-loop-to l = l.in_flight.items ≡ l.fn.in_flight.items ++ parcels l.from l.yielded
