use Rattle.std.proofs.Common.{rules}
use Rattle.bmx_outside.proofs.Streams.{Consumes-copied}
use Rattle.bmx_outside.proofs.inputs.NoFaultSourceSource.read.Goals as goal

pub returns-clause-bytes : goal.returns-clause-bytes
returns-clause-bytes c = search (rules, Consumes-copied)
