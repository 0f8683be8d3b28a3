use Rattle.bmx_replica.proofs.Finding.{IsHolding-object}
use Rattle.bmx_replica.proofs.replica.Replica.held_by.Goals as goal

pub returns-in-Ref-clause-held : goal.returns-in-Ref-clause-held
returns-in-Ref-clause-held c =
    IsHolding-object c.args.self.now c.referred-address.result c.word-word.result c.referred-address.ensures.replica c.referred-address.ensures.stands c.word-word.ensures.address c.word-word.ensures.value
