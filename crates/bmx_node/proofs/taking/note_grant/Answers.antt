use Rattle.std.proofs.Common.{[], ◌∷◌, ◌++◌, sym, subst}
use Rattle.bmx_types.specs.declared.numbers.Mode.{Mode}
use Rattle.bmx_token.specs.Transitions.{Grants}
use Rattle.bmx_protocol.specs.Changes.{Takes}
use Rattle.bmx_protocol.specs.Rules.{got_change}
use Rattle.bmx_mail.specs.Mails.{Tracks, KnowsBunch}
use Rattle.bmx_node.proofs.Grants.{noted_read, noted_write}
use Rattle.bmx_node.proofs.taking.note_grant.Goals as goal

pub returns-in-Read : goal.returns-in-Read
returns-in-Read c =
    let old = c.args.mail.now in
    let new = c.count_taken.new.self in
    let from = c.args.taking.from in
    let seq = c.args.taking.seq in
    let info = c.args.info.now in
    subst (λ (m : Mode). Tracks old new (got_change from seq info.name (Grants m) ++ Takes from ∷ []) (KnowsBunch info.name info.bunch)) (sym c.in-Read.is)
    (noted_read old new from seq info.name info.bunch c.count_taken.ensures.change)

pub returns-in-Write : goal.returns-in-Write
returns-in-Write c =
    let old = c.args.mail.now in
    let new = c.take_over.new.self in
    let from = c.args.taking.from in
    let seq = c.args.taking.seq in
    let info = c.args.info.now in
    subst (λ (m : Mode). Tracks old new (got_change from seq info.name (Grants m) ++ Takes from ∷ []) (KnowsBunch info.name info.bunch)) (sym c.in-Write.is)
    (noted_write old new from seq info.name info.bunch c.count_taken.new.self c.count_taken.ensures.change c.take_over.ensures.change)
