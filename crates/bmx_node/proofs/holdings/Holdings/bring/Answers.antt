use Rattle.std.proofs.Common.{List, filter_map, length, sym, subst}
use Rattle.bmx_msg.specs.declared.letters.Field.{Field}
use Rattle.bmx_protocol.specs.Nodes.{Known}
use Rattle.bmx_protocol.specs.Rules.{info_in}
use Rattle.bmx_node.specs.Inside.Hearing.{CanHear, Rooms}
use Rattle.bmx_node.proofs.Hearing.{first_can, then_can}
use Rattle.bmx_node.proofs.Bringing.{known_of, brought_fit, brought_state, brought_places, brought_keeps, brought_frame}
use Rattle.bmx_node.proofs.holdings.Holdings.bring.Goals as goal

pub hear-requires-clause-can : goal.hear-requires-clause-can
hear-requires-clause-can c = first_can c.args.self.now c.args.from c.args.info.now (filter_map info_in c.args.fields.now) c.requires.can

pub hear_fields-requires-clause-can : goal.hear_fields-requires-clause-can
hear_fields-requires-clause-can c =
    subst (λ (l : List Field). CanHear c.hear.new.self c.args.from (filter_map info_in l)) (sym c.as_slice.ensures)
    (then_can c.args.self.now c.hear.new.self c.args.from c.args.info.now (filter_map info_in c.args.fields.now) c.requires.can c.hear.ensures.frame.me c.hear.ensures.made c.hear.ensures.state c.hear.ensures.places)

pub hear_fields-requires-clause-rooms : goal.hear_fields-requires-clause-rooms
hear_fields-requires-clause-rooms c =
    subst (λ (l : List Field). Rooms c.hear.new.self (length (filter_map info_in l))) (sym c.as_slice.ensures)
    (c.hear.ensures.rooms (length (filter_map info_in c.args.fields.now)) c.requires.rooms)

pub install-requires : goal.install-requires
install-requires c =
    let k = known_of c.args.self.now c.args.info.now.name c.args.info.now.name c.requires.keeps c.requires.there in
    brought_fit c.args.self.now c.hear.new.self c.hear_fields.new.self c.args.from c.args.info.now c.args.fields.now c.as_slice.result.now c.as_slice.ensures c.requires.can
    c.hear.ensures.state c.hear.ensures.places c.hear_fields.ensures.state c.hear_fields.ensures.places k.0 k.1 c.requires.size

pub returns-clause-state : goal.returns-clause-state
returns-clause-state c k known =
    brought_state c.args.self.now c.hear.new.self c.hear_fields.new.self c.args.from c.args.info.now c.args.fields.now c.as_slice.result.now c.as_slice.ensures c.requires.can
    c.hear.ensures.state c.hear.ensures.places c.hear_fields.ensures.state c.hear_fields.ensures.places k known c.install.new.self c.install.ensures.shown

pub returns-clause-places : goal.returns-clause-places
returns-clause-places c =
    let k = known_of c.args.self.now c.args.info.now.name c.args.info.now.name c.requires.keeps c.requires.there in
    brought_places c.args.self.now c.hear.new.self c.hear_fields.new.self c.args.from c.args.info.now c.args.fields.now c.as_slice.result.now c.as_slice.ensures c.requires.can
    c.hear.ensures.state c.hear.ensures.places c.hear_fields.ensures.state c.hear_fields.ensures.places k.0 k.1 c.install.new.self c.install.ensures.shown

pub returns-clause-keeps : goal.returns-clause-keeps
returns-clause-keeps c =
    let name = c.args.info.now.name in
    let k = known_of c.args.self.now name name c.requires.keeps c.requires.there in
    brought_keeps c.args.self.now c.hear.new.self c.hear_fields.new.self c.args.from c.args.info.now c.args.fields.now c.as_slice.result.now c.as_slice.ensures c.requires.can
    c.hear.ensures.state c.hear.ensures.places c.hear_fields.ensures.state c.hear_fields.ensures.places k.0 k.1 c.install.new.self c.install.ensures.shown
    (c.hear_fields.ensures.keeps name (c.hear.ensures.keeps name c.requires.keeps))

pub returns-clause-frame : goal.returns-clause-frame
returns-clause-frame c =
    let k = known_of c.args.self.now c.args.info.now.name c.args.info.now.name c.requires.keeps c.requires.there in
    brought_frame c.args.self.now c.hear.new.self c.hear_fields.new.self c.args.from c.args.info.now c.args.fields.now c.as_slice.result.now c.as_slice.ensures c.requires.can
    c.hear.ensures.state c.hear.ensures.places c.hear_fields.ensures.state c.hear_fields.ensures.places k.0 k.1 c.install.new.self c.install.ensures.shown
    c.hear.ensures.frame c.hear_fields.ensures.frame
