use Rattle.std.proofs.Common.{◌<◌, length, set, get_or, sym, subst, ap, ◌∙◌, arith}
use Rattle.bmx_owner.specs.declared.entering.Record.{Record}
use Rattle.bmx_owner.specs.Records.{Entering, IsInOrder, with_record}
use Rattle.bmx_owner.specs.Inside.Search.{StandsAt}
use Rattle.bmx_owner.proofs.Places.{with_record-at}
use Rattle.bmx_owner.proofs.Found.{IsInOrder-with_record, find_record-key}
use Rattle.bmx_owner.proofs.Named.{HasTheSame-set, AreShelved-same}
use Rattle.bmx_owner.proofs.entering.Records.replace.Goals as goal

pub returns-clause-list : goal.returns-clause-list
returns-clause-list c =
    let items = c.self.inside.records.items in
    let at = subst (λ (v : Entering). StandsAt v.list c.args.entry.name c.args.entry.from c.args.i) (sym c.self.view_is) c.requires in
    with_record-at items c.args.entry c.args.i at ∙ ap (λ (v : Entering). with_record c.args.entry v.list) c.self.view_is

pub invariant_of-self : goal.invariant_of-self
invariant_of-self c =
    let items = c.self.inside.records.items in
    let entry : Record = c.args.entry in
    let at = subst (λ (v : Entering). StandsAt v.list entry.name entry.from c.args.i) (sym c.self.view_is) c.requires in
    let within : c.args.i < length items = at.within in
    let key = find_record-key items entry.name entry.from (get_or items c.args.i entry) (at.found entry) in
    record {
      order = subst IsInOrder (sym (with_record-at items entry c.args.i at)) (IsInOrder-with_record entry items c.self.invariant.order);
      fits = c.self.invariant.fits;
      shelved = AreShelved-same items (set items c.args.i entry) c.self.inside.room c.self.inside.names (omega arith) (HasTheSame-set items c.args.i entry entry within (sym key.0) (sym key.1)) c.self.invariant.shelved;
    }
