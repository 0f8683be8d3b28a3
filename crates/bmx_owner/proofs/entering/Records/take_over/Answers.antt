use Rattle.std.proofs.Common.{◌≡◌, ◌≤◌, get_or, ap, ◌∙◌, rules}
use Rattle.bmx_owner.specs.declared.entering.Record.{Record}
use Rattle.bmx_owner.specs.Records.{find_record, taken_over}
use Rattle.bmx_owner.proofs.Places.{StandsAt-own, taken_over-known}
use Rattle.bmx_owner.proofs.Found.{find_record-taken_over}
use Rattle.bmx_owner.proofs.entering.Records.take_over.Goals as goal

pub replace-requires : goal.replace-requires
replace-requires c =
    let old = c.args.self.now.list in
    let r : Record = c.index-record.result.now in
    let read : r ≡ get_or old c.in-Ok.i r = search rules in
    StandsAt-own old c.args.name c.args.from c.in-Ok.i r c.in-Ok.ensures read

pub returns-then-record-seq-clause-change : goal.returns-then-record-seq-clause-change
returns-then-record-seq-clause-change c =
    let old = c.args.self.now.list in
    let list : c.replace.new.self.list ≡ taken_over old c.args.name c.args.bunch c.args.from c.args.seq = search rules in
    ap find_record list ∙ find_record-taken_over old c.args.name c.args.bunch c.args.from c.args.seq

pub returns-else-record-seq-clause-list : goal.returns-else-record-seq-clause-list
returns-else-record-seq-clause-list c =
    let old = c.args.self.now.list in
    let r : Record = c.index-record.result.now in
    let read : r ≡ get_or old c.in-Ok.i r = search rules in
    let late : c.args.seq ≤ r.got = search rules in
    taken_over-known old c.args.name c.args.bunch c.args.from c.args.seq c.in-Ok.i r c.in-Ok.ensures read late

pub returns-else-record-seq-clause-change : goal.returns-else-record-seq-clause-change
returns-else-record-seq-clause-change c =
    ap find_record (returns-else-record-seq-clause-list c) ∙ find_record-taken_over c.args.self.now.list c.args.name c.args.bunch c.args.from c.args.seq

pub returns-in-Err-clause-change : goal.returns-in-Err-clause-change
returns-in-Err-clause-change c =
    let old = c.args.self.now.list in
    let list : c.insert.new.self.list ≡ taken_over old c.args.name c.args.bunch c.args.from c.args.seq = search rules in
    ap find_record list ∙ find_record-taken_over old c.args.name c.args.bunch c.args.from c.args.seq
