use Rattle.std.proofs.Common.{◌≡◌, true, false, sym, ap, ◌∙◌, arith}
use Rattle.std.proofs.lemmas.Bool.Decides.{nat_tests}
use Rattle.bmx_owner.proofs.Found.{find_record-cleaned}
use Rattle.bmx_owner.specs.Records.{find_record}
use Rattle.bmx_inter.specs.Inter.{Paired}
use Rattle.bmx_clean.specs.Cleaning.{is_early}
use Rattle.bmx_clean.proofs.Left.{records-early, scions-early, record-late, scions-own, scions-other, applied-late, own_count, other_count}
use Rattle.bmx_clean.proofs.cleaner.apply.Goals as goal
use Rattle.bmx_clean.proofs.cleaner.apply.Goals.{then-eq, else-eq}

pub returns-then-table-taken-clause-records : goal.returns-then-table-taken-clause-records
returns-then-table-taken-clause-records c =
    let early : is_early c.args.taken c.args.table.now ≡ true = grind (arith, nat_tests) in
    records-early c.args.taken c.args.table.now c.args.records.now.list early

pub returns-then-table-taken-clause-scions : goal.returns-then-table-taken-clause-scions
returns-then-table-taken-clause-scions c =
    let early : is_early c.args.taken c.args.table.now ≡ true = grind (arith, nat_tests) in
    scions-early c.args.taken c.args.table.now c.args.inter.now.scions early

pub returns-clause-answer : goal.returns-clause-answer
returns-clause-answer c =
    let taken = c.args.taken in
    let t = c.args.table.now in
    let late : is_early taken t ≡ false = grind (arith, nat_tests) in
    applied-late taken t c.args.records.now.list c.args.inter.now.scions c.clean-ended.result c.if-eq.own late c.clean-ended.ensures.count
    (elim c.if-eq.branch [
      | then-eq w ↦ own_count taken t c.args.inter.now.scions c.if-eq.own late (sym c.eq.ensures ∙ w.if-eq.true) (w.own-is ∙ w.clean-own.ensures.count)
      | else-eq w ↦ other_count taken t c.args.inter.now.scions c.if-eq.own late (sym c.eq.ensures ∙ w.if-eq.false) w.own-is
    ])

pub returns-clause-entering : goal.returns-clause-entering
returns-clause-entering c = λ order name node.
    let taken = c.args.taken in
    let t = c.args.table.now in
    let records = c.args.records.now.list in
    let late : is_early taken t ≡ false = grind (arith, nat_tests) in
    ap (λ l. find_record l name node) c.clean-ended.ensures.list
    ∙ find_record-cleaned records t.bunch t.from t.sent t.got t.names name node order
    ∙ record-late taken t (find_record records name node) late

pub returns-clause-scions : goal.returns-clause-scions
returns-clause-scions c =
    let taken = c.args.taken in
    let t = c.args.table.now in
    let late : is_early taken t ≡ false = grind (arith, nat_tests) in
    elim c.if-eq.branch [
      | then-eq w ↦ ap (λ (v : Paired). v.scions) w.inter-is ∙ w.clean-own.ensures.scions ∙ scions-own taken t c.args.inter.now.scions late (sym c.eq.ensures ∙ w.if-eq.true)
      | else-eq w ↦ ap (λ (v : Paired). v.scions) w.inter-is ∙ scions-other taken t c.args.inter.now.scions late (sym c.eq.ensures ∙ w.if-eq.false)
    ]
