use Rattle.std.proofs.Common.{Err, sym, subst}
use Rattle.std.proofs.lemmas.Result.{err_from_is_err_and}
use Rattle.bmx_image.specs.declared.gathering.GatherError.{GatherError}
use Rattle.bmx_image.specs.Inside.Mentions.{GoesOn}
use Rattle.bmx_image.proofs.Mentioning.{goes_next, goes_no_further}
use Rattle.bmx_image.proofs.gathering.Mentions.fields.Goals as goal

pub returns-in_err-field : goal.returns-in_err-field
returns-in_err-field g c =
    let p = err_from_is_err_and c.from_residual-in_err-field.result c.from_residual-in_err-field.ensures.1 in
    let bunch = g.G.Fields.bunches c.args.graph.now in
    let values = g.G.Fields.fields c.args.graph.now c.args.name in
    let stopped = goes_no_further bunch values c.loop-i.i c.field.result c.loop-i.fields.items c.args.self.now c.loop-i.self c.field-in-loop-i.new.self c.in_err-field.field-0.0 c.field.ensures c.loop-i.invariant c.in_err-field.ensures in
    rw p.1 (subst (λ (e : GatherError). GoesOn bunch values c.args.self.now c.field-in-loop-i.new.self (Err e)) (sym p.2) stopped)

pub loop-i-preserved : goal.loop-i-preserved
loop-i-preserved g c =
    let bunch = g.G.Fields.bunches c.args.graph.now in
    let values = g.G.Fields.fields c.args.graph.now c.args.name in
    let next = goes_next bunch values c.loop-i.i c.field.result c.loop-i.fields.items c.in_ok-field.field-0 c.args.self.now c.loop-i.self c.field-in-loop-i.new.self c.field.ensures c.loop-i.invariant c.in_ok-field.ensures in
    rw c.in_ok-push.ensures.items next
