use Rattle.std.proofs.Common.{◌≡◌, ◌++◌, ◌∷◌, [], ◌∙◌, ap, max, arith}
use Rattle.std.proofs.lemmas.Result.{err_from_is_err_and}
use Rattle.std.proofs.lemmas.List.{length-append}
use Rattle.bmx_image.specs.Images.{target}
use Rattle.bmx_image.proofs.Steps.{fields_more, field_stops}
use Rattle.bmx_image.proofs.reading.object.Goals as goal

pub returns-in_err-field : goal.returns-in_err-field
returns-in_err-field c =
    let p = err_from_is_err_and c.from_residual-in_err-field.result c.from_residual-in_err-field.ensures.1 in
    let size = c.in_ok-size.ensures in
    rw p.1 (field_stops c.args.before c.args.bytes.now c.in_ok-size.size c.loop.fields.items c.loop.top c.loop.rest.now c.in_ok-size.rest.now c.in_err-field.field-0.0 p.0
    c.loop.invariant.0 size.0 size.1 size.2 (omega arith) c.in_err-field.ensures p.2)

pub loop-preserved : goal.loop-preserved
loop-preserved c =
    let fields = c.loop.fields.items in
    let field = c.in_ok-field.field in
    let pushed : c.push.new.self.items ≡ fields ++ field ∷ [] = c.in_ok-push.ensures.items in
    let top : c.max-top.result ≡ max c.loop.top (target field) = c.max-top.ensures ∙ ap (max c.loop.top) c.target.ensures in
    let more = fields_more c.args.before c.args.bytes.now c.in_ok-size.size fields field c.loop.top c.loop.rest.now c.in_ok-field.after.now c.loop.invariant.0 c.in_ok-field.ensures.0 c.in_ok-field.ensures.1 in
    rw (pushed, top) (more, omega (arith, length-append fields (field ∷ []), c.loop.invariant.1))
