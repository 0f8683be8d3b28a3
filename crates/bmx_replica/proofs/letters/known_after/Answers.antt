use Rattle.std.proofs.Common.{ℕ, List, [], ◌∷◌, Option, take, sym, ap, ◌∙◌}
use Rattle.std.specs.Prelude.{filter_map}
use Rattle.bmx_types.specs.declared.addresses.Info.{Info}
use Rattle.bmx_msg.specs.declared.letters.Field.{Field}
use Rattle.bmx_replica.specs.Letters.{info_told}
use Rattle.bmx_replica.specs.Inside.Letters.{known_after}
use Rattle.bmx_replica.proofs.Telling.{told_more, known_after-append}
use Rattle.bmx_replica.proofs.letters.known_after.Goals as goal

pub loop-field-preserved : goal.loop-field-preserved
loop-field-preserved c =
    let k : ℕ = c.loop-field.field-index in
    let fields : List Field = c.args.fields.now in
    let f : Field = c.field-item.result in
    let name : ℕ = c.args.name in
    let first : Option Info = known_after c.args.known name (c.args.object.now ∷ []) in
    c.known_told-known.ensures
    ∙ ap (λ o. known_after o name (filter_map info_told (f ∷ []))) c.loop-field.invariant
    ∙ sym (known_after-append first name (filter_map info_told (take k fields)) (filter_map info_told (f ∷ [])))
    ∙ ap (known_after first name) (sym (told_more fields k f c.loop-field-test.true c.field-item.is))
