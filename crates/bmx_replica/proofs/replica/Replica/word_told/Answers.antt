use Rattle.std.proofs.Common.{◌≡◌, sym, ap, ◌∙◌}
use Rattle.bmx_types.specs.declared.values.Val.TheVariants as val
use Rattle.bmx_replica.specs.Letters.{value_told}
use Rattle.bmx_replica.specs.Replicas.{Holding, word_in}
use Rattle.bmx_replica.proofs.Finding.{IsHolding-object}
use Rattle.bmx_replica.proofs.replica.Replica.word_told.Goals as goal

pub returns-in-Some-clause-word : goal.returns-in-Some-clause-word
returns-in-Some-clause-word c =
    let r : Holding = c.args.self.now in
    let held = IsHolding-object r c.in-Some.object c.word-word.result c.object_told.ensures.replica c.in-Some.ensures.stands c.word-word.ensures.address c.word-word.ensures.value in
    let told : val.Ref c.in-Some.object.header.name ≡ value_told c.args.field.now = ap val.Ref c.in-Some.ensures.named ∙ ap value_told (sym c.in-Ref.is) in
    held.word ∙ ap (word_in r) told
