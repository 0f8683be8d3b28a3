use Rattle.std.proofs.Common.{List, Option, sym, ap, ◌∙◌}
use Rattle.bmx_types.specs.declared.addresses.Info.{Info}
use Rattle.bmx_replica.specs.Letters.{Sketch, sketch_of, infos_told}
use Rattle.bmx_replica.specs.Inside.Letters.{after, brings_place, known_after}
use Rattle.bmx_replica.proofs.Telling.{known_after-is, brings_place-is}
use Rattle.bmx_replica.proofs.replica.Replica.brings_after.Goals as goal

pub returns : goal.returns
returns c =
    let i : Info = c.args.info.now in
    let s : Sketch = sketch_of c.args.self.now in
    let is : List Info = infos_told c.args.object.now c.args.fields.now in
    c.brings_place.ensures
    ∙ ap (brings_place i) (c.known_after-known.ensures ∙ ap (λ (o : Option Info). known_after o i.name is) c.known_of.ensures ∙ sym (known_after-is s i.name is))
    ∙ sym (brings_place-is i i.name ((after s is).entry i.name))
