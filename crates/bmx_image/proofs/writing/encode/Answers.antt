use Rattle.std.proofs.Common.{◌≤◌, List, All, length, sym, subst}
use Rattle.bmx_image.specs.declared.images.ImageObject.{ImageObject}
use Rattle.bmx_image.proofs.Sizes.{sizes}
use Rattle.bmx_image.proofs.writing.encode.Goals as goal

pub push_object-requires : goal.push_object-requires
push_object-requires c =
    let image = c.args.image.now in
    let small = subst (λ (objects : List ImageObject). All (λ o. length o.fields ≤ 32) objects) (sym c.as_slice-objects.ensures) (sizes image.objects image.image) in
    rw c.object-item.is (small c.loop-object.object-index _ c.loop-object-test.true)
