use Rattle.std.proofs.Common.{◌≡◌, List, Option, sym, ap, subst, ◌∙◌, refl}
use Rattle.std.specs.Option.{option_map}
use Rattle.std.proofs.lemmas.Bool.{false≢true}
use Rattle.bmx_types.specs.declared.addresses.Info.{Info}
use Rattle.bmx_replica.specs.Layouts.{LiesOn}
use Rattle.bmx_replica.specs.Replicas.{Entry, info_in}
use Rattle.bmx_replica.specs.Letters.{Sketch, sketch_of, infos_told}
use Rattle.bmx_replica.specs.Inside.Letters.{after, known_after, told_beside, Admits}
use Rattle.bmx_replica.specs.declared.letters.News.{News}
use Rattle.bmx_replica.specs.declared.letters.News.TheVariants.{Clash, Old, New}
use Rattle.bmx_replica.proofs.Telling.{known_after-is, AcceptsOn-old, AcceptsOn-told}
use Rattle.bmx_replica.proofs.replica.Replica.accepts_after.Goals as goal

pub returns-in-Old : goal.returns-in-Old
returns-in-Old c =
    let i : Info = c.args.info.now in
    let s : Sketch = sketch_of c.args.self.now in
    let is : List Info = infos_told c.args.object.now c.args.fields.now in
    let old : told_beside i (option_map (info_in i.name) (s.entry i.name)) ≡ Old = ap (told_beside i) (sym c.known_of-known.ensures) ∙ sym c.in-Old.ensures in
    (λ t. AcceptsOn-old s i is old, λ a. refl)

pub returns-in-Clash : goal.returns-in-Clash
returns-in-Clash c =
    let i : Info = c.args.info.now in
    let s : Sketch = sketch_of c.args.self.now in
    let is : List Info = infos_told c.args.object.now c.args.fields.now in
    let e : Option Entry = (after s is).entry i.name in
    let same : told_beside i (option_map (info_in i.name) e) ≡ Clash =
    ap (told_beside i) (known_after-is s i.name is ∙ ap (λ o. known_after o i.name is) (sym c.known_of-known.ensures) ∙ sym c.known_after.ensures) ∙ sym c.in-Clash.ensures in
    let A : News → Type 0 = λ n. Admits n (LiesOn (after s is).ground i.place.address i.name i.size) in
    let told = AcceptsOn-told (after s is).ground i i.name e in
    (λ t. absurd (false≢true t), λ a. absurd (subst A same (told.0 a)))

pub returns-in-Old-told : goal.returns-in-Old-told
returns-in-Old-told c =
    let i : Info = c.args.info.now in
    let s : Sketch = sketch_of c.args.self.now in
    let is : List Info = infos_told c.args.object.now c.args.fields.now in
    let e : Option Entry = (after s is).entry i.name in
    let same : told_beside i (option_map (info_in i.name) e) ≡ Old =
    ap (told_beside i) (known_after-is s i.name is ∙ ap (λ o. known_after o i.name is) (sym c.known_of-known.ensures) ∙ sym c.known_after.ensures) ∙ sym c.in-Old-told.ensures in
    let A : News → Type 0 = λ n. Admits n (LiesOn (after s is).ground i.place.address i.name i.size) in
    let told = AcceptsOn-told (after s is).ground i i.name e in
    (λ t. told.1 (subst A (sym same) tt), λ a. refl)

pub returns-in-New : goal.returns-in-New
returns-in-New c =
    let i : Info = c.args.info.now in
    let s : Sketch = sketch_of c.args.self.now in
    let is : List Info = infos_told c.args.object.now c.args.fields.now in
    let e : Option Entry = (after s is).entry i.name in
    let same : told_beside i (option_map (info_in i.name) e) ≡ New =
    ap (told_beside i) (known_after-is s i.name is ∙ ap (λ o. known_after o i.name is) (sym c.known_of-known.ensures) ∙ sym c.known_after.ensures) ∙ sym c.in-New.ensures in
    let A : News → Type 0 = λ n. Admits n (LiesOn (after s is).ground i.place.address i.name i.size) in
    let told = AcceptsOn-told (after s is).ground i i.name e in
    (λ t. told.1 (subst A (sym same) (c.lies_after.ensures.0 t)), λ a. c.lies_after.ensures.1 (subst A same (told.0 a)))
