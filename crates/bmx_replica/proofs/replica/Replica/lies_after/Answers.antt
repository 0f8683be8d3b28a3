use Rattle.std.proofs.Common.{◌≡◌, ℕ, true, List, sym, ap, ◌∙◌, subst}
use Rattle.std.proofs.lemmas.Bool.{false≢true}
use Rattle.bmx_types.specs.declared.addresses.Info.{Info}
use Rattle.bmx_msg.specs.declared.letters.Field.{Field}
use Rattle.bmx_replica.specs.Layouts.{LiesOn}
use Rattle.bmx_replica.specs.Letters.{Sketch, sketch_of, infos_told, with_learned, is_newer}
use Rattle.bmx_replica.specs.Inside.Letters.{after, brings_place}
use Rattle.bmx_replica.proofs.Telling.{LiesOn-first, Clears-learned, LiesOn-learned, Clears-at, LiesOn-one, after_none, brings_place-is}
use Rattle.bmx_replica.proofs.replica.Replica.lies_after.Goals as goal
use Rattle.bmx_replica.proofs.replica.Replica.lies_after.Goals.{else-not-clears-via-then-not-clears+else-brings_place, else-not-clears-via-else-not-clears, in-Ref+else-not-clears-2, else-not-clears-2-via-then-not-clears-2+else-brings_after, else-not-clears-2-via-else-not-clears-2, in_default}

pub returns-then-not-can_lie : goal.returns-then-not-can_lie
returns-then-not-can_lie c =
    let i : Info = c.args.info.now in
    let s : Sketch = sketch_of c.args.self.now in
    let is : List Info = infos_told c.args.object.now c.args.fields.now in (
      λ t. absurd (false≢true t),
      λ l. absurd (false≢true (sym c.if-not-can_lie.true ∙ c.can_lie.ensures.1 (LiesOn-first s is i.place.address i.name i.size c.requires.learned l))),
    )

pub returns-then-brings_place : goal.returns-then-brings_place
returns-then-brings_place c =
    let i : Info = c.args.info.now in
    let j : Info = c.args.object.now in
    let s : Sketch = sketch_of c.args.self.now in
    let new : is_newer j (s.entry j.name) ≡ true = brings_place-is j j.name (s.entry j.name) ∙ ap (brings_place j) (sym c.known_of.ensures) ∙ sym c.brings_place.ensures ∙ c.if-brings_place.true in (
      λ t. absurd (false≢true t),
      λ l. absurd (false≢true (sym c.if-not-clears.true ∙ c.clears.ensures.clears.1 (Clears-learned s j c.requires.learned.0 i c.clears.ensures.range new (LiesOn-first _ _ i.place.address i.name i.size c.requires.learned.1 l)))),
    )

pub loop-place-init : goal.loop-place-init
loop-place-init c =
    let i : Info = c.args.info.now in
    let j : Info = c.args.object.now in
    let s : Sketch = sketch_of c.args.self.now in
    let lies = c.can_lie.ensures.0 c.if-not-can_lie.false in
    LiesOn-learned s j c.requires.learned.0 i
    (λ new.
    elim c.else-not-clears.branch [
      | else-not-clears-via-then-not-clears+else-brings_place w ↦
          absurd (false≢true (sym (brings_place-is j j.name (s.entry j.name) ∙ ap (brings_place j) (sym w.known_of.ensures) ∙ sym w.brings_place.ensures ∙ w.if-brings_place.false) ∙ new))
      | else-not-clears-via-else-not-clears w ↦ c.clears.ensures.clears.0 w.if-not-clears.false
    ])
    lies

pub returns-then-brings_after : goal.returns-then-brings_after
returns-then-brings_after c =
    let i : Info = c.args.info.now in
    let j : Info = c.in-Ref.other in
    let s : Sketch = with_learned (sketch_of c.args.self.now) c.args.object.now in (
      λ t. absurd (false≢true t),
      λ l.
          let clear = Clears-at s c.args.fields.now c.loop-place.place c.index-fields-place.result c.loop-place-test.true c.index-fields-place.is j i c.in-Ref.is c.clears-in-Ref.ensures.range c.requires.learned.1 (sym c.brings_after.ensures ∙ c.if-brings_after.true) l in
          absurd (false≢true (sym c.if-not-clears-2.true ∙ c.clears-in-Ref.ensures.clears.1 clear)),
    )

pub loop-place-preserved : goal.loop-place-preserved
loop-place-preserved c =
    let i : Info = c.args.info.now in
    let s : Sketch = with_learned (sketch_of c.args.self.now) c.args.object.now in
    let fields : List Field = c.args.fields.now in
    let k : ℕ = c.loop-place.place in
    let f : Field = c.index-fields-place.result in
    elim c.match-field.branch [
      | in-Ref+else-not-clears-2 w ↦
          LiesOn-one s fields k f c.loop-place-test.true c.index-fields-place.is w.in-Ref.other i w.in-Ref.is c.requires.learned.1
          (λ new.
          elim w.else-not-clears-2.branch [
            | else-not-clears-2-via-then-not-clears-2+else-brings_after v ↦ absurd (false≢true (sym (sym v.brings_after.ensures ∙ v.if-brings_after.false) ∙ new))
            | else-not-clears-2-via-else-not-clears-2 v ↦ w.clears-in-Ref.ensures.clears.0 v.if-not-clears-2.false
          ])
          c.loop-place.invariant
      | in_default w ↦
          let L : List Info → Type 0 = λ is. LiesOn (after s is).ground i.place.address i.name i.size in
          subst L (sym (after_none s fields k f c.loop-place-test.true c.index-fields-place.is w.in_default.not-Ref)) c.loop-place.invariant
    ]
