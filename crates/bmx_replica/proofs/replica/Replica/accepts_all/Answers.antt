use Rattle.std.proofs.Common.{ℕ, ◌≤◌, List, sym, subst, ◌∙◌, arith}
use Rattle.std.proofs.lemmas.Bool.{false≢true}
use Rattle.bmx_types.specs.declared.addresses.Info.{Info}
use Rattle.bmx_msg.specs.declared.letters.Field.{Field}
use Rattle.bmx_replica.specs.Letters.{Sketch, sketch_of, with_learned, CanLearn}
use Rattle.bmx_replica.proofs.Telling.{All-told, CanLearn-at, CanLearn-one, after_none}
use Rattle.bmx_replica.proofs.replica.Replica.accepts_all.Goals as goal
use Rattle.bmx_replica.proofs.replica.Replica.accepts_all.Goals.{in-Ref+else-not-accepts_after, in_default}

pub accepts-requires : goal.accepts-requires
accepts-requires c = c.requires 0 c.args.object.now (omega arith)

pub accepts_after-requires-clause-few : goal.accepts_after-requires-clause-few
accepts_after-requires-clause-few c =
    All-told (λ (i : Info). i.size ≤ 32) c.args.object.now c.args.fields.now c.loop-place.place c.index-fields-place.result c.in-Ref.info c.loop-place-test.true c.index-fields-place.is c.in-Ref.is c.requires

pub returns-then-not-accepts_after : goal.returns-then-not-accepts_after
returns-then-not-accepts_after c =
    let s : Sketch = with_learned (sketch_of c.args.self.now) c.args.object.now in (
      λ t. absurd (false≢true t),
      λ all.
          let one = CanLearn-at s c.args.fields.now c.loop-place.place c.index-fields-place.result c.loop-place-test.true c.index-fields-place.is c.in-Ref.info c.in-Ref.is all.1 in
          absurd (false≢true (sym c.if-not-accepts_after.true ∙ c.accepts_after.ensures.1 one)),
    )

pub loop-place-preserved : goal.loop-place-preserved
loop-place-preserved c =
    let s : Sketch = with_learned (sketch_of c.args.self.now) c.args.object.now in
    let fields : List Field = c.args.fields.now in
    let k : ℕ = c.loop-place.place in
    let f : Field = c.index-fields-place.result in
    elim c.match-field.branch [
      | in-Ref+else-not-accepts_after w ↦ (
        c.loop-place.invariant.0,
        CanLearn-one s fields k f c.loop-place-test.true c.index-fields-place.is w.in-Ref.info w.in-Ref.is c.loop-place.invariant.1 (w.accepts_after.ensures.0 w.if-not-accepts_after.false),
      )
      | in_default w ↦ (
        c.loop-place.invariant.0,
        subst (CanLearn s) (sym (after_none s fields k f c.loop-place-test.true c.index-fields-place.is w.in_default.not-Ref)) c.loop-place.invariant.1,
      )
    ]
