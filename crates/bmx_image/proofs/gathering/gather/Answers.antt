use Rattle.std.proofs.Common.{◌∷◌, ◌++◌, [], List, Err, subst, sym, ap, ◌∙◌, slice_get, arith}
use Rattle.std.proofs.lemmas.Result.{err_from_is_err_and}
use Rattle.bmx_image.specs.declared.gathering.GatherError.{GatherError}
use Rattle.bmx_image.specs.declared.images.ImageField.{ImageField}
use Rattle.bmx_image.specs.declared.images.ImageObject.{ImageObject}
use Rattle.bmx_image.specs.Gathering.{IsGathered}
use Rattle.bmx_image.specs.Inside.Mentions.{HasGathered}
use Rattle.bmx_image.proofs.Gathered.{there, gathered_none, gathered_more, gathers_no_further, whole, large, image, told}
use Rattle.bmx_image.proofs.gathering.gather.Goals as goal

pub loop-name-init : goal.loop-name-init
loop-name-init g c =
    let bunch = g.G.Fields.bunches c.args.graph.now in
    let fields = g.G.Fields.fields c.args.graph.now in
    gathered_none bunch fields c.args.anchor c.in_ok-mention.field-0 c.new-mentions.result c.mention.new.self c.new-objects.result c.new-mentions.ensures.none
    (c.new-mentions.ensures.home ∙ c.bunch.ensures) c.new-objects.ensures c.in_ok-mention.ensures

pub fields-requires-clause-there : goal.fields-requires-clause-there
fields-requires-clause-there g c =
    let bunch = g.G.Fields.bunches c.args.graph.now in
    let fields = g.G.Fields.fields c.args.graph.now in
    there bunch fields c.args.anchor c.in-Some.name c.len.result c.loop-name.mentions c.loop-name.objects c.requires c.loop-name.invariant (sym c.in-Some.ensures)

pub returns-in_err-fields : goal.returns-in_err-fields
returns-in_err-fields g c =
    let p = err_from_is_err_and c.from_residual-in_err-fields.result c.from_residual-in_err-fields.ensures.1 in
    let bunch = g.G.Fields.bunches c.args.graph.now in
    let fields = g.G.Fields.fields c.args.graph.now in
    let at = ap (slice_get c.loop-name.mentions.names.items) (sym c.len.ensures) ∙ sym c.in-Some.ensures in
    let stopped = gathers_no_further bunch fields c.args.anchor c.in-Some.name c.loop-name.mentions c.fields.new.self c.loop-name.objects c.in_err-fields.field-0.0 c.loop-name.invariant at c.in_err-fields.ensures in
    rw p.1 (subst (λ (e : GatherError). IsGathered bunch fields c.args.anchor (Err e)) (sym p.2) stopped)

pub loop-name-preserved : goal.loop-name-preserved
loop-name-preserved g c =
    let bunch = g.G.Fields.bunches c.args.graph.now in
    let fields = g.G.Fields.fields c.args.graph.now in
    let at = ap (slice_get c.loop-name.mentions.names.items) (sym c.len.ensures) ∙ sym c.in-Some.ensures in
    let more = gathered_more bunch fields c.args.anchor c.in-Some.name c.in_ok-fields.fields.items c.loop-name.mentions c.fields.new.self c.loop-name.objects c.requires c.loop-name.invariant at c.in_ok-fields.ensures in
    let pushed = c.in_ok-push.ensures.ok ∙ ap (λ (fs : List ImageField). c.loop-name.objects ++ record { fields = fs } ∷ []) c.from_vec.ensures in
    subst (λ (os : List ImageObject). HasGathered bunch fields c.args.anchor c.fields.new.self os) (sym pushed) more

pub returns-then-len-gt-MOST_OBJECTS : goal.returns-then-len-gt-MOST_OBJECTS
returns-then-len-gt-MOST_OBJECTS g c =
    let bunch = g.G.Fields.bunches c.args.graph.now in
    let fields = g.G.Fields.fields c.args.graph.now in
    let over = ap (slice_get c.loop-name.mentions.names.items) (sym c.len.ensures) ∙ sym c.in_default.ensures in
    let w = whole bunch fields c.args.anchor c.loop-name.mentions c.loop-name.objects c.loop-name.invariant over in
    large bunch fields c.args.anchor c.loop-name.mentions c.loop-name.objects w (omega (arith, c.len-2.ensures))

pub invariant_of-result : goal.invariant_of-result
invariant_of-result g c =
    let bunch = g.G.Fields.bunches c.args.graph.now in
    let fields = g.G.Fields.fields c.args.graph.now in
    let over = ap (slice_get c.loop-name.mentions.names.items) (sym c.len.ensures) ∙ sym c.in_default.ensures in
    let w = whole bunch fields c.args.anchor c.loop-name.mentions c.loop-name.objects c.loop-name.invariant over in
    record { image = image bunch fields c.args.anchor c.loop-name.mentions c.loop-name.objects w (omega (arith, c.len-2.ensures)) }

pub returns : goal.returns
returns g c =
    let bunch = g.G.Fields.bunches c.args.graph.now in
    let fields = g.G.Fields.fields c.args.graph.now in
    let over = ap (slice_get c.loop-name.mentions.names.items) (sym c.len.ensures) ∙ sym c.in_default.ensures in
    let w = whole bunch fields c.args.anchor c.loop-name.mentions c.loop-name.objects c.loop-name.invariant over in
    told bunch fields c.args.anchor c.loop-name.mentions c.loop-name.objects w (omega (arith, c.len-2.ensures))
