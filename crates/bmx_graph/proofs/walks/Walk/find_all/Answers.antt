use Rattle.std.proofs.Common.{◌<◌, length, refl, arith}
use Rattle.std.proofs.lemmas.Option.{slice_get_read}
use Rattle.bmx_graph.proofs.Finding.{GoesTo-more}
use Rattle.bmx_graph.proofs.walks.Walk.find_all.Goals as goal

pub loop-value-preserved : goal.loop-value-preserved
loop-value-preserved c =
    let values = c.args.values.now in
    let i = c.loop-value.value-index in
    let value = c.value-item.result in
    let there : i < length values = omega arith in
    GoesTo-more values i value c.args.self.now c.loop-value.self c.find.new.self
    (slice_get_read values (length values) i value refl there c.value-item.is) c.loop-value.invariant c.in_ok-find.ensures
