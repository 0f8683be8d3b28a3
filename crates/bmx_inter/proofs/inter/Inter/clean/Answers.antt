use Rattle.std.proofs.Common.{List, Bool, not, filter, count_by, ap, ◌∙◌}
use Rattle.bmx_types.specs.declared.names.Pair.{Pair}
use Rattle.bmx_inter.specs.declared.inter.Scion.{Scion}
use Rattle.bmx_inter.specs.Inter.{Paired, scions_cleaned, stale_count}
use Rattle.bmx_inter.proofs.Tests.{ended-is_stale}
use Rattle.bmx_inter.proofs.inter.Inter.clean.Goals as goal

pub returns-clause-scions : goal.returns-clause-scions
returns-clause-scions c =
    let listed = c.as_slice-listed.result.now in
    c.end.ensures.list
    ∙ ap (λ (f : Scion → Bool). filter (λ s. not (f s)) c.self.inside.scions.list) (ended-is_stale c.args.bunch c.args.clock listed)
    ∙ ap (λ (v : Paired). scions_cleaned c.args.bunch c.args.clock listed v.scions) c.self.view_is
    ∙ ap (λ (ps : List Pair). scions_cleaned c.args.bunch c.args.clock ps c.args.self.now.scions) c.as_slice-listed.ensures

pub returns-clause-count : goal.returns-clause-count
returns-clause-count c =
    let listed = c.as_slice-listed.result.now in
    c.end.ensures.count
    ∙ ap (λ (f : Scion → Bool). count_by f c.self.inside.scions.list) (ended-is_stale c.args.bunch c.args.clock listed)
    ∙ ap (λ (v : Paired). stale_count c.args.bunch c.args.clock listed v.scions) c.self.view_is
    ∙ ap (λ (ps : List Pair). stale_count c.args.bunch c.args.clock ps c.args.self.now.scions) c.as_slice-listed.ensures
