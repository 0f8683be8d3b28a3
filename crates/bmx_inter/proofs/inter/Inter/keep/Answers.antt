use Rattle.std.proofs.Common.{Bool, filter, ap, ◌∙◌}
use Rattle.bmx_inter.specs.declared.inter.Stub.{Stub}
use Rattle.bmx_inter.specs.Inter.{Paired, stubs_kept}
use Rattle.bmx_inter.proofs.Tests.{stays-is_kept}
use Rattle.bmx_inter.proofs.inter.Inter.keep.Goals as goal

pub returns-clause-stubs : goal.returns-clause-stubs
returns-clause-stubs g c =
    let kept = g.E.Keeps.is_kept c.args.keeps.now in
    let held = g.E.Keeps.is_held c.args.keeps.now in
    c.end.ensures.list
    ∙ ap (λ (f : Stub → Bool). filter f c.self.inside.stubs.list) (stays-is_kept c.args.bunch kept held)
    ∙ ap (λ (v : Paired). stubs_kept c.args.bunch kept held v.stubs) c.self.view_is
