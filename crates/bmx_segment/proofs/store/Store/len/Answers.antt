use Rattle.std.proofs.Common.{◌≡◌, ◌^◌, ◌≤◌, length, ap, ◌∙◌, subst, arith}
use Rattle.bmx_segment.specs.Stores.{AreApart}
use Rattle.bmx_segment.specs.Inside.Stores.{Mapped}
use Rattle.bmx_segment.proofs.Apart.{AreApart-from}
use Rattle.bmx_segment.proofs.Counted.{few_mapped}
use Rattle.bmx_segment.proofs.store.Store.len.Goals as goal

pub returns-clause-value : goal.returns-clause-value
returns-clause-value c =
    let same : c.self.inside.segments.items ≡ c.args.self.now.blocks = ap (λ (s : Mapped). s.blocks) c.self.view_is in
    c.len.ensures ∙ c.self.inside.segments.ok.0 ∙ ap length same

pub returns-clause-few : goal.returns-clause-few
returns-clause-few c =
    let few : length c.self.inside.segments.items ≤ 2 ^ 19 = few_mapped c.self.inside.segments.items c.self.inside.table.items c.self.invariant.blocks c.self.invariant.lists in
    let is = c.len.ensures ∙ c.self.inside.segments.ok.0 in
    omega (arith, few, is)

pub returns-clause-apart : goal.returns-clause-apart
returns-clause-apart c =
    let same : c.self.inside.segments.items ≡ c.args.self.now.blocks = ap (λ (s : Mapped). s.blocks) c.self.view_is in
    subst AreApart same (AreApart-from c.self.inside.segments.items c.self.invariant.blocks)
