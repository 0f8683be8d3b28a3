use Rattle.std.proofs.Common.{◌≡◌, ℕ, ◌+◌, Option, ap, ◌∙◌}
use Rattle.bmx_owner.specs.declared.entering.Record.{Record}
use Rattle.bmx_mail.specs.Mails.{entering_of, issued_of, taken_of}
use Rattle.bmx_mail.specs.Inside.Anchors.{with_anchor, anchors_entering}
use Rattle.bmx_mail.proofs.Anchors.{none_yet, one_bunch}
use Rattle.bmx_mail.proofs.opening.first.Goals as goal

pub enter_anchor-requires-clause-none : goal.enter_anchor-requires-clause-none
enter_anchor-requires-clause-none c node =
    let reserved : entering_of c.reserve.new.self ≡ anchors_entering c.args.nodes c.loop-bunch.bunch = ap entering_of c.reserve.ensures.rest ∙ c.loop-bunch.invariant.0 in
    ap (λ (f : ℕ → ℕ → Option Record). f (c.loop-bunch.bunch + 1) node) reserved ∙ none_yet c.args.nodes c.loop-bunch.bunch node

pub loop-bunch-preserved : goal.loop-bunch-preserved
loop-bunch-preserved c = (
  c.enter_anchor.ensures.entering
      ∙ ap (λ (f : ℕ → ℕ → Option Record). with_anchor f c.args.nodes c.loop-bunch.bunch) (ap entering_of c.reserve.ensures.rest ∙ c.loop-bunch.invariant.0)
      ∙ one_bunch c.args.nodes c.loop-bunch.bunch,
  ap issued_of c.enter_anchor.ensures.rest ∙ ap issued_of c.reserve.ensures.rest ∙ c.loop-bunch.invariant.1,
  ap taken_of c.enter_anchor.ensures.rest ∙ ap taken_of c.reserve.ensures.rest ∙ c.loop-bunch.invariant.2,
)
