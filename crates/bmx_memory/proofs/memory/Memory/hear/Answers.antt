use Rattle.std.proofs.Common.{◌≡◌, ℕ, ◌<◌, ◌^◌, not, is_some, ap, sym, subst, ◌∙◌}
use Rattle.bmx_memory.specs.Contents.{Contents}
use Rattle.bmx_memory.specs.Shown.{Fits, shown, with_info}
use Rattle.bmx_memory.specs.contracts.memory.Memory.{the_view}
use Rattle.bmx_memory.proofs.Learning.{fits_accepts, cannot_fail, shown_learnt, kept_learnt}
use Rattle.bmx_memory.proofs.Shows.{object_shown}
use Rattle.bmx_memory.proofs.memory.Memory.hear.Goals as goal

pub unreachable-requires : goal.unreachable-requires
unreachable-requires c =
    let m = the_view c.self.inside in
    let fits : Fits (shown m) c.args.info.now = subst (λ (n : Contents). Fits (shown n) c.args.info.now) (sym c.self.view_is) c.requires.fits in
    cannot_fail c.hear.result c.in_default.field-0 c.in_default.is (λ clash. c.hear.ensures.clash clash (fits_accepts m c.args.info.now fits))
    (c.hear.ensures.free (subst (λ (n : Contents). 0 < n.replica.spare) (sym c.self.view_is) c.requires.some))

pub invariant_of-self : goal.invariant_of-self
invariant_of-self c =
    let sound = c.segments-sound.ensures in
    let small = subst (λ (n : ℕ). n < 2 ^ 16) c.segment-few.ensures.value c.segment-few.ensures.range.1 in (
      kept_learnt (the_view c.self.inside) c.hear.new.self c.args.info.now c.self.invariant.0 (record { replica = sound.replica; heap = sound.kept; apart = sound.apart }) small c.in-Ok.ensures.ok,
      tt,
    )

pub returns-clause-shown : goal.returns-clause-shown
returns-clause-shown c =
    let small = subst (λ (n : ℕ). n < 2 ^ 16) c.segment-few.ensures.value c.segment-few.ensures.range.1 in
    shown_learnt (the_view c.self.inside) c.hear.new.self c.args.info.now c.self.invariant.0 small c.in-Ok.ensures.ok
    ∙ ap (λ (n : Contents). with_info (shown n) c.args.info.now) c.self.view_is

pub returns-clause-new : goal.returns-clause-new
returns-clause-new c =
    let m : Contents = the_view c.self.inside in
    let name : ℕ = c.args.info.now.name in
    subst (λ (n : Contents). c.in-Ok.new ≡ not (is_some ((shown n).object name))) c.self.view_is
    (c.in-Ok.ensures.new ∙ ap not (sym (object_shown m name)))
