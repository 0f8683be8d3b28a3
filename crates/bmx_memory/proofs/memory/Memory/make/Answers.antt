use Rattle.std.proofs.Common.{◌≡◌, ℕ, ◌<◌, ap, sym, subst, ◌∙◌, true, false, None}
use Rattle.bmx_protocol.specs.Places.{is_full}
use Rattle.bmx_memory.specs.Contents.{Contents}
use Rattle.bmx_memory.specs.Shown.{shown, with_object}
use Rattle.bmx_memory.specs.Inside.Keeping.{IsSound}
use Rattle.bmx_memory.specs.contracts.memory.Memory.{the_view}
use Rattle.bmx_memory.proofs.Making.{ok_map, err_map, result_map, absent_shown, full_shown, not_full_shown, shown_made, kept_made, shown_still, kept_still}
use Rattle.bmx_memory.proofs.memory.Memory.make.Goals as goal

pub make-made-requires-clause-absent : goal.make-made-requires-clause-absent
make-made-requires-clause-absent c =
    absent_shown (the_view c.self.inside) c.args.name (subst (λ (m : Contents). (shown m).object c.args.name ≡ None) (sym c.self.view_is) c.requires.fresh)

pub invariant_of-self : goal.invariant_of-self
invariant_of-self c =
    let m = the_view c.self.inside in
    let new = c.make-made.new.self in
    let s = c.segments-sound.ensures in
    let sound : IsSound new = record { replica = s.replica; heap = s.kept; apart = s.apart } in (
      result_map c.make-made.result (λ made. kept_made m new c.args.name c.args.bunch c.args.size c.self.invariant.0 sound (subst (λ (n : ℕ). n < 16) c.get-few.ensures.value c.get-few.ensures.bound) made) (λ same. kept_still m new c.self.invariant.0 sound same)
          c.make-made.ensures.made c.make-made.ensures.err,
      tt,
    )

pub returns-clause-ok : goal.returns-clause-ok
returns-clause-ok c =
    let m = the_view c.self.inside in
    ok_map c.make-made.result
    (λ made. shown_made m c.make-made.new.self c.args.name c.args.bunch c.args.size c.self.invariant.0 c.segments-sound.ensures.kept (subst (λ (n : ℕ). n < 16) c.get-few.ensures.value c.get-few.ensures.bound) made ∙ ap (λ (n : Contents). with_object (shown n) c.args.name c.args.bunch c.args.size) c.self.view_is)
    c.make-made.ensures.made

pub returns-clause-full : goal.returns-clause-full
returns-clause-full c full =
    let m = the_view c.self.inside in
    subst (λ (n : Contents). is_full (shown n).limit (shown n).places c.args.bunch c.args.size ≡ true) c.self.view_is
    (full_shown m c.args.bunch c.args.size c.self.invariant.0.sound.heap (c.make-made.ensures.full full))

pub returns-clause-fits : goal.returns-clause-fits
returns-clause-fits c =
    let m = the_view c.self.inside in
    ok_map c.make-made.result
    (λ fits. subst (λ (n : Contents). is_full (shown n).limit (shown n).places c.args.bunch c.args.size ≡ false) c.self.view_is (not_full_shown m c.args.bunch c.args.size c.self.invariant.0.sound.heap fits))
    c.make-made.ensures.room

pub returns-clause-err : goal.returns-clause-err
returns-clause-err c =
    err_map c.make-made.result (λ same. shown_still (the_view c.self.inside) c.make-made.new.self same ∙ ap shown c.self.view_is) c.make-made.ensures.err
