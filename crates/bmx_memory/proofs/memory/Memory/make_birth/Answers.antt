use Rattle.std.proofs.Common.{◌≡◌, ℕ, ◌<◌, ap, sym, subst, ◌∙◌, None}
use Rattle.bmx_memory.specs.Contents.{Contents}
use Rattle.bmx_memory.specs.Shown.{shown, with_object}
use Rattle.bmx_memory.specs.Inside.Keeping.{IsSound}
use Rattle.bmx_memory.specs.contracts.memory.Memory.{the_view}
use Rattle.bmx_memory.proofs.Making.{ok_map, err_map, result_map, absent_shown, count_shown, shown_made, kept_made, shown_still, kept_still}
use Rattle.bmx_memory.proofs.memory.Memory.make_birth.Goals as goal

pub make_birth-made-requires-clause-absent : goal.make_birth-made-requires-clause-absent
make_birth-made-requires-clause-absent c =
    absent_shown (the_view c.self.inside) c.args.name (subst (λ (m : Contents). (shown m).object c.args.name ≡ None) (sym c.self.view_is) c.requires.fresh)

pub make_birth-made-requires-clause-more : goal.make_birth-made-requires-clause-more
make_birth-made-requires-clause-more c = count_shown (the_view c.self.inside) (subst (λ (m : Contents). (shown m).places.made < 65535) (sym c.self.view_is) c.requires.more)

pub invariant_of-self : goal.invariant_of-self
invariant_of-self c =
    let m = the_view c.self.inside in
    let new = c.make_birth-made.new.self in
    let s = c.segments-sound.ensures in
    let sound : IsSound new = record { replica = s.replica; heap = s.kept; apart = s.apart } in (
      result_map c.make_birth-made.result (λ made. kept_made m new c.args.name c.args.bunch c.args.size c.self.invariant.0 sound (subst (λ (n : ℕ). n < 16) c.get-few.ensures.value c.get-few.ensures.bound) made) (λ same. kept_still m new c.self.invariant.0 sound same)
          c.make_birth-made.ensures.made c.make_birth-made.ensures.err,
      tt,
    )

pub returns-clause-ok : goal.returns-clause-ok
returns-clause-ok c =
    let m = the_view c.self.inside in
    ok_map c.make_birth-made.result
    (λ made. shown_made m c.make_birth-made.new.self c.args.name c.args.bunch c.args.size c.self.invariant.0 c.segments-sound.ensures.kept (subst (λ (n : ℕ). n < 16) c.get-few.ensures.value c.get-few.ensures.bound) made ∙ ap (λ (n : Contents). with_object (shown n) c.args.name c.args.bunch c.args.size) c.self.view_is)
    c.make_birth-made.ensures.made

pub returns-clause-err : goal.returns-clause-err
returns-clause-err c =
    err_map c.make_birth-made.result (λ same. shown_still (the_view c.self.inside) c.make_birth-made.new.self same ∙ ap shown c.self.view_is) c.make_birth-made.ensures.err
