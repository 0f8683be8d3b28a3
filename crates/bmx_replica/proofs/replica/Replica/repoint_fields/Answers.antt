use Rattle.std.proofs.Common.{◌≡◌, ℕ, Bool, true, false, is_some, sym, ap, subst, ◌∙◌, refl, inl, inr, arith}
use Rattle.std.specs.Prelude.{not}
use Rattle.std.proofs.lemmas.Bool.{cases_eq, cases_lt}
use Rattle.std.proofs.lemmas.Option.{none-some}
use Rattle.bmx_segment.specs.declared.headers.Header.{Header}
use Rattle.bmx_replica.specs.declared.directory.Slot.{Slot}
use Rattle.bmx_replica.specs.Replicas.{Holding, IsCurrent}
use Rattle.bmx_replica.proofs.Fielded.{field_of-found, field_of-past}
use Rattle.bmx_replica.proofs.Repointing.{Repoints-more, HasTargets-same, field_of-entries}
use Rattle.bmx_replica.proofs.replica.Replica.repoint_fields.Goals as goal

not_false : (b : Bool) → not b ≡ false → b ≡ true
not_false true e = refl
not_false false e = sym e

pub repoint_field-requires-clause-field : goal.repoint_field-requires-clause-field
repoint_field-requires-clause-field c =
    let r : Holding = c.args.self.now in
    let s : Slot = c.in-Some.found.slot in
    let h : Header = c.in-Some.found.header in
    ap is_some (field_of-entries r c.loop-i.self c.args.name c.loop-i.i (c.loop-i.invariant.done.entries c.args.name)
    ∙ field_of-found r c.args.name s h c.in-Some.ensures.found c.loop-i.i (not_false s.has_copy c.if-not-found.false) c.loop-i-test.true)

pub repoint_field-requires-clause-targets : goal.repoint_field-requires-clause-targets
repoint_field-requires-clause-targets c = HasTargets-same c.args.self.now c.loop-i.self c.loop-i.invariant.done.entries c.requires.targets

pub loop-i-preserved : goal.loop-i-preserved
loop-i-preserved c =
    let new : Holding = c.repoint_field.new.self in
    let P : ℕ → Type 0 = λ k. IsCurrent new c.args.name k in
    record {
      done = Repoints-more c.args.self.now c.loop-i.self new c.loop-i.invariant.done c.repoint_field.ensures.done;
      each = λ j lt.
          elim (cases_eq j c.loop-i.i) [
            | inl at ↦ subst P (sym at) c.repoint_field.ensures.current
            | inr off ↦ c.repoint_field.ensures.done.current c.args.name j (c.loop-i.invariant.each j (omega arith))
          ];
    }

pub returns-clause-current : goal.returns-clause-current
returns-clause-current c = λ j.
    let r : Holding = c.args.self.now in
    let s : Slot = c.in-Some.found.slot in
    let h : Header = c.in-Some.found.header in
    elim (cases_lt j h.size) [
      | inl lt ↦ c.loop-i.invariant.each j (omega arith)
      | inr past ↦ λ v a is place.
          absurd (none-some v (sym (field_of-entries r c.loop-i.self c.args.name j (c.loop-i.invariant.done.entries c.args.name) ∙ field_of-past r c.args.name s h c.in-Some.ensures.found j past) ∙ is))
    ]
