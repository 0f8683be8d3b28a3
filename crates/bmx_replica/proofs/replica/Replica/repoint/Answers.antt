use Rattle.std.proofs.Common.{◌≡◌, ℕ, ◌<◌, List, Some, length, slice_get, sym, ap, subst, ◌∙◌, inl, inr, arith}
use Rattle.std.proofs.lemmas.Bool.{cases_eq}
use Rattle.std.proofs.lemmas.Option.{same_Some}
use Rattle.bmx_replica.specs.Slots.{slot_of}
use Rattle.bmx_replica.specs.declared.directory.Slot.{Slot}
use Rattle.bmx_replica.specs.Replicas.{Holding, IsCurrent}
use Rattle.bmx_replica.proofs.Chained.{map_some}
use Rattle.bmx_replica.proofs.Repointing.{Repoints-more, HasTargets-same, listed}
use Rattle.bmx_replica.proofs.replica.Replica.repoint.Goals as goal

pub repoint_fields-requires : goal.repoint_fields-requires
repoint_fields-requires c = record { targets = HasTargets-same c.args.self.now c.loop-place.self c.loop-place.invariant.done.entries c.requires }

pub loop-place-preserved : goal.loop-place-preserved
loop-place-preserved c =
    let old : Holding = c.args.self.now in
    let mid : Holding = c.loop-place.self in
    let new : Holding = c.repoint_fields.new.self in
    let same : c.self-in-loop-place.inside.directory.slots ≡ old.slots = ap (λ (r : Holding). r.slots) c.self-in-loop-place.view_is ∙ ap (λ (r : Holding). r.slots) c.loop-place.invariant.done.rest in
    let there : slice_get old.slots c.loop-place.place ≡ Some c.at-name.result = ap (λ (l : List (ℕ × Slot)). slice_get l c.loop-place.place) (sym same) ∙ c.at-name.ensures in
    record {
      done = Repoints-more old mid new c.loop-place.invariant.done c.repoint_fields.ensures.done;
      each = λ k name i s lt is.
          elim (cases_eq k c.loop-place.place) [
            | inl at ↦
                let one : c.at-name.result ≡ (name, s) = same_Some c.at-name.result (name, s) (sym there ∙ ap (slice_get old.slots) (sym at) ∙ is) in
                let P : ℕ → Type 0 = λ q. IsCurrent new q i in
                subst P (ap (λ (p : ℕ × Slot). p.0) one) (c.repoint_fields.ensures.current i)
            | inr off ↦ c.repoint_fields.ensures.done.current name i (c.loop-place.invariant.each k name i s (omega arith) is)
          ];
    }

pub returns-clause-current : goal.returns-clause-current
returns-clause-current c = λ name i v a is place.
    let old : Holding = c.args.self.now in
    let now : Holding = c.loop-place.self in
    let slots : now.slots ≡ old.slots = ap (λ (r : Holding). r.slots) c.loop-place.invariant.done.rest in
    let t = map_some (λ (t : Slot). t.address) (slot_of now.slots name) a place in
    let l = listed old.slots name t.0 (ap (λ (x : List (ℕ × Slot)). slot_of x name) (sym slots) ∙ t.1) in
    let all : length c.self.inside.directory.slots ≡ length old.slots = ap (λ (r : Holding). length r.slots) c.self.view_is in
    let many = c.len-place-end.ensures in
    let within : l.0 < length old.slots = l.1 in
    c.loop-place.invariant.each l.0 name i t.0 (omega arith) l.2 v a is place
