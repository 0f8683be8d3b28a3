-- A memory keeps what it keeps.
use Rattle.std.proofs.Common.{◌≡◌, ◌⊎◌, ℕ, List, [], ◌∷◌, Some, slice_get, slice_set, zero, suc, ◌∙◌, subst, inl, inr}
use Rattle.std.proofs.lemmas.Option.{same_Some}
use Rattle.std.proofs.lemmas.List.{length-set}
use Rattle.bmx_segment.specs.Headers.{kind_number}
use Rattle.bmx_replica.specs.declared.words.Word.{Word}
use Rattle.bmx_replica.specs.Replicas.{Holding, KeepsNames}
use Rattle.bmx_replica.proofs.Standing.{IsField-same}
use Rattle.bmx_memory.specs.Contents.{Contents}
use Rattle.bmx_memory.specs.Inside.Keeping.{IsSound, NoneDied, IsHeldIn, Keeps}

-- after a change of objects
pub kept_changed : (m : Contents) (new : Holding) → Keeps m → IsSound new → NoneDied new.heap.blocks → KeepsNames m.replica new → Keeps (record m { replica = new })
kept_changed m new kept sound standing names = record {
  sound = sound;
  standing = standing;
  few = kept.few;
  held = λ q w is. IsField-same m.replica.heap.blocks new.heap.blocks (kind_number w.kind) w.word names (kept.held q w is);
}

-- what is got where one is set
set_got : (ws : List Word) (i : ℕ) (w : Word) (q : ℕ) (x : Word) → slice_get (slice_set ws i w) q ≡ Some x → (w ≡ x) ⊎ (slice_get ws q ≡ Some x)
set_got [] i w q x e = inr e
set_got (y ∷ ys) zero w zero x e = inl (same_Some w x e)
set_got (y ∷ ys) zero w (suc q) x e = inr e
set_got (y ∷ ys) (suc i) w zero x e = inr e
set_got (y ∷ ys) (suc i) w (suc q) x e = set_got ys i w q x e

-- after a register is set
pub kept_set : (m : Contents) (i : ℕ) (w : Word) → Keeps m → IsHeldIn m.replica.heap.blocks w → Keeps (record m { registers = slice_set m.registers i w })
kept_set m i w kept field = record {
  sound = kept.sound;
  standing = kept.standing;
  few = length-set m.registers i w ∙ kept.few;
  held = λ q x is.
      elim (set_got m.registers i w q x is) [
        | inl same ↦ subst (IsHeldIn m.replica.heap.blocks) same field
        | inr other ↦ kept.held q x other
      ];
}
