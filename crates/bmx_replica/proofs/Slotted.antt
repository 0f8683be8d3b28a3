-- A directory of names, as its map shows it.
use Rattle.std.proofs.Common.{◌≡◌, ℕ, Bool, true, false, cond, eqb, List, [], ◌∷◌, Option, Some, refl, sym, ap, ◌∙◌}
use Rattle.std.proofs.lemmas.Bool.{eqb-true, eq-eqb}
use Rattle.std.specs.Map.{lookup}
use Rattle.std.specs.Prelude.{not}
use Rattle.bmx_replica.specs.Slots.{slot_of}
use Rattle.bmx_replica.specs.Inside.Slots.{PutsSlot}
use Rattle.bmx_replica.specs.declared.directory.Slot.{Slot}

-- two names are the same, as the keys of a map are compared
abbrev pub same_name : ℕ → ℕ → Bool
same_name x y = eqb x y

-- which is by their words
pub same_name-is : (x y : ℕ) → same_name x y ≡ eqb x y
same_name-is x y = refl

pub slot_of-lookup : (es : List (ℕ × Slot)) (q : ℕ) → lookup (same_name q) es ≡ slot_of es q
slot_of-lookup [] q = refl
slot_of-lookup (e ∷ es) q = ap (λ b. cond b (Some e.1) (lookup (same_name q) es)) (same_name-is q e.0) ∙ ap (λ (o : Option Slot). cond (eqb q e.0) (Some e.1) o) (slot_of-lookup es q)

pub PutsSlot-from : (old new : List (ℕ × Slot)) (k : ℕ) (w : Option Slot) → ((q : ℕ) → lookup (same_name q) new ≡ cond (same_name k q) w (lookup (same_name q) old)) → PutsSlot old new k w
PutsSlot-from old new k w h = λ q.
    sym (slot_of-lookup new q) ∙ h q
    ∙ ap (λ b. cond b w (lookup (same_name q) old)) (same_name-is k q)
    ∙ ap (λ (o : Option Slot). cond (eqb k q) w o) (slot_of-lookup old q)

-- an address is the same as itself, as addresses are compared
pub same_address : (x y : ℕ) → x ≡ y → eqb x y ≡ true
same_address x y e = eq-eqb x y e

-- numbers that aren't unequal are equal
pub equal_from : (x y : ℕ) → not (eqb x y) ≡ false → x ≡ y
equal_from x y e = eqb-true x y (by (eqb x y) e)
  where
    by : (b : Bool) → not b ≡ false → b ≡ true
    by true e = refl
    by false e = sym e
