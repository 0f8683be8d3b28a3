-- What the ring worked by hand doesn't reach.
use Rattle.std.proofs.Common.{◌≡◌, ◌⊎◌, inl, inr, ℕ, All, subst, sym, refl, ⊎_elim, arith}
use Rattle.std.proofs.lemmas.List.Elements.{All-from_recursion, All-contains}
use Rattle.bmx_types.specs.declared.values.Val.{Val}
use Rattle.bmx_types.specs.declared.values.Val.TheVariants as val
use Rattle.bmx_graph.specs.State.{fields_of}
use Rattle.bmx_graph.specs.Reached.{IsReached, a_ring}
use Rattle.bmx_graph.proofs.Reaching.{reached_in}

-- the anchor, the ring, and the name without an object
abbrev IsInRing : ℕ → Type 0
IsInRing x = (x ≡ 1) ⊎ ((x ≡ 2) ⊎ ((x ≡ 3) ⊎ (x ≡ 7)))

abbrev RefersIntoRing : Val → Type 0
RefersIntoRing val.Null = Unit {0}
RefersIntoRing (val.Int k) = Unit {0}
RefersIntoRing (val.Ref y) = IsInRing y

fields_in_ring : (x : ℕ) → IsInRing x → All RefersIntoRing (fields_of a_ring x)
fields_in_ring x h =
    let P : ℕ → Type 0 = λ z. All RefersIntoRing (fields_of a_ring z) in
    let to_2 : IsInRing 2 = inr (inl refl) in
    let to_3 : IsInRing 3 = inr (inr (inl refl)) in
    let to_7 : IsInRing 7 = inr (inr (inr refl)) in
    let of_1 : P 1 = All-from_recursion RefersIntoRing (fields_of a_ring 1) (tt, (to_2, tt)) in
    let of_2 : P 2 = All-from_recursion RefersIntoRing (fields_of a_ring 2) (to_3, tt) in
    let of_3 : P 3 = All-from_recursion RefersIntoRing (fields_of a_ring 3) (tt, (to_2, (to_7, tt))) in
    let of_7 : P 7 = All-from_recursion RefersIntoRing (fields_of a_ring 7) tt in
    ⊎_elim (λ (e : x ≡ 1). subst P (sym e) of_1)
    (⊎_elim (λ (e : x ≡ 2). subst P (sym e) of_2)
    (⊎_elim (λ (e : x ≡ 3). subst P (sym e) of_3) (λ (e : x ≡ 7). subst P (sym e) of_7))) h

in_ring : (x : ℕ) → IsReached 8 1 a_ring x → IsInRing x
in_ring = reached_in 8 1 a_ring IsInRing
    (λ n r x few small h. absurd (cc))
    (λ b h. inl (omega arith))
    (λ x y h there. All-contains RefersIntoRing (fields_of a_ring x) (val.Ref y) (fields_in_ring x h) there)

-- nothing reaches 4, or 5 behind it
chain_is_unreached : (IsReached 8 1 a_ring 4 → ⊥) × (IsReached 8 1 a_ring 5 → ⊥)
chain_is_unreached = (λ h. let at = in_ring 4 h in grind arith, λ h. let at = in_ring 5 h in grind arith)
