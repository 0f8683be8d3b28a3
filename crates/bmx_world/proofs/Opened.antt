-- What a script opens is what a store opens with.
use Rattle.std.proofs.Common.{◌≡◌, ◌⊎◌, inl, inr, ℕ, ◌+◌, ◌<◌, ◌≤◌, zero, suc, arith, refl, sym, ap, subst, ◌∙◌, List, [], ◌∷◌, ◌++◌, length, length-append, max, replicate}
use Rattle.std.specs.Prelude.{Some, slice_get, Contains}
use Rattle.std.proofs.lemmas.List.{get_or-replicate}
use Rattle.std.proofs.lemmas.Option.{slice_get-get_or}
use Rattle.bmx_types.specs.Openings.{IsOpening, bunches_of}
use Rattle.bmx_types.specs.declared.openings.Birth.{Birth}
use Rattle.bmx_types.specs.declared.values.Val.TheVariants as val
use Rattle.bmx_world.specs.Scripts.{anchor_birth, anchors}

length_anchors : (n : ℕ) → length (anchors n) ≡ n
length_anchors zero = refl
length_anchors (suc n) = (let more : length (anchors n ++ anchor_birth n ∷ []) ≡ length (anchors n) + 1 = length-append (anchors n) (anchor_birth n ∷ []) in omega (arith, more, length_anchors n))

bunches_append : (births : List Birth) (b : Birth) → bunches_of (births ++ b ∷ []) ≡ max (bunches_of births) (b.bunch + 1)
bunches_append [] b = grind arith
bunches_append (c ∷ births) b = ap (max (c.bunch + 1)) (bunches_append births b) ∙ grind arith

bunches_anchors : (n : ℕ) → bunches_of (anchors n) ≡ n
bunches_anchors zero = refl
bunches_anchors (suc n) = (let more : bunches_of (anchors n ++ anchor_birth n ∷ []) ≡ max (bunches_of (anchors n)) (n + 1) = bunches_append (anchors n) (anchor_birth n) in omega (arith, more, bunches_anchors n))

get_append : (births : List Birth) (last : Birth) (i : ℕ) (b : Birth) → slice_get (births ++ last ∷ []) i ≡ Some b →
    (slice_get births i ≡ Some b) ⊎ ((i ≡ length births) × (b ≡ last))
get_append [] last zero b h = inr (refl, cc)
get_append [] last (suc i) b h = absurd cc
get_append (c ∷ births) last zero b h = inl h
get_append (c ∷ births) last (suc i) b h = by_case (get_append births last i b h)
  where
    by_case : (slice_get births i ≡ Some b) ⊎ ((i ≡ length births) × (b ≡ last)) → (slice_get births i ≡ Some b) ⊎ ((suc i ≡ suc (length births)) × (b ≡ last))
    by_case (inl e) = inl e
    by_case (inr e) = inr (ap suc e.0, e.1)

-- each birth is the anchor of its number
anchor_at : (n i : ℕ) (b : Birth) → slice_get (anchors n) i ≡ Some b → (i < n) × (b ≡ anchor_birth i)
anchor_at zero i b h = absurd cc
anchor_at (suc n) i b h = by_case (anchor_at n i b) (get_append (anchors n) (anchor_birth n) i b h)
  where
    by_case : (slice_get (anchors n) i ≡ Some b → (i < n) × (b ≡ anchor_birth i)) → (slice_get (anchors n) i ≡ Some b) ⊎ ((i ≡ length (anchors n)) × (b ≡ anchor_birth n)) →
        (i < suc n) × (b ≡ anchor_birth i)
    by_case before (inl e) = (let below : i < n = (before e).0 in (omega (arith, below), (before e).1))
    by_case before (inr e) = (let is : i ≡ n = e.0 ∙ length_anchors n in (omega (arith, is), e.1 ∙ ap anchor_birth (sym is)))

contained : (n : ℕ) (b : Birth) → Contains (anchors n) b → (k : ℕ) × (b ≡ anchor_birth k)
contained n b there = (there.0, (anchor_at n there.0 b (slice_get-get_or (anchors n) there.0 b there.1 ∙ ap Some there.2)).1)

no_reference : (name : ℕ) → Contains (replicate 32 val.Null) (val.Ref name) → ⊥
no_reference name there = (let both : val.Null ≡ val.Ref name = sym (get_or-replicate 32 there.0 val.Null (val.Ref name) there.1) ∙ there.2 in absurd cc)

pub opens : (nodes limit n : ℕ) → 0 < nodes → nodes ≤ 8 → 0 < limit → limit ≤ 65535 → 0 < n → n ≤ 16 → IsOpening nodes limit (anchors n)
opens nodes limit n some few a_segment segments bunch bunches = record {
  a_node = some;
  few_nodes = few;
  a_segment = a_segment;
  few_segments = segments;
  born = record {
    few = omega (arith, length_anchors n, bunches);
    named = λ i b h. ap (λ (c : Birth). c.name) (anchor_at n i b h).1;
    some = omega (arith, bunches_anchors n, bunch);
    bunches = omega (arith, bunches_anchors n, bunches);
    anchors = omega (arith, bunches_anchors n, length_anchors n);
    first = λ i b below h. ap (λ (c : Birth). c.bunch) (anchor_at n i b h).1;
    wide = λ i b below h. ap (λ (c : Birth). length c.fields) (anchor_at n i b h).1;
    sizes = λ b there. by_size b (contained n b there);
    closed = λ b name there refers. absurd (no_reference name (subst (λ (c : Birth). Contains c.fields (val.Ref name)) (contained n b there).1 refers));
  };
}
  where
    by_size : (b : Birth) → (k : ℕ) × (b ≡ anchor_birth k) → length b.fields ≤ 32
    by_size b t = (let wide : length b.fields ≡ 32 = ap (λ (c : Birth). length c.fields) t.1 in omega (arith, wide))
