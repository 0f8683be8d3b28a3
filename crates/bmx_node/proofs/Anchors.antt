-- Two anchors are what a store may open with.
use Rattle.std.proofs.Common.{◌≡◌, ℕ, ◌+◌, ◌<◌, ◌≤◌, zero, suc, arith, refl, sym, ap, subst, ◌∙◌, List, [], ◌∷◌, length, replicate}
use Rattle.std.specs.Prelude.{Some, slice_get, Contains}
use Rattle.std.proofs.lemmas.List.{get_or-replicate}
use Rattle.std.proofs.lemmas.Option.{slice_get-get_or}
use Rattle.bmx_types.specs.Openings.{IsOpening, bunches_of}
use Rattle.bmx_types.specs.declared.openings.Birth.{Birth}
use Rattle.bmx_types.specs.declared.values.Val.TheVariants as val

abbrev pub anchor : ℕ → Birth
anchor k = record { name = k + 1; bunch = k; fields = replicate 32 val.Null }

abbrev pub two : List Birth
two = anchor 0 ∷ anchor 1 ∷ []

at : (i : ℕ) (b : Birth) → slice_get two i ≡ Some b → (i < 2) × (b ≡ anchor i)
at zero b h = (omega arith, cc)
at (suc zero) b h = (omega arith, cc)
at (suc (suc i)) b h = absurd cc

contained : (b : Birth) → Contains two b → (k : ℕ) × (b ≡ anchor k)
contained b there = (there.0, (at there.0 b (slice_get-get_or two there.0 b there.1 ∙ ap Some there.2)).1)

no_reference : (name : ℕ) → Contains (replicate 32 val.Null) (val.Ref name) → ⊥
no_reference name there = (let both : val.Null ≡ val.Ref name = sym (get_or-replicate 32 there.0 val.Null (val.Ref name) there.1) ∙ there.2 in absurd cc)

pub opens : IsOpening 2 1 two
opens = record {
  a_node = omega arith;
  few_nodes = omega arith;
  a_segment = omega arith;
  few_segments = omega arith;
  born = record {
    few = omega arith;
    named = λ i b h. ap (λ (c : Birth). c.name) (at i b h).1;
    some = (let is : bunches_of two ≡ 2 = refl in omega (arith, is));
    bunches = (let is : bunches_of two ≡ 2 = refl in omega (arith, is));
    anchors = (let is : bunches_of two ≡ 2 = refl in omega (arith, is));
    first = λ i b below h. ap (λ (c : Birth). c.bunch) (at i b h).1;
    wide = λ i b below h. ap (λ (c : Birth). length c.fields) (at i b h).1;
    sizes = λ b there. by_size b (contained b there);
    closed = λ b name there refers. absurd (no_reference name (subst (λ (c : Birth). Contains c.fields (val.Ref name)) (contained b there).1 refers));
  };
}
  where
    by_size : (b : Birth) → (k : ℕ) × (b ≡ anchor k) → length b.fields ≤ 32
    by_size b t = (let wide : length b.fields ≡ 32 = ap (λ (c : Birth). length c.fields) t.1 in omega (arith, wide))
