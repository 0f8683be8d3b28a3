-- A store and histories that the laws apply to.
use Rattle.std.proofs.Common.{◌≡◌, ℕ, ◌+◌, ◌≤◌, arith, refl, ap, sym, subst, ◌∙◌, [], ◌∷◌, length, zero, suc}
use Rattle.std.specs.Prelude.{◌⊎◌, Some, slice_get, Contains, replicate}
use Rattle.std.proofs.Common.{inl, inr}
use Rattle.bmx_types.specs.Openings.{AreBirths}
use Rattle.bmx_types.specs.declared.openings.Birth.{Birth}
use Rattle.bmx_types.specs.declared.values.Val.TheVariants as val
use Rattle.bmx_protocol.proofs.Worked.{worked_runs_are_legal}
use Rattle.bmx_store_laws.specs.Laws.{LawsApply}
use Rattle.bmx_token_model.proofs.Readers.{one_or_more}

-- the anchor of bunch 0
abbrev the_birth : Birth
the_birth = record { name = 1; bunch = 0; fields = replicate 32 val.Null }

only_birth : (i : ℕ) (b : Birth) → slice_get (the_birth ∷ []) i ≡ Some b → (the_birth ≡ b) × (i ≡ 0)
only_birth zero b h = (cc, refl)
only_birth (suc i) b h = absurd (cc)

contained : (b : Birth) → Contains (the_birth ∷ []) b → the_birth ≡ b
contained b c = by_place (one_or_more the_birth [] b c)
  where
    by_place : (the_birth ≡ b) ⊎ Contains [] b → the_birth ≡ b
    by_place (inl here) = here
    by_place (inr there) = absurd (omega (arith, there.1))

no_reference : (n name : ℕ) → Contains (replicate n val.Null) (val.Ref name) → ⊥
no_reference zero name c = absurd (omega (arith, c.1))
no_reference (suc n) name c = by_place (one_or_more val.Null (replicate n val.Null) (val.Ref name) c) (no_reference n name)
  where
    by_place : (val.Null ≡ val.Ref name) ⊎ Contains (replicate n val.Null) (val.Ref name) → (Contains (replicate n val.Null) (val.Ref name) → ⊥) → ⊥
    by_place (inl here) rest = cc
    by_place (inr there) rest = rest there

births : AreBirths (the_birth ∷ [])
births = record {
  few = omega arith;
  named = λ i b h. (ap (λ (c : Birth). c.name) (sym (only_birth i b h).0) ∙ ap (λ (k : ℕ). k + 1) (sym (only_birth i b h).1));
  some = omega arith;
  bunches = omega arith;
  anchors = omega arith;
  first = λ i b below h. (ap (λ (c : Birth). c.bunch) (sym (only_birth i b h).0) ∙ sym (only_birth i b h).1);
  wide = λ i b below h. ap (λ (c : Birth). length c.fields) (sym (only_birth i b h).0);
  sizes = λ b c. subst (λ (d : Birth). length d.fields ≤ 32) (contained b c) (omega arith);
  closed = λ b name c refers. absurd (no_reference 32 name (subst (λ (d : Birth). Contains d.fields (val.Ref name)) (sym (contained b c)) refers));
}

pub laws_apply : LawsApply
laws_apply = (record { a_node = omega arith; few_nodes = omega arith; a_segment = omega arith; few_segments = omega arith; born = births }, worked_runs_are_legal.0, worked_runs_are_legal.1)
