-- All names of a map, sorted.
use Rattle.std.proofs.Common.{◌≡◌, ◌↔◌, ℕ, Bool, true, eqb, List, Contains, IsSome, IsPermutation, IsSorted, nat_cmp, refl, sym, ap, ◌∙◌, subst, ⊎_elim, arith}
use Rattle.std.proofs.Math.Path.{fun_ext}
use Rattle.std.specs.declared.cmp.Ordering.{Ordering}
use Rattle.std.specs.Ordering.{ordering_then}
use Rattle.std.specs.Cmp.{IsEquivalence}
use Rattle.std.specs.List.{IsDistinct}
use Rattle.std.specs.List.Sorted.{IsStrictlyIncreasing}
use Rattle.std.specs.Map.{keys_of}
use Rattle.std.proofs.lemmas.Bool.{cases_eq, eqb-true, eq-eqb, ne_eqb}
use Rattle.std.proofs.lemmas.Bool.Decides.{nat_tests}
use Rattle.std.proofs.lemmas.Cmp.{nat_eq_equiv}
use Rattle.std.proofs.lemmas.List.Sorted.{Contains-permutation, IsPermutation-sym, IsNonDecreasingBy-from_sort}
use Rattle.std.proofs.lemmas.Map.Keys.{IsDistinct-IsPermutation, IsStrictlyIncreasing-from_distinct}
use Rattle.std.proofs.lemmas.Map.Views.{Contains-keys_from_lookup, IsSome-lookup_from_Contains}
use Rattle.bmx_types.specs.Words.{maker, count_of}
use Rattle.bmx_token.specs.declared.parts.Part.{Part}
use Rattle.bmx_tokens.specs.Tables.{part_in}
use Rattle.bmx_tokens.proofs.Map.{same_name, same_name-is, part_in-lookup}

-- names are ordered by their words
abbrev pub name_cmp : ℕ → ℕ → Ordering
name_cmp x y = nat_cmp x y

name_cmp-is : name_cmp ≡ nat_cmp
name_cmp-is = refl

same_name-eqb : same_name ≡ eqb
same_name-eqb = fun_ext (λ x. fun_ext (same_name-is x))

eqb-flips : (x y : ℕ) → eqb x y ≡ eqb y x
eqb-flips x y = ⊎_elim
    (λ (e : x ≡ y). eq-eqb x y e ∙ sym (eq-eqb y x (sym e)))
    (λ (ne : x ≡ y → ⊥). ne_eqb x y ne ∙ sym (ne_eqb y x (λ e. ne (sym e))))
    (cases_eq x y)

-- keys that differ rise once they are sorted
pub sorted_names_rise : (es : List (ℕ × Part)) (xs ys : List ℕ) → xs ≡ keys_of es → IsDistinct same_name (keys_of es) → IsPermutation xs ys → IsSorted name_cmp ys → IsStrictlyIncreasing ys
sorted_names_rise es xs ys all distinct moved sorted = IsStrictlyIncreasing-from_distinct ys
    (IsNonDecreasingBy-from_sort (λ x. x) ys (subst (λ c. IsSorted c ys) name_cmp-is sorted))
    (IsDistinct-IsPermutation eqb eqb-flips xs ys moved (subst (λ e. IsDistinct e xs) same_name-eqb (subst (IsDistinct same_name) (sym all) distinct)))

-- and they are the names with a token
pub names_are_all : (es : List (ℕ × Part)) (xs ys : List ℕ) → xs ≡ keys_of es → IsPermutation xs ys → (x : ℕ) → Contains ys x ↔ IsSome (part_in es x)
names_are_all es xs ys all moved x =
    let equals : IsEquivalence same_name = subst IsEquivalence (sym same_name-eqb) nat_eq_equiv in
    let exact : (a b : ℕ) → same_name a b ≡ true → a ≡ b = λ a b t. eqb-true a b (sym (same_name-is a b) ∙ t) in (
      λ had. subst IsSome (part_in-lookup es x) (IsSome-lookup_from_Contains {eq = same_name} equals x es (subst (λ l. Contains l x) all (Contains-permutation ys xs x (IsPermutation-sym xs ys moved) had))),
      λ there. Contains-permutation xs ys x moved (subst (λ l. Contains l x) (sym all) (Contains-keys_from_lookup {eq = same_name} exact x es (subst IsSome (sym (part_in-lookup es x)) there))),
    )
