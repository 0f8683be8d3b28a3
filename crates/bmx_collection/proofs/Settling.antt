-- Looking for what is reached among the names below n settles within n steps: each step finds one name more, or none ever
-- again.
use Rattle.std.proofs.Common.{◌≡◌, ℕ, zero, suc, ◌+◌, ◌<◌, ◌≤◌, ◌&&◌, ◌||◌, ◌⊎◌, inl, inr, nat_lt, Bool, true, false, cond, List, ◌∷◌, length, Contains, refl, ap, arith}
use Rattle.std.specs.List.{list_any}
use Rattle.std.proofs.lemmas.Bool.Decides.{nat_tests}
use Rattle.bmx_owner.specs.Records.{is_listed}
use Rattle.bmx_protocol.specs.Nodes.{NodeState}
use Rattle.bmx_collection.specs.Links.{Links}
use Rattle.bmx_collection.specs.Reach.{is_entry, refers}
use Rattle.bmx_collection.specs.Finding.{passing, is_root, reached_in}
use Rattle.bmx_collection.proofs.Rising.{listed}
use Rattle.bmx_collection.proofs.Passing.{passed}
use Rattle.bmx_collection.proofs.Listing.{both}

-- ## numbers that pass a weaker test

-- what passes one test passes another: no fewer do
more : (p q : ℕ → Bool) (k n : ℕ) → ((x : ℕ) → k ≤ x → x < k + n → p x ≡ true → q x ≡ true) → length (passing p k n) ≤ length (passing q k n)
more p q k zero h = omega arith
more p q k (suc n) h = by (p k) (q k) (h k (omega arith) (omega arith)) (more p q (k + 1) n (λ x above below. h x (omega (arith, above)) (omega (arith, below))))
  where
    by : (a b : Bool) → (a ≡ true → b ≡ true) → length (passing p (k + 1) n) ≤ length (passing q (k + 1) n) →
        length (cond a (k ∷ passing p (k + 1) n) (passing p (k + 1) n)) ≤ length (cond b (k ∷ passing q (k + 1) n) (passing q (k + 1) n))
    by true true i rest = omega (arith, rest)
    by true false i rest = (let both : false ≡ true = i refl in absurd cc)
    by false true i rest = omega (arith, rest)
    by false false i rest = rest

-- and where no more do the same do
same : (p q : ℕ → Bool) (k n : ℕ) → ((x : ℕ) → k ≤ x → x < k + n → p x ≡ true → q x ≡ true) → length (passing q k n) ≤ length (passing p k n) → passing q k n ≡ passing p k n
same p q k zero h less = refl
same p q k (suc n) h less =
    by (p k) (q k) (h k (omega arith) (omega arith)) less (more p q (k + 1) n (λ x above below. h x (omega (arith, above)) (omega (arith, below))))
    (λ fewer. same p q (k + 1) n (λ x above below. h x (omega (arith, above)) (omega (arith, below))) fewer)
  where
    by : (a b : Bool) → (a ≡ true → b ≡ true) → length (cond b (k ∷ passing q (k + 1) n) (passing q (k + 1) n)) ≤ length (cond a (k ∷ passing p (k + 1) n) (passing p (k + 1) n)) →
        length (passing p (k + 1) n) ≤ length (passing q (k + 1) n) →
        (length (passing q (k + 1) n) ≤ length (passing p (k + 1) n) → passing q (k + 1) n ≡ passing p (k + 1) n) →
        cond b (k ∷ passing q (k + 1) n) (passing q (k + 1) n) ≡ cond a (k ∷ passing p (k + 1) n) (passing p (k + 1) n)
    by true true i less rest later = ap (λ (xs : List ℕ). k ∷ xs) (later (omega (arith, less)))
    by true false i less rest later = (let both : false ≡ true = i refl in absurd cc)
    by false true i less rest later = absurd (omega (arith, less, rest))
    by false false i less rest later = later less

few : (p : ℕ → Bool) (k n : ℕ) → length (passing p k n) ≤ n
few p k zero = omega arith
few p k (suc n) = by (p k) (few p (k + 1) n)
  where
    by : (a : Bool) → length (passing p (k + 1) n) ≤ n → length (cond a (k ∷ passing p (k + 1) n) (passing p (k + 1) n)) ≤ suc n
    by true rest = omega (arith, rest)
    by false rest = omega (arith, rest)

-- ## steps

module _ (n : ℕ) (s : NodeState) (l : Links) (bunch : ℕ) where
  -- a name is found in a step behind those that were
  abbrev is_next : List ℕ → ℕ → Bool
  is_next reached name = is_entry s bunch name && (is_listed reached name || list_any (λ from. refers s from name) reached)

  abbrev is_found : ℕ → ℕ → Bool
  is_found zero name = is_entry s bunch name && is_root n s l bunch name
  is_found (suc steps) name = is_next (reached_in steps n s l bunch) name

  entry : (steps name : ℕ) → is_found steps name ≡ true → is_entry s bunch name ≡ true
  entry zero name e = (both (is_entry s bunch name) (is_root n s l bunch name) e).0
  entry (suc steps) name e =
      (both (is_entry s bunch name) (is_listed (reached_in steps n s l bunch) name || list_any (λ from. refers s from name) (reached_in steps n s l bunch)) e).0

  there : (steps name : ℕ) → name < n → is_found steps name ≡ true → Contains (reached_in steps n s l bunch) name
  there zero name below e = passed (is_found zero) 0 n name (omega arith) (omega (arith, below)) e
  there (suc steps) name below e = passed (is_found (suc steps)) 0 n name (omega arith) (omega (arith, below)) e

  -- what was found is found again
  again : (steps name : ℕ) → name < n → is_found steps name ≡ true → is_found (suc steps) name ≡ true
  again steps name below e =
      by (is_entry s bunch name) (is_listed (reached_in steps n s l bunch) name) (list_any (λ from. refers s from name) (reached_in steps n s l bunch))
      (entry steps name e) (listed (reached_in steps n s l bunch) name (there steps name below e))
    where
      by : (a b c : Bool) → a ≡ true → b ≡ true → (a && (b || c)) ≡ true
      by true true c f g = refl
      by true false c f g = cc
      by false b c f g = cc

  -- each step finds the same, or more
  equal_or_more : (steps : ℕ) → (reached_in (suc steps) n s l bunch ≡ reached_in steps n s l bunch) ⊎ (length (reached_in steps n s l bunch) < length (reached_in (suc steps) n s l bunch))
  equal_or_more steps = by (nat_lt (length (reached_in steps n s l bunch)) (length (reached_in (suc steps) n s l bunch))) refl
    where
      no_more : (steps : ℕ) → length (reached_in (suc steps) n s l bunch) ≤ length (reached_in steps n s l bunch) → reached_in (suc steps) n s l bunch ≡ reached_in steps n s l bunch
      no_more zero less = same (is_found zero) (is_found (suc zero)) 0 n (λ x above below e. again zero x (omega (arith, below)) e) less
      no_more (suc steps) less = same (is_found (suc steps)) (is_found (suc (suc steps))) 0 n (λ x above below e. again (suc steps) x (omega (arith, below)) e) less

      by : (b : Bool) → nat_lt (length (reached_in steps n s l bunch)) (length (reached_in (suc steps) n s l bunch)) ≡ b →
          (reached_in (suc steps) n s l bunch ≡ reached_in steps n s l bunch) ⊎ (length (reached_in steps n s l bunch) < length (reached_in (suc steps) n s l bunch))
      by true is = inr (is_less (length (reached_in steps n s l bunch)) (length (reached_in (suc steps) n s l bunch)) is)
        where
          is_less : (a b : ℕ) → nat_lt a b ≡ true → a < b
          is_less a b e = grind (arith, nat_tests)
      by false is = inl (no_more steps (at_most (length (reached_in steps n s l bunch)) (length (reached_in (suc steps) n s l bunch)) is))
        where
          at_most : (a b : ℕ) → nat_lt a b ≡ false → b ≤ a
          at_most a b e = grind (arith, nat_tests)

  -- so after so many steps all is found, or more names are than steps were made
  far : (steps : ℕ) → (reached_in (suc steps) n s l bunch ≡ reached_in steps n s l bunch) ⊎ (steps < length (reached_in (suc steps) n s l bunch))
  far zero = by (equal_or_more zero)
    where
      by : (reached_in (suc zero) n s l bunch ≡ reached_in zero n s l bunch) ⊎ (length (reached_in zero n s l bunch) < length (reached_in (suc zero) n s l bunch)) →
          (reached_in (suc zero) n s l bunch ≡ reached_in zero n s l bunch) ⊎ (zero < length (reached_in (suc zero) n s l bunch))
      by (inl settled) = inl settled
      by (inr less) = inr (omega (arith, less))
  far (suc steps) = by (far steps) (equal_or_more (suc steps))
    where
      by : (reached_in (suc steps) n s l bunch ≡ reached_in steps n s l bunch) ⊎ (steps < length (reached_in (suc steps) n s l bunch)) →
          (reached_in (suc (suc steps)) n s l bunch ≡ reached_in (suc steps) n s l bunch) ⊎ (length (reached_in (suc steps) n s l bunch) < length (reached_in (suc (suc steps)) n s l bunch)) →
          (reached_in (suc (suc steps)) n s l bunch ≡ reached_in (suc steps) n s l bunch) ⊎ (suc steps < length (reached_in (suc (suc steps)) n s l bunch))
      by (inl settled) next = inl (ap (λ (reached : List ℕ). passing (is_next reached) 0 n) settled)
      by (inr bigger) (inl settled) = inl settled
      by (inr bigger) (inr less) = inr (omega (arith, bigger, less))

  pub settles : reached_in (suc n) n s l bunch ≡ reached_in n n s l bunch
  settles = by (far n)
    where
      by : (reached_in (suc n) n s l bunch ≡ reached_in n n s l bunch) ⊎ (n < length (reached_in (suc n) n s l bunch)) → reached_in (suc n) n s l bunch ≡ reached_in n n s l bunch
      by (inl settled) = settled
      by (inr bigger) = (let most : length (reached_in (suc n) n s l bunch) ≤ n = few (is_found (suc n)) 0 n in absurd (omega (arith, bigger, most)))
