-- Spots where a want may stand, and numbers at them: one spot alone has a 1.
use Rattle.std.proofs.Common.{◌≡◌, ℕ, ◌+◌, ◌≤◌, arith, zero, suc, refl, ap, sym, subst, ◌∙◌, Bool, true, false, cond}
use Rattle.std.specs.Prelude.{◌==◌, ◌&&◌}
use Rattle.bmx_token_model.proofs.Tallies.{same_true, eqb_true}

-- where a want of a node may stand
pub data Spot : Type 0 where
  Unasked : Spot
  InFlight : (n k : ℕ) → Spot
  Queued : (n : ℕ) → Spot
  Granted : (n : ℕ) → Spot

abbrev pub same_spot : Spot → Spot → Bool
same_spot Unasked Unasked = true
same_spot Unasked (InFlight j l) = false
same_spot Unasked (Queued j) = false
same_spot Unasked (Granted j) = false
same_spot (InFlight n k) Unasked = false
same_spot (InFlight n k) (InFlight j l) = (n == j) && (k == l)
same_spot (InFlight n k) (Queued j) = false
same_spot (InFlight n k) (Granted j) = false
same_spot (Queued n) Unasked = false
same_spot (Queued n) (InFlight j l) = false
same_spot (Queued n) (Queued j) = n == j
same_spot (Queued n) (Granted j) = false
same_spot (Granted n) Unasked = false
same_spot (Granted n) (InFlight j l) = false
same_spot (Granted n) (Queued j) = false
same_spot (Granted n) (Granted j) = n == j

spot_is : (s t : Spot) → same_spot s t ≡ true → s ≡ t
spot_is Unasked Unasked h = refl
spot_is (InFlight n k) (InFlight j l) h = by_tests (n == j) (k == l) refl refl h
  where
    by_tests : (p q : Bool) → (n == j) ≡ p → (k == l) ≡ q → (p && q) ≡ true → InFlight n k ≡ InFlight j l
    by_tests true true e f g = (λ i. InFlight (eqb_true n j e i) (eqb_true k l f i))
    by_tests true false e f g = absurd cc
    by_tests false q e f g = absurd cc
spot_is (Queued n) (Queued j) h = ap (λ (x : ℕ). Queued x) (eqb_true n j h)
spot_is (Granted n) (Granted j) h = ap (λ (x : ℕ). Granted x) (eqb_true n j h)
spot_is Unasked (InFlight j l) h = absurd cc
spot_is Unasked (Queued j) h = absurd cc
spot_is Unasked (Granted j) h = absurd cc
spot_is (InFlight n k) Unasked h = absurd cc
spot_is (InFlight n k) (Queued j) h = absurd cc
spot_is (InFlight n k) (Granted j) h = absurd cc
spot_is (Queued n) Unasked h = absurd cc
spot_is (Queued n) (InFlight j l) h = absurd cc
spot_is (Queued n) (Granted j) h = absurd cc
spot_is (Granted n) Unasked h = absurd cc
spot_is (Granted n) (InFlight j l) h = absurd cc
spot_is (Granted n) (Queued j) h = absurd cc

spot_same : (s : Spot) → same_spot s s ≡ true
spot_same Unasked = refl
spot_same (InFlight n k) = rw (same_true n, same_true k) refl
spot_same (Queued n) = same_true n
spot_same (Granted n) = same_true n

-- a number at one spot, and 0 at each other
abbrev pub at_spot : Spot → ℕ → Spot → ℕ
at_spot x c t = cond (same_spot x t) c 0

-- 1 at one spot alone
abbrev pub IsAlone : (Spot → ℕ) → Spot → Type 0
IsAlone f s = (t : Spot) → f t ≡ at_spot s 1 t

-- what goes from one spot to another leaves one spot
pub moves_spot : (f g : Spot → ℕ) (x y : Spot) (c : ℕ) → ((t : Spot) → g t + at_spot x c t ≡ f t + at_spot y c t) → (s : Spot) → IsAlone f s → (r : Spot) × IsAlone g r
moves_spot f g x y zero h s a = (s, λ t. by_tests t (same_spot x t) (same_spot y t) (h t))
  where
    by_tests : (t : Spot) (p q : Bool) → g t + cond p 0 0 ≡ f t + cond q 0 0 → g t ≡ at_spot s 1 t
    by_tests t true true e = omega (arith, a t, e)
    by_tests t true false e = omega (arith, a t, e)
    by_tests t false true e = omega (arith, a t, e)
    by_tests t false false e = omega (arith, a t, e)
moves_spot f g x y (suc c) h s a = by_place (same_spot y x) refl
  where
    stays : x ≡ y → (t : Spot) → g t ≡ at_spot s 1 t
    stays e t = by_test (same_spot x t) (subst (λ z. g t + at_spot x (suc c) t ≡ f t + at_spot z (suc c) t) (sym e) (h t))
      where
        by_test : (p : Bool) → g t + cond p (suc c) 0 ≡ f t + cond p (suc c) 0 → g t ≡ at_spot s 1 t
        by_test true e = omega (arith, a t, e)
        by_test false e = omega (arith, a t, e)

    at_x : same_spot y x ≡ false → g x + suc c ≡ f x
    at_x e =
        let both : g x + cond true (suc c) 0 ≡ f x + cond {A = ℕ} false (suc c) 0 = rw (spot_same x, e) at (h x) in
        omega (arith, both)

    at_most : (t : Spot) (p : Bool) → f t ≡ cond p 1 0 → f t ≤ 1
    at_most t true e = omega (arith, e)
    at_most t false e = omega (arith, e)

    one : same_spot y x ≡ false → c ≡ 0
    one e = omega (arith, at_x e, at_most x (same_spot s x) (a x))

    is_x : same_spot y x ≡ false → s ≡ x
    is_x e = by_test (same_spot s x) refl (a x)
      where
        by_test : (p : Bool) → same_spot s x ≡ p → f x ≡ cond p 1 0 → s ≡ x
        by_test true is e2 = spot_is s x is
        by_test false is e2 = absurd (omega (arith, at_x e, e2))

    goes : same_spot y x ≡ false → (t : Spot) → g t ≡ at_spot y 1 t
    goes e t =
        let was : f t ≡ cond (same_spot x t) 1 0 = a t ∙ ap (λ z. at_spot z 1 t) (is_x e) in
        by_tests (same_spot x t) (same_spot y t) (subst (λ k. g t + at_spot x (suc k) t ≡ f t + at_spot y (suc k) t) (one e) (h t)) was
      where
        by_tests : (p q : Bool) → g t + cond p 1 0 ≡ f t + cond q 1 0 → f t ≡ cond p 1 0 → g t ≡ cond q 1 0
        by_tests true true e f = omega (arith, e, f)
        by_tests true false e f = omega (arith, e, f)
        by_tests false true e f = omega (arith, e, f)
        by_tests false false e f = omega (arith, e, f)

    by_place : (p : Bool) → same_spot y x ≡ p → (r : Spot) × IsAlone g r
    by_place true e = (s, stays (sym (spot_is y x e)))
    by_place false e = (y, goes e)

pub at_most_one : (s t : Spot) → at_spot s 1 t ≤ 1
at_most_one s t = by_test (same_spot s t)
  where
    by_test : (p : Bool) → cond {A = ℕ} p 1 0 ≤ 1
    by_test true = omega arith
    by_test false = omega arith

-- what stands at one spot stands at no other
pub alone_elsewhere : (f : Spot → ℕ) (s x y : Spot) → IsAlone f s → 1 ≤ f x → same_spot x y ≡ false → f y ≡ 0
alone_elsewhere f s x y a some apart = by_test (same_spot s x) refl (a x)
  where
    by_test : (p : Bool) → same_spot s x ≡ p → f x ≡ cond p 1 0 → f y ≡ 0
    by_test true is e = a y ∙ ap (λ z. at_spot z 1 y) (spot_is s x is) ∙ ap (λ (p : Bool). cond {A = ℕ} p 1 0) apart
    by_test false is e = absurd (omega (arith, some, e))
