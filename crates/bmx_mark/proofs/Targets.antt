-- The least target above a floor: one more is looked at.
use Rattle.std.proofs.Common.{◌≡◌, ℕ, ◌+◌, ◌<◌, ◌≤◌, Bool, true, false, cond, ◌&&◌, Option, Some, None, refl, sym, ap, ◌∙◌, arith, inl, inr, ◌⊎◌, ⊎_elim}
use Rattle.std.proofs.lemmas.Bool.{cases_lt, and_parts, and_from, ltb-true, lt-ltb}
use Rattle.bmx_ilist.proofs.Keys.{clash}
use Rattle.bmx_mark.specs.Inside.Targets.{is_above, is_below, lower, IsLeast}

pub IsLeast-none : (f : ℕ → Option ℕ) (floor : Option ℕ) → IsLeast f 0 floor None
IsLeast-none f floor = λ i y h e above. absurd (omega arith)

-- the last one, or one before it
pub last_or_before : (i n : ℕ) → i < n + 1 → (i < n) ⊎ (i ≡ n)
last_or_before i n h = ⊎_elim (λ (l : i < n). inl l) (λ (g : n ≤ i). let e : i ≡ n = omega arith in inr e) (cases_lt i n)

some_same : (x y : ℕ) → Some x ≡ Some y → x ≡ y
some_same x y e = cc

less-more : (f : ℕ → Option ℕ) (n : ℕ) (floor : Option ℕ) (m : ℕ) → IsLeast f n floor (Some m)
    → ((z : ℕ) → f n ≡ Some z → is_above floor z ≡ true → m ≤ z)
    → IsLeast f (n + 1) floor (Some m)
less-more f n floor m l last =
    let at = l.0 in
    let inside : at.0 < n = at.1 in
    let wider : at.0 < n + 1 = omega arith in (
      (at.0, wider, at.2),
      l.1,
      λ i z h e above. ⊎_elim
          (λ (b : i < n). l.2 i z b e above)
          (λ (s : i ≡ n). last z (ap f (sym s) ∙ e) above)
          (last_or_before i n h),
    )

none-more : (f : ℕ → Option ℕ) (n : ℕ) (floor : Option ℕ) → IsLeast f n floor None
    → ((z : ℕ) → f n ≡ Some z → is_above floor z ≡ true → ⊥)
    → IsLeast f (n + 1) floor None
none-more f n floor l last = λ i z h e above. ⊎_elim
    (λ (b : i < n). l i z b e above)
    (λ (s : i ≡ n). last z (ap f (sym s) ∙ e) above)
    (last_or_before i n h)

-- nothing more
skipped : (f : ℕ → Option ℕ) (n : ℕ) (floor o : Option ℕ) → IsLeast f n floor o → f n ≡ None → IsLeast f (n + 1) floor o
skipped f n floor None l e = none-more f n floor l (λ z s above. let both : None ≡ Some z = sym e ∙ s in absurd (cc))
skipped f n floor (Some m) l e = less-more f n floor m l (λ z s above. let both : None ≡ Some z = sym e ∙ s in absurd (cc))

-- one that isn't lower, or isn't above the floor
passed : (f : ℕ → Option ℕ) (n y : ℕ) (floor o : Option ℕ) → IsLeast f n floor o → f n ≡ Some y → (is_above floor y && is_below o y) ≡ false → IsLeast f (n + 1) floor o
passed f n y floor None l e other =
    none-more f n floor l (λ z s above.
    let same : y ≡ z = some_same y z (sym e ∙ s) in
    let both : (is_above floor y && is_below None y) ≡ true = and_from _ _ (ap (is_above floor) same ∙ above) refl in
    clash (is_above floor y && is_below None y) both other)
passed f n y floor (Some m) l e other =
    less-more f n floor m l (λ z s above.
    let same : y ≡ z = some_same y z (sym e ∙ s) in
    ⊎_elim
    (λ (b : y < m). let both : (is_above floor y && is_below (Some m) y) ≡ true = and_from _ _ (ap (is_above floor) same ∙ above) (lt-ltb y m b) in
    clash (is_above floor y && is_below (Some m) y) both other)
    (λ (g : m ≤ y). let r : m ≤ z = omega arith in r)
    (cases_lt y m))

-- one that is
taken : (f : ℕ → Option ℕ) (n y : ℕ) (floor o : Option ℕ) → IsLeast f n floor o → f n ≡ Some y → (is_above floor y && is_below o y) ≡ true → IsLeast f (n + 1) floor (Some y)
taken f n y floor None l e this =
    let here : n < n + 1 = omega arith in (
      (n, here, e),
      (and_parts _ _ this).0,
      λ i z h s above. ⊎_elim
          (λ (b : i < n). absurd (l i z b s above))
          (λ (at : i ≡ n). let same : y ≡ z = some_same y z (sym e ∙ ap f (sym at) ∙ s) in let r : y ≤ z = omega arith in r)
          (last_or_before i n h),
    )
taken f n y floor (Some m) l e this =
    let here : n < n + 1 = omega arith in
    let low : y < m = ltb-true y m (and_parts (is_above floor y) (is_below (Some m) y) this).1 in (
      (n, here, e),
      (and_parts (is_above floor y) (is_below (Some m) y) this).0,
      λ i z h s above. ⊎_elim
          (λ (b : i < n). let far : m ≤ z = l.2 i z b s above in let r : y ≤ z = omega arith in r)
          (λ (at : i ≡ n). let same : y ≡ z = some_same y z (sym e ∙ ap f (sym at) ∙ s) in let r : y ≤ z = omega arith in r)
          (last_or_before i n h),
    )

pub IsLeast-more : (f : ℕ → Option ℕ) (n : ℕ) (floor o t : Option ℕ) → f n ≡ t → IsLeast f n floor o → IsLeast f (n + 1) floor (lower floor o t)
IsLeast-more f n floor o None e l = skipped f n floor o l e
IsLeast-more f n floor o (Some y) e l = by (is_above floor y && is_below o y) refl
  where
    by : (b : Bool) → (is_above floor y && is_below o y) ≡ b → IsLeast f (n + 1) floor (cond b (Some y) o)
    by true this = taken f n y floor o l e this
    by false other = passed f n y floor o l e other
