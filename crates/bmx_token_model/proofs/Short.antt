-- Chains are short: a walk along parents that ends passes no node twice once what lies between is left out, so that it
-- has fewer steps than there are nodes.
use Rattle.std.proofs.Common.{◌≡◌, ◌≢◌, ◌⊎◌, inl, inr, ℕ, ◌+◌, ◌≤◌, ◌<◌, zero, suc, arith, List, [], ◌∷◌, length, refl, ap, sym, subst, Bool, true, false, cond}
use Rattle.std.specs.Prelude.{◌==◌, not, Some}
use Rattle.bmx_token.specs.declared.parts.Role.TheVariants.{Parent}
use Rattle.bmx_token.specs.Nodes.{nodes_without}
use Rattle.bmx_token.specs.Transitions.{Share}
use Rattle.bmx_token_model.specs.Machine.{Object}
use Rattle.bmx_token_model.specs.Laws.{ChainEnd, Owns, Gave, Chain, Here, On, IsBelow}
use Rattle.bmx_token_model.proofs.Tallies.{Cases, Same, Apart, cases, same_true, swapped}
use Rattle.bmx_token_model.proofs.Times.{times, times_without-gone, times_without-other}

-- ## as many nodes as there are below a number

length_without : (node : ℕ) (ys : List ℕ) → length (nodes_without node ys) + times node ys ≡ length ys
length_without node [] = refl
length_without node (y ∷ ys) = by_case (cases node y) (length_without node ys)
  where
    by_case : Cases node y → length (nodes_without node ys) + times node ys ≡ length ys →
        length (cond (not (y == node)) (y ∷ nodes_without node ys) (nodes_without node ys)) + (cond (node == y) 1 0 + times node ys) ≡ length (y ∷ ys)
    by_case (Same e t) h = rw (t, swapped node y, t) (omega (arith, h))
    by_case (Apart e t) h = rw (t, swapped node y, t) (omega (arith, h))

-- nodes that are all different, and below a number
pub few : (nodes : ℕ) (xs : List ℕ) → ((x : ℕ) → times x xs ≤ 1) → ((x : ℕ) → 1 ≤ times x xs → x < nodes) → length xs ≤ nodes
few zero [] once below = omega arith
few zero (x ∷ xs) once below =
    let one : 1 ≤ times x (x ∷ xs) = rw (same_true x) (omega arith) in
    absurd (omega (arith, below x one))
few (suc nodes) xs once below = omega (arith, length_without nodes xs, once nodes, few nodes rest fewer lower)
  where
    rest : List ℕ
    rest = nodes_without nodes xs

    at : (x : ℕ) → Cases nodes x → (times x rest ≡ 0) ⊎ ((times x rest ≡ times x xs) × (x ≢ nodes))
    at x (Same e t) = inl (subst (λ (z : ℕ). times z rest ≡ 0) e (times_without-gone nodes xs))
    at x (Apart e t) = inr (times_without-other x nodes xs t, λ f. e (sym f))

    fewer : (x : ℕ) → times x rest ≤ 1
    fewer x = by_case (at x (cases nodes x))
      where
        by_case : (times x rest ≡ 0) ⊎ ((times x rest ≡ times x xs) × (x ≢ nodes)) → times x rest ≤ 1
        by_case (inl z) = omega (arith, z)
        by_case (inr z) = omega (arith, z.0, once x)

    lower : (x : ℕ) → 1 ≤ times x rest → x < nodes
    lower x h = by_case (at x (cases nodes x))
      where
        by_case : (times x rest ≡ 0) ⊎ ((times x rest ≡ times x xs) × (x ≢ nodes)) → x < nodes
        by_case (inl z) = absurd (omega (arith, z, h))
        by_case (inr z) = let most : x < suc nodes = below x (omega (arith, z.0, h)) in omega (arith, most, z.1)

-- ## walks

-- a walk along parents, with the nodes that it passes
data Walk (o : Object) : ℕ → List ℕ → Type 0 where
  Stop : {n : ℕ} → ChainEnd o n → Walk o n (n ∷ [])
  Step : {n p : ℕ} {passed : List ℕ} (h : Share) → o.holds n ≡ Some h → h.part.role ≡ Parent p → Walk o p passed → Walk o n (n ∷ passed)

-- one that passes each node once
record Simple (o : Object) (n : ℕ) : Type 0 where
  passed : List ℕ
  walk : Walk o n passed
  once : (x : ℕ) → times x passed ≤ 1

later : (x y k : ℕ) → 1 ≤ cond {A = ℕ} (x == y) 1 0 + k → x ≢ y → 1 ≤ k
later x y k h d = by_case (cases y x)
  where
    by_case : Cases y x → 1 ≤ k
    by_case (Same e t) = absurd (d (sym e))
    by_case (Apart e t) = (let rest : 1 ≤ cond {A = ℕ} false 1 0 + k = rw t at h in omega (arith, rest))

-- from a node that a walk passes on
from_there : (o : Object) (n x : ℕ) (passed : List ℕ) → Walk o n passed → ((y : ℕ) → times y passed ≤ 1) → 1 ≤ times x passed → Simple o x
from_there o n x _ (Stop e) once h = by_case (cases n x)
  where
    by_case : Cases n x → Simple o x
    by_case (Same f t) = subst (Simple o) f record { passed = n ∷ []; walk = Stop e; once = once }
    by_case (Apart f t) = absurd (omega (arith, later x n 0 h (λ g. f (sym g))))
from_there o n x _ (Step {p = p} {passed = passed} k has role rest) once h = by_case (cases n x)
    (λ some. from_there o p x passed rest (λ y. omega (arith, once y)) some)
  where
    by_case : Cases n x → (1 ≤ times x passed → Simple o x) → Simple o x
    by_case (Same f t) ih = subst (Simple o) f record { passed = n ∷ passed; walk = Step k has role rest; once = once }
    by_case (Apart f t) ih = ih (later x n (times x passed) h (λ g. f (sym g)))

simple : (o : Object) (n steps : ℕ) → Chain o n steps → Simple o n
simple o n _ (Here e) = record { passed = n ∷ []; walk = Stop e; once = λ x. one (x == n) }
  where
    one : (t : Bool) → cond {A = ℕ} t 1 0 + 0 ≤ 1
    one true = omega arith
    one false = omega arith
simple o n _ (On {parent = p} {steps = k} h has role rest) = longer (simple o p k rest)
  where
    longer : Simple o p → Simple o n
    longer s = by_number (times n s.passed) refl
      where
        fresh : times n s.passed ≡ 0 → (x : ℕ) → Cases n x → times x (n ∷ s.passed) ≤ 1
        fresh z x (Same e t) = rw t (omega (arith, subst (λ (y : ℕ). times y s.passed ≡ 0) e z))
        fresh z x (Apart e t) = rw t (omega (arith, s.once x))

        by_number : (k : ℕ) → times n s.passed ≡ k → Simple o n
        by_number zero z = record { passed = n ∷ s.passed; walk = Step h has role s.walk; once = λ x. fresh z x (cases n x) }
        by_number (suc j) z = from_there o p n s.passed s.walk s.once (omega (arith, z))

-- ## a walk has as many steps as it passes nodes, but one

walk_leads : (o : Object) (n : ℕ) (passed : List ℕ) → Walk o n passed → (steps : ℕ) × (suc steps ≡ length passed) × Chain o n steps
walk_leads o n _ (Stop e) = (0, refl, Here e)
walk_leads o n _ (Step {p = p} {passed = passed} h has role rest) =
    let x : (steps : ℕ) × (suc steps ≡ length passed) × Chain o p steps = walk_leads o p passed rest in
    (suc x.0, ap (λ (k : ℕ). suc k) x.1, On h has role x.2)

-- it passes only nodes that know the object
walk_below : (o : Object) (nodes : ℕ) → IsBelow o nodes → (n x : ℕ) (passed : List ℕ) → Walk o n passed → 1 ≤ times x passed → x < nodes
walk_below o nodes below n x _ (Stop e) h = by_case (cases n x)
  where
    known : ChainEnd o n → n < nodes
    known (Owns k has role) = below n k has
    known (Gave k to has role brought) = below n k has

    by_case : Cases n x → x < nodes
    by_case (Same f t) = subst (λ (z : ℕ). z < nodes) f (known e)
    by_case (Apart f t) = absurd (omega (arith, later x n 0 h (λ g. f (sym g))))
walk_below o nodes below n x _ (Step {p = p} {passed = passed} k has role rest) h = by_case (cases n x) (walk_below o nodes below p x passed rest)
  where
    by_case : Cases n x → (1 ≤ times x passed → x < nodes) → x < nodes
    by_case (Same f t) ih = subst (λ (z : ℕ). z < nodes) f (below n k has)
    by_case (Apart f t) ih = ih (later x n (times x passed) h (λ g. f (sym g)))

-- whoever leads somewhere leads there in fewer steps than there are nodes
pub short_leads : (o : Object) (nodes : ℕ) → IsBelow o nodes → (n steps : ℕ) → Chain o n steps → (few_steps : ℕ) × (few_steps < nodes) × Chain o n few_steps
short_leads o nodes below n steps l =
    let s : Simple o n = simple o n steps l in
    let x : (k : ℕ) × (suc k ≡ length s.passed) × Chain o n k = walk_leads o n s.passed s.walk in
    (x.0, omega (arith, x.1, few nodes s.passed s.once (λ y. walk_below o nodes below n y s.passed s.walk)), x.2)
