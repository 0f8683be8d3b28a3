-- Lemmas on rising lists of nodes.
use Rattle.std.proofs.Common.{◌≡◌, ◌≢◌, ℕ, suc, ◌+◌, ◌<◌, ◌≤◌, inl, inr, Bool, zero, List, [], ◌∷◌, length, refl, ap, arith, sym, cond, true, false, ◌∙◌}
use Rattle.std.specs.Prelude.{slice_get, Some, nat_lt, ◌==◌, not, take_while, insert, remove}
use Rattle.std.proofs.lemmas.Bool.Decides.{nat_tests}
use Rattle.std.proofs.lemmas.Bool.{cases_lt}
use Rattle.std.proofs.lemmas.List.Sums.{take_while-cons}
use Rattle.std.proofs.lemmas.Grind.{common_steps}
use Rattle.bmx_token.specs.Nodes.{nodes_with, nodes_without}

pub lt_true : (a b : ℕ) → a < b → nat_lt a b ≡ true
lt_true a b h = grind (arith, nat_tests)

pub lt_false : (a b : ℕ) → b ≤ a → nat_lt a b ≡ false
lt_false a b h = grind (arith, nat_tests)

pub eq_true : (a b : ℕ) → a ≡ b → (a == b) ≡ true
eq_true a b h = grind (arith, nat_tests)

pub eq_false : (a b : ℕ) → a ≢ b → (a == b) ≡ false
eq_false a b h = grind (arith, nat_tests)

-- how many nodes stand before the place of a node
abbrev pub place : ℕ → List ℕ → ℕ
place node [] = 0
place node (x ∷ xs) = cond (nat_lt x node) (suc (place node xs)) 0

suc_of_cond : (b : Bool) (x : ℕ) (xs : List ℕ) → length (cond b (x ∷ xs) []) ≡ cond b (suc (length xs)) 0
suc_of_cond b x xs = elim b as (λ b. length (cond b (x ∷ xs) []) ≡ cond b (suc (length xs)) 0) [ true ↦ refl | false ↦ refl ]

pub length-take_while : (node : ℕ) (xs : List ℕ) → length (take_while (λ n. nat_lt n node) xs) ≡ place node xs
length-take_while node [] = refl
length-take_while node (x ∷ xs) =
    ap length (take_while-cons (λ n. nat_lt n node) x xs)
    ∙ suc_of_cond (nat_lt x node) x (take_while (λ n. nat_lt n node) xs)
    ∙ ap (λ k. cond (nat_lt x node) (suc k) 0) (length-take_while node xs)

pub place-bound : (node : ℕ) (xs : List ℕ) → place node xs ≤ length xs
place-bound node [] = omega arith
place-bound node (x ∷ xs) = bound_step (nat_lt x node) (place node xs) (length xs) (place-bound node xs)
  where
    bound_step : (b : Bool) (k n : ℕ) → k ≤ n → cond b (suc k) 0 ≤ suc n
    bound_step b k n h = elim b as (λ b. cond b (suc k) 0 ≤ suc n) [ true ↦ omega arith | false ↦ omega arith ]

-- a node that stands at its place
there_later : (node x k : ℕ) (xs ws : List ℕ) → (slice_get xs k ≡ Some node → ws ≡ xs) → x < node →
    slice_get (x ∷ xs) (cond (nat_lt x node) (suc k) 0) ≡ Some node →
    cond (node == x) (x ∷ xs) (cond (nat_lt node x) (node ∷ x ∷ xs) (x ∷ ws)) ≡ x ∷ xs
there_later node x k xs ws rest h e =
    let t : nat_lt x node ≡ true = lt_true x node h in
    let ne : (node == x) ≡ false = eq_false node x (λ q. absurd (omega arith)) in
    let f : nat_lt node x ≡ false = lt_false node x (omega arith) in
    rw (ne, f) (ap (λ (l : List ℕ). x ∷ l) (rest (rw t at e)))

there_here : (node x k : ℕ) (xs ws : List ℕ) → node ≤ x →
    slice_get (x ∷ xs) (cond (nat_lt x node) (suc k) 0) ≡ Some node →
    cond (node == x) (x ∷ xs) (cond (nat_lt node x) (node ∷ x ∷ xs) (x ∷ ws)) ≡ x ∷ xs
there_here node x k xs ws h e =
    let f : nat_lt x node ≡ false = lt_false x node h in
    let at : Some x ≡ Some node = rw f at e in
    let same : node ≡ x = cc in
    rw (eq_true node x same) refl

pub nodes_with-there : (node : ℕ) (xs : List ℕ) → slice_get xs (place node xs) ≡ Some node → nodes_with node xs ≡ xs
nodes_with-there node [] e = cc
nodes_with-there node (x ∷ xs) e =
    elim (cases_lt x node) [
      | inl h ↦ there_later node x (place node xs) xs (nodes_with node xs) (nodes_with-there node xs) h e
      | inr h ↦ there_here node x (place node xs) xs (nodes_with node xs) h e
    ]

-- a node that doesn't
new_later : (node x k : ℕ) (xs ws : List ℕ) → (slice_get xs k ≢ Some node → ws ≡ insert xs k node) → x < node →
    slice_get (x ∷ xs) (cond (nat_lt x node) (suc k) 0) ≢ Some node →
    cond (node == x) (x ∷ xs) (cond (nat_lt node x) (node ∷ x ∷ xs) (x ∷ ws))
    ≡ insert (x ∷ xs) (cond (nat_lt x node) (suc k) 0) node
new_later node x k xs ws rest h apart =
    let t : nat_lt x node ≡ true = lt_true x node h in
    let ne : (node == x) ≡ false = eq_false node x (λ q. absurd (omega arith)) in
    let f : nat_lt node x ≡ false = lt_false node x (omega arith) in
    rw (ne, f, t) (ap (λ (l : List ℕ). x ∷ l) (rest (rw t at apart)))

new_here : (node x k : ℕ) (xs ws : List ℕ) → node ≤ x →
    slice_get (x ∷ xs) (cond (nat_lt x node) (suc k) 0) ≢ Some node →
    cond (node == x) (x ∷ xs) (cond (nat_lt node x) (node ∷ x ∷ xs) (x ∷ ws))
    ≡ insert (x ∷ xs) (cond (nat_lt x node) (suc k) 0) node
new_here node x k xs ws h apart =
    let f : nat_lt x node ≡ false = lt_false x node h in
    let other : Some x ≢ Some node = rw f at apart in
    let ne : node ≢ x = λ q. other (ap (λ (n : ℕ). Some n) (sym q)) in
    let first : nat_lt node x ≡ true = lt_true node x (omega arith) in
    rw (eq_false node x ne, first, f) refl

pub nodes_with-new : (node : ℕ) (xs : List ℕ) → slice_get xs (place node xs) ≢ Some node → nodes_with node xs ≡ insert xs (place node xs) node
nodes_with-new node [] apart = refl
nodes_with-new node (x ∷ xs) apart =
    elim (cases_lt x node) [
      | inl h ↦ new_later node x (place node xs) xs (nodes_with node xs) (nodes_with-new node xs) h apart
      | inr h ↦ new_here node x (place node xs) xs (nodes_with node xs) h apart
    ]

-- taking a node out, one place after another
pub nodes_without-remove : (node : ℕ) (xs : List ℕ) (i : ℕ) → slice_get xs i ≡ Some node → nodes_without node (remove xs i) ≡ nodes_without node xs
nodes_without-remove node [] i e = cc
nodes_without-remove node (x ∷ xs) zero e =
    let same : x ≡ node = cc in
    rw (eq_true x node same) refl
nodes_without-remove node (x ∷ xs) (suc i) e =
    ap (λ (l : List ℕ). cond (not (x == node)) (x ∷ l) l) (nodes_without-remove node xs i e)

pub slice_get-remove_before : (xs : List ℕ) (i k : ℕ) → k < i → slice_get (remove xs i) k ≡ slice_get xs k
slice_get-remove_before xs zero k h = absurd (omega arith)
slice_get-remove_before [] (suc i) k h = refl
slice_get-remove_before (x ∷ xs) (suc i) zero h = refl
slice_get-remove_before (x ∷ xs) (suc i) (suc k) h = slice_get-remove_before xs i k (omega arith)

pub nodes_without-none : (node : ℕ) (xs : List ℕ) → ((k : ℕ) → k < length xs → slice_get xs k ≢ Some node) → nodes_without node xs ≡ xs
nodes_without-none node [] none = refl
nodes_without-none node (x ∷ xs) none =
    let ne : x ≢ node = λ q. none 0 (omega arith) (ap (λ (n : ℕ). Some n) q) in
    rw (eq_false x node ne) (ap (λ (l : List ℕ). x ∷ l) (nodes_without-none node xs (λ k h. none (suc k) (omega arith))))

-- the two outcomes of looking at the place
pub at_its_place : (node : ℕ) (xs : List ℕ) (k x : ℕ) → k ≡ length (take_while (λ n. nat_lt n node) xs) →
    slice_get xs k ≡ Some x → x ≡ node → nodes_with node xs ≡ xs
at_its_place node xs k x is here same =
    let at : place node xs ≡ k = sym (length-take_while node xs) ∙ sym is in
    nodes_with-there node xs (rw (at, ← same) here)

pub not_at_its_place : (node : ℕ) (xs : List ℕ) (k : ℕ) → k ≡ length (take_while (λ n. nat_lt n node) xs) →
    slice_get xs k ≢ Some node → nodes_with node xs ≡ insert xs k node
not_at_its_place node xs k is apart =
    let at : place node xs ≡ k = sym (length-take_while node xs) ∙ sym is in
    let new : slice_get xs (place node xs) ≢ Some node = rw at apart in
    rw (nodes_with-new node xs new, at) refl

pub within_place : (node : ℕ) (xs : List ℕ) (k : ℕ) → k ≡ length (take_while (λ n. nat_lt n node) xs) → k ≤ length xs
within_place node xs k is = rw (is, length-take_while node xs) (place-bound node xs)

pub length-remove : (xs : List ℕ) (i : ℕ) → i < length xs → length (remove xs i) + 1 ≡ length xs
length-remove xs i h = grind (arith, common_steps)
