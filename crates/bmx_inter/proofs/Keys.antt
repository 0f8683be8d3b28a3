-- Pairs and their order.
use Rattle.std.proofs.Common.{◌≡◌, true, false, ◌⊎◌, arith}
use Rattle.std.proofs.lemmas.Bool.Decides.{nat_tests}
use Rattle.bmx_types.specs.declared.names.Pair.{Pair}
use Rattle.bmx_inter.specs.Order.{is_same, is_ahead}

-- pairs that are one by their numbers are one
same_source : (p q : Pair) → is_same p q ≡ true → p.source ≡ q.source
same_source p q h = grind (arith, nat_tests)

same_target : (p q : Pair) → is_same p q ≡ true → p.target ≡ q.target
same_target p q h = grind (arith, nat_tests)

pub is_same-true : (p q : Pair) → is_same p q ≡ true → p ≡ q
is_same-true p q h = λ i. record { source = same_source p q h i; target = same_target p q h i }

pub is_same-itself : (p : Pair) → is_same p p ≡ true
is_same-itself p = grind (arith, nat_tests)

-- one stands before the other, behind it, or is it
pub key_cases : (p q : Pair) → (is_ahead p q ≡ true) ⊎ ((is_same p q ≡ true) ⊎ (is_ahead q p ≡ true))
key_cases p q = grind (arith, nat_tests)

-- and only one of these
pub is_ahead-of : (p q : Pair) → is_same p q ≡ true → is_ahead p q ≡ false
is_ahead-of p q h = grind (arith, nat_tests)

pub is_behind-of : (p q : Pair) → is_same p q ≡ true → is_ahead q p ≡ false
is_behind-of p q h = grind (arith, nat_tests)

pub is_same-ahead : (p q : Pair) → is_ahead p q ≡ true → is_same p q ≡ false
is_same-ahead p q h = grind (arith, nat_tests)

pub is_same-behind : (p q : Pair) → is_ahead q p ≡ true → is_same p q ≡ false
is_same-behind p q h = grind (arith, nat_tests)

pub is_behind-ahead : (p q : Pair) → is_ahead p q ≡ true → is_ahead q p ≡ false
is_behind-ahead p q h = grind (arith, nat_tests)

pub is_ahead-trans : (p q r : Pair) → is_ahead p q ≡ true → is_ahead q r ≡ true → is_ahead p r ≡ true
is_ahead-trans p q r h k = grind (arith, nat_tests)

-- what stands before one that is a third, and what stands behind one
pub is_ahead-before_same : (p q r : Pair) → is_ahead p q ≡ true → is_same q r ≡ true → is_ahead p r ≡ true
is_ahead-before_same p q r h k = grind (arith, nat_tests)

pub is_behind-after_same : (p q r : Pair) → is_ahead p q ≡ true → is_same p r ≡ true → is_ahead r q ≡ true
is_behind-after_same p q r h k = grind (arith, nat_tests)

-- a pair that is a third, beside one that stands before the third
pub is_ahead-crossed : (p q r : Pair) → is_ahead r q ≡ true → is_same p q ≡ true → is_ahead p r ≡ false
is_ahead-crossed p q r h k = grind (arith, nat_tests)

pub is_behind-crossed : (p q r : Pair) → is_ahead r q ≡ true → is_same p q ≡ true → is_ahead r p ≡ true
is_behind-crossed p q r h k = grind (arith, nat_tests)

-- and beside one that stands behind it
pub is_ahead-turned : (p q r : Pair) → is_ahead q r ≡ true → is_same p q ≡ true → is_ahead p r ≡ true
is_ahead-turned p q r h k = grind (arith, nat_tests)

pub is_behind-turned : (p q r : Pair) → is_ahead q r ≡ true → is_same p q ≡ true → is_ahead r p ≡ false
is_behind-turned p q r h k = grind (arith, nat_tests)
