-- The keys of records, a name and a node, and their order.
use Rattle.std.proofs.Common.{◌≡◌, ℕ, true, false, ◌⊎◌, arith}
use Rattle.std.proofs.lemmas.Bool.Decides.{nat_tests}
use Rattle.bmx_owner.specs.declared.entering.Record.{Record}
use Rattle.bmx_owner.specs.Records.{is_of, is_ahead, is_behind}

-- a record of a key has that name and that node
pub is_of-name : (name node : ℕ) (r : Record) → is_of name node r ≡ true → (r.name ≡ name) × (r.from ≡ node)
is_of-name name node r h = grind (arith, nat_tests)

-- a record is of its own key
pub is_of-itself : (r : Record) → is_of r.name r.from r ≡ true
is_of-itself r = grind (arith, nat_tests)

-- one key stands before the other, behind it, or is it
pub key_cases : (name node : ℕ) (r : Record) → (is_ahead name node r ≡ true) ⊎ ((is_of name node r ≡ true) ⊎ (is_behind name node r ≡ true))
key_cases name node r = grind (arith, nat_tests)

-- a record of the key stands neither before it nor behind it
pub is_ahead-of : (name node : ℕ) (r : Record) → is_of name node r ≡ true → is_ahead name node r ≡ false
is_ahead-of name node r h = grind (arith, nat_tests)

pub is_behind-of : (name node : ℕ) (r : Record) → is_of name node r ≡ true → is_behind name node r ≡ false
is_behind-of name node r h = grind (arith, nat_tests)

pub is_of-ahead : (name node : ℕ) (r : Record) → is_ahead name node r ≡ true → is_of name node r ≡ false
is_of-ahead name node r h = grind (arith, nat_tests)

pub is_of-behind : (name node : ℕ) (r : Record) → is_behind name node r ≡ true → is_of name node r ≡ false
is_of-behind name node r h = grind (arith, nat_tests)

pub is_ahead-behind : (name node : ℕ) (r : Record) → is_behind name node r ≡ true → is_ahead name node r ≡ false
is_ahead-behind name node r h = grind (arith, nat_tests)

pub is_behind-ahead : (name node : ℕ) (r : Record) → is_ahead name node r ≡ true → is_behind name node r ≡ false
is_behind-ahead name node r h = grind (arith, nat_tests)

-- a record before another that stands before the key, or is of it, stands before the key
pub is_ahead-trans : (name node : ℕ) (r s : Record) → is_ahead s.name s.from r ≡ true → is_ahead name node s ≡ true → is_ahead name node r ≡ true
is_ahead-trans name node r s h k = grind (arith, nat_tests)

pub is_ahead-before_of : (name node : ℕ) (r s : Record) → is_ahead s.name s.from r ≡ true → is_of name node s ≡ true → is_ahead name node r ≡ true
is_ahead-before_of name node r s h k = grind (arith, nat_tests)

-- a record behind another that stands behind the key, or is of it, stands behind the key
pub is_behind-trans : (name node : ℕ) (r s : Record) → is_ahead s.name s.from r ≡ true → is_behind name node r ≡ true → is_behind name node s ≡ true
is_behind-trans name node r s h k = grind (arith, nat_tests)

pub is_behind-after_of : (name node : ℕ) (r s : Record) → is_ahead s.name s.from r ≡ true → is_of name node r ≡ true → is_behind name node s ≡ true
is_behind-after_of name node r s h k = grind (arith, nat_tests)

-- what is of the key, beside a record that stands before the key
pub is_ahead-crossed : (name node : ℕ) (r x : Record) → is_ahead name node r ≡ true → is_of name node x ≡ true → is_ahead r.name r.from x ≡ false
is_ahead-crossed name node r x h k = grind (arith, nat_tests)

pub is_behind-crossed : (name node : ℕ) (r x : Record) → is_ahead name node r ≡ true → is_of name node x ≡ true → is_behind r.name r.from x ≡ true
is_behind-crossed name node r x h k = grind (arith, nat_tests)

-- and beside one that stands behind the key
pub is_ahead-turned : (name node : ℕ) (r x : Record) → is_behind name node r ≡ true → is_of name node x ≡ true → is_ahead r.name r.from x ≡ true
is_ahead-turned name node r x h k = grind (arith, nat_tests)

pub is_behind-turned : (name node : ℕ) (r x : Record) → is_behind name node r ≡ true → is_of name node x ≡ true → is_behind r.name r.from x ≡ false
is_behind-turned name node r x h k = grind (arith, nat_tests)

-- a record behind another isn't of its key
pub is_of-later : (name node : ℕ) (r s : Record) → is_ahead s.name s.from r ≡ true → is_of name node r ≡ true → is_of name node s ≡ false
is_of-later name node r s h k = grind (arith, nat_tests)
