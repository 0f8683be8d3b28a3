-- Tests of two numbers, and functions changed at one.
use Rattle.std.proofs.Common.{◌≡◌, ℕ, arith, refl, ap, sym, ◌∙◌, Bool, true, false, cond, List, [], ◌∷◌, ◌++◌}
use Rattle.std.specs.Prelude.{◌==◌, ◌≢◌, Some, None}
use Rattle.std.proofs.lemmas.Bool.Decides.{nat_tests}
use Rattle.bmx_types.specs.Updates.{put, put_at}

pub eqb_is : (a b : ℕ) → (a == b) ≡ true → a ≡ b
eqb_is a b h = grind (arith, nat_tests)

pub eqb_not : (a b : ℕ) → (a == b) ≡ false → a ≢ b
eqb_not a b h e = grind (arith, nat_tests)

pub eqb_same : (a : ℕ) → (a == a) ≡ true
eqb_same a = grind (arith, nat_tests)

pub eqb_of : {a b : ℕ} → a ≡ b → (a == b) ≡ true
eqb_of {a = a} h = ap (λ (z : ℕ). a == z) (sym h) ∙ eqb_same a

pub eqb_apart : (a b : ℕ) → a ≢ b → (a == b) ≡ false
eqb_apart a b h = grind (arith, nat_tests)

-- two numbers are the same, or apart
pub data Two (a b : ℕ) : Type 0 where
  Same : a ≡ b → Two a b
  Apart : (a == b) ≡ false → a ≢ b → Two a b

pub two : (a b : ℕ) → Two a b
two a b = by_test (a == b) refl
  where
    by_test : (t : Bool) → (a == b) ≡ t → Two a b
    by_test true h = Same (eqb_is a b h)
    by_test false h = Apart h (eqb_not a b h)

pub put_same : {A : Type 0} (f : ℕ → A) (x : ℕ) (v : A) → put f x v x ≡ v
put_same f x v = ap (λ (b : Bool). cond b v (f x)) (eqb_same x)

pub put_apart : {A : Type 0} (f : ℕ → A) (x y : ℕ) (v : A) → (x == y) ≡ false → put f x v y ≡ f y
put_apart f x y v h = ap (λ (b : Bool). cond b v (f y)) h

pub put_at_row : {A : Type 0} (f : ℕ → ℕ → A) (n x m : ℕ) (v : A) → put_at f n x v n m ≡ put (f n) x v m
put_at_row f n x m v = ap (λ (b : Bool). cond b (put (f n) x v) (f n) m) (eqb_same n)

pub put_at_else : {A : Type 0} (f : ℕ → ℕ → A) (n x k m : ℕ) (v : A) → (n == k) ≡ false → put_at f n x v k m ≡ f k m
put_at_else f n x k m v h = ap (λ (b : Bool). cond b (put (f n) x v) (f k) m) h

-- a fact of each place of a function that changes at one
pub at_each : {A : Type 0} (P : A → Type 0) (f : ℕ → A) (me : ℕ) (v : A) → P v → (n : ℕ) → P (f n) → P (put f me v n)
at_each P f me v here n other = by_test (me == n)
  where
    by_test : (b : Bool) → P (cond b v (f n))
    by_test true = here
    by_test false = other

-- ## lists and options

-- each of a list
abbrev pub Every : {A : Type 0} → (A → Type 0) → List A → Type 0
Every P [] = Unit {0}
Every P (x ∷ xs) = P x × Every P xs

pub every_append : {A : Type 0} (P : A → Type 0) (a b : List A) → Every P a → Every P b → Every P (a ++ b)
every_append P [] b h k = k
every_append P (x ∷ a) b h k = (h.0, every_append P a b h.1 k)

pub some_same : {A : Type 0} {x y : A} → Some x ≡ Some y → x ≡ y
some_same e = cc

pub none_some : {A B : Type 0} {x : A} → None ≡ Some x → B
none_some e = absurd (cc)
