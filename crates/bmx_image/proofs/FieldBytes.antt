-- A number, and a field, at the start of bytes.
use Rattle.std.proofs.Common.{◌≡◌, ℕ, suc, ◌+◌, ◌^◌, ◌<◌, Bool, false, cond, ltb, leb, List, ◌∷◌, ◌++◌, length, drop, max, Some, None, refl, sym, ap, ◌∙◌, arith}
use Rattle.std.specs.Int.{w64, cast_unsigned, cast_signed}
use Rattle.std.specs.Prelude.{ℤ, pos, negsuc, FitsSigned}
use Rattle.std.proofs.lemmas.Bool.{le-ltb, lt-leb}
use Rattle.std.proofs.lemmas.Int.{to_z-of_z}
use Rattle.std.proofs.lemmas.List.{drop_at, length-append}
use Rattle.byteorder.specs.Endian.{big_number, big_bytes}
use Rattle.byteorder.specs.Numbers.{big_number-reads_back, length-bytes_high_first}
use Rattle.bmx_image.specs.declared.faults.Fault.{Fault}
use Rattle.bmx_image.specs.declared.images.ImageField.{ImageField}
use Rattle.bmx_image.specs.declared.images.ImageField.TheVariants as field
use Rattle.bmx_image.specs.Spelling.{field_bytes}
use Rattle.bmx_image.specs.Images.{FieldFits, FitsBehind, top_of_fields}
use Rattle.bmx_image.specs.Faults.{field_fault}
use Rattle.bmx_image.proofs.OnePrefix.{AreSpelled}

pub one_number : (n a b : ℕ) (r s : List ℕ) → a < 256 ^ n → b < 256 ^ n → big_bytes n a ++ r ≡ big_bytes n b ++ s → (a ≡ b) × (r ≡ s)
one_number n a b r s fa fb e = (
  sym (big_number-reads_back n a r fa) ∙ ap (big_number n) e ∙ big_number-reads_back n b s fb,
  sym (drop_at (big_bytes n a) r n (length-bytes_high_first n a)) ∙ ap (drop n) e ∙ drop_at (big_bytes n b) s n (length-bytes_high_first n b),
)

pub head : (a b : ℕ) (xs ys : List ℕ) → a ∷ xs ≡ b ∷ ys → a ≡ b
head a b xs ys e = cc

pub tail : (a b : ℕ) (xs ys : List ℕ) → a ∷ xs ≡ b ∷ ys → xs ≡ ys
tail a b xs ys e = cc

bits_below : (k : ℤ) → FitsSigned w64 k → cast_unsigned w64 k < 256 ^ 8
bits_below (pos n) fits = let lt = fits.sfits in omega arith
bits_below (negsuc n) fits = omega arith

-- a number is told from its bits
one_integer : (j k : ℤ) → FitsSigned w64 j → FitsSigned w64 k → cast_unsigned w64 j ≡ cast_unsigned w64 k → j ≡ k
one_integer j k fj fk e = sym (to_z-of_z w64 j fj) ∙ ap (cast_signed w64) e ∙ to_z-of_z w64 k fk

pub field_one : (count top : ℕ) (x y : ImageField) (r s : List ℕ) → count < 2 ^ 32 → FieldFits count top x → FieldFits count top y → field_bytes x ++ r ≡ field_bytes y ++ s → (x ≡ y) × (r ≡ s)
field_one count top field.Null field.Null r s few fx fy e = (refl, tail _ _ _ _ e)
field_one count top field.Null (field.Int k) r s few fx fy e = absurd (omega (arith, head _ _ _ _ e))
field_one count top field.Null (field.Ref i) r s few fx fy e = absurd (omega (arith, head _ _ _ _ e))
field_one count top (field.Int j) field.Null r s few fx fy e = absurd (omega (arith, head _ _ _ _ e))
field_one count top (field.Int j) (field.Int k) r s few fx fy e =
    let both = one_number 8 (cast_unsigned w64 j) (cast_unsigned w64 k) r s (bits_below j fx) (bits_below k fy) (tail _ _ _ _ e) in
    (ap field.Int (one_integer j k fx fy both.0), both.1)
field_one count top (field.Int j) (field.Ref i) r s few fx fy e = absurd (omega (arith, head _ _ _ _ e))
field_one count top (field.Ref i) field.Null r s few fx fy e = absurd (omega (arith, head _ _ _ _ e))
field_one count top (field.Ref i) (field.Int k) r s few fx fy e = absurd (omega (arith, head _ _ _ _ e))
field_one count top (field.Ref i) (field.Ref j) r s few fx fy e =
    let both = one_number 4 i j r s (omega (arith, fx.0)) (omega (arith, fy.0)) (tail _ _ _ _ e) in
    (ap field.Ref both.0, both.1)

-- a test that fails, and then another one, and then a third
none_of : (a b c : Bool) (x y z : Fault) → a ≡ false → b ≡ false → c ≡ false → cond a (Some x) (cond b (Some y) (cond c (Some z) None)) ≡ None
none_of a b c x y z ea eb ec = rw (ea, eb, ec) refl

pub field_right : (count top : ℕ) (x : ImageField) (r : List ℕ) → count < 2 ^ 32 → FieldFits count top x → field_fault count top (field_bytes x ++ r) ≡ None
field_right count top field.Null r few fit = refl
field_right count top (field.Int k) r few fit =
    let long : ltb (suc (suc (suc (suc (suc (suc (suc (suc (length r))))))))) 8 ≡ false = le-ltb _ _ (omega arith) in
    rw long refl
field_right count top (field.Ref i) r few fit =
    let number : big_number 4 (big_bytes 4 i ++ r) ≡ i = big_number-reads_back 4 i r (omega (arith, fit.0)) in
    let long : ltb (length (big_bytes 4 i ++ r)) 4 ≡ false = le-ltb _ _ (omega (arith, length-append (big_bytes 4 i) r, length-bytes_high_first 4 i)) in
    let there : leb count (big_number 4 (big_bytes 4 i ++ r)) ≡ false = lt-leb _ _ (omega (arith, number, fit.0)) in
    let near : ltb (top + 1) (big_number 4 (big_bytes 4 i ++ r)) ≡ false = le-ltb _ _ (omega (arith, number, fit.1)) in
    none_of _ _ _ _ _ _ long there near

-- what is wrong with the field behind these
abbrev pub WrongField : ℕ → ℕ → List ImageField → List ℕ → Type 0
WrongField count top before rest = (f : Fault) × (field_fault count (max top (top_of_fields before)) rest ≡ Some f)

pub fields_are_spelled : (count top : ℕ) → count < 2 ^ 32 → AreSpelled ImageField field_bytes (FitsBehind count top) (WrongField count top)
fields_are_spelled count top few = record {
  one = λ before x y r s fx fy e. field_one count (max top (top_of_fields before)) x y r s few fx fy e;
  right = λ before x r fit wrong. let none = field_right count (max top (top_of_fields before)) x r few fit in absurd (cc (none, wrong.1));
}
