-- An object at the start of bytes.
use Rattle.std.proofs.Common.{◌≡◌, ℕ, ◌^◌, ◌<◌, ◌≤◌, ◌⊎◌, false, ltb, List, [], ◌∷◌, ◌++◌, length, max, None, refl, sym, ap, ◌∙◌, arith, inl, inr}
use Rattle.std.specs.Prelude.{IsTrue}
use Rattle.std.specs.List.{flat_map}
use Rattle.std.proofs.lemmas.Bool.{le-ltb}
use Rattle.bmx_image.specs.declared.faults.Fault.{Fault}
use Rattle.bmx_image.specs.declared.images.ImageField.{ImageField}
use Rattle.bmx_image.specs.declared.images.ImageObject.{ImageObject}
use Rattle.bmx_image.specs.Spelling.{field_bytes, object_bytes}
use Rattle.bmx_image.specs.Images.{EachFits, FitsBehind, ObjectFits, StandsBehind, is_size, top_of, top_of_fields}
use Rattle.bmx_image.specs.Faults.{size_fault, field_fault, IsObjectFault}
use Rattle.bmx_image.proofs.OnePrefix.{AreSpelled, one_prefix}
use Rattle.bmx_image.proofs.FieldBytes.{head, tail, WrongField, fields_are_spelled}

-- two lists of fields of one object that spell the start of the same bytes
one_list : (count top n : ℕ) (xs ys : List ImageField) (r s : List ℕ) → count < 2 ^ 32 → EachFits (FitsBehind count top) [] xs → EachFits (FitsBehind count top) [] ys
    → (length xs ≡ n) ⊎ ((length xs < n) × WrongField count top xs r) → (length ys ≡ n) ⊎ ((length ys < n) × WrongField count top ys s)
    → flat_map field_bytes xs ++ r ≡ flat_map field_bytes ys ++ s → (xs ≡ ys) × (r ≡ s)
one_list count top n xs ys r s few fx fy ex ey e =
    one_prefix field_bytes (FitsBehind count top) (WrongField count top) n (fields_are_spelled count top few) [] xs ys r s fx fy ex ey e

object_one : (count index top : ℕ) (x y : ImageObject) (r s : List ℕ) → count < 2 ^ 32 → ObjectFits count index top x → ObjectFits count index top y → object_bytes x ++ r ≡ object_bytes y ++ s → (x ≡ y) × (r ≡ s)
object_one count index top x y r s few fx fy e =
    let sizes : length x.fields ≡ length y.fields = head _ _ _ _ e in
    let both = one_list count top (length x.fields) x.fields y.fields r s few fx.fields fy.fields (inl refl) (inl (sym sizes)) (tail _ _ _ _ e) in
    (ap (λ (fields : List ImageField). record { fields = fields }) both.0, both.1)

pub size_right : (index top size : ℕ) (rest : List ℕ) → index ≤ top → IsTrue (is_size index size) → size_fault index top (size ∷ rest) ≡ None
size_right index top size rest le sized =
    let there : ltb top index ≡ false = le-ltb _ _ le in
    rw (there, sized) refl

object_right : (count index top : ℕ) (x : ImageObject) (r : List ℕ) (f : Fault) → count < 2 ^ 32 → ObjectFits count index top x → IsObjectFault count index top (object_bytes x ++ r) f → ⊥
object_right count index top x r f few fit (inl wrong) =
    let none = size_right index top (length x.fields) (flat_map field_bytes x.fields ++ r) fit.mentioned fit.sized in
    absurd (cc (none, wrong))
object_right count index top x r f few fit (inr wrong) =
    let sizes : length x.fields ≡ wrong.size = head _ _ _ _ wrong.parts in
    let fewer : length wrong.fields < length x.fields = omega (arith, sizes, wrong.fewer) in
    let both = one_list count top (length x.fields) x.fields wrong.fields r wrong.rest few fit.fields wrong.fit (inl refl) (inr (fewer, (f, wrong.wrong))) (tail _ _ _ _ wrong.parts) in
    let same : length x.fields ≡ length wrong.fields = ap length both.0 in
    absurd (omega arith)

pub object_fault_one : (count index top : ℕ) (bytes : List ℕ) (f g : Fault) → count < 2 ^ 32 → IsObjectFault count index top bytes f → IsObjectFault count index top bytes g → f ≡ g
object_fault_one count index top bytes f g few (inl x) (inl y) = cc (x, y)
object_fault_one count index top bytes f g few (inl x) (inr y) = absurd (cc (x, y.sized))
object_fault_one count index top bytes f g few (inr x) (inl y) = absurd (cc (y, x.sized))
object_fault_one count index top bytes f g few (inr x) (inr y) =
    let e : x.size ∷ (flat_map field_bytes x.fields ++ x.rest) ≡ y.size ∷ (flat_map field_bytes y.fields ++ y.rest) = sym x.parts ∙ y.parts in
    let sizes : x.size ≡ y.size = head _ _ _ _ e in
    let fewer : length y.fields < x.size = omega (arith, sizes, y.fewer) in
    let both = one_list count top x.size x.fields y.fields x.rest y.rest few x.fit y.fit (inr (x.fewer, (f, x.wrong))) (inr (fewer, (g, y.wrong))) (tail _ _ _ _ e) in
    let there : field_fault count (max top (top_of_fields x.fields)) x.rest ≡ field_fault count (max top (top_of_fields y.fields)) y.rest =
    ap (λ (fields : List ImageField). field_fault count (max top (top_of_fields fields)) x.rest) both.0 ∙ ap (field_fault count (max top (top_of_fields y.fields))) both.1 in
    cc (there, x.wrong, y.wrong)

-- what is wrong with the object behind these
abbrev pub WrongObject : ℕ → List ImageObject → List ℕ → Type 0
WrongObject count before rest = (f : Fault) × IsObjectFault count (length before) (top_of before) rest f

pub objects_are_spelled : (count : ℕ) → count < 2 ^ 32 → AreSpelled ImageObject object_bytes (StandsBehind count) (WrongObject count)
objects_are_spelled count few = record {
  one = λ before x y r s fx fy e. object_one count (length before) (top_of before) x y r s few fx fy e;
  right = λ before x r fit wrong. object_right count (length before) (top_of before) x r wrong.0 few fit wrong.1;
}
