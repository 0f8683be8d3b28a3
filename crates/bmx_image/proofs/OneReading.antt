-- Bytes have one reading.
use Rattle.std.proofs.Common.{◌≡◌, ℕ, ◌^◌, ◌<◌, ◌≤◌, Bool, true, false, cond, eqb, ltb, leb, List, [], ◌++◌, length, drop, Option, Some, None, Ok, Err, refl, sym, ap, subst, ◌∙◌, append_assoc, arith, inl, inr}
use Rattle.std.specs.Prelude.{IsTrue, ◌&&◌}
use Rattle.std.specs.List.{flat_map}
use Rattle.std.proofs.lemmas.Bool.{eq-eqb, le-ltb, ltb-true, leb-true}
use Rattle.std.proofs.lemmas.List.{append-nil, length-append}
use Rattle.byteorder.specs.Endian.{big_number, big_bytes}
use Rattle.byteorder.specs.Numbers.{big_number-reads_back, length-bytes_high_first}
use Rattle.bmx_image.specs.declared.faults.Fault.{Fault}
use Rattle.bmx_image.specs.declared.faults.ImageCause.TheVariants as cause
use Rattle.bmx_image.specs.declared.images.ImageObject.{ImageObject}
use Rattle.bmx_image.specs.Spelling.{head_bytes, object_bytes, image_bytes}
use Rattle.bmx_image.specs.Images.{EachFits, StandsBehind, IsImage, is_count, top_of}
use Rattle.bmx_image.specs.Faults.{head_fault, first_fault, version_fault, count_fault, HasObjectFault, IsObjectFault, Trails, IsFault, told_of, at, short}
use Rattle.bmx_image.specs.Laws.{ReadingIsDetermined, ImageIsReadAgain, ImageHasOneSpelling}
use Rattle.bmx_image.proofs.OnePrefix.{Ends, one_prefix}
use Rattle.bmx_image.proofs.FieldBytes.{one_number}
use Rattle.bmx_image.proofs.Objects.{WrongObject, object_fault_one, objects_are_spelled}

and_true : (a b : Bool) → (a && b) ≡ true → (a ≡ true) × (b ≡ true)
and_true true b e = (refl, e)
and_true false b e = absurd cc

pub counted : (count : ℕ) → IsTrue (is_count count) → (0 < count) × (count ≤ 20000)
counted count h = let both = and_true (ltb 0 count) (leb count 20000) h in (ltb-true _ _ both.0, leb-true _ _ both.1)

few : (count : ℕ) → IsTrue (is_count count) → count < 2 ^ 32
few count h = let both = counted count h in omega (arith, both.1)

-- two tests in a row, the second of which passes
passed : (a b : Bool) (x y : Fault) → a ≡ false → b ≡ true → cond a (Some x) (cond b None (Some y)) ≡ None
passed a b x y ea eb = rw (ea, eb) refl

version_right : (rest : List ℕ) → version_fault (big_bytes 2 1 ++ rest) ≡ None
version_right rest =
    let long : ltb (length (big_bytes 2 1 ++ rest)) 2 ≡ false = le-ltb _ _ (omega (arith, length-append (big_bytes 2 1) rest, length-bytes_high_first 2 1)) in
    let number : eqb (big_number 2 (big_bytes 2 1 ++ rest)) 1 ≡ true = eq-eqb _ _ (big_number-reads_back 2 1 rest (omega arith)) in
    passed _ _ short (at cause.Magic (big_bytes 2 1 ++ rest)) long number

count_right : (count : ℕ) (rest : List ℕ) → IsTrue (is_count count) → count_fault (big_bytes 4 count ++ rest) ≡ None
count_right count rest h =
    let long : ltb (length (big_bytes 4 count ++ rest)) 4 ≡ false = le-ltb _ _ (omega (arith, length-append (big_bytes 4 count) rest, length-bytes_high_first 4 count)) in
    let number : big_number 4 (big_bytes 4 count ++ rest) ≡ count = big_number-reads_back 4 count rest (few count h) in
    passed _ _ _ _ long (ap is_count number ∙ h)

-- what stands before the objects is right
head_right : (count : ℕ) (rest : List ℕ) → IsTrue (is_count count) → head_fault (head_bytes count ++ rest) ≡ None
head_right count rest h =
    ap (λ (f : Option Fault). first_fault f (count_fault (big_bytes 4 count ++ rest))) (version_right (big_bytes 4 count ++ rest)) ∙ count_right count rest h

-- objects that fit, and what is behind them
record Front (bytes : List ℕ) : Type 0 where
  count : ℕ
  objects : List ImageObject
  rest : List ℕ
  parts : bytes ≡ head_bytes count ++ (flat_map object_bytes objects ++ rest)
  counted : IsTrue (is_count count)
  fit : EachFits (StandsBehind count) [] objects
  ends : Ends count (WrongObject count) objects rest

one_prefix_of : (bytes : List ℕ) (a b : Front bytes) → (a.count ≡ b.count) × (a.objects ≡ b.objects) × (a.rest ≡ b.rest)
one_prefix_of bytes a b =
    let e : head_bytes a.count ++ (flat_map object_bytes a.objects ++ a.rest) ≡ head_bytes b.count ++ (flat_map object_bytes b.objects ++ b.rest) = sym a.parts ∙ b.parts in
    let first = one_number 4 a.count b.count (flat_map object_bytes a.objects ++ a.rest) (flat_map object_bytes b.objects ++ b.rest) (few a.count a.counted) (few b.count b.counted) (ap (drop 6) e) in
    let fit_b : EachFits (StandsBehind a.count) [] b.objects = subst (λ (n : ℕ). EachFits (StandsBehind n) [] b.objects) (sym first.0) b.fit in
    let ends_b : Ends a.count (WrongObject a.count) b.objects b.rest = subst (λ (n : ℕ). Ends n (WrongObject n) b.objects b.rest) (sym first.0) b.ends in
    let both = one_prefix object_bytes (StandsBehind a.count) (WrongObject a.count) a.count (objects_are_spelled a.count (few a.count a.counted)) [] a.objects b.objects a.rest b.rest a.fit fit_b a.ends ends_b first.1 in
    (first.0, both.0, both.1)

abbrev of_image : (bytes : List ℕ) (objects : List ImageObject) (rest : List ℕ) → IsImage objects → bytes ≡ image_bytes objects ++ rest → Front bytes
of_image bytes objects rest image parts = record {
  count = length objects;
  objects = objects;
  rest = rest;
  parts = parts ∙ append_assoc (head_bytes (length objects)) (flat_map object_bytes objects) rest;
  counted = image.counted;
  fit = image.fit;
  ends = inl refl;
}

abbrev of_fault : (bytes : List ℕ) (f : Fault) → HasObjectFault bytes f → Front bytes
of_fault bytes f h = record { count = h.count; objects = h.objects; rest = h.rest; parts = h.parts; counted = h.counted; fit = h.fit; ends = inr (h.fewer, (f, h.wrong)) }

headed : (bytes : List ℕ) (f : Fault) → Front bytes → head_fault bytes ≡ Some f → ⊥
headed bytes f a wrong =
    let none : head_fault bytes ≡ None = ap head_fault a.parts ∙ head_right a.count (flat_map object_bytes a.objects ++ a.rest) a.counted in
    absurd (cc (none, wrong))

-- an image is followed by nothing, no object or bytes
image_or_fault : (bytes : List ℕ) (objects : List ImageObject) (f : Fault) → IsImage objects → bytes ≡ image_bytes objects → IsFault bytes f → ⊥
image_or_fault bytes objects f image parts fault =
    let a : Front bytes = of_image bytes objects [] image (parts ∙ sym (append-nil (image_bytes objects))) in
    elim fault [
      | inl h ↦ headed bytes f a h
      | inr (inl h) ↦
          let both = one_prefix_of bytes a (of_fault bytes f h) in
          let counts : length objects ≡ h.count = both.0 in
          let lists : length objects ≡ length h.objects = ap length both.1 in
          omega (arith, h.fewer)
      | inr (inr h) ↦
          let both = one_prefix_of bytes a (of_image bytes h.objects h.rest h.image h.parts) in
          let ended : 0 ≡ length h.rest = ap length both.2 in
          omega (arith, h.some)
    ]

trailing_or_fault : (bytes : List ℕ) (f g : Fault) → Trails bytes f → HasObjectFault bytes g → ⊥
trailing_or_fault bytes f g t h =
    let both = one_prefix_of bytes (of_image bytes t.objects t.rest t.image t.parts) (of_fault bytes g h) in
    let counts : length t.objects ≡ h.count = both.0 in
    let lists : length t.objects ≡ length h.objects = ap length both.1 in
    omega (arith, h.fewer)

one_fault : (bytes : List ℕ) (f g : Fault) → IsFault bytes f → IsFault bytes g → f ≡ g
one_fault bytes f g (inl x) (inl y) = cc (x, y)
one_fault bytes f g (inl x) (inr (inl y)) = absurd (headed bytes f (of_fault bytes g y) x)
one_fault bytes f g (inl x) (inr (inr y)) = absurd (headed bytes f (of_image bytes y.objects y.rest y.image y.parts) x)
one_fault bytes f g (inr (inl x)) (inl y) = absurd (headed bytes g (of_fault bytes f x) y)
one_fault bytes f g (inr (inl x)) (inr (inl y)) =
    let both = one_prefix_of bytes (of_fault bytes f x) (of_fault bytes g y) in
    let P : ℕ → List ImageObject → List ℕ → Type 0 = λ count objects rest. IsObjectFault count (length objects) (top_of objects) rest g in
    let here : P x.count x.objects x.rest =
    subst (λ (n : ℕ). P n x.objects x.rest) (sym both.0) (subst (λ (os : List ImageObject). P y.count os x.rest) (sym both.1) (subst (λ (r : List ℕ). P y.count y.objects r) (sym both.2) y.wrong)) in
    object_fault_one x.count (length x.objects) (top_of x.objects) x.rest f g (few x.count x.counted) x.wrong here
one_fault bytes f g (inr (inl x)) (inr (inr y)) = absurd (trailing_or_fault bytes g f y x)
one_fault bytes f g (inr (inr x)) (inl y) = absurd (headed bytes g (of_image bytes x.objects x.rest x.image x.parts) y)
one_fault bytes f g (inr (inr x)) (inr (inl y)) = absurd (trailing_or_fault bytes f g x y)
one_fault bytes f g (inr (inr x)) (inr (inr y)) =
    let both = one_prefix_of bytes (of_image bytes x.objects x.rest x.image x.parts) (of_image bytes y.objects y.rest y.image y.parts) in
    x.told ∙ ap (at cause.Trailing) both.2 ∙ sym y.told

pub reading_is_determined : ReadingIsDetermined
reading_is_determined bytes (Ok x) (Ok y) (ix, px) (iy, py) =
    let both = one_prefix_of bytes (of_image bytes x [] ix (px ∙ sym (append-nil (image_bytes x)))) (of_image bytes y [] iy (py ∙ sym (append-nil (image_bytes y)))) in
    ap Ok both.1
reading_is_determined bytes (Ok x) (Err b) (ix, px) y = absurd (image_or_fault bytes x y.0 ix px y.1)
reading_is_determined bytes (Err a) (Ok y) x (iy, py) = absurd (image_or_fault bytes y x.0 iy py x.1)
reading_is_determined bytes (Err a) (Err b) x y =
    ap Err (x.2 ∙ ap (told_of bytes) (one_fault bytes x.0 y.0 x.1 y.1) ∙ sym y.2)

pub image_is_read_again : ImageIsReadAgain
image_is_read_again objects a image reading = reading_is_determined (image_bytes objects) a (Ok objects) reading (image, refl)

pub image_has_one_spelling : ImageHasOneSpelling
image_has_one_spelling objects a b x y = x.1 ∙ sym y.1
