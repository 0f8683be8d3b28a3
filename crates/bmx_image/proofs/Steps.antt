-- One more thing read, as loops go.
use Rattle.std.proofs.Common.{◌≡◌, ℕ, ◌<◌, ◌≤◌, List, [], ◌∷◌, ◌++◌, length, max, Some, Err, refl, sym, ap, subst, ◌∙◌, append_assoc, arith, inl, inr}
use Rattle.std.specs.Prelude.{IsTrue}
use Rattle.std.specs.List.{flat_map}
use Rattle.std.proofs.lemmas.List.{append-nil, flat_map_more}
use Rattle.bmx_image.specs.declared.faults.Fault.{Fault}
use Rattle.bmx_image.specs.declared.faults.Stop.{Stop}
use Rattle.bmx_image.specs.declared.faults.Stop.TheVariants as stop
use Rattle.bmx_image.specs.declared.images.ImageField.{ImageField}
use Rattle.bmx_image.specs.declared.images.ImageObject.{ImageObject}
use Rattle.bmx_image.specs.declared.reading.Before.{Before}
use Rattle.bmx_image.specs.declared.reading.Read.{Read}
use Rattle.bmx_image.specs.Spelling.{field_bytes, object_bytes, head_bytes, image_bytes}
use Rattle.bmx_image.specs.Images.{EachFits, FieldFits, FitsBehind, ObjectFits, StandsBehind, IsImage, is_count, is_size, target, top_of, top_of_fields}
use Rattle.bmx_image.specs.Faults.{field_fault, size_fault, HasFieldFault, IsObjectFault}
use Rattle.bmx_image.specs.Inside.Reading.{IsImageOf, IsObject, IsRead}
use Rattle.bmx_image.proofs.Objects.{size_right}

pub fit_more : {A : Type 0} (Fits : List A → A → Type 0) (before xs : List A) (x : A) → EachFits Fits before xs → Fits (before ++ xs) x → EachFits Fits before (xs ++ x ∷ [])
fit_more {A = A} Fits before [] x fits fit = (subst (λ (b : List A). Fits b x) (append-nil before) fit, tt)
fit_more {A = A} Fits before (y ∷ ys) x fits fit =
    (fits.0, fit_more Fits (before ++ y ∷ []) ys x fits.1 (subst (λ (b : List A). Fits b x) (sym (append_assoc before (y ∷ []) ys)) fit))

pub top_of_fields_more : (fs : List ImageField) (f : ImageField) → top_of_fields (fs ++ f ∷ []) ≡ max (top_of_fields fs) (target f)
top_of_fields_more [] f = omega arith
top_of_fields_more (g ∷ fs) f = let e = top_of_fields_more fs f in omega arith

pub top_of_more : (os : List ImageObject) (o : ImageObject) → top_of (os ++ o ∷ []) ≡ max (top_of os) (top_of_fields o.fields)
top_of_more [] o = omega arith
top_of_more (p ∷ os) o = let e = top_of_more os o in omega arith

-- the bytes of one more thing stand at the start of what was left
spelled_more : {A : Type 0} (spell : A → List ℕ) (xs : List A) (x : A) (left rest after : List ℕ) → left ≡ flat_map spell xs ++ rest → rest ≡ spell x ++ after
    → left ≡ flat_map spell (xs ++ x ∷ []) ++ after
spelled_more spell xs x left rest after e h =
    e ∙ ap (λ (t : List ℕ). flat_map spell xs ++ t) h ∙ sym (append_assoc (flat_map spell xs) (spell x) after) ∙ ap (λ (t : List ℕ). t ++ after) (flat_map_more spell [] xs x)

-- the fields of an object that were read, and the greatest index that they or what stands before them refer to
pub record FieldsRead (before : Before) (bytes : List ℕ) (size : ℕ) (fields : List ImageField) (top : ℕ) (rest : List ℕ) : Type 0 where
  pub parts : bytes ≡ size ∷ (flat_map field_bytes fields ++ rest)
  pub fit : EachFits (FitsBehind before.count before.top) [] fields
  pub told : top ≡ max before.top (top_of_fields fields)

pub fields_more : (before : Before) (bytes : List ℕ) (size : ℕ) (fields : List ImageField) (f : ImageField) (top : ℕ) (rest after : List ℕ)
    → FieldsRead before bytes size fields top rest → rest ≡ field_bytes f ++ after → FieldFits before.count top f → FieldsRead before bytes size (fields ++ f ∷ []) (max top (target f)) after
fields_more before bytes size fields f top rest after h parts fit = record {
  parts = h.parts ∙ ap (λ (t : List ℕ). size ∷ t) (spelled_more field_bytes fields f _ rest after refl parts);
  fit = fit_more (FitsBehind before.count before.top) [] fields f h.fit (subst (λ (t : ℕ). FieldFits before.count t f) h.told fit);
  told = omega (arith, h.told, top_of_fields_more fields f);
}

-- the field behind them doesn't fit
pub field_stops : (before : Before) (bytes : List ℕ) (size : ℕ) (fields : List ImageField) (top : ℕ) (rest front : List ℕ) (f : Fault) (e : Stop)
    → FieldsRead before bytes size fields top rest → bytes ≡ size ∷ front → before.index ≤ before.top → IsTrue (is_size before.index size) → length fields < size
    → field_fault before.count top rest ≡ Some f → e ≡ stop.Fault f → IsObject before bytes (Err e)
field_stops before bytes size fields top rest front f e h headed mentioned sized fewer wrong told =
    let fault : HasFieldFault before.count before.index before.top bytes f = record {
      size = size;
      fields = fields;
      rest = rest;
      parts = h.parts;
      sized = ap (λ (b : List ℕ). size_fault before.index before.top b) headed ∙ size_right before.index before.top size front mentioned sized;
      fit = h.fit;
      fewer = fewer;
      wrong = ap (λ (t : ℕ). field_fault before.count t rest) (sym h.told) ∙ wrong;
    } in
    subst (λ (x : Stop). IsObject before bytes (Err x)) (sym told) (inr fault)

-- the objects that were read, and the greatest index that they refer to
pub record ObjectsRead (count : ℕ) (bytes : List ℕ) (objects : List ImageObject) (top : ℕ) (rest : List ℕ) : Type 0 where
  pub parts : bytes ≡ head_bytes count ++ (flat_map object_bytes objects ++ rest)
  pub fit : EachFits (StandsBehind count) [] objects
  pub told : top ≡ top_of objects

pub objects_more : (count index top : ℕ) (bytes : List ℕ) (objects : List ImageObject) (rest : List ℕ) (r : Read) (o : ImageObject) → ObjectsRead count bytes objects top rest → length objects ≡ index
    → IsRead (record { count = count; index = index; top = top }) rest r → r.object ≡ o → ObjectsRead count bytes (objects ++ o ∷ []) r.top r.rest.now
objects_more count index top bytes objects rest r o h placed read same =
    let P : ImageObject → Type 0 = λ x. ObjectsRead count bytes (objects ++ x ∷ []) r.top r.rest.now in
    let fits : ObjectFits count (length objects) (top_of objects) r.object = subst (λ (n : ℕ). ObjectFits count n (top_of objects) r.object) (sym placed) (subst (λ (t : ℕ). ObjectFits count index t r.object) h.told read.fits) in
    subst P same (record {
      parts = h.parts ∙ ap (λ (t : List ℕ). head_bytes count ++ t) (spelled_more object_bytes objects r.object _ rest r.rest.now refl read.parts);
      fit = fit_more (StandsBehind count) [] objects r.object h.fit fits;
      told = omega (arith, h.told, read.top, top_of_more objects r.object);
    })

-- the object behind them doesn't fit
pub object_stops : (count index top : ℕ) (bytes : List ℕ) (objects : List ImageObject) (rest : List ℕ) (e : Stop) → ObjectsRead count bytes objects top rest → length objects ≡ index → index < count
    → IsTrue (is_count count) → IsObject (record { count = count; index = index; top = top }) rest (Err e) → IsImageOf bytes (Err e)
object_stops count index top bytes objects rest stop.NoMemory h placed fewer counted wrong = tt
object_stops count index top bytes objects rest (stop.Fault f) h placed fewer counted wrong =
    let P : ℕ → ℕ → Type 0 = λ n t. IsObjectFault count n t rest f in
    inr (inl (record {
      count = count;
      objects = objects;
      rest = rest;
      parts = h.parts;
      counted = counted;
      fit = h.fit;
      fewer = omega arith;
      wrong = subst (λ (n : ℕ). P n (top_of objects)) (sym placed) (subst (P index) h.told wrong);
    }))

-- all objects are read: they are an image
pub all_read : (count top : ℕ) (bytes : List ℕ) (objects : List ImageObject) (rest : List ℕ) → ObjectsRead count bytes objects top rest → length objects ≡ count → IsTrue (is_count count)
    → IsImage objects × (bytes ≡ image_bytes objects ++ rest)
all_read count top bytes objects rest h whole counted =
    let P : ℕ → Type 0 = λ n. (bytes ≡ head_bytes n ++ (flat_map object_bytes objects ++ rest)) × EachFits (StandsBehind n) [] objects × IsTrue (is_count n) in
    let told : P (length objects) = subst P (sym whole) (h.parts, h.fit, counted) in
    (record { counted = told.2; fit = told.1 }, told.0 ∙ sym (append_assoc (head_bytes (length objects)) (flat_map object_bytes objects) rest))
