-- What a field tells of the word that it was read from.
use Rattle.std.proofs.Common.{◌≡◌, ℕ, ◌==◌, ℤ, Bool, true, false, cond, ◌&&◌, nat_lt, nat_le, List, [], ◌∷◌, Option, Some, None, refl, ap, Result, Ok, Err}
use Rattle.std.proofs.lemmas.Bool.{eqb-true}
use Rattle.bmx_numerals.specs.declared.words.Misfit.{Misfit}
use Rattle.bmx_numerals.specs.declared.words.Misfit.TheVariants.{Form, Range}
use Rattle.bmx_numerals.specs.Numerals.{numeral, signed_numeral, number_in, integer_in}
use Rattle.bmx_numerals.specs.Words.{tested, read_below, read_within, read_integer, read_both}
use Rattle.bmx_types.specs.Integers.{is_i64}
use Rattle.bmx_script.specs.Spelling.{register_word}
use Rattle.bmx_script.specs.Inside.Parsing.{map_read, read_register}
use Rattle.bmx_numerals.proofs.NumeralLemmas.{number_in-numeral, numeral-number_in, integer_in-signed_numeral, signed_numeral-integer_in}

-- nothing is spelled so
abbrev pub is_form : {A : Type 0} → Result A Misfit → Bool
is_form (Err Form) = true
is_form (Err Range) = false
is_form (Ok x) = false

-- a test that chose, and what it chose
pub split_if : {A C : Type 0} (b : Bool) (x y z : A) → cond b x y ≡ z → (b ≡ true → x ≡ z → C) → (b ≡ false → y ≡ z → C) → C
split_if true x y z e f g = f refl e
split_if false x y z e f g = g refl e

pub if_true : {A : Type 0} (b : Bool) (x y z : A) → b ≡ true → x ≡ z → cond b x y ≡ z
if_true true x y z h e = e
if_true false x y z h e = cc

pub if_false : {A : Type 0} (b : Bool) (x y z : A) → b ≡ false → y ≡ z → cond b x y ≡ z
if_false true x y z h e = cc
if_false false x y z h e = e

pub form_and : {A B : Type 0} (f : Result A Misfit) (g : Result B Misfit) → is_form f ≡ false → is_form g ≡ false → is_form (read_both f g) ≡ false
form_and (Err Form) g p q = p
form_and (Err Range) (Err Form) p q = q
form_and (Err Range) (Err Range) p q = refl
form_and (Err Range) (Ok y) p q = refl
form_and (Ok x) (Err Form) p q = q
form_and (Ok x) (Err Range) p q = refl
form_and (Ok x) (Ok y) p q = refl

pub form_map : {A B : Type 0} (h : A → B) (f : Result A Misfit) → is_form f ≡ false → is_form (map_read h f) ≡ false
form_map h (Err Form) p = p
form_map h (Err Range) p = refl
form_map h (Ok x) p = refl

pub and_form : {A B : Type 0} (f : Result A Misfit) (g : Result B Misfit) → is_form (read_both f g) ≡ false → (is_form f ≡ false) × (is_form g ≡ false)
and_form (Err Form) g p = cc
and_form (Err Range) (Err Form) p = cc
and_form (Err Range) (Err Range) p = (refl, refl)
and_form (Err Range) (Ok y) p = (refl, refl)
and_form (Ok x) (Err Form) p = cc
and_form (Ok x) (Err Range) p = (refl, refl)
and_form (Ok x) (Ok y) p = (refl, refl)

pub map_form : {A B : Type 0} (h : A → B) (f : Result A Misfit) → is_form (map_read h f) ≡ false → is_form f ≡ false
map_form h (Err Form) p = p
map_form h (Err Range) p = refl
map_form h (Ok x) p = refl

pub good_and : {A B : Type 0} (f : Result A Misfit) (g : Result B Misfit) (x : A) (y : B) → f ≡ Ok x → g ≡ Ok y → read_both f g ≡ Ok (x, y)
good_and f g x y p q = rw (p, q)

pub good_map : {A B : Type 0} (h : A → B) (f : Result A Misfit) (x : A) → f ≡ Ok x → map_read h f ≡ Ok (h x)
good_map h f x p = rw p

pub and_good : {A B : Type 0} (f : Result A Misfit) (g : Result B Misfit) (p : A × B) → read_both f g ≡ Ok p → (f ≡ Ok p.0) × (g ≡ Ok p.1)
and_good (Err Form) g p e = cc
and_good (Err Range) (Err Form) p e = cc
and_good (Err Range) (Err Range) p e = cc
and_good (Err Range) (Ok y) p e = cc
and_good (Ok x) (Err Form) p e = cc
and_good (Ok x) (Err Range) p e = cc
and_good (Ok x) (Ok y) p e = let same : (x, y) ≡ p = cc in (ap (λ q. Ok q.0) same, ap (λ q. Ok q.1) same)

pub map_good : {A B : Type 0} (h : A → B) (f : Result A Misfit) (y : B) → map_read h f ≡ Ok y → (x : A) × (f ≡ Ok x) × (h x ≡ y)
map_good h (Err Form) y e = cc
map_good h (Err Range) y e = cc
map_good h (Ok x) y e = (x, refl, cc)

tested_form : {A : Type 0} (passes : A → Bool) (o : Option A) → is_form (tested passes o) ≡ false → (x : A) × (o ≡ Some x)
tested_form passes None e = cc
tested_form passes (Some x) e = (x, refl)

form_tested : {A : Type 0} (passes : A → Bool) (o : Option A) (x : A) → o ≡ Some x → is_form (tested passes o) ≡ false
form_tested passes None x e = cc
form_tested passes (Some y) x e = form_if (passes y)
  where
    form_if : (b : Bool) → is_form (cond b (Ok y) (Err Range)) ≡ false
    form_if true = refl
    form_if false = refl

tested_good : {A : Type 0} (passes : A → Bool) (o : Option A) (x : A) → tested passes o ≡ Ok x → (o ≡ Some x) × (passes x ≡ true)
tested_good passes None x e = cc
tested_good {A} passes (Some y) x e = split_if (passes y) (Ok y) (Err Range) (Ok x) e
    (λ t q. let same : y ≡ x = cc in (ap Some same, rw (← same) t))
    (λ _ q. cc)

good_tested : {A : Type 0} (passes : A → Bool) (o : Option A) (x : A) → o ≡ Some x → passes x ≡ true → tested passes o ≡ Ok x
good_tested passes o x e t = rw e (if_true (passes x) (Ok x) (Err Range) (Ok x) t refl)

-- numbers below a limit
pub form_below : (limit n : ℕ) → is_form (read_below limit (numeral n)) ≡ false
form_below limit n = form_tested (λ m. nat_lt m limit) (number_in (numeral n)) n (number_in-numeral n)

pub below_form : (limit : ℕ) (w : List ℕ) → is_form (read_below limit w) ≡ false → (n : ℕ) × (w ≡ numeral n)
below_form limit w e =
    let found : (x : ℕ) × (number_in w ≡ Some x) = tested_form (λ m. nat_lt m limit) (number_in w) e in
    (found.0, numeral-number_in w found.0 found.1)

pub below_good : (limit : ℕ) (w : List ℕ) (n : ℕ) → read_below limit w ≡ Ok n → (w ≡ numeral n) × (nat_lt n limit ≡ true)
below_good limit w n e =
    let found : (number_in w ≡ Some n) × (nat_lt n limit ≡ true) = tested_good (λ m. nat_lt m limit) (number_in w) n e in
    (numeral-number_in w n found.0, found.1)

pub good_below : (limit n : ℕ) → nat_lt n limit ≡ true → read_below limit (numeral n) ≡ Ok n
good_below limit n t = good_tested (λ m. nat_lt m limit) (number_in (numeral n)) n (number_in-numeral n) t

-- numbers from low to high
pub form_within : (low high n : ℕ) → is_form (read_within low high (numeral n)) ≡ false
form_within low high n = form_tested (λ m. nat_le low m && nat_le m high) (number_in (numeral n)) n (number_in-numeral n)

pub within_form : (low high : ℕ) (w : List ℕ) → is_form (read_within low high w) ≡ false → (n : ℕ) × (w ≡ numeral n)
within_form low high w e =
    let found : (x : ℕ) × (number_in w ≡ Some x) = tested_form (λ m. nat_le low m && nat_le m high) (number_in w) e in
    (found.0, numeral-number_in w found.0 found.1)

pub within_good : (low high : ℕ) (w : List ℕ) (n : ℕ) → read_within low high w ≡ Ok n → (w ≡ numeral n) × ((nat_le low n && nat_le n high) ≡ true)
within_good low high w n e =
    let found : (number_in w ≡ Some n) × ((nat_le low n && nat_le n high) ≡ true) = tested_good (λ m. nat_le low m && nat_le m high) (number_in w) n e in
    (numeral-number_in w n found.0, found.1)

pub good_within : (low high n : ℕ) → (nat_le low n && nat_le n high) ≡ true → read_within low high (numeral n) ≡ Ok n
good_within low high n t = good_tested (λ m. nat_le low m && nat_le m high) (number_in (numeral n)) n (number_in-numeral n) t

-- integers
pub form_integer : (z : ℤ) → is_form (read_integer (signed_numeral z)) ≡ false
form_integer z = form_tested is_i64 (integer_in (signed_numeral z)) z (integer_in-signed_numeral z)

pub integer_form : (w : List ℕ) → is_form (read_integer w) ≡ false → (z : ℤ) × (w ≡ signed_numeral z)
integer_form w e =
    let found : (x : ℤ) × (integer_in w ≡ Some x) = tested_form is_i64 (integer_in w) e in
    (found.0, signed_numeral-integer_in w found.0 found.1)

pub integer_good : (w : List ℕ) (z : ℤ) → read_integer w ≡ Ok z → (w ≡ signed_numeral z) × (is_i64 z ≡ true)
integer_good w z e =
    let found : (integer_in w ≡ Some z) × (is_i64 z ≡ true) = tested_good is_i64 (integer_in w) z e in
    (signed_numeral-integer_in w z found.0, found.1)

pub good_integer : (z : ℤ) → is_i64 z ≡ true → read_integer (signed_numeral z) ≡ Ok z
good_integer z t = good_tested is_i64 (integer_in (signed_numeral z)) z (integer_in-signed_numeral z) t

-- registers
pub form_register : (r : ℕ) → is_form (read_register (register_word r)) ≡ false
form_register r = form_below 16 r

pub register_form : (w : List ℕ) → is_form (read_register w) ≡ false → (r : ℕ) × (w ≡ register_word r)
register_form [] e = cc
register_form (c ∷ w) e = split_if (c == 114) (is_form (read_below 16 w)) true false (push (c == 114) e)
    (λ t q. let found : (n : ℕ) × (w ≡ numeral n) = below_form 16 w q in (found.0, rw (eqb-true c 114 t) (ap (λ x. 114 ∷ x) found.1)))
    (λ _ q. cc)
  where
    push : (b : Bool) → is_form (cond b (read_below 16 w) (Err Form)) ≡ false → cond b (is_form (read_below 16 w)) true ≡ false
    push true h = h
    push false h = h

pub register_good : (w : List ℕ) (r : ℕ) → read_register w ≡ Ok r → (w ≡ register_word r) × (nat_lt r 16 ≡ true)
register_good [] r e = cc
register_good (c ∷ w) r e = split_if (c == 114) (read_below 16 w) (Err Form) (Ok r) e
    (λ t q. let found : (w ≡ numeral r) × (nat_lt r 16 ≡ true) = below_good 16 w r q in (rw (eqb-true c 114 t) (ap (λ x. 114 ∷ x) found.0), found.1))
    (λ _ q. cc)

pub good_register : (r : ℕ) → nat_lt r 16 ≡ true → read_register (register_word r) ≡ Ok r
good_register r t = good_below 16 r t
