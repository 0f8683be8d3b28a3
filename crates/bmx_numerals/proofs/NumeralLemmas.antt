-- A spelling is read as the number that it spells, and no other word is.
use Rattle.std.proofs.Common.{◌≡◌, ◌≢◌, ℕ, zero, suc, ◌+◌, ◌-◌, ◌*◌, ◌/◌, ◌%◌, ◌^◌, ◌<◌, ◌≤◌, Bool, true, false, not, ◌&&◌, ◌||◌, ltb, leb, eqb, ◌==◌, List, [], ◌∷◌, ◌++◌, map, length, get_or, ℤ, pos, negsuc, Option, Some, None, option_map, IsTrue, decimal, refl, sym, ap, ◌∙◌, subst, ⊎_elim, arith, append_assoc, append-nil, zero-add}
use lib.Signed.{mag}
use Rattle.std.specs.Fmt.{signed_decimal}
use Rattle.std.specs.List.{list_all}
use Rattle.std.specs.Char.{digit_value}
use Rattle.std.specs.Int.Digits.{digits_of}
use Rattle.std.specs.Str.Parse.{digits_value, digits_value_after}
use Rattle.std.proofs.lemmas.Bool.{cond-true, cond-false, cases_lt, cases_Bool, and_parts, and_from, leb-true, le-leb, le-ltb, lt-ltb, eqb-true, eq-eqb, ne_eqb, or_left, not_from_false, both_ways, true_from_ne_false}
use Rattle.std.proofs.lemmas.Option.{same_Some, none-some}
use Rattle.std.proofs.lemmas.Int.Digits.{digits_of_step, digits_value_push}
use Rattle.std.proofs.lemmas.List.Folds.{list_all-append, list_all_at}
use Rattle.std.proofs.lemmas.Fmt.{decimal_digit, decimal-digits_of}
use Rattle.bmx_numerals.specs.Numerals.{numeral, signed_numeral, is_digit, is_numeral, number_in, negative_of, negative_in, integer_in}

-- ---- digits

pub is_digit_from : (c : ℕ) → 48 ≤ c → c ≤ 57 → is_digit c ≡ true
is_digit_from c low high = and_from (leb 48 c) (leb c 57) (le-leb 48 c low) (le-leb c 57 high)

pub is_digit_range : (c : ℕ) → is_digit c ≡ true → (48 ≤ c) × (c ≤ 57)
is_digit_range c h = let p = and_parts (leb 48 c) (leb c 57) h in (leb-true 48 c p.0, leb-true c 57 p.1)

pub digit_value_of : (c : ℕ) → is_digit c ≡ true → digit_value c ≡ c - 48
digit_value_of c h =
    let r = is_digit_range c h in
    cond-false (ltb c 48) _ _ (le-ltb c 48 r.0) ∙ cond-true (ltb c 58) _ _ (lt-ltb c 58 (omega (arith, r.1)))

-- ---- a numeral, from the right

numeral_positive : (n : ℕ) → 0 < n → numeral n ≡ map (λ d. 48 + d) (digits_of 10 n)
numeral_positive n h = cond-false (eqb n 0) _ _ (ne_eqb n 0 (λ e. omega arith))

map_last : (xs : List ℕ) (x : ℕ) → map (λ d. 48 + d) (xs ++ (x ∷ [])) ≡ map (λ d. 48 + d) xs ++ ((48 + x) ∷ [])
map_last [] x = refl
map_last (y ∷ ys) x = ap (λ t. (48 + y) ∷ t) (map_last ys x)

numeral_front : (n : ℕ) → 0 < n → numeral n ≡ map (λ d. 48 + d) (digits_of 10 (n / 10)) ++ ((48 + n % 10) ∷ [])
numeral_front n h =
    numeral_positive n h ∙ ap (map (λ d. 48 + d)) (digits_of_step 10 n (omega arith) h) ∙ map_last (digits_of 10 (n / 10)) (n % 10)

pub numeral_digit : (n : ℕ) → n < 10 → numeral n ≡ (48 + n) ∷ []
numeral_digit zero small = refl
numeral_digit (suc m) small =
    let none : suc m / 10 ≡ 0 = omega arith in
    let all : suc m % 10 ≡ suc m = omega arith in
    numeral_front (suc m) (omega arith) ∙ ap (λ q. map (λ d. 48 + d) (digits_of 10 q) ++ ((48 + suc m % 10) ∷ [])) none ∙ ap (λ d. (48 + d) ∷ []) all

pub numeral_step : (n : ℕ) → 10 ≤ n → numeral n ≡ numeral (n / 10) ++ ((48 + n % 10) ∷ [])
numeral_step n h =
    let some : 0 < n / 10 = omega arith in
    numeral_front n (omega arith) ∙ ap (λ t. t ++ ((48 + n % 10) ∷ [])) (sym (numeral_positive (n / 10) some))

by_steps_up_to : (P : ℕ → List ℕ → Type 0) (one : (n : ℕ) → n < 10 → P n ((48 + n) ∷ [])) (more : (n : ℕ) (ds : List ℕ) → 10 ≤ n → P (n / 10) ds → P n (ds ++ ((48 + n % 10) ∷ []))) → (k n : ℕ) → n ≤ k → P n (numeral n)
by_steps_up_to P one more zero n le = let small : n < 10 = omega arith in subst (P n) (sym (numeral_digit n small)) (one n small)
by_steps_up_to P one more (suc k) n le = ⊎_elim
    (λ small. subst (P n) (sym (numeral_digit n small)) (one n small))
    (λ large. subst (P n) (sym (numeral_step n large)) (more n (numeral (n / 10)) large (by_steps_up_to P one more k (n / 10) (omega arith))))
    (cases_lt n 10)

pub numeral_by_steps : (P : ℕ → List ℕ → Type 0) (one : (n : ℕ) → n < 10 → P n ((48 + n) ∷ [])) (more : (n : ℕ) (ds : List ℕ) → 10 ≤ n → P (n / 10) ds → P n (ds ++ ((48 + n % 10) ∷ []))) → (n : ℕ) → P n (numeral n)
numeral_by_steps P one more n = by_steps_up_to P one more n n (omega arith)

-- what is known of a number's spelling
pub record IsSpelled (n : ℕ) (ds : List ℕ) : Type 0 where
  pub first : ℕ
  pub rest : List ℕ
  pub parts : ds ≡ first ∷ rest
  pub digits : list_all is_digit (first ∷ rest) ≡ true
  pub leading : 0 < n → first ≢ 48
  pub alone : n ≡ 0 → rest ≡ []
  pub value : digits_value 10 ds ≡ n

digit_is_spelled : (n : ℕ) → n < 10 → IsSpelled n ((48 + n) ∷ [])
digit_is_spelled n small =
    let digit : is_digit (48 + n) ≡ true = is_digit_from (48 + n) (omega arith) (omega arith) in
    record {
      first = 48 + n;
      rest = [];
      parts = refl;
      digits = and_from (is_digit (48 + n)) true digit refl;
      leading = λ some e. omega arith;
      alone = λ _. refl;
      value = omega (arith, digit_value_of (48 + n) digit);
    }

one_more_is_spelled : (n : ℕ) (ds : List ℕ) → 10 ≤ n → IsSpelled (n / 10) ds → IsSpelled n (ds ++ ((48 + n % 10) ∷ []))
one_more_is_spelled n ds large s =
    let c : ℕ = 48 + n % 10 in
    let digit : is_digit (48 + n % 10) ≡ true = is_digit_from (48 + n % 10) (omega arith) (omega arith) in
    let some : 0 < n / 10 = omega arith in
    record {
      first = s.first;
      rest = s.rest ++ ((48 + n % 10) ∷ []);
      parts = ap (λ t. t ++ ((48 + n % 10) ∷ [])) s.parts;
      digits = list_all-append is_digit (s.first ∷ s.rest) ((48 + n % 10) ∷ []) ∙ and_from (list_all is_digit (s.first ∷ s.rest)) (list_all is_digit ((48 + n % 10) ∷ [])) s.digits (and_from (is_digit (48 + n % 10)) true digit refl);
      leading = λ _. s.leading some;
      alone = λ e. absurd (omega arith);
      value = omega (arith, digits_value_push 10 ds (48 + n % 10), digit_value_of (48 + n % 10) digit, s.value);
    }

pub numeral_is_spelled : (n : ℕ) → IsSpelled n (numeral n)
numeral_is_spelled n = numeral_by_steps IsSpelled digit_is_spelled one_more_is_spelled n

-- ---- which words are numerals

pub is_numeral_from : (c : ℕ) (cs : List ℕ) → list_all is_digit (c ∷ cs) ≡ true → (c ≡ 48 → cs ≡ []) → is_numeral (c ∷ cs) ≡ true
is_numeral_from c [] digits alone = (and_parts (is_digit c) true digits).0
is_numeral_from c (d ∷ ds) digits alone =
    and_from (not (eqb c 48)) (list_all is_digit (c ∷ (d ∷ ds)))
    (not_from_false (eqb c 48) (ne_eqb c 48 (λ e. absurd (cc (alone e)))))
    digits

pub is_numeral_digits : (w : List ℕ) → is_numeral w ≡ true → list_all is_digit w ≡ true
is_numeral_digits [] h = refl
is_numeral_digits (c ∷ []) h = and_from (is_digit c) true h refl
is_numeral_digits (c ∷ (d ∷ ds)) h = (and_parts (not (eqb c 48)) (list_all is_digit (c ∷ (d ∷ ds))) h).1

-- more digits than one, without a zero in front
pub is_numeral_longer : (w : List ℕ) → 1 < length w → get_or w 0 0 ≢ 48 → is_numeral w ≡ list_all is_digit w
is_numeral_longer [] longer other = absurd (omega arith)
is_numeral_longer (c ∷ []) longer other = absurd (omega arith)
is_numeral_longer (c ∷ (d ∷ ds)) longer other = ap (λ b. not b && list_all is_digit (c ∷ (d ∷ ds))) (ne_eqb c 48 other)

-- each byte of a numeral is a digit
pub digit_at : (w : List ℕ) (i : ℕ) → is_numeral w ≡ true → i < length w → is_digit (get_or w i 0) ≡ true
digit_at w i h within = true_from_ne_false (is_digit (get_or w i 0)) (λ f. both_ways (list_all is_digit w) (list_all_at is_digit w i 0 within f) (is_numeral_digits w h))

numeral_is_numeral : (n : ℕ) → is_numeral (numeral n) ≡ true
numeral_is_numeral n =
    let s = numeral_is_spelled n in
    ap is_numeral s.parts ∙ is_numeral_from s.first s.rest s.digits
    (λ e. ⊎_elim (λ none. s.alone (omega arith)) (λ some. absurd (s.leading some e)) (cases_lt n 1))

-- ---- a number is read from its spelling, and from no other word

pub number_in-numeral : (n : ℕ) → number_in (numeral n) ≡ Some n
number_in-numeral n =
    cond-true (is_numeral (numeral n)) (Some (digits_value 10 (numeral n))) None (numeral_is_numeral n)
    ∙ ap (λ m. Some m) (numeral_is_spelled n).value

pub number_in_from : (w : List ℕ) → is_numeral w ≡ true → number_in w ≡ Some (digits_value 10 w)
number_in_from w h = cond-true (is_numeral w) (Some (digits_value 10 w)) None h

pub number_in_none : (w : List ℕ) → is_numeral w ≡ false → number_in w ≡ None
number_in_none w h = cond-false (is_numeral w) (Some (digits_value 10 w)) None h

pub number_in_some : (w : List ℕ) (n : ℕ) → number_in w ≡ Some n → (is_numeral w ≡ true) × (digits_value 10 w ≡ n)
number_in_some w n e = ⊎_elim
    (λ t. (t, same_Some (digits_value 10 w) n (sym (number_in_from w t) ∙ e)))
    (λ f. absurd (none-some n (sym (number_in_none w f) ∙ e)))
    (cases_Bool (is_numeral w))

-- a digit behind a numeral
numeral_push : (m v : ℕ) → 0 < m → v < 10 → numeral m ++ ((48 + v) ∷ []) ≡ numeral (m * 10 + v)
numeral_push m v some small =
    let front : (m * 10 + v) / 10 ≡ m = omega arith in
    let last : (m * 10 + v) % 10 ≡ v = omega arith in
    sym (numeral_step (m * 10 + v) (omega arith) ∙ ap (λ q. numeral q ++ ((48 + (m * 10 + v) % 10) ∷ [])) front ∙ ap (λ d. numeral m ++ ((48 + d) ∷ [])) last)

-- digits behind a numeral
numeral_append : (m : ℕ) (cs : List ℕ) → 0 < m → list_all is_digit cs ≡ true → numeral m ++ cs ≡ numeral (digits_value_after 10 m cs)
numeral_append m [] some h = append-nil (numeral m)
numeral_append m (c ∷ cs) some h =
    let p = and_parts (is_digit c) (list_all is_digit cs) h in
    let r = is_digit_range c p.0 in
    let v : digit_value c ≡ c - 48 = digit_value_of c p.0 in
    let back : 48 + digit_value c ≡ c = omega (arith, r.0, v) in
    let small : digit_value c < 10 = omega (arith, r.1, v) in
    let next : numeral m ++ (c ∷ []) ≡ numeral (m * 10 + digit_value c) = ap (λ t. numeral m ++ (t ∷ [])) (sym back) ∙ numeral_push m (digit_value c) some small in
    sym (append_assoc (numeral m) (c ∷ []) cs) ∙ ap (λ t. t ++ cs) next ∙ numeral_append (m * 10 + digit_value c) cs (omega arith) p.1

one_digit : (c : ℕ) → is_digit c ≡ true → c ∷ [] ≡ numeral (digit_value c)
one_digit c h =
    let r = is_digit_range c h in
    let v : digit_value c ≡ c - 48 = digit_value_of c h in
    let back : 48 + digit_value c ≡ c = omega (arith, r.0, v) in
    sym (numeral_digit (digit_value c) (omega (arith, r.1, v)) ∙ ap (λ t. t ∷ []) back)

pub numeral-digits_value : (w : List ℕ) → is_numeral w ≡ true → w ≡ numeral (digits_value 10 w)
numeral-digits_value [] h = absurd (both_ways false refl h)
numeral-digits_value (c ∷ []) h = one_digit c h ∙ ap numeral (sym (zero-add (digit_value c)))
numeral-digits_value (c ∷ (d ∷ ds)) h =
    let p = and_parts (not (eqb c 48)) (list_all is_digit (c ∷ (d ∷ ds))) h in
    let q = and_parts (is_digit c) (list_all is_digit (d ∷ ds)) p.1 in
    let r = is_digit_range c q.0 in
    let v : digit_value c ≡ c - 48 = digit_value_of c q.0 in
    let other : c ≢ 48 = λ e. both_ways (not (eqb c 48)) (ap not (eq-eqb c 48 e)) p.0 in
    let some : 0 < digit_value c = omega (arith, r.0, v) in
    ap (λ t. t ++ (d ∷ ds)) (one_digit c q.0) ∙ numeral_append (digit_value c) (d ∷ ds) some q.1 ∙ ap (λ m. numeral (digits_value_after 10 m (d ∷ ds))) (sym (zero-add (digit_value c)))

pub numeral-number_in : (w : List ℕ) (n : ℕ) → number_in w ≡ Some n → w ≡ numeral n
numeral-number_in w n e = let s = number_in_some w n e in numeral-digits_value w s.0 ∙ ap numeral s.1

-- ---- two numbers are spelled apart

pub numeral-injective : (m n : ℕ) → numeral m ≡ numeral n → m ≡ n
numeral-injective m n e = same_Some m n (sym (number_in-numeral m) ∙ ap number_in e ∙ number_in-numeral n)

-- ---- the bytes of a spelling

pub numeral_digits : (n : ℕ) → IsTrue (list_all is_digit (numeral n))
numeral_digits n = is_numeral_digits (numeral n) (numeral_is_numeral n)

-- what passes one test passes another
list_all_then : (p q : ℕ → Bool) → ((c : ℕ) → p c ≡ true → q c ≡ true) → (xs : List ℕ) → list_all p xs ≡ true → list_all q xs ≡ true
list_all_then p q then [] h = refl
list_all_then p q then (x ∷ xs) h =
    let a = and_parts (p x) (list_all p xs) h in
    and_from (q x) (list_all q xs) (then x a.0) (list_all_then p q then xs a.1)

-- a digit is no byte below 48
digit_is_not : (b c : ℕ) → b < 48 → is_digit c ≡ true → not (c == b) ≡ true
digit_is_not b c low h = let r = is_digit_range c h in not_from_false (eqb c b) (ne_eqb c b (λ e. omega (arith, r.0)))

pub numeral_without : (b n : ℕ) → b < 48 → list_all (λ c. not (c == b)) (numeral n) ≡ true
numeral_without b n low = list_all_then is_digit (λ c. not (c == b)) (λ c h. digit_is_not b c low h) (numeral n) (numeral_digits n)

pub numeral_no_space : (n : ℕ) → list_all (λ c. not (c == 32)) (numeral n) ≡ true
numeral_no_space n = numeral_without 32 n (omega arith)

pub numeral_no_line_feed : (n : ℕ) → list_all (λ c. not (c == 10)) (numeral n) ≡ true
numeral_no_line_feed n = numeral_without 10 n (omega arith)

pub signed_numeral_digits : (z : ℤ) → IsTrue (list_all (λ c. is_digit c || (c == 45)) (signed_numeral z))
signed_numeral_digits (pos n) = list_all_then is_digit (λ c. is_digit c || (c == 45)) (λ c h. or_left (is_digit c) (c == 45) h) (numeral n) (numeral_digits n)
signed_numeral_digits (negsuc n) = list_all_then is_digit (λ c. is_digit c || (c == 45)) (λ c h. or_left (is_digit c) (c == 45) h) (numeral (n + 1)) (numeral_digits (n + 1))

pub signed_numeral_no_space : (z : ℤ) → list_all (λ c. not (c == 32)) (signed_numeral z) ≡ true
signed_numeral_no_space (pos n) = numeral_no_space n
signed_numeral_no_space (negsuc n) = numeral_no_space (n + 1)

pub signed_numeral_no_line_feed : (z : ℤ) → list_all (λ c. not (c == 10)) (signed_numeral z) ≡ true
signed_numeral_no_line_feed (pos n) = numeral_no_line_feed n
signed_numeral_no_line_feed (negsuc n) = numeral_no_line_feed (n + 1)

pub numeral_first : (n : ℕ) → (c : ℕ) × (cs : List ℕ) × (numeral n ≡ c ∷ cs) × IsTrue (is_digit c)
numeral_first n = let s = numeral_is_spelled n in (s.first, s.rest, s.parts, (and_parts (is_digit s.first) (list_all is_digit s.rest) s.digits).0)

-- a signed numeral begins with a digit or `-`
pub signed_numeral_first : (z : ℤ) → (c : ℕ) × (cs : List ℕ) × (signed_numeral z ≡ c ∷ cs) × IsTrue (is_digit c || (c == 45))
signed_numeral_first (pos n) = let s = numeral_first n in (s.0, s.1, s.2, or_left (is_digit s.0) (s.0 == 45) s.3)
signed_numeral_first (negsuc n) = (45, numeral (n + 1), refl, refl)

pub length-numeral : (n : ℕ) → 0 < length (numeral n)
length-numeral n = let s = numeral_first n in omega (arith, ap length s.2)

pub length-signed_numeral : (z : ℤ) → 0 < length (signed_numeral z)
length-signed_numeral z = let s = signed_numeral_first z in omega (arith, ap length s.2)

-- ---- integers

-- a word that begins with another byte than `-` is read as a number
integer_in_plain : (c : ℕ) (cs : List ℕ) → (c == 45) ≡ false → integer_in (c ∷ cs) ≡ option_map pos (number_in (c ∷ cs))
integer_in_plain c cs h = cond-false (c == 45) (negative_in (number_in cs)) (option_map pos (number_in (c ∷ cs))) h

integer_in_minus : (c : ℕ) (cs : List ℕ) → (c == 45) ≡ true → integer_in (c ∷ cs) ≡ negative_in (number_in cs)
integer_in_minus c cs h = cond-true (c == 45) (negative_in (number_in cs)) (option_map pos (number_in (c ∷ cs))) h

pub negative_of_positive : (n : ℕ) → negative_of (n + 1) ≡ Some (negsuc n)
negative_of_positive n =
    let back : n + 1 - 1 ≡ n = omega arith in
    cond-false (n + 1 == 0) None (Some (negsuc (n + 1 - 1))) (ne_eqb (n + 1) 0 (λ e. omega arith)) ∙ ap (λ m. Some (negsuc m)) back

pub integer_in-signed_numeral : (z : ℤ) → integer_in (signed_numeral z) ≡ Some z
integer_in-signed_numeral (pos n) =
    let s = numeral_first n in
    let r = is_digit_range s.0 s.3 in
    ap integer_in s.2
    ∙ integer_in_plain s.0 s.1 (ne_eqb s.0 45 (λ e. omega (arith, r.0)))
    ∙ ap (λ w. option_map pos (number_in w)) (sym s.2)
    ∙ ap (option_map pos) (number_in-numeral n)
integer_in-signed_numeral (negsuc n) =
    integer_in_minus 45 (numeral (n + 1)) refl ∙ ap negative_in (number_in-numeral (n + 1)) ∙ negative_of_positive n

-- what a negative that was read says of its number
negative_of_some : (n : ℕ) (z : ℤ) → negative_of n ≡ Some z → 45 ∷ numeral n ≡ signed_numeral z
negative_of_some zero z e = absurd (none-some z e)
negative_of_some (suc m) z e =
    let step : suc m ≡ m + 1 = omega arith in
    let same : negsuc m ≡ z = same_Some (negsuc m) z (sym (negative_of_positive m) ∙ ap negative_of (sym step) ∙ e) in
    ap (λ k. 45 ∷ numeral k) step ∙ ap signed_numeral same

negative_in_some : (w : List ℕ) (o : Option ℕ) (z : ℤ) → number_in w ≡ o → negative_in o ≡ Some z → 45 ∷ w ≡ signed_numeral z
negative_in_some w None z is e = absurd (none-some z e)
negative_in_some w (Some n) z is e = ap (λ t. 45 ∷ t) (numeral-number_in w n is) ∙ negative_of_some n z e

plain_in_some : (w : List ℕ) (o : Option ℕ) (z : ℤ) → number_in w ≡ o → option_map pos o ≡ Some z → w ≡ signed_numeral z
plain_in_some w None z is e = absurd (none-some z e)
plain_in_some w (Some n) z is e = numeral-number_in w n is ∙ ap signed_numeral (same_Some (pos n) z e)

pub signed_numeral-integer_in : (w : List ℕ) (z : ℤ) → integer_in w ≡ Some z → w ≡ signed_numeral z
signed_numeral-integer_in [] z e = absurd (none-some z e)
signed_numeral-integer_in (c ∷ cs) z e = ⊎_elim
    (λ minus. ap (λ t. t ∷ cs) (eqb-true c 45 minus) ∙ negative_in_some cs (number_in cs) z refl (sym (integer_in_minus c cs minus) ∙ e))
    (λ plain. plain_in_some (c ∷ cs) (number_in (c ∷ cs)) z refl (sym (integer_in_plain c cs plain) ∙ e))
    (cases_Bool (c == 45))

pub signed_numeral-injective : (y z : ℤ) → signed_numeral y ≡ signed_numeral z → y ≡ z
signed_numeral-injective y z e = same_Some y z (sym (integer_in-signed_numeral y) ∙ ap integer_in e ∙ integer_in-signed_numeral z)

-- ---- what `{}` writes

pub numeral_decimal : (n : ℕ) → n < 2 ^ 64 → numeral n ≡ decimal n
numeral_decimal n small = ⊎_elim
    (λ none. numeral_digit n (omega arith) ∙ sym (decimal_digit n (omega arith)))
    (λ some. numeral_positive n some ∙ sym (decimal-digits_of n some small))
    (cases_lt n 1)

pub signed_numeral_decimal : (z : ℤ) → mag z < 2 ^ 63 → signed_numeral z ≡ signed_decimal z
signed_numeral_decimal (pos n) small = numeral_decimal n (omega arith)
signed_numeral_decimal (negsuc n) small =
    let step : n + 1 ≡ suc n = omega arith in
    ap (λ t. 45 ∷ t) (numeral_decimal (n + 1) (omega arith) ∙ ap decimal step)
