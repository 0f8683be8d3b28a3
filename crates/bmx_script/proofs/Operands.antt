-- What a word that is an operand comes to is what the grammar says of operands.
use Rattle.std.proofs.Common.{◌≡◌, ℕ, ◌+◌, ◌<◌, ◌≤◌, ◌==◌, ℤ, Bool, true, false, cond, ◌&&◌, ◌||◌, nat_lt, List, [], ◌∷◌, ◌++◌, length, Option, Some, None, refl, ap, sym, ◌∙◌, subst, ⊎_elim, arith, Result, Ok, Err}
use Rattle.std.specs.Prelude.{codes}
use Rattle.std.specs.List.{position_from}
use Rattle.std.proofs.lemmas.Bool.{and_from, or_cases, ltb-true, lt-ltb, eqb-true, ne_eqb}
use Rattle.std.proofs.lemmas.List.Folds.{list_all-append}
use Rattle.bmx_types.specs.declared.commands.Operand.{Operand}
use Rattle.bmx_types.specs.declared.commands.Operand.TheVariants as operand
use Rattle.bmx_numerals.specs.declared.words.Misfit.{Misfit}
use Rattle.bmx_numerals.specs.declared.words.Misfit.TheVariants.{Form}
use Rattle.bmx_numerals.specs.Numerals.{numeral, signed_numeral, is_digit}
use Rattle.bmx_types.specs.Integers.{is_i64}
use Rattle.bmx_numerals.specs.Words.{read_below, read_integer}
use Rattle.bmx_numerals.proofs.NumeralLemmas.{is_digit_range, signed_numeral_first}
use Rattle.bmx_script.specs.declared.knowledge.Knowledge.{Knowledge}
use Rattle.bmx_script.specs.Spelling.{word_of, register_word, operand_word}
use Rattle.bmx_script.specs.Grammar.{is_bunch_word, same_word, is_source, named_by, fits_operand}
use Rattle.bmx_script.specs.Inside.Distinct.{AreDistinct}
use Rattle.bmx_script.specs.Inside.Parsing.{map_read, read_register, found_bunch, read_bunch, read_source, begins_as_source, read_value, read_place}
use Rattle.bmx_script.proofs.ReadLemmas.{is_form, split_if, form_and, form_map, and_form, map_form, good_and, good_map, and_good, map_good, form_below, below_form, below_good, good_below, form_integer, integer_form, integer_good, good_integer, form_register, register_form, register_good, good_register}
use Rattle.bmx_script.proofs.Words.{same_word-true, same_word-same, position_found, position_at}
use Rattle.bmx_script.proofs.Plain.{are_words, the_word}

-- two tests at once
pub both : {x y : Bool} → x ≡ true → y ≡ true → (x && y) ≡ true
both {x} {y} p q = and_from x y p q

pub words_both : (ws : List (List ℕ)) (bs cs : List ℕ) → are_words ws bs ≡ true → are_words ws cs ≡ true → are_words ws (bs ++ cs) ≡ true
words_both ws bs cs p q = list_all-append (λ b. is_bunch_word (word_of ws b)) bs cs ∙ both p q

pub one_word : (ws : List (List ℕ)) (b : ℕ) (w : List ℕ) → word_of ws b ≡ w → is_bunch_word w ≡ true → are_words ws (b ∷ []) ≡ true
one_word ws b w called proper = both (ap is_bunch_word called ∙ proper) refl

-- ## bunches by their words

found_is_no_form : (o : Option ℕ) → is_form (found_bunch o) ≡ false
found_is_no_form None = refl
found_is_no_form (Some b) = refl

pub form_if : {A : Type 0} (b : Bool) (f : Result A Misfit) → b ≡ true → is_form f ≡ false → is_form (cond b f (Err Form)) ≡ false
form_if true f h e = e
form_if false f h e = cc

pub if_form : {A : Type 0} (b : Bool) (f : Result A Misfit) → is_form (cond b f (Err Form)) ≡ false → (b ≡ true) × (is_form f ≡ false)
if_form true f e = (refl, e)
if_form false f e = cc

pub if_good : {A : Type 0} (b : Bool) (f : Result A Misfit) (x : A) → cond b f (Err Form) ≡ Ok x → (b ≡ true) × (f ≡ Ok x)
if_good true f x e = (refl, e)
if_good false f x e = cc

pub good_if : {A : Type 0} (b : Bool) (f : Result A Misfit) (x : A) → b ≡ true → f ≡ Ok x → cond b f (Err Form) ≡ Ok x
good_if true f x h e = e
good_if false f x h e = cc

pub form_bunch : (k : Knowledge) (w : List ℕ) → is_bunch_word w ≡ true → is_form (read_bunch k w) ≡ false
form_bunch k w h = form_if (is_bunch_word w) (found_bunch (position_from (same_word w) 0 k.bunches)) h (found_is_no_form (position_from (same_word w) 0 k.bunches))

pub bunch_form : (k : Knowledge) (w : List ℕ) → is_form (read_bunch k w) ≡ false → is_bunch_word w ≡ true
bunch_form k w e = (if_form (is_bunch_word w) (found_bunch (position_from (same_word w) 0 k.bunches)) e).0

found_good : (o : Option ℕ) (b : ℕ) → found_bunch o ≡ Ok b → o ≡ Some b
found_good None b e = cc
found_good (Some c) b e = cc

pub record IsBunch (k : Knowledge) (w : List ℕ) (b : ℕ) : Type 0 where
  pub proper : is_bunch_word w ≡ true
  pub called : word_of k.bunches b ≡ w
  pub known : nat_lt b (length k.bunches) ≡ true

pub bunch_good : (k : Knowledge) (w : List ℕ) (b : ℕ) → read_bunch k w ≡ Ok b → IsBunch k w b
bunch_good k w b e =
    let parts : (is_bunch_word w ≡ true) × (found_bunch (position_from (same_word w) 0 k.bunches) ≡ Ok b) = if_good (is_bunch_word w) (found_bunch (position_from (same_word w) 0 k.bunches)) b e in
    let found : (m : ℕ) × (b ≡ 0 + m) × (m < length k.bunches) × (same_word w (word_of k.bunches m) ≡ true) = position_found (same_word w) 0 k.bunches b [] (found_good (position_from (same_word w) 0 k.bunches) b parts.1) in
    let here : found.0 ≡ b = omega (arith, found.1) in
    record {
      proper = parts.0;
      called = ap (word_of k.bunches) (sym here) ∙ sym (same_word-true w (word_of k.bunches found.0) found.3);
      known = lt-ltb b (length k.bunches) (omega (arith, found.2, here));
    }

pub good_bunch : (k : Knowledge) (b : ℕ) → AreDistinct k.bunches → nat_lt b (length k.bunches) ≡ true → is_bunch_word (word_of k.bunches b) ≡ true → read_bunch k (word_of k.bunches b) ≡ Ok b
good_bunch k b distinct known proper =
    let below : b < length k.bunches = ltb-true b (length k.bunches) known in
    let place : position_from (same_word (word_of k.bunches b)) 0 k.bunches ≡ Some (0 + b) =
    position_at (same_word (word_of k.bunches b)) 0 k.bunches b [] below (same_word-same (word_of k.bunches b)) (λ q h. distinct q b h below) in
    good_if (is_bunch_word (word_of k.bunches b)) (found_bunch (position_from (same_word (word_of k.bunches b)) 0 k.bunches)) b proper
    (ap found_bunch place ∙ ap (λ n. Ok n) (omega arith))

-- a test that chose among fields
pub choose_form : {A C : Type 0} (b : Bool) (f g : Result A Misfit) → is_form (cond b f g) ≡ false → (b ≡ true → is_form f ≡ false → C) → (b ≡ false → is_form g ≡ false → C) → C
choose_form true f g e yes_case no_case = yes_case refl e
choose_form false f g e yes_case no_case = no_case refl e

-- a word without its first byte
abbrev pub behind : List ℕ → List ℕ
behind [] = []
behind (c ∷ w) = w

-- an operand that a word spells, with these words for the bunches
pub record IsOperand (ws : List (List ℕ)) (w : List ℕ) (o : Operand) : Type 0 where
  pub word : operand_word ws o ≡ w
  pub named : are_words ws (named_by o) ≡ true

-- the same, of a source
pub record IsSource (ws : List (List ℕ)) (w : List ℕ) (o : Operand) : Type 0 where
  pub source : is_source o ≡ true
  pub is : IsOperand ws w o

-- ## sources

pub form_source : (k : Knowledge) (ws : List (List ℕ)) (o : Operand) → is_source o ≡ true → are_words ws (named_by o) ≡ true → is_form (read_source k (operand_word ws o)) ≡ false
form_source k ws (operand.Register r) s named = form_map _ _ (form_register r)
form_source k ws (operand.Anchor b) s named = form_map _ _ (form_bunch k (word_of ws b) (the_word ws b named))
form_source k ws (operand.Int z) s named = cc
form_source k ws operand.Null s named = cc

pub good_source : (k : Knowledge) (o : Operand) → AreDistinct k.bunches → is_source o ≡ true → are_words k.bunches (named_by o) ≡ true → fits_operand (length k.bunches) o ≡ true → read_source k (operand_word k.bunches o) ≡ Ok o
good_source k (operand.Register r) distinct s named fits = good_map _ _ r (good_register r fits)
good_source k (operand.Anchor b) distinct s named fits = good_map _ _ b (good_bunch k b distinct fits (the_word k.bunches b named))
good_source k (operand.Int z) distinct s named fits = cc
good_source k operand.Null distinct s named fits = cc

-- a word with the form of a source is one, where some bunch is called what is behind its first byte
pub source_form : (k : Knowledge) (ws : List (List ℕ)) (i : ℕ) (w : List ℕ) → word_of ws i ≡ behind w → is_form (read_source k w) ≡ false → (o : Operand) × IsSource ws w o
source_form k ws i [] called e = cc
source_form k ws i (c ∷ w) called e = choose_form (c == 64) _ _ e
    (λ t f. (operand.Anchor i, record { source = refl; is = record { word = cc (eqb-true c 64 t, called); named = one_word ws i w called (bunch_form k w (map_form _ _ f)) } }))
    (λ t f.
    let r : (r : ℕ) × ((c ∷ w) ≡ register_word r) = register_form (c ∷ w) (map_form _ _ f) in
    (operand.Register r.0, record { source = refl; is = record { word = sym r.1; named = refl } }))

pub source_good : (k : Knowledge) (w : List ℕ) (o : Operand) → read_source k w ≡ Ok o → IsSource k.bunches w o × (fits_operand (length k.bunches) o ≡ true)
source_good k [] o e = cc
source_good k (c ∷ w) o e = split_if (c == 64) _ _ (Ok o) e
    (λ t f.
    let found : (b : ℕ) × (read_bunch k w ≡ Ok b) × (operand.Anchor b ≡ o) = map_good _ _ o f in
    let b : IsBunch k w found.0 = bunch_good k w found.0 found.1 in
    let called : word_of k.bunches found.0 ≡ w = b.called in
    let P : Operand → Type 0 = λ x. IsSource k.bunches (c ∷ w) x × (fits_operand (length k.bunches) x ≡ true) in
    subst P found.2 (record { source = refl; is = record { word = cc (eqb-true c 64 t, called); named = one_word k.bunches found.0 w called b.proper } }, b.known))
    (λ t f.
    let found : (r : ℕ) × (read_register (c ∷ w) ≡ Ok r) × (operand.Register r ≡ o) = map_good _ _ o f in
    let r : ((c ∷ w) ≡ register_word found.0) × (nat_lt found.0 16 ≡ true) = register_good (c ∷ w) found.0 found.1 in
    let P : Operand → Type 0 = λ x. IsSource k.bunches (c ∷ w) x × (fits_operand (length k.bunches) x ≡ true) in
    subst P found.2 (record { source = refl; is = record { word = sym r.0; named = refl } }, r.1))

-- ## values

-- a word whose first byte is a digit or `-` is an integer, if it is a value
low_value : (k : Knowledge) (w : List ℕ) (c : ℕ) (cs : List ℕ) → w ≡ c ∷ cs → c < 58 → read_value k w ≡ map_read (λ z. operand.Int z) (read_integer w)
low_value k w c cs e low =
    let no_null : (c == 110) ≡ false = ne_eqb c 110 (λ h. absurd (omega arith)) in
    let no_anchor : (c == 64) ≡ false = ne_eqb c 64 (λ h. absurd (omega arith)) in
    let no_register : (c == 114) ≡ false = ne_eqb c 114 (λ h. absurd (omega arith)) in
    rw (e, no_null, no_anchor, no_register) refl

integer_value : (k : Knowledge) (z : ℤ) → read_value k (signed_numeral z) ≡ map_read (λ y. operand.Int y) (read_integer (signed_numeral z))
integer_value k z =
    let first : (c : ℕ) × (cs : List ℕ) × (signed_numeral z ≡ c ∷ cs) × ((is_digit c || (c == 45)) ≡ true) = signed_numeral_first z in
    low_value k (signed_numeral z) first.0 first.1 first.2
    (⊎_elim (λ d. let range : (48 ≤ first.0) × (first.0 ≤ 57) = is_digit_range first.0 d in omega arith) (λ m. omega (arith, eqb-true first.0 45 m)) (or_cases (is_digit first.0) (first.0 == 45) first.3))

pub form_value : (k : Knowledge) (ws : List (List ℕ)) (o : Operand) → are_words ws (named_by o) ≡ true → is_form (read_value k (operand_word ws o)) ≡ false
form_value k ws (operand.Register r) named = form_source k ws (operand.Register r) refl named
form_value k ws (operand.Anchor b) named = form_source k ws (operand.Anchor b) refl named
form_value k ws (operand.Int z) named = ap is_form (integer_value k z) ∙ form_map _ _ (form_integer z)
form_value k ws operand.Null named = refl

pub good_value : (k : Knowledge) (o : Operand) → AreDistinct k.bunches → are_words k.bunches (named_by o) ≡ true → fits_operand (length k.bunches) o ≡ true → read_value k (operand_word k.bunches o) ≡ Ok o
good_value k (operand.Register r) distinct named fits = good_source k (operand.Register r) distinct refl named fits
good_value k (operand.Anchor b) distinct named fits = good_source k (operand.Anchor b) distinct refl named fits
good_value k (operand.Int z) distinct named fits = integer_value k z ∙ good_map _ _ z (good_integer z fits)
good_value k operand.Null distinct named fits = refl

pub value_form : (k : Knowledge) (ws : List (List ℕ)) (i : ℕ) (w : List ℕ) → word_of ws i ≡ behind w → is_form (read_value k w) ≡ false → (o : Operand) × IsOperand ws w o
value_form k ws i w called e = choose_form (same_word w (codes "null")) _ _ e
    (λ t f. (operand.Null, record { word = sym (same_word-true w (codes "null") t); named = refl }))
    (λ _ g. choose_form (begins_as_source w) _ _ g
    (λ _ f. let s : (o : Operand) × IsSource ws w o = source_form k ws i w called f in (s.0, s.1.is))
    (λ _ f. let z : (z : ℤ) × (w ≡ signed_numeral z) = integer_form w (map_form _ _ f) in (operand.Int z.0, record { word = sym z.1; named = refl })))

pub value_good : (k : Knowledge) (w : List ℕ) (o : Operand) → read_value k w ≡ Ok o → IsOperand k.bunches w o × (fits_operand (length k.bunches) o ≡ true)
value_good k w o e = split_if (same_word w (codes "null")) _ _ (Ok o) e
    (λ t f. let null : operand.Null ≡ o = cc (f) in
    let P : Operand → Type 0 = λ x. IsOperand k.bunches w x × (fits_operand (length k.bunches) x ≡ true) in
    subst P null (record { word = sym (same_word-true w (codes "null") t); named = refl }, refl))
    (λ _ g. split_if (begins_as_source w) _ _ (Ok o) g
    (λ _ f. let s : IsSource k.bunches w o × (fits_operand (length k.bunches) o ≡ true) = source_good k w o f in (s.0.is, s.1))
    (λ _ f.
    let found : (z : ℤ) × (read_integer w ≡ Ok z) × (operand.Int z ≡ o) = map_good _ _ o f in
    let z : (w ≡ signed_numeral found.0) × (is_i64 found.0 ≡ true) = integer_good w found.0 found.1 in
    let P : Operand → Type 0 = λ x. IsOperand k.bunches w x × (fits_operand (length k.bunches) x ≡ true) in
    subst P found.2 (record { word = sym z.0; named = refl }, z.1)))

-- ## fields of objects

pub form_place : (k : Knowledge) (ws : List (List ℕ)) (o : Operand) (i : ℕ) → is_source o ≡ true → are_words ws (named_by o) ≡ true → is_form (read_place k (operand_word ws o) (numeral i)) ≡ false
form_place k ws o i s named = form_and _ _ (form_source k ws o s named) (form_below 256 i)

pub good_place : (k : Knowledge) (o : Operand) (i : ℕ) → AreDistinct k.bunches → is_source o ≡ true → are_words k.bunches (named_by o) ≡ true → fits_operand (length k.bunches) o ≡ true → nat_lt i 256 ≡ true
    → read_place k (operand_word k.bunches o) (numeral i) ≡ Ok (o, i)
good_place k o i distinct s named fits below = good_and _ _ o i (good_source k o distinct s named fits) (good_below 256 i below)

-- a source and an index that two words spell
pub record IsPlace (ws : List (List ℕ)) (on index : List ℕ) (o : Operand) (i : ℕ) : Type 0 where
  pub source : IsSource ws on o
  pub at : index ≡ numeral i

pub place_form : (k : Knowledge) (ws : List (List ℕ)) (b : ℕ) (on index : List ℕ) → word_of ws b ≡ behind on → is_form (read_place k on index) ≡ false → (o : Operand) × (i : ℕ) × IsPlace ws on index o i
place_form k ws b on index called e =
    let parts : (is_form (read_source k on) ≡ false) × (is_form (read_below 256 index) ≡ false) = and_form _ _ e in
    let s : (o : Operand) × IsSource ws on o = source_form k ws b on called parts.0 in
    let i : (i : ℕ) × (index ≡ numeral i) = below_form 256 index parts.1 in
    (s.0, i.0, record { source = s.1; at = i.1 })

pub record FitsPlace (k : Knowledge) (on index : List ℕ) (o : Operand) (i : ℕ) : Type 0 where
  pub place : IsPlace k.bunches on index o i
  pub fits : fits_operand (length k.bunches) o ≡ true
  pub below : nat_lt i 256 ≡ true

pub place_good : (k : Knowledge) (on index : List ℕ) (p : Operand × ℕ) → read_place k on index ≡ Ok p → FitsPlace k on index p.0 p.1
place_good k on index p e =
    let parts : (read_source k on ≡ Ok p.0) × (read_below 256 index ≡ Ok p.1) = and_good _ _ p e in
    let s : IsSource k.bunches on p.0 × (fits_operand (length k.bunches) p.0 ≡ true) = source_good k on p.0 parts.0 in
    let i : (index ≡ numeral p.1) × (nat_lt p.1 256 ≡ true) = below_good 256 index p.1 parts.1 in
    record { place = record { source = s.0; at = i.0 }; fits = s.1; below = i.1 }
