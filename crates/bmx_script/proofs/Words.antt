-- A line and its words: what lies between its spaces.
use Rattle.std.proofs.Common.{◌≡◌, ℕ, ◌+◌, ◌-◌, ◌<◌, ◌==◌, Bool, true, false, not, ◌&&◌, nat_le, List, [], ◌∷◌, ◌++◌, length, get_or, take, drop, suc, zero, Some, None, refl, ap, ◌∙◌, arith}
use Rattle.std.specs.List.{list_all, position_from, slice_split, join_with_byte}
use Rattle.std.proofs.lemmas.Bool.{and_parts, and_from, eqb-true, not-true}
use Rattle.std.specs.Prelude.{IsUtf8, slice_index}
use Rattle.std.proofs.lemmas.Str.{IsUtf8-from_ascii}
use Rattle.bmx_script.specs.Inside.Parsing.{is_space}
use Rattle.bmx_script.specs.Grammar.{is_word_byte, is_bunch_word, begins_with_letter, same_word}
use Rattle.bmx_script.proofs.ReadLemmas.{split_if}

-- a word without a space
abbrev pub has_no_space : List ℕ → Bool
has_no_space w = list_all (λ c. not (c == 32)) w

pub split_last : (w : List ℕ) → has_no_space w ≡ true → slice_split is_space w ≡ w ∷ []
split_last [] h = refl
split_last (c ∷ w) h =
    let parts : (not (c == 32) ≡ true) × (has_no_space w ≡ true) = and_parts (not (c == 32)) (has_no_space w) h in
    let differs : (c == 32) ≡ false = not-true (c == 32) parts.0 in
    rw (differs, split_last w parts.1) refl

split_word : (w rest : List ℕ) → has_no_space w ≡ true → slice_split is_space (w ++ 32 ∷ rest) ≡ w ∷ slice_split is_space rest
split_word [] rest h = refl
split_word (c ∷ w) rest h =
    let parts : (not (c == 32) ≡ true) × (has_no_space w ≡ true) = and_parts (not (c == 32)) (has_no_space w) h in
    let differs : (c == 32) ≡ false = not-true (c == 32) parts.0 in
    rw (differs, split_word w rest parts.1) refl

-- words without spaces, joined and split again
pub split-join : (w : List ℕ) (ws : List (List ℕ)) → list_all has_no_space (w ∷ ws) ≡ true → slice_split is_space (join_with_byte 32 (w ∷ ws)) ≡ w ∷ ws
split-join w [] h = split_last w (and_parts (has_no_space w) true h).0
split-join w (v ∷ vs) h =
    let parts : (has_no_space w ≡ true) × (list_all has_no_space (v ∷ vs) ≡ true) = and_parts (has_no_space w) (list_all has_no_space (v ∷ vs)) h in
    split_word w (join_with_byte 32 (v ∷ vs)) parts.0 ∙ ap (λ x. w ∷ x) (split-join v vs parts.1)

-- up to the first space, and behind it
split_cut : (i : ℕ) (bytes : List ℕ) (at : ℕ) → position_from is_space i bytes ≡ Some at → (m : ℕ) × (at ≡ i + m) × (m < length bytes) × (slice_split is_space bytes ≡ take m bytes ∷ slice_split is_space (drop (suc m) bytes))
split_cut i [] at e = cc
split_cut i (c ∷ cs) at e = split_if (c == 32) (Some i) (position_from is_space (i + 1) cs) (Some at) e
    (λ h q. let here : i ≡ at = cc in (0, omega arith, omega arith, rw h refl))
    (λ h q.
    let found : (m : ℕ) × (at ≡ i + 1 + m) × (m < length cs) × (slice_split is_space cs ≡ take m cs ∷ slice_split is_space (drop (suc m) cs)) = split_cut (i + 1) cs at q in
    (suc found.0, omega (arith, found.1), omega (arith, found.2), rw (h, found.3) refl))

pub split_uncut : (i : ℕ) (bytes : List ℕ) → position_from is_space i bytes ≡ None → slice_split is_space bytes ≡ bytes ∷ []
split_uncut i [] e = refl
split_uncut i (c ∷ cs) e = split_if (c == 32) (Some i) (position_from is_space (i + 1) cs) None e
    (λ h q. cc)
    (λ h q. rw (h, split_uncut (i + 1) cs q) refl)

pub split_at : (bytes : List ℕ) (at : ℕ) → position_from is_space 0 bytes ≡ Some at → slice_split is_space bytes ≡ take at bytes ∷ slice_split is_space (drop (at + 1) bytes)
split_at bytes at e =
    let found : (m : ℕ) × (at ≡ 0 + m) × (m < length bytes) × (slice_split is_space bytes ≡ take m bytes ∷ slice_split is_space (drop (suc m) bytes)) = split_cut 0 bytes at e in
    let here : found.0 ≡ at = omega (arith, found.1) in
    let behind : suc found.0 ≡ at + 1 = omega (arith, found.1) in
    found.3 ∙ ap (λ n. take n bytes ∷ slice_split is_space (drop (suc found.0) bytes)) here ∙ ap (λ n. take at bytes ∷ slice_split is_space (drop n bytes)) behind

-- the same word
pub same_word-true : (a b : List ℕ) → same_word a b ≡ true → a ≡ b
same_word-true [] [] h = refl
same_word-true [] (d ∷ ds) h = cc
same_word-true (c ∷ cs) [] h = cc
same_word-true (c ∷ cs) (d ∷ ds) h =
    let parts : ((c == d) ≡ true) × (same_word cs ds ≡ true) = and_parts (c == d) (same_word cs ds) h in
    let head : c ≡ d = eqb-true c d parts.0 in
    let tail : cs ≡ ds = same_word-true cs ds parts.1 in
    cc

same_number : (c : ℕ) → (c == c) ≡ true
same_number c = grind arith

pub same_word-same : (a : List ℕ) → same_word a a ≡ true
same_word-same [] = refl
same_word-same (c ∷ cs) = and_from (c == c) (same_word cs cs) (same_number c) (same_word-same cs)

-- where a word was found
pub position_found : {X : Type 0} (t : X → Bool) (i : ℕ) (xs : List X) (j : ℕ) (d : X) → position_from t i xs ≡ Some j → (m : ℕ) × (j ≡ i + m) × (m < length xs) × (t (get_or xs m d) ≡ true)
position_found t i [] j d e = cc
position_found {X} t i (x ∷ xs) j d e = split_if (t x) (Some i) (position_from t (i + 1) xs) (Some j) e
    (λ h q. let same : i ≡ j = cc in (0, omega arith, omega arith, h))
    (λ h q. let found : (m : ℕ) × (j ≡ i + 1 + m) × (m < length xs) × (t (get_or xs m d) ≡ true) = position_found t (i + 1) xs j d q in
    (suc found.0, omega (arith, found.1), omega (arith, found.2), found.3))

pub position_at : {X : Type 0} (t : X → Bool) (i : ℕ) (xs : List X) (m : ℕ) (d : X) → m < length xs → t (get_or xs m d) ≡ true → ((q : ℕ) → q < m → t (get_or xs q d) ≡ false) → position_from t i xs ≡ Some (i + m)
position_at t i [] m d below here before = absurd (omega arith)
position_at t i (x ∷ xs) zero d below here before = rw here (ap Some (omega arith))
position_at t i (x ∷ xs) (suc m) d below here before =
    let first : t x ≡ false = before 0 (omega arith) in
    rw first (position_at t (i + 1) xs m d (omega arith) here (λ q h. before (suc q) (omega arith)) ∙ ap Some (omega arith))

pub position_none : {X : Type 0} (t : X → Bool) (i : ℕ) (xs : List X) (d : X) → ((q : ℕ) → q < length xs → t (get_or xs q d) ≡ false) → position_from t i xs ≡ None
position_none t i [] d h = refl
position_none t i (x ∷ xs) d h =
    let first : t x ≡ false = h 0 (omega arith) in
    rw first (position_none t (i + 1) xs d (λ q below. h (suc q) (omega arith)))

pub position_below : (t : List ℕ → Bool) (words : List (List ℕ)) (j : ℕ) → position_from t 0 words ≡ Some j → j < length words
position_below t words j e =
    let found : (m : ℕ) × (j ≡ 0 + m) × (m < length words) × (t (get_or words m []) ≡ true) = position_found t 0 words j [] e in
    omega (arith, found.1, found.2)

-- the bytes of a word are ASCII
word_byte_below : (c : ℕ) → is_word_byte c ≡ true → c < 128
word_byte_below c h = grind (arith, h)

word_ascii : (w : List ℕ) → list_all is_word_byte w ≡ true → (i : ℕ) → slice_index w i < 128
word_ascii [] h i = omega arith
word_ascii (c ∷ w) h zero = word_byte_below c (and_parts (is_word_byte c) (list_all is_word_byte w) h).0
word_ascii (c ∷ w) h (suc i) = word_ascii w (and_parts (is_word_byte c) (list_all is_word_byte w) h).1 i

pub bunch_word_utf8 : (w : List ℕ) → is_bunch_word w ≡ true → IsUtf8 w
bunch_word_utf8 w h =
    let parts : (begins_with_letter w ≡ true) × ((list_all is_word_byte w && nat_le (length w) 16) ≡ true) = and_parts (begins_with_letter w) (list_all is_word_byte w && nat_le (length w) 16) h in
    IsUtf8-from_ascii w (word_ascii w (and_parts (list_all is_word_byte w) (nat_le (length w) 16) parts.1).0)
