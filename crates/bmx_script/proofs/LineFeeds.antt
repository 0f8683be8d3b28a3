-- Where a text is cut into lines.
use Rattle.std.proofs.Common.{◌≡◌, ℕ, ◌+◌, ◌-◌, ◌<◌, ◌==◌, Bool, true, false, Option, List, [], ◌∷◌, length, take, drop, suc, Some, None, get_or, refl, ap, sym, ◌∙◌, arith}
use Rattle.std.specs.List.{position_from}
use Rattle.std.proofs.lemmas.List.{take_all, length-drop}
use Rattle.bmx_script.specs.Grammar.{lines_of}
use Rattle.memchr.specs.Find.{IsFirstByte, is_byte}
use Rattle.bmx_script.proofs.ReadLemmas.{split_if}
use Rattle.bmx_script.proofs.Words.{position_at, position_none}

abbrev is_feed : ℕ → Bool
is_feed c = c == 10

not_true_false : (b : Bool) → ¬ (b ≡ true) → b ≡ false
not_true_false true h = absurd (h refl)
not_true_false false h = refl

-- the first line feed, as a search finds it
pub first_feed : (bytes : List ℕ) (r : Option ℕ) → IsFirstByte (is_byte 10) bytes r → r ≡ position_from is_feed 0 bytes
first_feed bytes None none = sym (position_none is_feed 0 bytes 0 (λ q below. not_true_false (is_feed (get_or bytes q 0)) (none q (omega arith) below)))
first_feed bytes (Some k) found = sym
    (position_at is_feed 0 bytes k 0 found.0.high found.1 (λ q h. not_true_false (is_feed (get_or bytes q 0)) (found.0.before q (omega arith) h))
    ∙ ap (λ n. Some n) (omega arith))

-- up to the first line feed, and behind it
cut_at : (i : ℕ) (bytes : List ℕ) (at : ℕ) → position_from is_feed i bytes ≡ Some at → (m : ℕ) × (at ≡ i + m) × (m < length bytes) × (lines_of bytes ≡ take m bytes ∷ lines_of (drop (suc m) bytes))
cut_at i [] at e = cc
cut_at i (c ∷ cs) at e = split_if (c == 10) (Some i) (position_from is_feed (i + 1) cs) (Some at) e
    (λ h q. let here : i ≡ at = cc in (0, omega arith, omega arith, rw h refl))
    (λ h q.
    let found : (m : ℕ) × (at ≡ i + 1 + m) × (m < length cs) × (lines_of cs ≡ take m cs ∷ lines_of (drop (suc m) cs)) = cut_at (i + 1) cs at q in
    (suc found.0, omega (arith, found.1), omega (arith, found.2), rw (h, found.3) refl))

-- no line feed
uncut : (i : ℕ) (c : ℕ) (cs : List ℕ) → position_from is_feed i (c ∷ cs) ≡ None → lines_of (c ∷ cs) ≡ (c ∷ cs) ∷ []
uncut i c [] e = split_if (c == 10) (Some i) None None e (λ h q. cc) (λ h q. rw h refl)
uncut i c (d ∷ ds) e = split_if (c == 10) (Some i) (position_from is_feed (i + 1) (d ∷ ds)) None e
    (λ h q. cc)
    (λ h q. rw (h, uncut (i + 1) d ds q) refl)

pub lines_of-cut : (bytes : List ℕ) (at : ℕ) → position_from is_feed 0 bytes ≡ Some at → lines_of bytes ≡ take at bytes ∷ lines_of (drop (at + 1) bytes)
lines_of-cut bytes at e =
    let found : (m : ℕ) × (at ≡ 0 + m) × (m < length bytes) × (lines_of bytes ≡ take m bytes ∷ lines_of (drop (suc m) bytes)) = cut_at 0 bytes at e in
    let here : found.0 ≡ at = omega (arith, found.1) in
    let behind : suc found.0 ≡ at + 1 = omega (arith, found.1) in
    found.3 ∙ ap (λ n. take n bytes ∷ lines_of (drop (suc found.0) bytes)) here ∙ ap (λ n. take at bytes ∷ lines_of (drop n bytes)) behind

pub feed_within : (bytes : List ℕ) (at : ℕ) → position_from is_feed 0 bytes ≡ Some at → at < length bytes
feed_within bytes at e =
    let found : (m : ℕ) × (at ≡ 0 + m) × (m < length bytes) × (lines_of bytes ≡ take m bytes ∷ lines_of (drop (suc m) bytes)) = cut_at 0 bytes at e in
    omega (arith, found.1, found.2)

pub lines_of-uncut : (bytes : List ℕ) → 0 < length bytes → position_from is_feed 0 bytes ≡ None → lines_of bytes ≡ bytes ∷ []
lines_of-uncut [] h e = absurd (omega arith)
lines_of-uncut (c ∷ cs) h e = uncut 0 c cs e

-- what a slice from k on is
pub rest_from : (k : ℕ) (bytes : List ℕ) → take (length bytes - k) (drop k bytes) ≡ drop k bytes
rest_from k bytes = take_all (length bytes - k) (drop k bytes) (omega (arith, length-drop k bytes))
