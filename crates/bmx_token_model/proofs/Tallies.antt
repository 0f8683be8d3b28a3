-- Counts of notes in flight, and tests of numbers.
use Rattle.std.proofs.Common.{◌≡◌, ◌≢◌, ◌⊎◌, inl, inr, ℕ, ◌+◌, ◌*◌, ◌≤◌, arith, List, [], ◌∷◌, ◌++◌, append_assoc, refl, ap, ap₂, sym, subst₂, ◌∙◌, Bool, true, false, cond}
use Rattle.std.specs.Prelude.{◌==◌, if◌then◌else◌, Option, Some, None}
use Rattle.std.specs.Option.{option_to_list}
use Rattle.std.proofs.lemmas.Bool.Decides.{nat_tests}
use Rattle.std.proofs.lemmas.List.Sums.{sum_by-cons}
use Rattle.bmx_types.specs.declared.numbers.Mode.TheVariants as mode
use Rattle.bmx_types.specs.Updates.{put, put_at}
use Rattle.bmx_token.specs.Transitions.{Note, Asks, Grants, Recalls, Returns}
use Rattle.bmx_token_model.specs.Machine.{Message, is_handover, brings}
use Rattle.bmx_token_model.specs.Laws.{handovers_in}

-- ## tests of numbers

pub same_true : (a : ℕ) → (a == a) ≡ true
same_true a = grind (arith, nat_tests)

pub eqb_true : (a b : ℕ) → (a == b) ≡ true → a ≡ b
eqb_true a b h = grind (arith, nat_tests)

pub eqb_false : (a b : ℕ) → (a == b) ≡ false → a ≢ b
eqb_false a b h = grind (arith, nat_tests)

pub apart_false : (a b : ℕ) → a ≢ b → (a == b) ≡ false
apart_false a b h = grind (arith, nat_tests)

pub swapped : (a b : ℕ) → (a == b) ≡ (b == a)
swapped a b = by_test (a == b) refl
  where
    by_test : (t : Bool) → (a == b) ≡ t → (a == b) ≡ (b == a)
    by_test true e = grind (arith, nat_tests)
    by_test false e = grind (arith, nat_tests)

-- two numbers are the same or not; the test is that of `put` at the second, seen at the first
pub data Cases (a b : ℕ) : Type 0 where
  Same : a ≡ b → (b == a) ≡ true → Cases a b
  Apart : a ≢ b → (b == a) ≡ false → Cases a b

pub cases : (a b : ℕ) → Cases a b
cases a b = by_test (b == a) refl
  where
    by_test : (t : Bool) → (b == a) ≡ t → Cases a b
    by_test true e = Same (sym (eqb_true b a e)) e
    by_test false e = Apart (λ q. eqb_false b a e (sym q)) e

-- a pair of numbers is the pair meant, or not
pub data PairCases (n m j k : ℕ) : Type 0 where
  Both : j ≡ n → k ≡ m → PairCases n m j k
  Other : (j ≢ n) ⊎ (k ≢ m) → PairCases n m j k

pub pair_cases : (n m j k : ℕ) → PairCases n m j k
pair_cases n m j k = by_cases (cases j n) (cases k m)
  where
    by_cases : Cases j n → Cases k m → PairCases n m j k
    by_cases (Same e t) (Same f u) = Both e f
    by_cases (Same e t) (Apart f u) = Other (inr f)
    by_cases (Apart e t) c = Other (inl e)

-- ## functions of numbers

pub put-here : {A : Type 0} (f : ℕ → A) (n : ℕ) (a : A) → put f n a n ≡ a
put-here f n a = rw (same_true n) refl

pub put-apart : {A : Type 0} (f : ℕ → A) (n : ℕ) (a : A) (k : ℕ) → k ≢ n → put f n a k ≡ f k
put-apart f n a k h = rw (apart_false n k (λ e. h (sym e))) refl

pub put_at-here : {A : Type 0} (f : ℕ → ℕ → A) (n m : ℕ) (a : A) → put_at f n m a n m ≡ a
put_at-here f n m a = rw (same_true n, same_true m) refl

pub put_at-apart : {A : Type 0} (f : ℕ → ℕ → A) (n m : ℕ) (a : A) (j k : ℕ) → (j ≢ n) ⊎ (k ≢ m) → put_at f n m a j k ≡ f j k
put_at-apart f n m a j k (inl h) = rw (apart_false n j (λ e. h (sym e))) refl
put_at-apart f n m a j k (inr h) = elim (cases j n) [
  | Same e t ↦ rw (t, apart_false m k (λ e. h (sym e))) (ap (λ (x : ℕ). f x k) (sym e))
  | Apart e t ↦ rw t refl
]

-- of a function changed at a number, or a pair: what holds of the new value there, and of the old ones elsewhere
pub put-all : {A : Type 0} (P : ℕ → A → Type 0) (f : ℕ → A) (n : ℕ) (a : A) → P n a → ((k : ℕ) → k ≢ n → P k (f k)) → (k : ℕ) → P k (put f n a k)
put-all P f n a here there k = elim (cases k n) [
  | Same e t ↦ rw (t, e) here
  | Apart e t ↦ rw t (there k e)
]

-- of two functions changed at a pair
pub put_at-both : {A B : Type 0} (P : ℕ → ℕ → A → B → Type 0) (f : ℕ → ℕ → A) (g : ℕ → ℕ → B) (n m : ℕ) (a : A) (b : B) → P n m a b →
    ((j k : ℕ) → (j ≢ n) ⊎ (k ≢ m) → P j k (f j k) (g j k)) → (j k : ℕ) → P j k (put_at f n m a j k) (put_at g n m b j k)
put_at-both P f g n m a b here there j k = elim (pair_cases n m j k) [
  | Both e h ↦ subst₂ (λ x y. P x y (put_at f n m a x y) (put_at g n m b x y)) (sym e) (sym h) (subst₂ (P n m) (sym (put_at-here f n m a)) (sym (put_at-here g n m b)) here)
  | Other h ↦ subst₂ (P j k) (sym (put_at-apart f n m a j k h)) (sym (put_at-apart g n m b j k h)) (there j k h)
]

pub put_at-all : {A : Type 0} (P : ℕ → ℕ → A → Type 0) (f : ℕ → ℕ → A) (n m : ℕ) (a : A) → P n m a → ((j k : ℕ) → (j ≢ n) ⊎ (k ≢ m) → P j k (f j k)) → (j k : ℕ) → P j k (put_at f n m a j k)
put_at-all P f n m a here there = put_at-both (λ j k x y. P j k x) f f n m a a here there

-- ## notes

-- the notes of letters, in order
abbrev pub notes : List Message → List Note
notes [] = []
notes (l ∷ letters) = option_to_list l.note ++ notes letters

pub notes-append : (a b : List Message) → notes (a ++ b) ≡ notes a ++ notes b
notes-append [] b = refl
notes-append (l ∷ a) b = ap (λ (x : List Note). option_to_list l.note ++ x) (notes-append a b) ∙ sym (append_assoc (option_to_list l.note) (notes a) (notes b))

-- the sum of a number for each note
abbrev pub tally : (Note → ℕ) → List Note → ℕ
tally f [] = 0
tally f (n ∷ rest) = f n + tally f rest

pub tally-append : (f : Note → ℕ) (a b : List Note) → tally f (a ++ b) ≡ tally f a + tally f b
tally-append f [] b = omega arith
tally-append f (n ∷ a) b = omega (arith, tally-append f a b)

pub tally_at_most : (f g : Note → ℕ) → ((n : Note) → f n ≤ g n) → (a : List Note) → tally f a ≤ tally g a
tally_at_most f g h [] = omega arith
tally_at_most f g h (n ∷ a) = omega (arith, h n, tally_at_most f g h a)

-- what a note weighs: a grant of ownership, a grant to read, a recall, a return
abbrev pub handover : Note → ℕ
handover n = if is_handover n then 1 else 0

abbrev pub read_grant : Note → ℕ
read_grant (Asks m asker) = 0
read_grant (Grants mode.Read) = 1
read_grant (Grants mode.Write) = 0
read_grant Recalls = 0
read_grant Returns = 0

abbrev pub recall : Note → ℕ
recall (Asks m asker) = 0
recall (Grants m) = 0
recall Recalls = 1
recall Returns = 0

abbrev pub return : Note → ℕ
return (Asks m asker) = 0
return (Grants m) = 0
return Recalls = 0
return Returns = 1

-- how many grants to read stand behind recalls
abbrev pub behind : List Note → ℕ
behind [] = 0
behind (n ∷ rest) = recall n * tally read_grant rest + behind rest

pub behind-append : (a b : List Note) → behind (a ++ b) ≡ behind a + tally recall a * tally read_grant b + behind b
behind-append [] b = omega arith
behind-append (n ∷ a) b =
    rw (tally-append read_grant a b, behind-append a b) (omega arith)

pub behind_no_recall : (a : List Note) → tally recall a ≡ 0 → behind a ≡ 0
behind_no_recall [] h = refl
behind_no_recall (n ∷ a) h =
    let here : recall n ≡ 0 = omega arith in
    let rest : behind a ≡ 0 = behind_no_recall a (omega arith) in
    rw (here, rest) (omega arith)

pub behind_no_grant : (a : List Note) → tally read_grant a ≡ 0 → behind a ≡ 0
behind_no_grant [] h = refl
behind_no_grant (n ∷ a) h =
    let here : tally read_grant a ≡ 0 = omega arith in
    let rest : behind a ≡ 0 = behind_no_grant a here in
    rw (here, rest) (omega arith)

-- ## letters that bring ownership

pub handover-brings : (l : Message) (t : Bool) → brings l ≡ t → tally handover (option_to_list l.note) ≡ (if t then 1 else 0)
handover-brings l t h = by_note l.note h
  where
    by_test : (b : Bool) → b ≡ t → cond {A = ℕ} b 1 0 + 0 ≡ cond t 1 0
    by_test b e = omega (arith, ap (λ (x : Bool). cond {A = ℕ} x 1 0) e)

    by_note : (n : Option Note) → brings (record l { note = n }) ≡ t → tally handover (option_to_list n) ≡ cond t 1 0
    by_note None e = ap (λ (x : Bool). cond {A = ℕ} x 1 0) e
    by_note (Some n) e = by_test (is_handover n) e

pub handovers_in-tally : (letters : List Message) → handovers_in letters ≡ tally handover (notes letters)
handovers_in-tally [] = refl
handovers_in-tally (l ∷ letters) =
    sum_by-cons (λ (x : Message). cond {A = ℕ} (brings x) 1 0) l letters ∙ ap₂ (λ (x y : ℕ). x + y) (sym (handover-brings l (brings l) refl)) (handovers_in-tally letters) ∙ sym (tally-append handover (option_to_list l.note) (notes letters))
