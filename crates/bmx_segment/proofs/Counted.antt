-- Different numbers rise where they are put in order, and those below a bound are no more than it: so no more
-- segments are mapped than have a number.
use Rattle.std.proofs.Common.{◌≡◌, ℕ, zero, suc, ◌+◌, ◌*◌, ◌^◌, ◌<◌, ◌≤◌, Bool, true, false, cond, ◌||◌, ◌==◌, nat_lt, List, [], ◌∷◌, map, length, get_or, refl, sym, ap, ◌∙◌, subst, arith, ⊎_elim}
use Rattle.std.specs.Prelude.{slice_index}
use Rattle.std.proofs.lemmas.Bool.{cases_Bool, cases_lt, eq-eqb, eqb-true, lt-ltb, ltb-true}
use Rattle.std.specs.List.Sorted.{IsStrictlyIncreasing}
use Rattle.bmx_segment.specs.Blocks.{Block, blank_block}
use Rattle.bmx_segment.specs.Inside.Numbers.{has_number, AreDifferent}
use Rattle.bmx_segment.specs.Inside.Stores.{AreBlocks, IsListed, rank_in}

-- rising numbers, none below the first
abbrev Rise : ℕ → List ℕ → Type 0
Rise low [] = Unit {0}
Rise low (x ∷ xs) = (low ≤ x) × Rise (x + 1) xs

-- rising numbers with one more in its place
abbrev put : ℕ → List ℕ → List ℕ
put y [] = y ∷ []
put y (x ∷ xs) = cond (nat_lt y x) (y ∷ x ∷ xs) (x ∷ put y xs)

-- the numbers in order
abbrev pub sorted : List ℕ → List ℕ
sorted [] = []
sorted (x ∷ xs) = put x (sorted xs)

length_put : (y : ℕ) (xs : List ℕ) → length (put y xs) ≡ suc (length xs)
length_put y [] = refl
length_put y (x ∷ xs) = elim (nat_lt y x) as (λ b. length (cond b (y ∷ x ∷ xs) (x ∷ put y xs)) ≡ suc (suc (length xs))) [ true ↦ refl | false ↦ ap suc (length_put y xs) ]

swap : (a b c : Bool) → (a || (b || c)) ≡ (b || (a || c))
swap true true c = refl
swap true false c = refl
swap false true c = refl
swap false false c = refl

has_put : (y q : ℕ) (xs : List ℕ) → has_number (put y xs) q ≡ (y == q || has_number xs q)
has_put y q [] = refl
has_put y q (x ∷ xs) =
    elim (nat_lt y x) as (λ b. has_number (cond b (y ∷ x ∷ xs) (x ∷ put y xs)) q ≡ (y == q || (x == q || has_number xs q))) [
      | true ↦ refl
      | false ↦ ap (λ b. x == q || b) (has_put y q xs) ∙ swap (x == q) (y == q) (has_number xs q)
    ]

neither : (a b : Bool) → (a || b) ≡ false → (a ≡ false) × (b ≡ false)
neither true b e = absurd (cc)
neither false b e = (refl, e)

not_less : (a b : ℕ) → b ≤ a → nat_lt a b ≡ false
not_less a b le = ⊎_elim (λ (t : nat_lt a b ≡ true). let l : a < b = ltb-true a b t in absurd (omega arith)) (λ (f : nat_lt a b ≡ false). f) (cases_Bool (nat_lt a b))

Rise_put : (low y : ℕ) (xs : List ℕ) → Rise low xs → low ≤ y → has_number xs y ≡ false → Rise low (put y xs)
Rise_put low y [] r le new = (le, tt)
Rise_put low y (x ∷ xs) r le new =
    ⊎_elim
    (λ (less : y < x).
    let P : Bool → Type 0 = λ b. Rise low (cond b (y ∷ x ∷ xs) (x ∷ put y xs)) in
    let next : y + 1 ≤ x = omega arith in
    subst P (sym (lt-ltb y x less)) (le, (next, r.1)))
    (λ (more : x ≤ y).
    let P : Bool → Type 0 = λ b. Rise low (cond b (y ∷ x ∷ xs) (x ∷ put y xs)) in
    let apart = neither (x == y) (has_number xs y) new in
    let next : x + 1 ≤ y = ⊎_elim (λ (l : x < y). let s : x + 1 ≤ y = omega arith in s) (λ (g : y ≤ x). let same : x ≡ y = omega arith in absurd (let t : true ≡ false = sym (eq-eqb x y same) ∙ apart.0 in cc)) (cases_lt x y) in
    subst P (sym (not_less y x more)) (r.0, Rise_put (x + 1) y xs r.1 next apart.1))
    (cases_lt y x)

pub length_sorted : (xs : List ℕ) → length (sorted xs) ≡ length xs
length_sorted [] = refl
length_sorted (x ∷ xs) = length_put x (sorted xs) ∙ ap suc (length_sorted xs)

pub has_sorted : (xs : List ℕ) (q : ℕ) → has_number (sorted xs) q ≡ has_number xs q
has_sorted [] q = refl
has_sorted (x ∷ xs) q = has_put x q (sorted xs) ∙ ap (λ b. x == q || b) (has_sorted xs q)

Rise_sorted : (xs : List ℕ) → AreDifferent xs → Rise 0 (sorted xs)
Rise_sorted [] d = tt
Rise_sorted (x ∷ xs) d = Rise_put 0 x (sorted xs) (Rise_sorted xs d.1) (omega arith) (has_sorted xs x ∙ d.0)

increasing : (low : ℕ) (xs : List ℕ) → Rise low xs → IsStrictlyIncreasing xs
increasing low [] r k h = absurd (omega arith)
increasing low (x ∷ []) r k h = absurd (omega arith)
increasing low (x ∷ y ∷ xs) r zero h = let l : x + 1 ≤ y = r.1.0 in omega arith
increasing low (x ∷ y ∷ xs) r (suc k) h =
    let e : suc k + 1 ≡ suc (k + 1) = omega arith in
    subst (λ n. get_or (y ∷ xs) k 0 < get_or (x ∷ y ∷ xs) n 0) (sym e) (increasing (x + 1) (y ∷ xs) r.1 k (omega arith))

pub sorted_rise : (xs : List ℕ) → AreDifferent xs → IsStrictlyIncreasing (sorted xs)
sorted_rise xs d = increasing 0 (sorted xs) (Rise_sorted xs d)

right : (a b : Bool) → b ≡ true → (a || b) ≡ true
right true b e = refl
right false b e = e

bounded : (low top : ℕ) (xs : List ℕ) → Rise low xs → low ≤ top → ((q : ℕ) → has_number xs q ≡ true → q < top) → length xs + low ≤ top
bounded low top [] r le less = omega arith
bounded low top (x ∷ xs) r le less =
    let first : x < top = less x (ap (λ b. b || has_number xs x) (eq-eqb x x refl)) in
    let from : low ≤ x = r.0 in
    let next : x + 1 ≤ top = omega arith in
    let rest : length xs + (x + 1) ≤ top = bounded (x + 1) top xs r.1 next (λ q t. less q (right (x == q) (has_number xs q) t)) in
    omega (arith, first, from, rest)

pub few_different : (top : ℕ) (xs : List ℕ) → AreDifferent xs → ((q : ℕ) → has_number xs q ≡ true → q < top) → length xs ≤ top
few_different top xs d less =
    let all : length (sorted xs) + 0 ≤ top = bounded 0 top (sorted xs) (Rise_sorted xs d) (omega arith) (λ q t. less q (sym (has_sorted xs q) ∙ t)) in
    omega (arith, all, length_sorted xs)

-- ---- mapped segments

-- a rank is that of one of the blocks
ranked : (bs : List Block) (q : ℕ) → has_number (map rank_in bs) q ≡ true → (j : ℕ) × (j < length bs) × ((d : Block) → rank_in (get_or bs j d) ≡ q)
ranked [] q t = absurd (let e : false ≡ true = t in cc)
ranked (b ∷ bs) q t =
    ⊎_elim
    (λ (here : (rank_in b == q) ≡ true). (0, omega arith, λ d. eqb-true (rank_in b) q here))
    (λ (later : (rank_in b == q) ≡ false).
    let there : has_number (map rank_in bs) q ≡ true = sym (ap (λ a. a || has_number (map rank_in bs) q) later) ∙ t in
    let found = ranked bs q there in
    let within : found.0 < length bs = found.1 in
    (suc found.0, omega arith, λ d. found.2 d))
    (cases_Bool (rank_in b == q))

different_ranks : (bs : List Block) → ((i j : ℕ) (d : Block) → i < length bs → j < length bs → rank_in (get_or bs i d) ≡ rank_in (get_or bs j d) → i ≡ j) → AreDifferent (map rank_in bs)
different_ranks [] apart = tt
different_ranks (b ∷ bs) apart =
    let first : has_number (map rank_in bs) (rank_in b) ≡ false = ⊎_elim
    (λ (t : has_number (map rank_in bs) (rank_in b) ≡ true).
    let found = ranked bs (rank_in b) t in
    let within : found.0 < length bs = found.1 in
    let e : 0 ≡ suc found.0 = apart 0 (suc found.0) b (omega arith) (omega arith) (sym (found.2 b)) in
    absurd (omega arith))
    (λ (f : has_number (map rank_in bs) (rank_in b) ≡ false). f)
    (cases_Bool (has_number (map rank_in bs) (rank_in b))) in
    (first, different_ranks bs (λ i j d wi wj same. let e : suc i ≡ suc j = apart (suc i) (suc j) d (omega arith) (omega arith) same in omega arith))

length_ranks : (bs : List Block) → length (map rank_in bs) ≡ length bs
length_ranks [] = refl
length_ranks (b ∷ bs) = ap suc (length_ranks bs)

pub few_mapped : (xs : List Block) (table : List ℕ) → AreBlocks xs → IsListed xs table → length xs ≤ 2 ^ 19
few_mapped xs table blocks lists =
    let different = different_ranks xs (λ i j d wi wj same.
    let e : i + 1 ≡ j + 1 = sym (lists.listed i d wi) ∙ (ap (slice_index table) same ∙ lists.listed j d wj) in
    omega arith) in
    let all : length (map rank_in xs) ≤ 2 ^ 19 = few_different (2 ^ 19) (map rank_in xs) different (λ q t.
    let found = ranked xs q t in
    let d : Block = blank_block 0 0 in
    let block = blocks found.0 d found.1 in
    let home : (get_or xs found.0 d).home < 8 = block.a_home in
    let number : (get_or xs found.0 d).number < 2 ^ 16 = block.few_numbers in
    let rank : (get_or xs found.0 d).number * 8 + (get_or xs found.0 d).home ≡ q = found.2 d in
    omega (arith, home, number, rank)) in
    omega (arith, all, length_ranks xs)
