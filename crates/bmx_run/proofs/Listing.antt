-- Lists that change at one place, as functions of the place; the generator's words one after another.
use Rattle.std.proofs.Common.{◌≡◌, ℕ, zero, suc, ◌+◌, ◌<◌, arith, refl, ap, sym, ◌∙◌, Bool, cond, List, [], ◌∷◌, ◌++◌, length, Some}
use Rattle.std.specs.Prelude.{◌==◌, ◌≢◌, slice_get, slice_set}
use Rattle.std.specs.Option.{option_map_or}
use Rattle.std.proofs.Math.Path.{fun_ext}
use Rattle.rand_pcg.specs.Lcg.{Lcg, state_after, next_state, advance}
use Rattle.rand_pcg.specs.Pcg.{multiplier_64, pcg32}
use Rattle.bmx_types.specs.Updates.{put}
use Rattle.bmx_protocol.proofs.Basics.{Two, Same, Apart, two, eqb_same}

-- ## lists

pub got_same : {A : Type 0} (xs : List A) (n : ℕ) (y : A) → n < length xs → slice_get (slice_set xs n y) n ≡ Some y
got_same [] n y h = absurd (omega (arith, h))
got_same (x ∷ xs) zero y h = refl
got_same (x ∷ xs) (suc n) y h = got_same xs n y (omega (arith, h))

pub got_other : {A : Type 0} (xs : List A) (n m : ℕ) (y : A) → n ≢ m → slice_get (slice_set xs n y) m ≡ slice_get xs m
got_other [] n m y h = refl
got_other (x ∷ xs) zero zero y h = absurd (h refl)
got_other (x ∷ xs) zero (suc m) y h = refl
got_other (x ∷ xs) (suc n) zero y h = refl
got_other (x ∷ xs) (suc n) (suc m) y h = got_other xs n m y (λ e. h (ap (λ (k : ℕ). suc k) e))

pub length_set : {A : Type 0} (xs : List A) (n : ℕ) (y : A) → length (slice_set xs n y) ≡ length xs
length_set [] n y = refl
length_set (x ∷ xs) zero y = refl
length_set (x ∷ xs) (suc n) y = ap (λ (k : ℕ). suc k) (length_set xs n y)

-- a list read through a function changes at one place
pub seen_set : {A B : Type 0} (f : A → B) (d : ℕ → B) (xs : List A) (n : ℕ) (y : A) → n < length xs →
    (λ m. option_map_or f (slice_get (slice_set xs n y) m) (d m)) ≡ put (λ m. option_map_or f (slice_get xs m) (d m)) n (f y)
seen_set f d xs n y h = fun_ext (λ m. at m (two n m))
  where
    at : (m : ℕ) → Two n m →
        option_map_or f (slice_get (slice_set xs n y) m) (d m) ≡ cond (n == m) (f y) (option_map_or f (slice_get xs m) (d m))
    at m (Same e) =
        ap (λ k. option_map_or f (slice_get (slice_set xs n y) k) (d k)) (sym e)
        ∙ ap (λ o. option_map_or f o (d n)) (got_same xs n y h)
        ∙ sym (ap (λ (b : Bool). cond b (f y) (option_map_or f (slice_get xs m) (d m))) (ap (λ k. n == k) (sym e) ∙ eqb_same n))
    at m (Apart e q) =
        ap (λ o. option_map_or f o (d m)) (got_other xs n m y q)
        ∙ sym (ap (λ (b : Bool). cond b (f y) (option_map_or f (slice_get xs m) (d m))) e)

-- what stands at a place of two lists
pub got_left : {A : Type 0} (xs ys : List A) (i : ℕ) → i < length xs → slice_get (xs ++ ys) i ≡ slice_get xs i
got_left [] ys i h = absurd (omega (arith, h))
got_left (x ∷ xs) ys zero h = refl
got_left (x ∷ xs) ys (suc i) h = got_left xs ys i (omega (arith, h))

pub got_right : {A : Type 0} (xs ys : List A) (i j : ℕ) → j ≡ length xs + i → slice_get (xs ++ ys) j ≡ slice_get ys i
got_right [] ys i j h = ap (slice_get ys) (omega (arith, h))
got_right (x ∷ xs) ys i zero h = absurd (omega (arith, h))
got_right (x ∷ xs) ys i (suc j) h = got_right xs ys i j (omega (arith, h))

-- ## words

-- one step more
pub state_steps : (w m c n s : ℕ) → state_after w m c (suc n) s ≡ next_state w m c (state_after w m c n s)
unfolding state_after
state_steps w m c zero s = refl
state_steps w m c (suc n) s = state_steps w m c n (next_state w m c s)

pub word_steps : (n : ℕ) (g : Lcg) → (pcg32 (advance 64 multiplier_64 n g)).1 ≡ advance 64 multiplier_64 (suc n) g
word_steps n g = ap (λ (s : ℕ). record g { state = s }) (sym (state_steps 64 multiplier_64 g.increment n g.state))
