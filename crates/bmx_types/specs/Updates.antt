-- One update at a key.
use Rattle.std.specs.Prelude.{◌≡◌, ℕ, ◌==◌, if◌then◌else◌, Option, refl}

-- a function with another value at a key
abbrev pub put : {A : Type 0} → (ℕ → A) → ℕ → A → ℕ → A
put f key v k = if key == k then v else f k

-- a function of two keys with another value at a pair of them
abbrev pub put_at : {A : Type 0} → (ℕ → ℕ → A) → ℕ → ℕ → A → ℕ → ℕ → A
put_at f n key v = put f n (put (f n) key v)

-- the key has that from now on, or nothing, and each other key has what it had
abbrev pub Puts : {A : Type 0} → (ℕ → Option A) → (ℕ → Option A) → ℕ → Option A → Type 0
Puts old new key o = (k : ℕ) → new k ≡ put old key o k

-- ## cases

the_key_changes : put (λ k. k) 3 7 3 ≡ 7
the_key_changes = refl

another_key_stays : put (λ k. k) 3 7 4 ≡ 4
another_key_stays = refl

one_pair_changes : put_at (λ n k. k) 1 3 7 1 3 ≡ 7
one_pair_changes = refl

another_pair_stays : put_at (λ n k. k) 1 3 7 2 3 ≡ 3
another_pair_stays = refl
