-- Updates at a key.
use Rattle.std.proofs.Math.Path.{fun_ext}
use Rattle.std.proofs.lemmas.Bool.{cases_eq, eq-eqb, ne_eqb}
use Rattle.std.proofs.Common.{◌≡◌, ℕ, sym, ◌∙◌, ap, cond, ⊎_elim}
use Rattle.bmx_types.specs.Updates.{put}

pub put_here : {A : Type 0} (f : ℕ → A) (k x : ℕ) (v : A) → k ≡ x → put f k v x ≡ v
put_here f k x v e = ap (λ b. cond b v (f x)) (eq-eqb k x e)

pub put_apart : {A : Type 0} (f : ℕ → A) (k x : ℕ) (v : A) → (k ≡ x → ⊥) → put f k v x ≡ f x
put_apart f k x v ne = ap (λ b. cond b v (f x)) (ne_eqb k x ne)

-- what a key has already can be put there
pub put_again : {A : Type 0} (f : ℕ → A) (k : ℕ) (v : A) → f k ≡ v → f ≡ put f k v
put_again f k v is = fun_ext (λ x. ⊎_elim
    (λ (e : k ≡ x). sym (ap f e) ∙ is ∙ sym (put_here f k x v e))
    (λ (ne : k ≡ x → ⊥). sym (put_apart f k x v ne))
    (cases_eq k x))
