-- When a function of two keys is another one with a new value at a pair of them.
use Rattle.std.proofs.Common.{◌≡◌, ℕ, cond, refl, sym, ap, ◌∙◌, subst, ◌==◌, ⊎_elim}
use Rattle.std.proofs.Math.Path.{fun_ext}
use Rattle.std.proofs.lemmas.Bool.{cases_eq, cond-true, cond-false, eq-eqb, ne_eqb}
use Rattle.bmx_types.specs.Updates.{put, put_at}

put_at-here : {A : Type 0} (f : ℕ → ℕ → A) (n m : ℕ) (v : A) → put_at f n m v n m ≡ v
put_at-here f n m v =
    ap (λ b. cond b (put (f n) m v) (f n) m) (eq-eqb n n refl) ∙ cond-true (m == m) v (f n m) (eq-eqb m m refl)

put_at-other : {A : Type 0} (f : ℕ → ℕ → A) (n m : ℕ) (v : A) (q k : ℕ) → (q ≡ n → k ≡ m → ⊥) → put_at f n m v q k ≡ f q k
put_at-other f n m v q k other =
    ⊎_elim
    (λ (e : n ≡ q).
    ap (λ b. cond b (put (f n) m v) (f q) k) (eq-eqb n q e)
    ∙ cond-false (m == k) v (f n k) (ne_eqb m k (λ h. other (sym e) (sym h)))
    ∙ ap (λ x. f x k) e)
    (λ ne. ap (λ b. cond b (put (f n) m v) (f q) k) (ne_eqb n q ne))
    (cases_eq n q)

-- it has that value at the pair, and at every other what the other one has
pub put_at-from : {A : Type 0} (f g : ℕ → ℕ → A) (n m : ℕ) (v : A) → g n m ≡ v → ((q k : ℕ) → (q ≡ n → k ≡ m → ⊥) → g q k ≡ f q k) → g ≡ put_at f n m v
put_at-from f g n m v here others = fun_ext (λ q. fun_ext (λ k. at q k))
  where
    apart : (q k : ℕ) → (q ≡ n → k ≡ m → ⊥) → g q k ≡ put_at f n m v q k
    apart q k other = others q k other ∙ sym (put_at-other f n m v q k other)

    at : (q k : ℕ) → g q k ≡ put_at f n m v q k
    at q k = ⊎_elim
        (λ (e : q ≡ n). ⊎_elim
        (λ (h : k ≡ m).
        subst (λ x. g x k ≡ put_at f n m v x k) (sym e)
        (subst (λ y. g n y ≡ put_at f n m v n y) (sym h) (here ∙ sym (put_at-here f n m v))))
        (λ ne. apart q k (λ _ h. ne h))
        (cases_eq k m))
        (λ ne. apart q k (λ e _. ne e))
        (cases_eq q n)
