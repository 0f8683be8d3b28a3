-- Two lists of things, each of which fits behind those before it, are the same where they spell the start of the
-- same bytes and neither can go on.
use Rattle.std.proofs.Common.{◌≡◌, ℕ, ◌<◌, ◌≤◌, ◌⊎◌, List, [], ◌∷◌, ◌++◌, length, refl, sym, ap, subst, ◌∙◌, append_assoc, arith, inl, inr}
use Rattle.std.specs.List.{flat_map}
use Rattle.std.proofs.lemmas.List.{append-nil, length-append}
use Rattle.std.proofs.lemmas.List.Concat.{flat_map-cons}
use Rattle.bmx_image.specs.Images.{EachFits}

-- all n things stand there, or the next one is wrong
abbrev pub Ends : {A : Type 0} → ℕ → (List A → List ℕ → Type 0) → List A → List ℕ → Type 0
Ends n Wrong before rest = (length before ≡ n) ⊎ ((length before < n) × Wrong before rest)

-- of two things that fit in one place no spelling begins the other, and what fits isn't wrong
pub record AreSpelled (A : Type 0) (spell : A → List ℕ) (Fits : List A → A → Type 0) (Wrong : List A → List ℕ → Type 0) : Type 0 where
  pub one : (before : List A) (x y : A) (r s : List ℕ) → Fits before x → Fits before y → spell x ++ r ≡ spell y ++ s → (x ≡ y) × (r ≡ s)
  pub right : (before : List A) (x : A) (r : List ℕ) → Fits before x → Wrong before (spell x ++ r) → ⊥

bounded : {A : Type 0} (n : ℕ) (Wrong : List A → List ℕ → Type 0) (before : List A) (rest : List ℕ) → Ends n Wrong before rest → length before ≤ n
bounded n Wrong before rest (inl h) = omega arith
bounded n Wrong before rest (inr h) = let k = h.0 in omega arith

-- where nothing more was read, nothing more can be
stopped : {A : Type 0} (spell : A → List ℕ) (Fits : List A → A → Type 0) (Wrong : List A → List ℕ → Type 0) (n : ℕ) → AreSpelled A spell Fits Wrong
    → (before : List A) (y : A) (ys : List A) (r s : List ℕ) → Fits before y → Ends n Wrong (before ++ []) r → length (before ++ y ∷ ys) ≤ n → r ≡ spell y ++ s → ⊥
stopped spell Fits Wrong n laws before y ys r s fit (inl full) le e =
    omega (arith, full, le, length-append before (y ∷ ys), length-append before [])
stopped {A = A} spell Fits Wrong n laws before y ys r s fit (inr wrong) le e =
    laws.right before y s fit (subst (λ (bytes : List ℕ). Wrong before bytes) e (subst (λ (b : List A). Wrong b r) (append-nil before) wrong.1))

-- the spelling of one more thing in front
in_front : {A : Type 0} (spell : A → List ℕ) (x : A) (xs : List A) (r : List ℕ) → flat_map spell (x ∷ xs) ++ r ≡ spell x ++ (flat_map spell xs ++ r)
in_front spell x xs r = ap (λ (bytes : List ℕ). bytes ++ r) (flat_map-cons spell x xs) ∙ append_assoc (spell x) (flat_map spell xs) r

pub one_prefix : {A : Type 0} (spell : A → List ℕ) (Fits : List A → A → Type 0) (Wrong : List A → List ℕ → Type 0) (n : ℕ) → AreSpelled A spell Fits Wrong
    → (before xs ys : List A) (r s : List ℕ) → EachFits Fits before xs → EachFits Fits before ys → Ends n Wrong (before ++ xs) r → Ends n Wrong (before ++ ys) s
    → flat_map spell xs ++ r ≡ flat_map spell ys ++ s → (xs ≡ ys) × (r ≡ s)
one_prefix spell Fits Wrong n laws before [] [] r s fx fy ex ey e = (refl, e)
one_prefix spell Fits Wrong n laws before [] (y ∷ ys) r s fx fy ex ey e =
    absurd (stopped spell Fits Wrong n laws before y ys r (flat_map spell ys ++ s) fy.0 ex (bounded n Wrong (before ++ y ∷ ys) s ey) (e ∙ in_front spell y ys s))
one_prefix spell Fits Wrong n laws before (x ∷ xs) [] r s fx fy ex ey e =
    absurd (stopped spell Fits Wrong n laws before x xs s (flat_map spell xs ++ r) fx.0 ey (bounded n Wrong (before ++ x ∷ xs) r ex) (sym e ∙ in_front spell x xs r))
one_prefix {A = A} spell Fits Wrong n laws before (x ∷ xs) (y ∷ ys) r s fx fy ex ey e =
    let first = laws.one before x y (flat_map spell xs ++ r) (flat_map spell ys ++ s) fx.0 fy.0 (sym (in_front spell x xs r) ∙ e ∙ in_front spell y ys s) in
    let more_y : EachFits Fits (before ++ x ∷ []) ys = subst (λ (z : A). EachFits Fits (before ++ z ∷ []) ys) (sym first.0) fy.1 in
    let end_x : Ends n Wrong ((before ++ x ∷ []) ++ xs) r = subst (λ (b : List A). Ends n Wrong b r) (sym (append_assoc before (x ∷ []) xs)) ex in
    let end_y : Ends n Wrong ((before ++ x ∷ []) ++ ys) s =
    subst (λ (z : A). Ends n Wrong ((before ++ z ∷ []) ++ ys) s) (sym first.0) (subst (λ (b : List A). Ends n Wrong b s) (sym (append_assoc before (y ∷ []) ys)) ey) in
    let others = one_prefix spell Fits Wrong n laws (before ++ x ∷ []) xs ys r s fx.1 more_y end_x end_y first.1 in
    (ap (λ (z : A). z ∷ xs) first.0 ∙ ap (λ (zs : List A). y ∷ zs) others.0, others.1)
