-- Sequences of keys: what is after a key once another is pushed or taken out, and the same backwards.
use Rattle.std.proofs.Common.{◌≡◌, ◌≢◌, ℕ, zero, suc, ◌+◌, ◌<◌, ◌≤◌, Bool, true, false, cond, not, ◌||◌, ◌==◌, List, [], ◌∷◌, ◌++◌, length, reverse, drop, Option, Some, None, refl, sym, ap, ◌∙◌, subst, arith, inl, inr, ◌⊎◌}
use Rattle.std.proofs.lemmas.Bool.{cond-true, cond-false, cases_Bool, cases_eq, or_cases, eqb-true, eq-eqb, ne_eqb}
use Rattle.std.proofs.lemmas.List.{reverse-append, reverse-reverse, append-nil}
use Rattle.std.proofs.lemmas.List.Folds.{list_any-append}
use Rattle.std.proofs.lemmas.List.Elements.{filter-append}
use Rattle.std.proofs.lemmas.Grind.{reverse_onto}
use Rattle.std.proofs.lemmas.Map.Views.{any-filter_same}
use Rattle.bmx_ilist.specs.Sequences.{has_key, first_key, key_after, without, HasEachOnce}
use Rattle.bmx_ilist.specs.Inside.Links.{key_before, last_key, or_else, first_unlinked, is_at}

pub clash : {P : Type 0} (b : Bool) → b ≡ true → b ≡ false → P
clash b t f = let e : true ≡ false = sym t ∙ f in cc

pub reverse_cons : (x : ℕ) (xs : List ℕ) → reverse (x ∷ xs) ≡ reverse xs ++ x ∷ []
reverse_cons x xs = reverse_onto xs x []

pub eqb_swap : (x y : ℕ) → (x == y) ≡ (y == x)
eqb_swap x y = elim (cases_eq x y) [ inl e ↦ ap (λ z. z == y) e ∙ ap (λ z. y == z) (sym e) | inr ne ↦ ne_eqb x y ne ∙ sym (ne_eqb y x (λ e. ne (sym e))) ]

pub same : (x : ℕ) → (x == x) ≡ true
same x = eq-eqb x x refl

-- what holds of a key and the rest of a list, by whether it is the first
pub has_key-cons : (q x : ℕ) (xs : List ℕ) → has_key q (x ∷ xs) ≡ true → (x ≡ q) ⊎ (has_key q xs ≡ true)
has_key-cons q x xs h = elim (or_cases (x == q) (has_key q xs) h) [ inl e ↦ inl (eqb-true x q e) | inr r ↦ inr r ]

pub has_key-append : (q : ℕ) (xs ys : List ℕ) → has_key q (xs ++ ys) ≡ (has_key q xs || has_key q ys)
has_key-append q xs ys = list_any-append (λ x. x == q) xs ys

or_false : (b : Bool) → (b || false) ≡ b
or_false true = refl
or_false false = refl

or_swap : (a b : Bool) → (a || b) ≡ (b || a)
or_swap true true = refl
or_swap true false = refl
or_swap false true = refl
or_swap false false = refl

pub has_key-push : (q k : ℕ) (xs : List ℕ) → has_key q (xs ++ k ∷ []) ≡ (has_key q xs || k == q)
has_key-push q k xs = has_key-append q xs (k ∷ []) ∙ ap (λ b. has_key q xs || b) (or_false (k == q))

pub has_key-reverse : (q : ℕ) (xs : List ℕ) → has_key q (reverse xs) ≡ has_key q xs
has_key-reverse q [] = refl
has_key-reverse q (x ∷ xs) =
    ap (has_key q) (reverse_cons x xs) ∙ has_key-push q x (reverse xs) ∙ ap (λ b. b || x == q) (has_key-reverse q xs) ∙ or_swap (has_key q xs) (x == q)

-- keys that are in a list and not in it differ
pub apart : (x y : ℕ) (xs : List ℕ) → has_key x xs ≡ true → has_key y xs ≡ false → x ≢ y
apart x y xs hx hy e = clash (has_key y xs) (ap (λ z. has_key z xs) (sym e) ∙ hx) hy

pub HasEachOnce-push : (xs : List ℕ) (k : ℕ) → HasEachOnce xs → has_key k xs ≡ false → HasEachOnce (xs ++ k ∷ [])
HasEachOnce-push [] k once new = (refl, tt)
HasEachOnce-push (x ∷ xs) k once new =
    elim (cases_eq x k) [
      | inl e ↦ clash (x == k || has_key k xs) (ap (λ b. b || has_key k xs) (eq-eqb x k e)) new
      | inr ne ↦
          let rest : has_key k xs ≡ false = sym (ap (λ b. b || has_key k xs) (ne_eqb x k ne)) ∙ new in (
            has_key-push x k xs ∙ ap (λ b. b || k == x) once.0 ∙ ne_eqb k x (λ e. ne (sym e)),
            HasEachOnce-push xs k once.1 rest,
          )
    ]

pub HasEachOnce-reverse : (xs : List ℕ) → HasEachOnce xs → HasEachOnce (reverse xs)
HasEachOnce-reverse [] once = tt
HasEachOnce-reverse (x ∷ xs) once =
    subst HasEachOnce (sym (reverse_cons x xs)) (HasEachOnce-push (reverse xs) x (HasEachOnce-reverse xs once.1) (has_key-reverse x xs ∙ once.0))

-- what is first, and after a key, once one is pushed
pub first_key-push : (xs : List ℕ) (k : ℕ) → first_key (xs ++ k ∷ []) ≡ or_else (first_key xs) (Some k)
first_key-push [] k = refl
first_key-push (x ∷ xs) k = refl

pub first_has : (x : ℕ) (xs : List ℕ) → first_key xs ≡ Some x → has_key x xs ≡ true
first_has x [] e = absurd (cc)
first_has x (y ∷ ys) e = let s : y ≡ x = cc in ap (λ b. b || has_key x ys) (eq-eqb y x s)

step_same : (x y : ℕ) (xs : List ℕ) → x ≡ y → key_after y (x ∷ xs) ≡ first_key xs
step_same x y xs e = cond-true (x == y) (first_key xs) (key_after y xs) (eq-eqb x y e)

step_other : (x y : ℕ) (xs : List ℕ) → x ≢ y → key_after y (x ∷ xs) ≡ key_after y xs
step_other x y xs ne = cond-false (x == y) (first_key xs) (key_after y xs) (ne_eqb x y ne)

pub key_after-first : (x : ℕ) (xs : List ℕ) → key_after x (x ∷ xs) ≡ first_key xs
key_after-first x xs = step_same x x xs refl

pub key_after-rest : (x y : ℕ) (xs : List ℕ) → x ≢ y → key_after y (x ∷ xs) ≡ key_after y xs
key_after-rest x y xs ne = step_other x y xs ne

-- what is after a key is in the list
pub after_has : (x y : ℕ) (xs : List ℕ) → key_after x xs ≡ Some y → has_key y xs ≡ true
after_has x y [] e = absurd (cc)
after_has x y (z ∷ zs) e =
    let wider : has_key y zs ≡ true → has_key y (z ∷ zs) ≡ true = λ h. ap (λ b. z == y || b) h ∙ or_swap (z == y) true in
    elim (cases_eq z x) [
      | inl s ↦ wider (first_has y zs (sym (step_same z x zs s) ∙ e))
      | inr ne ↦ wider (after_has x y zs (sym (step_other z x zs ne) ∙ e))
    ]

-- nothing is after a key that isn't there
pub after_none : (x : ℕ) (xs : List ℕ) → has_key x xs ≡ false → key_after x xs ≡ None
after_none x [] h = refl
after_none x (y ∷ ys) h =
    elim (cases_eq y x) [
      | inl e ↦ clash (has_key x (y ∷ ys)) (ap (λ b. b || has_key x ys) (eq-eqb y x e)) h
      | inr ne ↦ step_other y x ys ne ∙ after_none x ys (sym (ap (λ b. b || has_key x ys) (ne_eqb y x ne)) ∙ h)
    ]

-- a pushed key is after the one that was last, and what was after another stays
pub key_after-push : (x k : ℕ) (xs : List ℕ) → has_key x xs ≡ true → key_after x (xs ++ k ∷ []) ≡ or_else (key_after x xs) (Some k)
key_after-push x k [] h = absurd (let e : false ≡ true = h in cc)
key_after-push x k (y ∷ ys) h =
    elim (cases_eq y x) [
      | inl e ↦ step_same y x (ys ++ k ∷ []) e ∙ first_key-push ys k ∙ ap (λ o. or_else o (Some k)) (sym (step_same y x ys e))
      | inr ne ↦
          let rest : has_key x ys ≡ true = sym (ap (λ b. b || has_key x ys) (ne_eqb y x ne)) ∙ h in
          step_other y x (ys ++ k ∷ []) ne ∙ key_after-push x k ys rest ∙ ap (λ o. or_else o (Some k)) (sym (step_other y x ys ne))
    ]

-- nothing is after the key that was pushed
pub key_after-pushed : (k : ℕ) (xs : List ℕ) → has_key k xs ≡ false → key_after k (xs ++ k ∷ []) ≡ None
key_after-pushed k [] h = step_same k k [] refl
key_after-pushed k (y ∷ ys) h =
    elim (cases_eq y k) [
      | inl e ↦ clash (has_key k (y ∷ ys)) (ap (λ b. b || has_key k ys) (eq-eqb y k e)) h
      | inr ne ↦ step_other y k (ys ++ k ∷ []) ne ∙ key_after-pushed k ys (sym (ap (λ b. b || has_key k ys) (ne_eqb y k ne)) ∙ h)
    ]

-- a list with no first key is empty
pub nothing_first : (xs : List ℕ) → first_key xs ≡ None → xs ≡ []
nothing_first [] e = refl
nothing_first (x ∷ xs) e = absurd (cc)

-- the last key has none after it, and is the only one
pub last_after : (x : ℕ) (xs : List ℕ) → HasEachOnce xs → first_key (reverse xs) ≡ Some x → key_after x xs ≡ None
last_after x [] once e = refl
last_after x (y ∷ ys) once e =
    let whole : or_else (first_key (reverse ys)) (Some y) ≡ Some x = sym (first_key-push (reverse ys) y) ∙ ap first_key (sym (reverse_cons y ys)) ∙ e in
    by_last (λ at. last_after x ys once.1 at) (first_key (reverse ys)) refl whole
  where
    by_last : (first_key (reverse ys) ≡ Some x → key_after x ys ≡ None) → (o : Option ℕ) → first_key (reverse ys) ≡ o → or_else o (Some y) ≡ Some x → key_after x (y ∷ ys) ≡ None
    by_last later None is whole =
        let y_is : y ≡ x = cc in
        let none : ys ≡ [] = sym (reverse-reverse ys) ∙ ap reverse (nothing_first (reverse ys) is) in
        step_same y x ys y_is ∙ ap first_key none
    by_last later (Some z) is whole =
        let z_is : z ≡ x = cc in
        let at : first_key (reverse ys) ≡ Some x = is ∙ ap Some z_is in
        let h : has_key x ys ≡ true = sym (has_key-reverse x ys) ∙ first_has x (reverse ys) at in
        step_other y x ys (λ e. apart x y ys h once.0 (sym e)) ∙ later at

-- the key with none after it is the last
pub after_last : (x : ℕ) (xs : List ℕ) → has_key x xs ≡ true → key_after x xs ≡ None → last_key xs ≡ Some x
after_last x [] h e = absurd (let e : false ≡ true = h in cc)
after_last x (y ∷ ys) h e =
    let last : last_key (y ∷ ys) ≡ or_else (last_key ys) (Some y) = ap first_key (reverse_cons y ys) ∙ first_key-push (reverse ys) y in
    elim (cases_eq y x) [
      | inl s ↦
          let none : ys ≡ [] = nothing_first ys (sym (step_same y x ys s) ∙ e) in
          last ∙ ap (λ l. or_else (last_key l) (Some y)) none ∙ ap Some s
      | inr ne ↦
          let rest : has_key x ys ≡ true = sym (ap (λ b. b || has_key x ys) (ne_eqb y x ne)) ∙ h in
          last ∙ ap (λ o. or_else o (Some y)) (after_last x ys rest (sym (step_other y x ys ne) ∙ e))
    ]

pub is_at-some : (o : Option ℕ) (x : ℕ) → is_at o x ≡ true → o ≡ Some x
is_at-some None x e = absurd (let e : false ≡ true = e in cc)
is_at-some (Some y) x e = ap Some (sym (eqb-true x y e))

-- only after the last key does the pushed one come
pub after_pushed : (x k : ℕ) (xs : List ℕ) → HasEachOnce xs → has_key x xs ≡ true → or_else (key_after x xs) (Some k) ≡ cond (is_at (last_key xs) x) (Some k) (key_after x xs)
after_pushed x k xs once h =
    elim (cases_Bool (is_at (last_key xs) x)) [
      | inl t ↦ ap (λ o. or_else o (Some k)) (last_after x xs once (is_at-some (last_key xs) x t)) ∙ sym (cond-true (is_at (last_key xs) x) (Some k) (key_after x xs) t)
      | inr f ↦ stays f (key_after x xs) refl ∙ sym (cond-false (is_at (last_key xs) x) (Some k) (key_after x xs) f)
    ]
  where
    stays : is_at (last_key xs) x ≡ false → (o : Option ℕ) → key_after x xs ≡ o → or_else (key_after x xs) (Some k) ≡ key_after x xs
    stays f None e = clash (is_at (last_key xs) x) (ap (λ o. is_at o x) (after_last x xs h e) ∙ same x) f
    stays f (Some y) e = ap (λ o. or_else o (Some k)) e ∙ sym e

-- the key that was pushed is after the last
pub before_pushed : (k : ℕ) (xs : List ℕ) → key_before k (xs ++ k ∷ []) ≡ last_key xs
before_pushed k xs = ap (key_after k) (reverse-append xs (k ∷ [])) ∙ key_after-first k (reverse xs)

pub before_push_other : (x k : ℕ) (xs : List ℕ) → k ≢ x → key_before x (xs ++ k ∷ []) ≡ key_before x xs
before_push_other x k xs ne = ap (key_after x) (reverse-append xs (k ∷ [])) ∙ key_after-rest k x (reverse xs) ne

pub last_pushed : (k : ℕ) (xs : List ℕ) → last_key (xs ++ k ∷ []) ≡ Some k
last_pushed k xs = ap first_key (reverse-append xs (k ∷ []))

-- what is left without a key
without_same : (k y : ℕ) (ys : List ℕ) → y ≡ k → without k (y ∷ ys) ≡ without k ys
without_same k y ys e = cond-false (not (y == k)) (y ∷ without k ys) (without k ys) (ap not (eq-eqb y k e))

without_other : (k y : ℕ) (ys : List ℕ) → y ≢ k → without k (y ∷ ys) ≡ y ∷ without k ys
without_other k y ys ne = cond-true (not (y == k)) (y ∷ without k ys) (without k ys) (ap not (ne_eqb y k ne))

pub without_none : (k : ℕ) (xs : List ℕ) → has_key k xs ≡ false → without k xs ≡ xs
without_none k [] h = refl
without_none k (y ∷ ys) h =
    elim (cases_eq y k) [
      | inl e ↦ clash (has_key k (y ∷ ys)) (ap (λ b. b || has_key k ys) (eq-eqb y k e)) h
      | inr ne ↦ without_other k y ys ne ∙ ap (λ l. y ∷ l) (without_none k ys (sym (ap (λ b. b || has_key k ys) (ne_eqb y k ne)) ∙ h))
    ]

pub has_without_other : (q k : ℕ) (xs : List ℕ) → q ≢ k → has_key q (without k xs) ≡ has_key q xs
has_without_other q k xs ne = any-filter_same (λ x. x == q) (λ x. not (x == k)) true (λ x e. ap not (ne_eqb x k (λ s. ne (sym (eqb-true x q e) ∙ s)))) xs

pub has_without_itself : (k : ℕ) (xs : List ℕ) → has_key k (without k xs) ≡ false
has_without_itself k xs = any-filter_same (λ x. x == k) (λ x. not (x == k)) false (λ x e. ap not e) xs

pub HasEachOnce-without : (k : ℕ) (xs : List ℕ) → HasEachOnce xs → HasEachOnce (without k xs)
HasEachOnce-without k [] once = tt
HasEachOnce-without k (y ∷ ys) once =
    elim (cases_eq y k) [
      | inl e ↦ subst HasEachOnce (sym (without_same k y ys e)) (HasEachOnce-without k ys once.1)
      | inr ne ↦ subst HasEachOnce (sym (without_other k y ys ne)) (has_without_other y k ys ne ∙ once.0, HasEachOnce-without k ys once.1)
    ]

pub without-reverse : (k : ℕ) (xs : List ℕ) → reverse (without k xs) ≡ without k (reverse xs)
without-reverse k [] = refl
without-reverse k (y ∷ ys) =
    let split : without k (reverse (y ∷ ys)) ≡ without k (reverse ys) ++ without k (y ∷ []) = ap (without k) (reverse_cons y ys) ∙ filter-append (λ x. not (x == k)) (reverse ys) (y ∷ []) in
    elim (cases_eq y k) [
      | inl e ↦
          ap reverse (without_same k y ys e) ∙ without-reverse k ys
          ∙ sym (split ∙ ap (λ l. without k (reverse ys) ++ l) (without_same k y [] e) ∙ append-nil (without k (reverse ys)))
      | inr ne ↦
          ap reverse (without_other k y ys ne) ∙ reverse_cons y (without k ys) ∙ ap (λ l. l ++ y ∷ []) (without-reverse k ys)
          ∙ sym (split ∙ ap (λ l. without k (reverse ys) ++ l) (without_other k y [] ne))
    ]

rest_has : (q y : ℕ) (ys : List ℕ) → y ≢ q → has_key q (y ∷ ys) ≡ true → has_key q ys ≡ true
rest_has q y ys ne h = sym (ap (λ b. b || has_key q ys) (ne_eqb y q ne)) ∙ h

-- what is before a key, by the first of a list
before_first : (k y : ℕ) (ys : List ℕ) → y ≡ k → has_key k ys ≡ false → key_before k (y ∷ ys) ≡ None
before_first k y ys e new =
    ap (key_after k) (reverse_cons y ys) ∙ ap (λ z. key_after k (reverse ys ++ z ∷ [])) e ∙ key_after-pushed k (reverse ys) (has_key-reverse k ys ∙ new)

before_rest : (k y : ℕ) (ys : List ℕ) → has_key k ys ≡ true → key_before k (y ∷ ys) ≡ or_else (key_before k ys) (Some y)
before_rest k y ys h = ap (key_after k) (reverse_cons y ys) ∙ key_after-push k y (reverse ys) (has_key-reverse k ys ∙ h)

-- the first key once one is taken out
pub first_without : (k : ℕ) (xs : List ℕ) → HasEachOnce xs → has_key k xs ≡ true → first_key (without k xs) ≡ first_unlinked (key_before k xs) (key_after k xs) (first_key xs)
first_without k [] once h = absurd (let e : false ≡ true = h in cc)
first_without k (y ∷ ys) once h =
    elim (cases_eq y k) [
      | inl e ↦
          let new : has_key k ys ≡ false = ap (λ z. has_key z ys) (sym e) ∙ once.0 in
          ap first_key (without_same k y ys e ∙ without_none k ys new)
          ∙ sym (ap (λ o. first_unlinked o (key_after k (y ∷ ys)) (Some y)) (before_first k y ys e new) ∙ step_same y k ys e)
      | inr ne ↦
          let rest = rest_has k y ys ne h in
          ap first_key (without_other k y ys ne)
          ∙ sym (ap (λ o. first_unlinked o (key_after k (y ∷ ys)) (Some y)) (before_rest k y ys rest) ∙ some_before (key_before k ys) y (key_after k (y ∷ ys)) (Some y))
    ]
  where
    some_before : (o : Option ℕ) (y : ℕ) (next end : Option ℕ) → first_unlinked (or_else o (Some y)) next end ≡ end
    some_before None y next end = refl
    some_before (Some z) y next end = refl

-- and the last
pub last_without : (k : ℕ) (xs : List ℕ) → HasEachOnce xs → has_key k xs ≡ true → last_key (without k xs) ≡ first_unlinked (key_after k xs) (key_before k xs) (last_key xs)
last_without k xs once h =
    ap first_key (without-reverse k xs)
    ∙ first_without k (reverse xs) (HasEachOnce-reverse xs once) (has_key-reverse k xs ∙ h)
    ∙ ap (λ l. first_unlinked (key_after k l) (key_before k xs) (last_key xs)) (reverse-reverse xs)

-- what is after another key once one is taken out
pub after_without : (x k : ℕ) (xs : List ℕ) → HasEachOnce xs → has_key x xs ≡ true → has_key k xs ≡ true → x ≢ k → key_after x (without k xs) ≡ cond (is_at (key_before k xs) x) (key_after k xs) (key_after x xs)
after_without x k [] once hx hk differ = absurd (let e : false ≡ true = hk in cc)
after_without x k (y ∷ ys) once hx hk differ =
    elim (cases_eq y k) [
      | inl e ↦
          let new : has_key k ys ≡ false = ap (λ z. has_key z ys) (sym e) ∙ once.0 in
          let past : y ≢ x = λ s. differ (sym s ∙ e) in
          ap (key_after x) (without_same k y ys e ∙ without_none k ys new)
          ∙ sym (step_other y x ys past)
          ∙ sym (ap (λ o. cond (is_at o x) (key_after k (y ∷ ys)) (key_after x (y ∷ ys))) (before_first k y ys e new))
      | inr ne ↦
          let rest = rest_has k y ys ne hk in
          ap (key_after x) (without_other k y ys ne)
          ∙ by_place rest (λ n. after_without x k ys once.1 (rest_has x y ys n hx) rest differ) (cases_eq y x) (key_before k ys) refl
          ∙ sym (ap (λ o. cond (is_at o x) (key_after k (y ∷ ys)) (key_after x (y ∷ ys))) (before_rest k y ys rest)
          ∙ ap (λ o. cond (is_at (or_else (key_before k ys) (Some y)) x) o (key_after x (y ∷ ys))) (step_other y k ys ne))
    ]
  where
    by_place : has_key k ys ≡ true → (y ≢ x → key_after x (without k ys) ≡ cond (is_at (key_before k ys) x) (key_after k ys) (key_after x ys)) → (y ≡ x) ⊎ (y ≢ x) → (o : Option ℕ) → key_before k ys ≡ o → key_after x (y ∷ without k ys) ≡ cond (is_at (or_else (key_before k ys) (Some y)) x) (key_after k ys) (key_after x (y ∷ ys))
    by_place rest later (inl s) None is =
        step_same y x (without k ys) s ∙ first_without k ys once.1 rest
        ∙ ap (λ o. first_unlinked o (key_after k ys) (first_key ys)) is
        ∙ sym (ap (λ o. cond (is_at (or_else o (Some y)) x) (key_after k ys) (key_after x (y ∷ ys))) is
        ∙ cond-true (x == y) (key_after k ys) (key_after x (y ∷ ys)) (eq-eqb x y (sym s)))
    by_place rest later (inl s) (Some z) is =
        let in_rest : has_key z ys ≡ true = sym (has_key-reverse z ys) ∙ after_has k z (reverse ys) is in
        let other : x ≢ z = λ e. apart z y ys in_rest once.0 (sym e ∙ sym s) in
        step_same y x (without k ys) s ∙ first_without k ys once.1 rest
        ∙ ap (λ o. first_unlinked o (key_after k ys) (first_key ys)) is
        ∙ sym (ap (λ o. cond (is_at (or_else o (Some y)) x) (key_after k ys) (key_after x (y ∷ ys))) is
        ∙ cond-false (x == z) (key_after k ys) (key_after x (y ∷ ys)) (ne_eqb x z other) ∙ step_same y x ys s)
    by_place rest later (inr n) None is =
        step_other y x (without k ys) n ∙ later n
        ∙ ap (λ o. cond (is_at o x) (key_after k ys) (key_after x ys)) is
        ∙ sym (ap (λ o. cond (is_at (or_else o (Some y)) x) (key_after k ys) (key_after x (y ∷ ys))) is
        ∙ cond-false (x == y) (key_after k ys) (key_after x (y ∷ ys)) (ne_eqb x y (λ e. n (sym e))) ∙ step_other y x ys n)
    by_place rest later (inr n) (Some z) is =
        step_other y x (without k ys) n ∙ later n
        ∙ ap (λ o. cond (is_at o x) (key_after k ys) (key_after x ys)) is
        ∙ sym (ap (λ o. cond (is_at (or_else o (Some y)) x) (key_after k ys) (key_after x (y ∷ ys))) is
        ∙ ap (λ o. cond (is_at (Some z) x) (key_after k ys) o) (step_other y x ys n))

-- what is before another key once one is taken out
pub before_without : (x k : ℕ) (xs : List ℕ) → HasEachOnce xs → has_key x xs ≡ true → has_key k xs ≡ true → x ≢ k → key_before x (without k xs) ≡ cond (is_at (key_after k xs) x) (key_before k xs) (key_before x xs)
before_without x k xs once hx hk differ =
    ap (key_after x) (without-reverse k xs)
    ∙ after_without x k (reverse xs) (HasEachOnce-reverse xs once) (has_key-reverse x xs ∙ hx) (has_key-reverse k xs ∙ hk) differ
    ∙ ap (λ l. cond (is_at (key_after k l) x) (key_before k xs) (key_before x xs)) (reverse-reverse xs)

-- a list whose first key is taken out
pub first_taken : (k : ℕ) (xs : List ℕ) → HasEachOnce xs → first_key xs ≡ Some k → without k xs ≡ drop 1 xs
first_taken k [] once e = refl
first_taken k (y ∷ ys) once e =
    let s : y ≡ k = cc in
    without_same k y ys s ∙ without_none k ys (ap (λ z. has_key z ys) (sym s) ∙ once.0)

-- a key taken out leaves at most one key fewer
length_without : (k : ℕ) (xs : List ℕ) → HasEachOnce xs → length xs ≤ length (without k xs) + 1
length_without k [] once = omega arith
length_without k (y ∷ ys) once =
    elim (cases_eq y k) [
      | inl e ↦
          let same_rest : length (without k (y ∷ ys)) ≡ length ys = ap length (without_same k y ys e ∙ without_none k ys (ap (λ z. has_key z ys) (sym e) ∙ once.0)) in
          omega arith
      | inr ne ↦
          let kept : length (without k (y ∷ ys)) ≡ length (y ∷ without k ys) = ap length (without_other k y ys ne) in
          let rest = length_without k ys once.1 in
          omega arith
    ]

-- keys below n, none twice, are at most n
pub length_below : (n : ℕ) (xs : List ℕ) → HasEachOnce xs → ((q : ℕ) → has_key q xs ≡ true → q < n) → length xs ≤ n
length_below zero [] once below = omega arith
length_below zero (x ∷ xs) once below = absurd (let lt : x < 0 = below x (ap (λ b. b || has_key x xs) (same x)) in omega arith)
length_below (suc n) xs once below =
    let fewer = length_without n xs once in
    let rest : length (without n xs) ≤ n =
    length_below n (without n xs) (HasEachOnce-without n xs once) (λ q h.
    let ne : q ≢ n = λ e. clash (has_key q (without n xs)) h (ap (λ z. has_key z (without n xs)) e ∙ has_without_itself n xs) in
    let lt : q < suc n = below q (sym (has_without_other q n xs ne) ∙ h) in
    omega arith) in
    omega arith
