-- The names marked lie between the roots and what they reach, and what a scan changes.
use Rattle.std.proofs.Common.{◌≡◌, ◌↔◌, ℕ, zero, suc, ◌<◌, ◌≤◌, Bool, true, false, ◌||◌, ◌==◌, List, [], ◌∷◌, ◌++◌, take, drop, length, length-take-le, slice_index_or, slice_get, get_or, Option, Some, refl, sym, ap, ◌∙◌, subst, arith, ⊎_elim}
use Rattle.std.proofs.lemmas.Bool.{cases_Bool, or_cases, eqb-true, false_from_ne_true}
use Rattle.std.proofs.lemmas.List.{get_or-take}
use Rattle.std.proofs.lemmas.List.Kept.{AllPairs-from_increasing}
use Rattle.std.proofs.lemmas.Option.{slice_get_within, get_or_from_slice_get}
use Rattle.std.specs.List.Sorted.{IsStrictlyIncreasing}
use Rattle.bmx_ilist.proofs.Keys.{clash, same}
use Rattle.bmx_mark.specs.Marks.{Marking, names_in, has_name, is_marked, next_grey, Greys, Scans}
use Rattle.bmx_mark.specs.Reach.{IsReached, Root, InField, IsBetween}
use Rattle.bmx_mark.proofs.Named.{has-append}

left : (a b : Bool) → a ≡ true → (a || b) ≡ true
left a b e = ap (λ x. x || b) e

pub right : (a b : Bool) → b ≡ true → (a || b) ≡ true
right true b e = refl
right false b e = e

-- the roots alone are marked, and all are grey
pub IsBetween-begun : (roots : List ℕ) (target : ℕ → ℕ → Option ℕ) (m : Marking) → names_in m.grey ≡ roots → m.scanned ≡ [] → IsBetween roots target m
IsBetween-begun roots target m grey none =
    let marked : (x : ℕ) → is_marked m x ≡ has_name roots x = λ x. ap (λ l. has_name (names_in l) x || has_name (names_in m.grey) x) none ∙ ap (λ l. has_name l x) grey in
    record {
      rooted = λ x h. marked x ∙ h;
      reached = λ x h. Root (sym (marked x) ∙ h);
      closed = λ x i y h e. clash (has_name (names_in m.scanned) x) h (ap (λ l. has_name (names_in l) x) none);
    }

or_assoc : (a b c d : Bool) → ((a || b) || (c || d)) ≡ ((a || (b || c)) || d)
or_assoc true b c d = refl
or_assoc false true c d = refl
or_assoc false false c d = refl

pub or_nothing : (a : Bool) → (a || false) ≡ a
or_nothing true = refl
or_nothing false = refl

-- some names are grey besides, and the longest grey one isn't any more: those and what was marked are marked
pub scan_marked : (old new : Marking) (added : List (ℕ × ℕ)) → new.grey ≡ drop 1 old.grey ++ added → new.scanned ≡ old.scanned ++ take 1 old.grey
    → (q : ℕ) → is_marked new q ≡ (is_marked old q || has_name (names_in added) q)
scan_marked old new added grey scanned q =
    ap (λ l. has_name (names_in l) q || has_name (names_in new.grey) q) scanned
    ∙ ap (λ l. has_name (names_in (old.scanned ++ take 1 old.grey)) q || has_name (names_in l) q) grey
    ∙ ap (λ b. b || has_name (names_in (drop 1 old.grey ++ added)) q) (has-append old.scanned (take 1 old.grey) q)
    ∙ ap (λ b. (has_name (names_in old.scanned) q || has_name (names_in (take 1 old.grey)) q) || b) (has-append (drop 1 old.grey) added q)
    ∙ or_assoc (has_name (names_in old.scanned) q) (has_name (names_in (take 1 old.grey)) q) (has_name (names_in (drop 1 old.grey)) q) (has_name (names_in added) q)
    ∙ ap (λ b. (has_name (names_in old.scanned) q || b) || has_name (names_in added) q) (joined old.grey)
  where
    joined : (l : List (ℕ × ℕ)) → (has_name (names_in (take 1 l)) q || has_name (names_in (drop 1 l)) q) ≡ has_name (names_in l) q
    joined [] = refl
    joined (e ∷ es) = ap (λ b. b || has_name (names_in es) q) (or_nothing (e.0 == q))

-- the longest grey name is marked
first_has : (l : List (ℕ × ℕ)) → 0 < length l → has_name (names_in l) (slice_index_or (names_in l) 0 0) ≡ true
first_has [] none = absurd (omega arith)
first_has (e ∷ es) some = left (e.0 == e.0) (has_name (names_in es) e.0) (same e.0)

pub next_marked : (m : Marking) → 0 < length m.grey → is_marked m (next_grey m) ≡ true
next_marked m some = right _ _ (first_has m.grey some)

-- and is the one that is taken
taken_is : (l : List (ℕ × ℕ)) (x : ℕ) → has_name (names_in (take 1 l)) x ≡ true → x ≡ slice_index_or (names_in l) 0 0
taken_is [] x h = let e : false ≡ true = h in absurd (cc)
taken_is (e ∷ es) x h = sym (eqb-true e.0 x (sym (or_nothing (e.0 == x)) ∙ h))

-- one more name is marked
pub grey_marked : (old new : Marking) (name : ℕ) → Greys name old new → (q : ℕ) → is_marked new q ≡ (is_marked old q || name == q)
grey_marked old new name g q =
    ap (λ l. has_name (names_in l) q || has_name (names_in new.grey) q) g.scanned
    ∙ ap (λ l. has_name (names_in old.scanned) q || has_name (names_in l) q) g.grey
    ∙ ap (λ b. has_name (names_in old.scanned) q || b) (has-append old.grey ((name, g.key) ∷ []) q ∙ ap (λ b. has_name (names_in old.grey) q || b) (or_nothing (name == q)))
    ∙ or_last (has_name (names_in old.scanned) q) (has_name (names_in old.grey) q) (name == q)
  where
    or_last : (a b c : Bool) → (a || (b || c)) ≡ ((a || b) || c)
    or_last true b c = refl
    or_last false b c = refl

-- a scan keeps the names marked between the roots and what they reach
pub IsBetween-scanned : (roots : List ℕ) (target : ℕ → ℕ → Option ℕ) (old new : Marking) → 0 < length old.grey → Scans target old new → IsBetween roots target old → IsBetween roots target new
IsBetween-scanned roots target old new some s b =
    record {
      rooted = λ x h. kept x (b.rooted x h);
      reached = λ x h. ⊎_elim (b.reached x) (λ (a : has_name (names_in s.added) x ≡ true). let t = (s.targets.each x a).0 in InField (next_grey old) t.0 (b.reached (next_grey old) (next_marked old some)) t.1)
          (or_cases (is_marked old x) (has_name (names_in s.added) x) (sym (marked x) ∙ h));
      closed = λ x i y h e. ⊎_elim
          (λ (o : has_name (names_in old.scanned) x ≡ true). kept y (b.closed x i y o e))
          (λ (n : has_name (names_in (take 1 old.grey)) x ≡ true). scanned_target x i y (taken_is old.grey x n) e)
          (or_cases (has_name (names_in old.scanned) x) (has_name (names_in (take 1 old.grey)) x)
          (sym (has-append old.scanned (take 1 old.grey) x) ∙ ap (λ l. has_name (names_in l) x) (sym s.scanned) ∙ h));
    }
  where
    marked : (q : ℕ) → is_marked new q ≡ (is_marked old q || has_name (names_in s.added) q)
    marked q = scan_marked old new s.added s.grey s.scanned q

    kept : (q : ℕ) → is_marked old q ≡ true → is_marked new q ≡ true
    kept q h = marked q ∙ left _ _ h

    scanned_target : (x i y : ℕ) → x ≡ next_grey old → target x i ≡ Some y → is_marked new y ≡ true
    scanned_target x i y is e = ⊎_elim
        (kept y)
        (λ (new_one : is_marked old y ≡ false). marked y ∙ right _ _ (s.all y ((i, ap (λ z. target z i) (sym is) ∙ e), new_one)))
        (cases_Bool (is_marked old y))

-- one more grey name that is reached
pub IsBetween-greyed : (roots : List ℕ) (target : ℕ → ℕ → Option ℕ) (old new : Marking) (name : ℕ) → Greys name old new → IsReached roots target name → IsBetween roots target old → IsBetween roots target new
IsBetween-greyed roots target old new name g r b =
    record {
      rooted = λ x h. kept x (b.rooted x h);
      reached = λ x h. ⊎_elim (b.reached x) (λ (a : (name == x) ≡ true). subst (IsReached roots target) (eqb-true name x a) r)
          (or_cases (is_marked old x) (name == x) (sym (marked x) ∙ h));
      closed = λ x i y h e. kept y (b.closed x i y (ap (λ l. has_name (names_in l) x) (sym g.scanned) ∙ h) e);
    }
  where
    marked : (q : ℕ) → is_marked new q ≡ (is_marked old q || name == q)
    marked q = grey_marked old new name g q

    kept : (q : ℕ) → is_marked old q ≡ true → is_marked new q ≡ true
    kept q h = marked q ∙ left _ _ h

-- where no name is grey, the names marked are those reached
pub IsBetween-done : (roots : List ℕ) (target : ℕ → ℕ → Option ℕ) (m : Marking) → m.grey ≡ [] → IsBetween roots target m → (x : ℕ) → is_marked m x ≡ true ↔ IsReached roots target x
IsBetween-done roots target m none b x = (b.reached x, back x)
  where
    scanned : (q : ℕ) → is_marked m q ≡ true → has_name (names_in m.scanned) q ≡ true
    scanned q h = sym (or_nothing (has_name (names_in m.scanned) q)) ∙ ap (λ l. has_name (names_in m.scanned) q || has_name (names_in l) q) (sym none) ∙ h

    back : (q : ℕ) → IsReached roots target q → is_marked m q ≡ true
    back q (Root h) = b.rooted q h
    back q (InField p i r e) = b.closed p i q (scanned p (back p r)) e

pub take_all : (xs : List ℕ) (n : ℕ) → length xs ≤ n → take n xs ≡ xs
take_all [] zero h = refl
take_all [] (suc n) h = refl
take_all (x ∷ xs) zero h = absurd (omega arith)
take_all (x ∷ xs) (suc n) h = let rest : length xs ≤ n = omega arith in ap (λ l. x ∷ l) (take_all xs n rest)

-- where a name that stands among others does
place_of : (xs : List ℕ) (q : ℕ) → has_name xs q ≡ true → (j : ℕ) × (j < length xs) × (get_or xs j 0 ≡ q)
place_of [] q h = absurd (let e : false ≡ true = h in cc)
place_of (x ∷ xs) q h = ⊎_elim
    (λ (a : (x == q) ≡ true). let some : 0 < length (x ∷ xs) = omega arith in (0, some, eqb-true x q a))
    (λ (b : has_name xs q ≡ true). let p = place_of xs q b in let inside : p.0 < length xs = p.1 in let within : suc p.0 < length (x ∷ xs) = omega arith in (suc p.0, within, p.2))
    (or_cases (x == q) (has_name xs q) h)

-- a root isn't among those before it
pub root_new : (roots : List ℕ) (i r : ℕ) → IsStrictlyIncreasing roots → slice_get roots i ≡ Some r → has_name (take i roots) r ≡ false
root_new roots i r up at = false_from_ne_true (has_name (take i roots) r) (λ h.
    let p = place_of (take i roots) r h in
    let within : i < length roots = slice_get_within roots i r at in
    let here : p.0 < length (take i roots) = p.1 in
    let before : p.0 < i = omega (arith, length-take-le i roots (omega arith)) in
    let low : get_or (take i roots) p.0 0 ≡ get_or roots p.0 0 = get_or-take i roots p.0 0 before in
    let rises : get_or roots p.0 0 < get_or roots i 0 = AllPairs-from_increasing roots up p.0 i 0 before within in
    let is : get_or roots i 0 ≡ r = get_or_from_slice_get roots i r 0 at in
    omega (arith, p.2, low, rises, is))
