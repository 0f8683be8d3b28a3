-- A scan of one name, target by target.
use Rattle.std.proofs.Common.{◌≡◌, ℕ, zero, suc, ◌+◌, ◌<◌, ◌≤◌, Bool, true, false, ◌||◌, ◌==◌, nat_lt, List, [], ◌∷◌, ◌++◌, take, drop, length, get_or, Option, Some, None, refl, sym, ap, ◌∙◌, subst, arith, inl, inr, ◌⊎◌, ⊎_elim, append_assoc}
use Rattle.std.proofs.lemmas.Bool.{cases_Bool, cases_lt, or_cases, eq-eqb, eqb-true, ltb-true, ltb-false, le-ltb}
use Rattle.std.proofs.lemmas.List.{get_or_append_left, get_or_push, length_push, append-nil, length-map}
use Rattle.std.specs.List.Sorted.{IsStrictlyIncreasing}
use Rattle.bmx_ilist.proofs.Keys.{clash, has_key-append}
use Rattle.bmx_mark.specs.Marks.{Marking, names_in, has_name, is_marked, next_grey, IsTarget, IsNewTarget, AreNewTargets, Greys, Scans}
use Rattle.bmx_mark.specs.Inside.Targets.{is_above, IsLeast}
use Rattle.bmx_mark.proofs.Named.{names-append}
use Rattle.bmx_mark.proofs.Reaching.{right, or_nothing, scan_marked}

-- the targets up to the floor were looked at: those that weren't marked are grey, rising
pub record IsScanning (target : ℕ → ℕ → Option ℕ) (old now : Marking) (floor : Option ℕ) : Type 0 where
  pub added : List (ℕ × ℕ)
  pub grey : now.grey ≡ drop 1 old.grey ++ added
  pub scanned : now.scanned ≡ old.scanned ++ take 1 old.grey
  pub spare : now.spare + length added ≡ old.spare
  pub targets : AreNewTargets target old (next_grey old) (names_in added)
  pub low : (y : ℕ) → has_name (names_in added) y ≡ true → is_above floor y ≡ false
  pub all : (y : ℕ) → IsNewTarget target old (next_grey old) y → is_above floor y ≡ false → has_name (names_in added) y ≡ true

-- a number above all of rising ones
has_get : (xs : List ℕ) (i : ℕ) → i < length xs → has_name xs (get_or xs i 0) ≡ true
has_get [] i h = absurd (omega arith)
has_get (x ∷ xs) zero h = ap (λ b. b || has_name xs x) (eq-eqb x x refl)
has_get (x ∷ xs) (suc i) h = let inside : i < length xs = omega arith in right _ _ (has_get xs i inside)

rising-push : (xs : List ℕ) (y : ℕ) → IsStrictlyIncreasing xs → ((x : ℕ) → has_name xs x ≡ true → x < y) → IsStrictlyIncreasing (xs ++ y ∷ [])
rising-push xs y up below k within =
    let long = length_push xs y in
    let inside : k < length xs = omega arith in
    let low : get_or (xs ++ y ∷ []) k 0 ≡ get_or xs k 0 = get_or_append_left xs (y ∷ []) 0 k inside in
    ⊎_elim
    (λ (more : k + 1 < length xs). rw (low, get_or_append_left xs (y ∷ []) 0 (k + 1) more) (up k more))
    (λ (end : length xs ≤ k + 1). let at : length xs ≡ k + 1 = omega arith in rw (low, get_or_push xs y 0 (k + 1) at) (below (get_or xs k 0) (has_get xs k inside)))
    (cases_lt (k + 1) (length xs))

-- at the start
pub IsScanning-start : (target : ℕ → ℕ → Option ℕ) (old now : Marking) → now.grey ≡ drop 1 old.grey → now.scanned ≡ old.scanned ++ take 1 old.grey → now.spare ≡ old.spare → IsScanning target old now None
IsScanning-start target old now grey scanned spare = record {
  added = [];
  grey = grey ∙ sym (append-nil (drop 1 old.grey));
  scanned = scanned;
  spare = omega (arith, spare);
  targets = record { rising = λ k h. absurd (omega arith); each = λ y h. absurd (let e : false ≡ true = h in cc) };
  low = λ y h. absurd (let e : false ≡ true = h in cc);
  all = λ y n h. absurd (let e : true ≡ false = h in cc);
}

-- up to a floor, or above it
above_or_not : (floor : Option ℕ) (t y : ℕ) → is_above floor t ≡ true → is_above floor y ≡ false → y < t
above_or_not None t y up low = absurd (let e : true ≡ false = low in cc)
above_or_not (Some f) t y up low = let a : f < t = ltb-true f t up in let b : y ≤ f = ltb-false f y low in omega arith

-- each target of the scanned name is one of the 32
module _ (target : ℕ → ℕ → Option ℕ) (old now : Marking) (floor : Option ℕ) (f : ℕ → Option ℕ)
    (is : (i : ℕ) → f i ≡ target (next_grey old) i) (few : (i : ℕ) → 32 ≤ i → target (next_grey old) i ≡ None) (s : IsScanning target old now floor) where
  inside : (i y : ℕ) → target (next_grey old) i ≡ Some y → i < 32
  inside i y e = ⊎_elim (λ (h : i < 32). h) (λ (h : 32 ≤ i). absurd (let both : None ≡ Some y = sym (few i h) ∙ e in cc)) (cases_lt i 32)

  -- nothing is above the floor any more
  pub IsScanning-end : IsLeast f 32 floor None → Scans target old now
  IsScanning-end none = record {
    added = s.added;
    grey = s.grey;
    scanned = s.scanned;
    spare = s.spare;
    targets = s.targets;
    all = λ y n. ⊎_elim
        (λ (up : is_above floor y ≡ true). absurd (none n.0.0 y (inside n.0.0 y n.0.1) (is n.0.0 ∙ n.0.1) up))
        (λ (not_up : is_above floor y ≡ false). s.all y n not_up)
        (cases_Bool (is_above floor y));
  }

  module _ (t : ℕ) (l : IsLeast f 32 floor (Some t)) where
    to : IsTarget target (next_grey old) t
    to = (l.0.0, sym (is l.0.0) ∙ l.0.2)

    below : (y : ℕ) → has_name (names_in s.added) y ≡ true → y < t
    below y h = above_or_not floor t y l.1 (s.low y h)

    -- a new target that isn't above t is t, or was looked at
    t_or_before : (y : ℕ) → IsNewTarget target old (next_grey old) y → nat_lt t y ≡ false → (y ≡ t) ⊎ (has_name (names_in s.added) y ≡ true)
    t_or_before y n not_over =
        ⊎_elim
        (λ (up : is_above floor y ≡ true).
        let least : t ≤ y = l.2 n.0.0 y (inside n.0.0 y n.0.1) (is n.0.0 ∙ n.0.1) up in
        let most : y ≤ t = ltb-false t y not_over in
        let e : y ≡ t = omega arith in
        inl e)
        (λ (low : is_above floor y ≡ false). inr (s.all y n low))
        (cases_Bool (is_above floor y))

    marked_now : (q : ℕ) → is_marked now q ≡ (is_marked old q || has_name (names_in s.added) q)
    marked_now q = scan_marked old now s.added s.grey s.scanned q

    -- it is marked already
    pub IsScanning-marked : is_marked now t ≡ true → IsScanning target old now (Some t)
    IsScanning-marked m = record {
      added = s.added;
      grey = s.grey;
      scanned = s.scanned;
      spare = s.spare;
      targets = s.targets;
      low = λ y h. let b : y < t = below y h in le-ltb t y (omega arith);
      all = λ y n not_over. ⊎_elim
          (λ (e : y ≡ t). was_added y e n)
          (λ (a : has_name (names_in s.added) y ≡ true). a)
          (t_or_before y n not_over);
    }
      where
        was_added : (y : ℕ) → y ≡ t → IsNewTarget target old (next_grey old) y → has_name (names_in s.added) y ≡ true
        was_added y e n = ⊎_elim
            (λ (o : is_marked old t ≡ true). clash (is_marked old t) o (ap (is_marked old) (sym e) ∙ n.1))
            (λ (a : has_name (names_in s.added) t ≡ true). ap (has_name (names_in s.added)) e ∙ a)
            (or_cases (is_marked old t) (has_name (names_in s.added) t) (sym (marked_now t) ∙ m))

    module _ (new_one : is_marked now t ≡ false) where
      unmarked : is_marked old t ≡ false
      unmarked = left_false (is_marked old t) (has_name (names_in s.added) t) (sym (marked_now t) ∙ new_one)
        where
          left_false : (a b : Bool) → (a || b) ≡ false → a ≡ false
          left_false true b e = e
          left_false false b e = refl

      -- the names so far and this one
      pub one_more : AreNewTargets target old (next_grey old) (names_in s.added ++ t ∷ [])
      one_more = record {
        rising = rising-push (names_in s.added) t s.targets.rising below;
        each = λ y h. ⊎_elim
            (λ (a : has_name (names_in s.added) y ≡ true). s.targets.each y a)
            (λ (b : has_name (t ∷ []) y ≡ true). subst (IsNewTarget target old (next_grey old)) (only t y b) (to, unmarked))
            (or_cases (has_name (names_in s.added) y) (has_name (t ∷ []) y) (sym (has_key-append y (names_in s.added) (t ∷ [])) ∙ h));
      }
        where
          only : (x y : ℕ) → has_name (x ∷ []) y ≡ true → x ≡ y
          only x y h = eqb-true x y (sym (or_nothing (x == y)) ∙ h)

      -- so there is room for it
      pub has_room : ((names : List ℕ) → AreNewTargets target old (next_grey old) names → length names ≤ old.spare) → 0 < now.spare
      has_room room =
          let all = room (names_in s.added ++ t ∷ []) one_more in
          omega (arith, all, s.spare, length_push (names_in s.added) t, length-map s.added (λ (e : ℕ × ℕ). e.0))

      -- it becomes grey
      pub IsScanning-greyed : (new : Marking) → Greys t now new → IsScanning target old new (Some t)
      IsScanning-greyed new g = record {
        added = s.added ++ (t, g.key) ∷ [];
        grey = g.grey ∙ ap (λ l. l ++ (t, g.key) ∷ []) s.grey ∙ append_assoc (drop 1 old.grey) s.added ((t, g.key) ∷ []);
        scanned = g.scanned ∙ s.scanned;
        spare = omega (arith, g.spare, s.spare, length_push s.added (t, g.key));
        targets = subst (AreNewTargets target old (next_grey old)) (sym names) one_more;
        low = λ y h. ⊎_elim
            (λ (a : has_name (names_in s.added) y ≡ true). let b : y < t = below y a in le-ltb t y (omega arith))
            (λ (b : has_name (t ∷ []) y ≡ true). let e : t ≡ y = eqb-true t y (sym (or_nothing (t == y)) ∙ b) in le-ltb t y (omega arith))
            (or_cases (has_name (names_in s.added) y) (has_name (t ∷ []) y) (sym (has_key-append y (names_in s.added) (t ∷ [])) ∙ ap (λ l. has_name l y) (sym names) ∙ h));
        all = λ y n low. ap (λ l. has_name l y) names ∙ has_key-append y (names_in s.added) (t ∷ []) ∙ ⊎_elim
            (λ (e : y ≡ t). right (has_name (names_in s.added) y) (has_name (t ∷ []) y) (ap (λ b. b || false) (eq-eqb t y (sym e))))
            (λ (a : has_name (names_in s.added) y ≡ true). ap (λ b. b || has_name (t ∷ []) y) a)
            (t_or_before y n low);
      }
        where
          names : names_in (s.added ++ (t, g.key) ∷ []) ≡ names_in s.added ++ t ∷ []
          names = names-append s.added ((t, g.key) ∷ [])
