-- A sweep goes through the mapped segments from the last to the first: where one is dropped the last takes its
-- place, which was looked at before.
use Rattle.std.proofs.Common.{◌≡◌, ◌≢◌, ℕ, suc, ◌+◌, ◌-◌, ◌<◌, ◌≤◌, Bool, true, false, cond, ◌||◌, ◌==◌, List, [], ◌∷◌, length, get_or, Option, Some, None, IsSome, is_some, Contains, refl, sym, ap, ◌∙◌, subst, arith, ⊎_elim}
use Rattle.std.proofs.lemmas.Bool.{cases_Bool, cases_eq, or_cases, eqb-true, false_from_ne_true}
use Rattle.bmx_types.specs.Updates.{Puts}
use Rattle.bmx_segment.specs.Blocks.{Block, blank_block}
use Rattle.bmx_segment.specs.Stores.{segment_key, key_of, block_at, live_of, IsAt, TakesOut}
use Rattle.bmx_segment.specs.Heaps.{Heap}
use Rattle.bmx_segment.proofs.Counted.{sorted, length_sorted, has_sorted, sorted_rise}
use Rattle.bmx_space.specs.Sweeps.{has_number, IsUnneeded, IsUnneededKey, Sweeps}
use Rattle.bmx_space.specs.Inside.Sweeping.{IsSwept}

right : (a b : Bool) → b ≡ true → (a || b) ≡ true
right true b e = refl
right false b e = e

-- nothing is swept at the start
pub IsSwept-start : (h : Heap) → IsSwept h h (length h.blocks) 0
IsSwept-start h = record {
  keys = [];
  different = tt;
  unneeded = λ key t. absurd (let e : false ≡ true = t in cc);
  blocks = λ key. refl;
  rest = refl;
  many = refl;
  within = omega arith;
  passed = λ k d far inside u. absurd (omega arith);
}

unneeded_then : (old now : Heap) (home number : ℕ) → block_at now.blocks (segment_key home number) ≡ block_at old.blocks (segment_key home number) → now.me ≡ old.me → now.current ≡ old.current → IsUnneeded now home number → IsUnneeded old home number
unneeded_then old now home number same me current u = record {
  mapped = subst (λ (o : Option Block). IsSome o) same u.mapped;
  closed = λ opened. u.closed (opened.0 ∙ sym me, subst (λ (l : List (Option ℕ)). Contains l (Some number)) (sym current) opened.1);
  dead = ap live_of (sym same) ∙ u.dead;
}

-- keys of different segments differ
same_home : (home number other n : ℕ) → number ≤ 65535 → n ≤ 65535 → segment_key home number ≡ segment_key other n → (home ≡ other) × (number ≡ n)
same_home home number other n few less e = (omega arith, omega arith)

-- a mapped segment stands at some place
placed : (bs : List Block) (key : ℕ) → IsSome (block_at bs key) → (k : ℕ) × (k < length bs) × ((d : Block) → key_of (get_or bs k d) ≡ key)
placed [] key h = absurd (let e : false ≡ true = h in cc)
placed (b ∷ bs) key h =
    ⊎_elim
    (λ (here : (key_of b == key) ≡ true). (0, omega arith, λ d. eqb-true (key_of b) key here))
    (λ (later : (key_of b == key) ≡ false).
    let there : IsSome (block_at bs key) = subst (λ c. IsSome (cond c (Some b) (block_at bs key))) later h in
    let found = placed bs key there in
    let inside : found.0 < length bs = found.1 in
    (suc found.0, omega arith, λ d. found.2 d))
    (cases_Bool (key_of b == key))

module _ (old now : Heap) (home number place count : ℕ) (few_homes : home < 8) (some : 0 < number) (few : number ≤ 65535)
    (s : IsSwept old now (place + 1) count) (at : IsAt now.blocks (segment_key home number) place) where
  me : now.me ≡ old.me
  me = ap (λ (h : Heap). h.me) s.rest

  current : now.current ≡ old.current
  current = ap (λ (h : Heap). h.current) s.rest

  -- the segment is needed
  pub IsSwept-passed : (IsUnneeded now home number → ⊥) → IsSwept old now place count
  IsSwept-passed needed = record {
    keys = s.keys;
    different = s.different;
    unneeded = s.unneeded;
    blocks = s.blocks;
    rest = s.rest;
    many = s.many;
    within = let w = s.within in omega arith;
    passed = λ k d far inside u.
        ⊎_elim
        (λ (here : k ≡ place).
        let key : segment_key home number ≡ segment_key u.home u.number = sym (at.keyed d) ∙ ap (λ (j : ℕ). key_of (get_or now.blocks j d)) (sym here) ∙ u.is in
        let same = same_home home number u.home u.number few u.few key in
        needed (subst (λ (n : ℕ). IsUnneeded now home n) (sym same.1) (subst (λ (h : ℕ). IsUnneeded now h u.number) (sym same.0) u.unneeded)))
        (λ (other : k ≢ place). let beyond : place + 1 ≤ k = omega arith in s.passed k d beyond inside u)
        (cases_eq k place);
  }

  -- it is dropped
  pub IsSwept-dropped : (new : Heap) → IsUnneeded now home number → Puts (block_at now.blocks) (block_at new.blocks) (segment_key home number) None → new ≡ record now { blocks = new.blocks }
      → TakesOut now.blocks new.blocks place → IsSwept old new place (count + 1)
  IsSwept-dropped new u puts rest out =
      let key = segment_key home number in
      let fresh : has_number s.keys key ≡ false = false_from_ne_true (has_number s.keys key) (λ t.
      let none : block_at now.blocks key ≡ None = s.blocks key ∙ ap (λ b. cond b None (block_at old.blocks key)) t in
      let e : false ≡ true = sym (ap is_some none) ∙ u.mapped in
      absurd (cc)) in
      let here : block_at now.blocks key ≡ block_at old.blocks key = s.blocks key ∙ ap (λ b. cond b None (block_at old.blocks key)) fresh in
      let was : IsUnneeded old home number = unneeded_then old now home number here me current u in
      let mine : IsUnneededKey old key = record { home = home; number = number; is = refl; few_homes = few_homes; some = some; few = few; unneeded = was } in
      let fewer : length new.blocks + 1 ≡ length now.blocks = out.fewer in
      record {
        keys = key ∷ s.keys;
        different = (fresh, s.different);
        unneeded = λ q t. ⊎_elim
            (λ (a : (key == q) ≡ true). subst (IsUnneededKey old) (eqb-true key q a) mine)
            (λ (b : has_number s.keys q ≡ true). s.unneeded q b)
            (or_cases (key == q) (has_number s.keys q) t);
        blocks = λ q. puts q ∙ by (key == q) (has_number s.keys q) (block_at old.blocks q) (block_at now.blocks q) (s.blocks q);
        rest = rest ∙ ap (λ (h : Heap). record h { blocks = new.blocks }) s.rest;
        many = let m : count ≡ length s.keys = s.many in let more : count + 1 ≡ suc (length s.keys) = omega (arith, m) in more;
        within = let w = at.within in omega (arith, fewer);
        passed = λ k d far inside un.
            ⊎_elim
            (λ (same : k ≡ place).
            let more : place + 1 < length now.blocks = omega (arith, fewer) in
            let moved : get_or new.blocks k d ≡ get_or now.blocks (length now.blocks - 1) d = ap (λ (j : ℕ). get_or new.blocks j d) same ∙ out.here d more in
            let last : place + 1 ≤ length now.blocks - 1 = omega arith in
            let in_row : length now.blocks - 1 < length now.blocks = omega arith in
            s.passed (length now.blocks - 1) d last in_row (subst (IsUnneededKey now) (ap key_of moved) (still new puts rest (key_of (get_or new.blocks k d)) un)))
            (λ (other : k ≢ place).
            let beyond : place + 1 ≤ k = omega arith in
            let wide : k + 1 < length now.blocks = omega (arith, fewer) in
            let in_row : k < length now.blocks = omega arith in
            s.passed k d beyond in_row (subst (IsUnneededKey now) (ap key_of (out.others k d other wide)) (still new puts rest (key_of (get_or new.blocks k d)) un)))
            (cases_eq k place);
      }
    where
      by : (same had : Bool) (before between : Option Block) → between ≡ cond had None before → cond same None between ≡ cond (same || had) None before
      by true had before between e = refl
      by false had before between e = e

      still : (new : Heap) → Puts (block_at now.blocks) (block_at new.blocks) (segment_key home number) None → new ≡ record now { blocks = new.blocks } → (q : ℕ) → IsUnneededKey new q → IsUnneededKey now q
      still new puts rest q un =
          let other = segment_key un.home un.number in
          let apart : (segment_key home number == other) ≡ false = false_from_ne_true (segment_key home number == other) (λ t.
          let none : block_at new.blocks other ≡ None = puts other ∙ ap (λ b. cond b None (block_at now.blocks other)) t in
          let e : false ≡ true = sym (ap is_some none) ∙ un.unneeded.mapped in
          absurd (cc)) in
          let stays : block_at new.blocks other ≡ block_at now.blocks other = puts other ∙ ap (λ b. cond b None (block_at now.blocks other)) apart in
          record {
            home = un.home;
            number = un.number;
            is = un.is;
            few_homes = un.few_homes;
            some = un.some;
            few = un.few;
            unneeded = unneeded_then now new un.home un.number stays (ap (λ (h : Heap). h.me) rest) (ap (λ (h : Heap). h.current) rest) un.unneeded;
          }

-- all are swept
pub IsSwept-end : (old now : Heap) (count : ℕ) → IsSwept old now 0 count → Sweeps old now count
IsSwept-end old now count s = record {
  keys = sorted s.keys;
  rising = sorted_rise s.keys s.different;
  exact = λ key. (
    λ t. s.unneeded key (sym (has_sorted s.keys key) ∙ t),
    λ u. has_sorted s.keys key ∙ ⊎_elim
        (λ (t : has_number s.keys key ≡ true). t)
        (λ (f : has_number s.keys key ≡ false).
        let stays : block_at now.blocks key ≡ block_at old.blocks key = s.blocks key ∙ ap (λ b. cond b None (block_at old.blocks key)) f in
        let under : block_at now.blocks (segment_key u.home u.number) ≡ block_at old.blocks (segment_key u.home u.number) = subst (λ (q : ℕ). block_at now.blocks q ≡ block_at old.blocks q) u.is stays in
        let mapped : IsSome (block_at now.blocks key) = subst (λ (o : Option Block). IsSome o) (sym stays) (subst (λ (q : ℕ). IsSome (block_at old.blocks q)) (sym u.is) u.unneeded.mapped) in
        let found = placed now.blocks key mapped in
        let d : Block = blank_block 0 0 in
        let low : 0 ≤ found.0 = omega arith in
        let unneeded : IsUnneeded now u.home u.number = unneeded_then now old u.home u.number (sym under) (sym (ap (λ (h : Heap). h.me) s.rest)) (sym (ap (λ (h : Heap). h.current) s.rest)) u.unneeded in
        let there : IsUnneededKey now key = record { home = u.home; number = u.number; is = u.is; few_homes = u.few_homes; some = u.some; few = u.few; unneeded = unneeded } in
        absurd (s.passed found.0 d low found.1 (subst (IsUnneededKey now) (sym (found.2 d)) there)))
        (cases_Bool (has_number s.keys key)),
  );
  blocks = λ key. s.blocks key ∙ ap (λ b. cond b None (block_at old.blocks key)) (sym (has_sorted s.keys key));
  rest = s.rest;
  many = s.many ∙ sym (length_sorted s.keys);
}
