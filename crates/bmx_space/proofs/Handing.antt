-- Segments that are reserved, and words handed out of them.
use Rattle.std.proofs.Common.{◌≡◌, ◌≢◌, ℕ, zero, suc, ◌+◌, ◌-◌, ◌<◌, ◌≤◌, Bool, true, false, cond, nat_le, List, [], ◌∷◌, ◌++◌, length, replicate, Option, Some, None, is_some, refl, sym, ap, ◌∙◌, subst, arith, inl, inr, ◌⊎◌, ⊎_elim, length-append}
use Rattle.std.specs.Prelude.{slice_get}
use Rattle.std.proofs.lemmas.Bool.{cases_Bool, cases_lt, cases_eq, ne_eqb, leb-true, le-leb, lt-ltb, and_from}
use Rattle.bmx_segment.specs.Blocks.{Block}
use Rattle.bmx_segment.specs.Stores.{segment_key, block_at, is_between, IsMapped}
use Rattle.bmx_segment.specs.Heaps.{Heap, made_of, own_at, left_in, left_of, with_handed, Makes, PlacesIn}
use Rattle.bmx_segment.specs.declared.segments.Own.{Own}
use Rattle.bmx_segment.proofs.Owning.{own_at-raised_same, own_at-raised_other, own_at-made, length-raised}
use Rattle.bmx_space.specs.Spaces.{Reserved, IsOwn, IsReady, segments_for, next_number, after_next}

slice_new : (own : List Own) (more : ℕ) (v : Own) (i : ℕ) → length own ≤ i → i < length own + more → slice_get (own ++ replicate more v) i ≡ Some v
slice_new [] zero v i h w = absurd (omega arith)
slice_new [] (suc more) v zero h w = refl
slice_new [] (suc more) v (suc i) h w = slice_new [] more v i (omega arith) (omega arith)
slice_new (x ∷ xs) more v zero h w = absurd (omega arith)
slice_new (x ∷ xs) more v (suc i) h w = slice_new xs more v i (omega arith) (omega arith)

own_at-new : (own : List Own) (more : ℕ) (v : Own) (number : ℕ) → length own < number → number ≤ length own + more → own_at (own ++ replicate more v) number ≡ Some v
own_at-new own more v number h w =
    let later : number ≢ 0 = λ e. absurd (omega arith) in
    ap (λ b. cond b None (slice_get (own ++ replicate more v) (number - 1))) (ne_eqb number 0 later) ∙ slice_new own more v (number - 1) (omega arith) (omega arith)

length-new : (more : ℕ) (v : Own) → length (replicate more v) ≡ more
length-new zero v = refl
length-new (suc more) v = ap suc (length-new more v)

some_if : (b : Bool) (x : Block) (o : Option Block) → b ≡ true → is_some (cond b (Some x) o) ≡ true
some_if b x o e = ap (λ c. is_some (cond c (Some x) o)) e

-- segments that were made are ready
module _ (old new : Heap) (bunch words : ℕ) (m : Makes old new bunch (segments_for words)) where
  blank : Own
  blank = record { bunch = bunch; handed = 0 }

  found : (number : ℕ) → made_of old < number → number ≤ made_of old + segments_for words → own_at new.own number ≡ Some (record { bunch = bunch; handed = 0 })
  found number low high = ap (λ (l : List Own). own_at l number) m.own ∙ own_at-new old.own (segments_for words) (record { bunch = bunch; handed = 0 }) number low high

  me : new.me ≡ old.me
  me = ap (λ (h : Heap). h.me) m.rest

  is_mapped : (number : ℕ) → made_of old < number → number ≤ made_of old + segments_for words → IsMapped new.blocks new.me number
  is_mapped number low high =
      let key = segment_key old.me number in
      let first = segment_key old.me (made_of old + 1) in
      let in_row : is_between key first (segments_for words) ≡ true = and_from _ _ (le-leb first key (omega arith)) (lt-ltb key (first + segments_for words) (omega arith)) in
      let there : is_some (block_at new.blocks key) ≡ true = ap is_some (m.mapped.blocks key) ∙ some_if _ _ _ in_row in
      subst (λ (n : ℕ). IsMapped new.blocks n number) (sym me) there

  own_new : (number : ℕ) → made_of old < number → number ≤ made_of old + segments_for words → IsOwn new (Some bunch) number
  own_new number low high = record {
    some = omega arith;
    made = omega (arith, ap length m.own, length-append old.own (replicate (segments_for words) (record { bunch = bunch; handed = 0 })), length-new (segments_for words) (record { bunch = bunch; handed = 0 }));
    mapped = is_mapped number low high;
    of_bunch = λ o e. let same : Some (record { bunch = bunch; handed = 0 }) ≡ Some o = sym (found number low high) ∙ e in ap (λ (x : Option Own). bunch_in x) same;
  }
    where
      bunch_in : Option Own → Option ℕ
      bunch_in None = None
      bunch_in (Some o) = Some o.bunch

  left_new : (number : ℕ) → made_of old < number → number ≤ made_of old + segments_for words → left_of new number ≡ 1024
  left_new number low high = ap left_in (found number low high)

  pub IsReady-reserved : IsReady (record { bunch = Some bunch; next = made_of old + 1; end = made_of old + 1 + segments_for words; used = None; words = words }) new
  IsReady-reserved = record {
    own = λ number low high. own_new number (omega arith) (omega arith);
    unused = λ number low high. left_new number (omega arith) (omega arith);
    used = λ number e. absurd (cc);
    enough = ⊎_elim
        (λ (none : segments_for words < 1). omega arith)
        (λ (some : 1 ≤ segments_for words). let all : left_of new (made_of old + 1) ≡ 1024 = left_new (made_of old + 1) (omega arith) (omega arith) in omega (arith, all))
        (cases_lt (segments_for words) 1);
    within = omega arith;
  }

-- the segment for the next object: it is one of those that are reserved, and has room for it
module _ (s : Reserved) (h : Heap) (size : ℕ) (few : size ≤ 32) (r : IsReady s h) (words : 4 + size ≤ s.words) where
  pub next_cases : ((4 + size ≤ left_of h s.next) × (next_number s h size ≡ s.next)) ⊎ ((left_of h s.next < 4 + size) × (next_number s h size ≡ s.next + 1))
  next_cases = ⊎_elim
      (λ (no_room : left_of h s.next < 4 + size). inr (no_room, ap (λ b. cond b s.next (s.next + 1)) (not_le (4 + size) (left_of h s.next) no_room)))
      (λ (room : 4 + size ≤ left_of h s.next). inl (room, ap (λ b. cond b s.next (s.next + 1)) (le-leb (4 + size) (left_of h s.next) room)))
      (cases_lt (left_of h s.next) (4 + size))
    where
      not_le : (a b : ℕ) → b < a → nat_le a b ≡ false
      not_le a b l = ⊎_elim (λ (t : nat_le a b ≡ true). let g : a ≤ b = leb-true a b t in absurd (omega arith)) (λ (f : nat_le a b ≡ false). f) (cases_Bool (nat_le a b))

  abbrev n : ℕ
  n = next_number s h size

  pub next_below : (s.next ≤ n) × (n < s.end)
  next_below = ⊎_elim
      (λ (p : (4 + size ≤ left_of h s.next) × (n ≡ s.next)). let e : n ≡ s.next = p.1 in (omega arith, omega (arith, r.within)))
      (λ (p : (left_of h s.next < 4 + size) × (n ≡ s.next + 1)). let e : n ≡ s.next + 1 = p.1 in let l : left_of h s.next < 4 + size = p.0 in (omega arith, omega (arith, r.enough)))
      next_cases

  pub next_own : IsOwn h s.bunch n
  next_own = r.own n next_below.0 next_below.1

  pub next_room : 4 + size ≤ left_of h n
  next_room = ⊎_elim
      (λ (p : (4 + size ≤ left_of h s.next) × (n ≡ s.next)). subst (λ (k : ℕ). 4 + size ≤ left_of h k) (sym p.1) p.0)
      (λ (p : (left_of h s.next < 4 + size) × (n ≡ s.next + 1)).
      let e : n ≡ s.next + 1 = p.1 in
      let below : n < s.end = next_below.1 in
      let all : left_of h n ≡ 1024 = r.unused n (omega arith) below in
      omega (arith, all))
      next_cases

  module _ (new : Heap) (at : ℕ) (p : PlacesIn h new n size at) where
    blocks : new.blocks ≡ h.blocks
    blocks = ap (λ (x : Heap). x.blocks) p.handed

    me_same : new.me ≡ h.me
    me_same = ap (λ (x : Heap). x.me) p.handed

    owned : new.own ≡ with_handed h.own n (4 + size)
    owned = ap (λ (x : Heap). x.own) p.handed

    left_other : (k : ℕ) → k ≢ n → left_of new k ≡ left_of h k
    left_other k ne = ap (λ (l : List Own). left_in (own_at l k)) owned ∙ ap left_in (own_at-raised_other h.own n k (4 + size) next_own.some ne)

    left_same : left_of new n + (4 + size) ≡ left_of h n
    left_same =
        let there = own_at-made h.own n next_own.some next_own.made in
        let o = there.0 in
        let was : left_of h n ≡ 1024 - o.handed = ap left_in there.1 in
        let is : left_of new n ≡ 1024 - (o.handed + (4 + size)) = ap (λ (l : List Own). left_in (own_at l n)) owned ∙ ap left_in (own_at-raised_same h.own n (4 + size) o there.1) in
        omega (arith, was, is, next_room)

    own_kept : (bunch : Option ℕ) (k : ℕ) → IsOwn h bunch k → IsOwn new bunch k
    own_kept bunch k w = record {
      some = w.some;
      made = omega (arith, w.made, ap length owned, length-raised h.own (n - 1) (4 + size));
      mapped = subst (λ (bs : List Block). IsMapped bs new.me k) (sym blocks) (subst (λ (home : ℕ). IsMapped h.blocks home k) (sym me_same) w.mapped);
      of_bunch = λ o e. ⊎_elim
          (λ (same : k ≡ n).
          let there = own_at-made h.own k w.some w.made in
          let raised : own_at new.own k ≡ Some (record there.0 { handed = there.0.handed + (4 + size) }) =
          ap (λ (l : List Own). own_at l k) owned ∙ ap (λ (j : ℕ). own_at (with_handed h.own j (4 + size)) k) (sym same) ∙ own_at-raised_same h.own k (4 + size) there.0 there.1 in
          w.of_bunch there.0 there.1 ∙ ap bunch_in (sym raised ∙ e))
          (λ (other : k ≢ n). w.of_bunch o (sym (own_at-raised_other h.own n k (4 + size) next_own.some other) ∙ ap (λ (l : List Own). own_at l k) (sym owned) ∙ e))
          (cases_eq k n);
    }
      where
        bunch_in : Option Own → Option ℕ
        bunch_in None = None
        bunch_in (Some o) = Some o.bunch

    pub IsReady-next : IsReady (after_next s n size) new
    IsReady-next = record {
      own = λ k low high. own_kept s.bunch k (r.own k (omega (arith, next_below.0)) high);
      unused = λ k low high. left_other k (λ e. absurd (omega arith)) ∙ r.unused k (omega (arith, next_below.0)) high;
      used = λ k e. let same : n ≡ k = some_same n k e in subst (IsOwn new s.bunch) same (own_kept s.bunch n next_own);
      enough = ⊎_elim
          (λ (q : (4 + size ≤ left_of h s.next) × (n ≡ s.next)).
          let e : n ≡ s.next = q.1 in
          let l : left_of h n ≡ left_of h s.next = ap (left_of h) e in
          omega (arith, r.enough, left_same, l, next_below.1))
          (λ (q : (left_of h s.next < 4 + size) × (n ≡ s.next + 1)).
          let e : n ≡ s.next + 1 = q.1 in
          let low : left_of h s.next < 4 + size = q.0 in
          let all : left_of h n ≡ 1024 = r.unused n (omega arith) next_below.1 in
          omega (arith, r.enough, left_same, all, next_below.1))
          next_cases;
      within = ⊎_elim
          (λ (q : (4 + size ≤ left_of h s.next) × (n ≡ s.next)). let e : n ≡ s.next = q.1 in omega (arith, r.within))
          (λ (q : (left_of h s.next < 4 + size) × (n ≡ s.next + 1)). let e : n ≡ s.next + 1 = q.1 in let low : left_of h s.next < 4 + size = q.0 in omega (arith, r.enough))
          next_cases;
    }
      where
        some_same : (x y : ℕ) → Some x ≡ Some y → x ≡ y
        some_same x y e = cc
