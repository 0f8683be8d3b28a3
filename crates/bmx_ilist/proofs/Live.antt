-- Which keys live: those whose slot has a value.
use Rattle.std.proofs.Common.{◌≡◌, ◌≢◌, ℕ, zero, suc, ◌+◌, ◌<◌, Bool, true, false, cond, not, ◌||◌, ◌&&◌, ◌==◌, List, [], ◌∷◌, get_or, Option, Some, None, is_some, refl, sym, ap, ◌∙◌, arith, inl, inr}
use Rattle.std.specs.Ordering.{nat_cmp, eq_by_cmp}
use Rattle.std.specs.Cmp.{nat_cmp_total, unsigned_tied}
use Rattle.std.specs.FinSet as set
use Rattle.std.proofs.lemmas.Bool.{cases_eq, eq-eqb, ne_eqb}
use Rattle.slab.specs.Slab.{Slab, get, Updates}
use Rattle.bmx_ilist.specs.declared.seats.Seat.{Seat}
use Rattle.bmx_ilist.specs.Sequences.{has_key}
use Rattle.bmx_ilist.specs.Inside.Links.{filled_from, is_at, with_next, with_previous, next_put, previous_put}

-- numbers below the first aren't listed
filled_below : (b q : ℕ) (slots : List (Option (Option Seat))) → q < b → has_key q (filled_from b slots) ≡ false
filled_below b q [] low = refl
filled_below b q (None ∷ rest) low = filled_below (b + 1) q rest (omega arith)
filled_below b q (Some v ∷ rest) low =
    let ne : b ≢ q = λ e. absurd (omega arith) in
    ap (λ c. c || has_key q (filled_from (b + 1) rest)) (ne_eqb b q ne) ∙ filled_below (b + 1) q rest (omega arith)

-- and from there on exactly those whose slot has a value
filled_at : (b j : ℕ) (slots : List (Option (Option Seat))) → has_key (b + j) (filled_from b slots) ≡ is_some (get_or slots j None)
filled_at b j [] = refl
filled_at b zero (None ∷ rest) = filled_below (b + 1) (b + 0) rest (omega arith)
filled_at b zero (Some v ∷ rest) = ap (λ c. c || has_key (b + 0) (filled_from (b + 1) rest)) (eq-eqb b (b + 0) (omega arith))
filled_at b (suc j) (None ∷ rest) =
    let shift : b + suc j ≡ b + 1 + j = omega arith in
    ap (λ q. has_key q (filled_from (b + 1) rest)) shift ∙ filled_at (b + 1) j rest
filled_at b (suc j) (Some v ∷ rest) =
    let shift : b + suc j ≡ b + 1 + j = omega arith in
    let ne : b ≢ b + suc j = λ e. absurd (omega arith) in
    ap (λ c. c || has_key (b + suc j) (filled_from (b + 1) rest)) (ne_eqb b (b + suc j) ne)
    ∙ ap (λ q. has_key q (filled_from (b + 1) rest)) shift ∙ filled_at (b + 1) j rest

abbrev pub live_in : Slab (Option Seat) → set.FinSet nat_cmp
live_in seats = set.from_list (filled_from 0 seats.slots)

-- a key lives where something is found
pub lives : (seats : Slab (Option Seat)) (q : ℕ) → set.contains (live_in seats) q ≡ is_some (get seats q)
lives seats q =
    let shift : q ≡ 0 + q = omega arith in
    set.contains-from_list_nat (filled_from 0 seats.slots) q ∙ ap (λ x. has_key x (filled_from 0 seats.slots)) shift ∙ filled_at 0 q seats.slots

tied : (q k : ℕ) → eq_by_cmp nat_cmp q k ≡ (q == k)
tied q k = unsigned_tied q k

-- slabs that find something at the same keys have the same live ones
pub live-same : (old new : Slab (Option Seat)) → ((q : ℕ) → is_some (get new q) ≡ is_some (get old q)) → live_in new ≡ live_in old
live-same old new each = set.same_set nat_cmp_total set.nat_cmp-IsAntisymmetric _ _ (λ q. lives new q ∙ each q ∙ sym (lives old q))

pub live-insert : (old new : Slab (Option Seat)) (k : ℕ) (v : Option Seat) → Updates old new k (Some v) → live_in new ≡ set.insert (live_in old) k
live-insert old new k v u =
    set.same_set nat_cmp_total set.nat_cmp-IsAntisymmetric _ _ (λ q.
    lives new q ∙ each q ∙ ap (λ b. q == k || b) (sym (lives old q))
    ∙ sym (set.contains-insert nat_cmp_total (live_in old) k q ∙ ap (λ b. b || set.contains (live_in old) q) (tied q k)))
  where
    each : (q : ℕ) → is_some (get new q) ≡ (q == k || is_some (get old q))
    each q =
        elim (cases_eq q k) [
          | inl e ↦ ap (λ z. is_some (get new z)) e ∙ ap is_some u.changed ∙ sym (ap (λ b. b || is_some (get old q)) (eq-eqb q k e))
          | inr ne ↦ ap is_some (u.others q ne) ∙ sym (ap (λ b. b || is_some (get old q)) (ne_eqb q k ne))
        ]

pub live-remove : (old new : Slab (Option Seat)) (k : ℕ) → Updates old new k None → live_in new ≡ set.remove (live_in old) k
live-remove old new k u =
    set.same_set nat_cmp_total set.nat_cmp-IsAntisymmetric _ _ (λ q.
    lives new q ∙ each q ∙ ap (λ b. not (q == k) && b) (sym (lives old q))
    ∙ sym (set.contains-remove nat_cmp_total (live_in old) k q ∙ ap (λ b. not b && set.contains (live_in old) q) (tied q k)))
  where
    each : (q : ℕ) → is_some (get new q) ≡ (not (q == k) && is_some (get old q))
    each q =
        elim (cases_eq q k) [
          | inl e ↦ ap (λ z. is_some (get new z)) e ∙ ap is_some u.changed ∙ sym (ap (λ b. not b && is_some (get old q)) (eq-eqb q k e))
          | inr ne ↦ ap is_some (u.others q ne) ∙ sym (ap (λ b. not b && is_some (get old q)) (ne_eqb q k ne))
        ]

-- a live key has another seat
pub live-put : (old new : Slab (Option Seat)) (k : ℕ) (v : Option Seat) → is_some (get old k) ≡ true → get new k ≡ Some v → ((q : ℕ) → q ≢ k → get new q ≡ get old q) → live_in new ≡ live_in old
live-put old new k v lives_now changed others =
    live-same old new (λ q. elim (cases_eq q k) [
      | inl e ↦ ap (λ z. is_some (get new z)) e ∙ ap is_some changed ∙ sym (ap (λ z. is_some (get old z)) e ∙ lives_now)
      | inr ne ↦ ap is_some (others q ne)
    ])

-- a set link leaves what lives
next_some : (b : Bool) (next : Option ℕ) (o : Option (Option Seat)) → is_some (cond b (with_next next o) o) ≡ is_some o
next_some true next None = refl
next_some true next (Some None) = refl
next_some true next (Some (Some s)) = refl
next_some false next o = refl

previous_some : (b : Bool) (previous : Option ℕ) (o : Option (Option Seat)) → is_some (cond b (with_previous previous o) o) ≡ is_some o
previous_some true previous None = refl
previous_some true previous (Some None) = refl
previous_some true previous (Some (Some s)) = refl
previous_some false previous o = refl

pub live-next : (old new : Slab (Option Seat)) (at next : Option ℕ) → ((q : ℕ) → get new q ≡ next_put at next q (get old q)) → live_in new ≡ live_in old
live-next old new at next linked = live-same old new (λ q. ap is_some (linked q) ∙ next_some (is_at at q) next (get old q))

live-previous : (old new : Slab (Option Seat)) (at previous : Option ℕ) → ((q : ℕ) → get new q ≡ previous_put at previous q (get old q)) → live_in new ≡ live_in old
live-previous old new at previous linked = live-same old new (λ q. ap is_some (linked q) ∙ previous_some (is_at at q) previous (get old q))

pub live-unlinked : (old one two new : Slab (Option Seat)) (k : ℕ) (s : Seat) (previous next : Option ℕ) → get old k ≡ Some (Some s) → ((q : ℕ) → get one q ≡ next_put previous next q (get old q)) → ((q : ℕ) → get two q ≡ previous_put next previous q (get one q)) → get new k ≡ Some None → ((q : ℕ) → q ≢ k → get new q ≡ get two q) → live_in new ≡ live_in old
live-unlinked old one two new k s previous next had first second changed others =
    let before : is_some (get two k) ≡ true =
    ap is_some (second k) ∙ previous_some (is_at next k) previous (get one k) ∙ ap is_some (first k) ∙ next_some (is_at previous k) next (get old k) ∙ ap is_some had in
    live-put two new k None before changed others ∙ live-previous one two next previous second ∙ live-next old one previous next first
