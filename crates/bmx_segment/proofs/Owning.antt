-- What was handed out of a node's own segments.
use Rattle.std.proofs.Common.{◌≡◌, ◌≢◌, ℕ, ◌+◌, ◌-◌, ◌<◌, ◌≤◌, zero, suc, List, [], ◌∷◌, ◌++◌, length, get_or, set, replicate, Option, Some, None, arith, refl, sym, ap, ◌∙◌, inl, inr, eq-eqb}
use Rattle.std.specs.Prelude.{slice_get}
use Rattle.std.proofs.lemmas.Bool.{cases_eq, ne_eqb}
use Rattle.std.proofs.lemmas.Option.{none-some, slice_get_within, slice_get-get_or}
use Rattle.bmx_segment.specs.Heaps.{own_at, handed_in, left_in, raised, with_handed}
use Rattle.bmx_segment.specs.declared.segments.Own.{Own}

own_at-later : (own : List Own) (n : ℕ) → (n ≡ 0 → ⊥) → own_at own n ≡ slice_get own (n - 1)
own_at-later own n some = rw (ne_eqb n 0 some)

-- an own segment that is made has a number from 1 to as many as were made
pub own_at-within : (own : List Own) (n : ℕ) (o : Own) → own_at own n ≡ Some o → (0 < n) × (n ≤ length own) × (slice_get own (n - 1) ≡ Some o)
own_at-within own n o e =
    elim (cases_eq n 0) [
      | inl none ↦ absurd (none-some o (sym (rw (eq-eqb n 0 none) refl) ∙ e))
      | inr some ↦
          let there : slice_get own (n - 1) ≡ Some o = sym (own_at-later own n some) ∙ e in
          let within = slice_get_within own (n - 1) o there in
          (omega arith, omega arith, there)
    ]

slice_get-raised_same : (own : List Own) (i more : ℕ) (o : Own) → slice_get own i ≡ Some o → slice_get (raised own i more) i ≡ Some (record o { handed = o.handed + more })
slice_get-raised_same [] i more o e = absurd (none-some o e)
slice_get-raised_same (x ∷ xs) zero more o e = cc
slice_get-raised_same (x ∷ xs) (suc i) more o e = slice_get-raised_same xs i more o e

slice_get-raised_other : (own : List Own) (i j more : ℕ) → j ≢ i → slice_get (raised own i more) j ≡ slice_get own j
slice_get-raised_other [] i j more ne = refl
slice_get-raised_other (x ∷ xs) zero zero more ne = absurd (ne refl)
slice_get-raised_other (x ∷ xs) zero (suc j) more ne = refl
slice_get-raised_other (x ∷ xs) (suc i) zero more ne = refl
slice_get-raised_other (x ∷ xs) (suc i) (suc j) more ne = slice_get-raised_other xs i j more (λ e. ne (ap suc e))

pub length-raised : (own : List Own) (i more : ℕ) → length (raised own i more) ≡ length own
length-raised [] i more = refl
length-raised (x ∷ xs) zero more = refl
length-raised (x ∷ xs) (suc i) more = ap suc (length-raised xs i more)

-- what the code writes
pub raised-set : (own : List Own) (i more : ℕ) (x : Own) → i < length own → x ≡ get_or own i x → set own i (record x { handed = x.handed + more }) ≡ raised own i more
raised-set [] i more x within is = refl
raised-set (y ∷ ys) zero more x within is = ap (λ (z : Own). record z { handed = z.handed + more } ∷ ys) is
raised-set (y ∷ ys) (suc i) more x within is = ap (λ (zs : List Own). y ∷ zs) (raised-set ys i more x (omega arith) is)

-- the segment has more handed out, and no other does
pub own_at-raised_same : (own : List Own) (n more : ℕ) (o : Own) → own_at own n ≡ Some o → own_at (with_handed own n more) n ≡ Some (record o { handed = o.handed + more })
own_at-raised_same own n more o e =
    let w = own_at-within own n o e in
    own_at-later (with_handed own n more) n (omega arith) ∙ slice_get-raised_same own (n - 1) more o w.2

pub own_at-raised_other : (own : List Own) (n k more : ℕ) → 0 < n → k ≢ n → own_at (with_handed own n more) k ≡ own_at own k
own_at-raised_other own n k more some ne =
    elim (cases_eq k 0) [
      | inl none ↦ rw (eq-eqb k 0 none)
      | inr later ↦
          own_at-later (with_handed own n more) k later
          ∙ (slice_get-raised_other own (n - 1) (k - 1) more (omega arith) ∙ sym (own_at-later own k later))
    ]

-- one more segment is made
slice_get-push : (own : List Own) (o : Own) (i : ℕ) → i < length own → slice_get (own ++ o ∷ []) i ≡ slice_get own i
slice_get-push [] o i within = absurd (omega arith)
slice_get-push (x ∷ xs) o zero within = refl
slice_get-push (x ∷ xs) o (suc i) within = slice_get-push xs o i (omega arith)

slice_get-pushed : (own : List Own) (o : Own) (i : ℕ) → i ≡ length own → slice_get (own ++ o ∷ []) i ≡ Some o
slice_get-pushed [] o zero e = refl
slice_get-pushed [] o (suc i) e = absurd (omega arith)
slice_get-pushed (x ∷ xs) o zero e = absurd (omega arith)
slice_get-pushed (x ∷ xs) o (suc i) e = slice_get-pushed xs o i (omega arith)

pub own_at-push : (own : List Own) (o : Own) (k : ℕ) → k ≤ length own → own_at (own ++ o ∷ []) k ≡ own_at own k
own_at-push own o k within =
    elim (cases_eq k 0) [
      | inl none ↦ rw (eq-eqb k 0 none)
      | inr later ↦
          own_at-later (own ++ o ∷ []) k later ∙ (slice_get-push own o (k - 1) (omega arith) ∙ sym (own_at-later own k later))
    ]

pub own_at-pushed : (own : List Own) (o : Own) (k : ℕ) → k ≡ length own + 1 → own_at (own ++ o ∷ []) k ≡ Some o
own_at-pushed own o k e = own_at-later (own ++ o ∷ []) k (omega arith) ∙ slice_get-pushed own o (k - 1) (omega arith)

-- more segments are made, of whose words none is handed out
slice_get-append : (own rest : List Own) (i : ℕ) → i < length own → slice_get (own ++ rest) i ≡ slice_get own i
slice_get-append [] rest i within = absurd (omega arith)
slice_get-append (x ∷ xs) rest zero within = refl
slice_get-append (x ∷ xs) rest (suc i) within = slice_get-append xs rest i (omega arith)

pub own_at-append : (own rest : List Own) (k : ℕ) → k ≤ length own → own_at (own ++ rest) k ≡ own_at own k
own_at-append own rest k within =
    elim (cases_eq k 0) [
      | inl none ↦ rw (eq-eqb k 0 none)
      | inr later ↦
          own_at-later (own ++ rest) k later ∙ (slice_get-append own rest (k - 1) (omega arith) ∙ sym (own_at-later own k later))
    ]

handed-replicate : (more : ℕ) (o : Own) (i : ℕ) → o.handed ≡ 0 → handed_in (slice_get (replicate more o) i) ≡ 0
handed-replicate zero o i none = refl
handed-replicate (suc more) o zero none = none
handed-replicate (suc more) o (suc i) none = handed-replicate more o i none

handed-slice : (own : List Own) (more : ℕ) (o : Own) (i : ℕ) → o.handed ≡ 0 → handed_in (slice_get (own ++ replicate more o) i) ≡ handed_in (slice_get own i)
handed-slice [] more o i none = handed-replicate more o i none
handed-slice (x ∷ xs) more o zero none = refl
handed-slice (x ∷ xs) more o (suc i) none = handed-slice xs more o i none

pub handed-append : (own : List Own) (more : ℕ) (o : Own) (k : ℕ) → o.handed ≡ 0 → handed_in (own_at (own ++ replicate more o) k) ≡ handed_in (own_at own k)
handed-append own more o k none =
    elim (cases_eq k 0) [
      | inl zero_there ↦ rw (eq-eqb k 0 zero_there)
      | inr later ↦
          ap handed_in (own_at-later (own ++ replicate more o) k later)
          ∙ (handed-slice own more o (k - 1) none ∙ sym (ap handed_in (own_at-later own k later)))
    ]

-- a word was handed out only of a segment that is made
pub own_at-made : (own : List Own) (k : ℕ) → 0 < k → k ≤ length own → (o : Own) × (own_at own k ≡ Some o)
own_at-made [] k some within = absurd (omega arith)
own_at-made (x ∷ xs) k some within =
    (get_or (x ∷ xs) (k - 1) x, own_at-later (x ∷ xs) k (omega arith) ∙ slice_get-get_or (x ∷ xs) (k - 1) x (omega arith))

pub raised-pushed : (own : List Own) (o : Own) (more : ℕ) → raised (own ++ o ∷ []) (length own) more ≡ own ++ record o { handed = o.handed + more } ∷ []
raised-pushed [] o more = refl
raised-pushed (x ∷ xs) o more = ap (λ (ys : List Own). x ∷ ys) (raised-pushed xs o more)

-- a segment with room is made
pub made_with : (o : Option Own) (more : ℕ) → 0 < more → more ≤ left_in o → (x : Own) × (o ≡ Some x) × (x.handed + more ≤ 1024)
made_with None more some room = absurd (omega arith)
made_with (Some x) more some room = (x, refl, omega arith)
