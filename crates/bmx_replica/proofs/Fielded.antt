-- The fields of a copy.
use Rattle.std.proofs.Common.{◌≡◌, ◌≢◌, ℕ, ◌+◌, ◌<◌, ◌≤◌, Bool, true, false, cond, List, ◌∷◌, length, Option, Some, None, IsSome, is_some, slice_get, slice_set, zero, suc, arith, refl, sym, ap, subst, ◌∙◌, inl, inr}
use Rattle.std.specs.Prelude.{if◌then◌else◌}
use Rattle.std.specs.Option.{option_map, option_and_then}
use Rattle.std.proofs.lemmas.Bool.{cases_lt, false≢true}
use Rattle.std.proofs.lemmas.Option.{slice_get_past, none-some, same_Some, option_and_then_some}
use Rattle.bmx_types.specs.declared.values.Val.{Val}
use Rattle.bmx_segment.specs.Blocks.{Block}
use Rattle.bmx_segment.specs.Stores.{header_at}
use Rattle.bmx_segment.specs.declared.headers.Header.{Header}
use Rattle.bmx_replica.specs.Slots.{slot_of}
use Rattle.bmx_replica.specs.Replicas.{Holding, Entry, entry_in, entry_at, entry_of, copy_of, field_of, field_at, values_of}
use Rattle.bmx_replica.specs.Inside.Replicas.{IsFound}
use Rattle.bmx_replica.specs.declared.directory.Slot.{Slot}

pub length-values_of : (f : ℕ → Val) (n : ℕ) → length (values_of f n) ≡ n
length-values_of f zero = refl
length-values_of f (suc n) = let rest = length-values_of (λ i. f (i + 1)) n in omega (arith, rest)

pub slice_get-values_of : (f : ℕ → Val) (n i : ℕ) → i < n → slice_get (values_of f n) i ≡ Some (f i)
slice_get-values_of f zero i lt = absurd (omega arith)
slice_get-values_of f (suc n) zero lt = refl
slice_get-values_of f (suc n) (suc i) lt = slice_get-values_of (λ j. f (j + 1)) n i (omega arith) ∙ ap (λ j. Some (f j)) (omega arith)

-- one value of the list is another
pub values_of-set : (f g : ℕ → Val) (n i : ℕ) (v : Val) → i < n → g i ≡ v → ((j : ℕ) → j < n → j ≢ i → g j ≡ f j) → values_of g n ≡ slice_set (values_of f n) i v
values_of-set f g zero i v lt at off = absurd (omega arith)
values_of-set f g (suc n) zero v lt at off = λ k. at k ∷ others (λ j. f (j + 1)) (λ j. g (j + 1)) n (λ j small. off (j + 1) (omega arith) (λ e. absurd (omega arith))) k
  where
    others : (f g : ℕ → Val) (n : ℕ) → ((j : ℕ) → j < n → g j ≡ f j) → values_of g n ≡ values_of f n
    others f g zero same = refl
    others f g (suc n) same = λ k. same 0 (omega arith) k ∷ others (λ j. f (j + 1)) (λ j. g (j + 1)) n (λ j small. same (j + 1) (omega arith)) k
values_of-set f g (suc n) (suc i) v lt at off =
    λ k. off 0 (omega arith) (λ e. absurd (omega arith)) k
    ∷ values_of-set (λ j. f (j + 1)) (λ j. g (j + 1)) n i v (omega arith) (ap g (omega arith) ∙ at) (λ j small ne. off (j + 1) (omega arith) (λ e. ne (omega arith))) k

pub entry_at-found : (slots : List (ℕ × Slot)) (blocks : List Block) (name : ℕ) (s : Slot) (h : Header) → IsFound slots blocks name s h → entry_at slots blocks name ≡ Some (entry_in blocks s h)
entry_at-found slots blocks name s h found =
    ap (option_and_then (λ (y : Slot). option_map (entry_in blocks y) (header_at blocks y.address))) found.slot
    ∙ ap (option_map (entry_in blocks s)) found.there

in_copy : (b : Bool) (fields : List Val) (i : ℕ) → IsSome (option_and_then (λ (l : List Val). slice_get l i) (cond b (Some fields) None)) → (b ≡ true) × (i < length fields)
in_copy false fields i is = absurd (false≢true is)
in_copy true fields i is =
    elim (cases_lt i (length fields)) [
      | inl lt ↦ (refl, lt)
      | inr past ↦ absurd (false≢true (sym (ap is_some (slice_get_past fields i past)) ∙ is))
    ]

-- a field that there is lies within the object
pub field_within : (r : Holding) (name : ℕ) (s : Slot) (h : Header) → slot_of r.slots name ≡ Some s → header_at r.heap.blocks s.address ≡ Some h → (i : ℕ) → IsSome (field_of r name i) → i < h.size
field_within r name s h slot there i is =
    let f : ℕ → Val = field_at r.heap.blocks s.address h in
    let entry : entry_of r name ≡ Some (entry_in r.heap.blocks s h) =
    ap (option_and_then (λ (y : Slot). option_map (entry_in r.heap.blocks y) (header_at r.heap.blocks y.address))) slot
    ∙ ap (option_map (entry_in r.heap.blocks s)) there in
    let P : Option Entry → Type 0 = λ o. IsSome (option_and_then (λ (l : List Val). slice_get l i) (option_and_then (λ (e : Entry). e.copy) o)) in
    let p = in_copy s.has_copy (values_of f h.size) i (subst P entry is) in
    let size = length-values_of f h.size in
    omega (arith, p.1, size)

module _ (r : Holding) (name : ℕ) (s : Slot) (h : Header) (found : IsFound r.slots r.heap.blocks name s h) where
  -- the entry of a name whose object is found
  pub entry_of-found : entry_of r name ≡ Some (entry_in r.heap.blocks s h)
  entry_of-found =
      ap (option_and_then (λ (y : Slot). option_map (entry_in r.heap.blocks y) (header_at r.heap.blocks y.address))) found.slot
      ∙ ap (option_map (entry_in r.heap.blocks s)) found.there

  pub copy_of-found : copy_of r name ≡ (if s.has_copy then Some (values_of (field_at r.heap.blocks s.address h) h.size) else None)
  copy_of-found = ap (option_and_then (λ (e : Entry). e.copy)) entry_of-found

  -- a field that there is
  pub field_of-there : (i : ℕ) → IsSome (field_of r name i) → (s.has_copy ≡ true) × (i < h.size)
  field_of-there i is =
      let is' : IsSome (option_and_then (λ (l : List Val). slice_get l i) (cond s.has_copy (Some (values_of (field_at r.heap.blocks s.address h) h.size)) None)) = subst (λ (o : Option (List Val)). IsSome (option_and_then (λ (l : List Val). slice_get l i) o)) copy_of-found is in
      let p = in_copy s.has_copy (values_of (field_at r.heap.blocks s.address h) h.size) i is' in
      let size = length-values_of (field_at r.heap.blocks s.address h) h.size in
      (p.0, omega (arith, p.1, size))

  -- and its value
  pub field_of-found : (i : ℕ) → s.has_copy ≡ true → i < h.size → field_of r name i ≡ Some (field_at r.heap.blocks s.address h i)
  field_of-found i copy lt =
      ap (option_and_then (λ (l : List Val). slice_get l i)) (copy_of-found ∙ ap (λ b. if b then Some (values_of (field_at r.heap.blocks s.address h) h.size) else None) copy)
      ∙ slice_get-values_of (field_at r.heap.blocks s.address h) h.size i lt

  -- a field that there isn't
  pub field_of-none : (i : ℕ) → s.has_copy ≡ false → field_of r name i ≡ None
  field_of-none i none = ap (option_and_then (λ (l : List Val). slice_get l i)) (copy_of-found ∙ ap (λ b. if b then Some (values_of (field_at r.heap.blocks s.address h) h.size) else None) none)

  pub field_of-past : (i : ℕ) → h.size ≤ i → field_of r name i ≡ None
  field_of-past i past =
      ap (option_and_then (λ (l : List Val). slice_get l i)) copy_of-found ∙ by s.has_copy
    where
      by : (b : Bool) → option_and_then (λ (l : List Val). slice_get l i) (if b then Some (values_of (field_at r.heap.blocks s.address h) h.size) else None) ≡ None
      by false = refl
      by true = let size = length-values_of (field_at r.heap.blocks s.address h) h.size in slice_get_past (values_of (field_at r.heap.blocks s.address h) h.size) i (omega arith)

-- a copy has as many fields as the object
pub length-copy : (r : Holding) (name : ℕ) (e : Entry) (fields : List Val) → entry_of r name ≡ Some e → e.copy ≡ Some fields → length fields ≡ e.size
length-copy r name e fields entry copy =
    option_and_then_some (λ (s : Slot). option_map (entry_in r.heap.blocks s) (header_at r.heap.blocks s.address)) (slot_of r.slots name) e entry
    (λ s slot there. by s (header_at r.heap.blocks s.address) there)
  where
    has : (b : Bool) (xs : List Val) → cond b (Some xs) None ≡ Some fields → xs ≡ fields
    has true xs is = same_Some xs fields is
    has false xs is = absurd (none-some fields is)

    by : (s : Slot) (o : Option Header) → option_map (entry_in r.heap.blocks s) o ≡ Some e → length fields ≡ e.size
    by s None is = absurd (none-some e is)
    by s (Some h) is =
        let same : entry_in r.heap.blocks s h ≡ e = same_Some (entry_in r.heap.blocks s h) e is in
        let all = has s.has_copy (values_of (field_at r.heap.blocks s.address h) h.size) (ap (λ (x : Entry). x.copy) same ∙ copy) in
        ap length (sym all) ∙ length-values_of (field_at r.heap.blocks s.address h) h.size ∙ ap (λ (x : Entry). x.size) same
