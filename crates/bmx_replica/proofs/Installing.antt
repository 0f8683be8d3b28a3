-- A copy that is installed.
use Rattle.std.proofs.Common.{zero, suc, get_or, take, ◌≡◌, ℕ, ◌+◌, ◌*◌, ◌/◌, ◌%◌, ◌^◌, ◌<◌, ◌≤◌, true, List, [], ◌∷◌, ◌++◌, length, map, Some, slice_get, refl, sym, ap, subst, ◌∙◌, arith}
use Rattle.std.specs.Prelude.{slice_index, All}
use Rattle.std.proofs.lemmas.List.{take_more, length-take-le, map-append}
use Rattle.bmx_msg.specs.declared.letters.Field.{Field}
use Rattle.bmx_segment.proofs.Starts.{pow_le}
use Rattle.bmx_replica.specs.Letters.{value_told, values_told}
use Rattle.bmx_replica.proofs.Telling.{All-tail}
use Rattle.std.specs.Option.{option_map}
use Rattle.std.proofs.lemmas.Bool.{false≢true}
use Rattle.std.proofs.lemmas.Option.{none-some, same_Some}
use Rattle.std.proofs.lemmas.Nat.{pow-add, shr-shr}
use Rattle.bmx_types.specs.declared.values.Val.{Val}
use Rattle.bmx_segment.specs.Headers.{kind_of, kind_number}
use Rattle.bmx_segment.specs.Stores.{AreApart, Lays}
use Rattle.bmx_segment.specs.declared.headers.Header.{Header}
use Rattle.bmx_segment.proofs.FieldKinds.{kind_number-lt}
use Rattle.bmx_replica.specs.Layouts.{moves_in, with_kinds, kinds_of}
use Rattle.bmx_replica.specs.Replicas.{Holding, Entry, entry_of, entry_in, field_at, value_in, values_of, word_in, with_copy, IsReplica, IsField, Installs}
use Rattle.bmx_replica.specs.Inside.Slots.{PutsSlot}
use Rattle.bmx_replica.specs.Inside.Replicas.{IsFound, AreHeld}
use Rattle.bmx_replica.specs.declared.directory.Slot.{Slot}
use Rattle.bmx_replica.specs.declared.words.Word.{Word}
use Rattle.bmx_replica.proofs.Laid.{Laid-from, Lays-words}
use Rattle.bmx_replica.proofs.Standing.{Stands, Puts-stands, Keeps-stands, names_kept, value_in-same, of_object}
use Rattle.bmx_replica.proofs.Fielded.{entry_at-found}
use Rattle.bmx_replica.proofs.Changing.{Stands-laid}

-- ---- kinds in a row

two_more : (i : ℕ) → 2 ^ (2 * suc i) ≡ 2 ^ (2 * i) * 4
two_more i = ap (λ (n : ℕ). 2 ^ n) (omega arith) ∙ pow-add 2 (2 * i) 2

first_kind : (k rest : ℕ) → k < 4 → (k + 4 * rest) / 2 ^ (2 * 0) % 4 ≡ k
first_kind k rest small = omega arith

later_kind : (k rest i : ℕ) → k < 4 → (k + 4 * rest) / 2 ^ (2 * suc i) ≡ rest / 2 ^ (2 * i)
later_kind k rest i small =
    let less : (k + 4 * rest) / 2 ^ 2 ≡ rest = omega arith in
    ap (λ (n : ℕ). (k + 4 * rest) / 2 ^ n) (omega arith) ∙ sym (shr-shr (k + 4 * rest) 2 (2 * i)) ∙ ap (λ (n : ℕ). n / 2 ^ (2 * i)) less

pub kind_of-kinds_of : (ws : List Word) (i : ℕ) (w : Word) → slice_get ws i ≡ Some w → kind_of (kinds_of ws) i ≡ kind_number w.kind
kind_of-kinds_of [] i w e = absurd (none-some w e)
kind_of-kinds_of (x ∷ xs) zero w e = first_kind (kind_number x.kind) (kinds_of xs) (kind_number-lt x.kind) ∙ ap (λ (y : Word). kind_number y.kind) (same_Some x w e)
kind_of-kinds_of (x ∷ xs) (suc i) w e = ap (λ (n : ℕ). n % 4) (later_kind (kind_number x.kind) (kinds_of xs) i (kind_number-lt x.kind)) ∙ kind_of-kinds_of xs i w e

less_kinds : (k rest p : ℕ) → k < 4 → rest < p → k + 4 * rest < p * 4
less_kinds k rest p small lt = omega arith

pub kinds_of-lt : (ws : List Word) → kinds_of ws < 2 ^ (2 * length ws)
kinds_of-lt [] = omega arith
kinds_of-lt (x ∷ xs) =
    let P : ℕ → Type 0 = λ n. kind_number x.kind + 4 * kinds_of xs < n in
    subst P (sym (two_more (length xs))) (less_kinds (kind_number x.kind) (kinds_of xs) (2 ^ (2 * length xs)) (kind_number-lt x.kind) (kinds_of-lt xs))

more_kinds : (k r p n : ℕ) → k + 4 * (r + n * p) ≡ k + 4 * r + n * (p * 4)
more_kinds k r p n = omega arith

pub kinds_of-append : (ws : List Word) (w : Word) → kinds_of (ws ++ w ∷ []) ≡ kinds_of ws + kind_number w.kind * 2 ^ (2 * length ws)
kinds_of-append [] w = omega arith
kinds_of-append (x ∷ xs) w =
    ap (λ (n : ℕ). kind_number x.kind + 4 * n) (kinds_of-append xs w)
    ∙ more_kinds (kind_number x.kind) (kinds_of xs) (2 ^ (2 * length xs)) (kind_number w.kind)
    ∙ ap (λ (n : ℕ). kind_number x.kind + 4 * kinds_of xs + kind_number w.kind * n) (sym (two_more (length xs)))

-- ---- values in a row

there : {A : Type 0} (l : List A) (i : ℕ) → i < length l → (v : A) × (slice_get l i ≡ Some v)
there [] i lt = absurd (omega arith)
there (x ∷ xs) zero lt = (x, refl)
there (x ∷ xs) (suc i) lt = there xs i (omega arith)

pub mapped_there : {A B : Type 0} (f : A → B) (l : List A) (i : ℕ) (v : A) → slice_get l i ≡ Some v → slice_get (map f l) i ≡ Some (f v)
mapped_there f [] i v e = absurd (none-some v e)
mapped_there f (x ∷ xs) zero v e = ap (λ y. Some (f y)) (same_Some x v e)
mapped_there f (x ∷ xs) (suc i) v e = mapped_there f xs i v e

pub index_mapped : {A : Type 0} (f : A → ℕ) (l : List A) (i : ℕ) (v : A) → slice_get l i ≡ Some v → slice_index (map f l) i ≡ f v
index_mapped f [] i v e = absurd (none-some v e)
index_mapped f (x ∷ xs) zero v e = ap f (same_Some x v e)
index_mapped f (x ∷ xs) (suc i) v e = index_mapped f xs i v e

pub length-mapped : {A B : Type 0} (f : A → B) (l : List A) → length (map f l) ≡ length l
length-mapped f [] = refl
length-mapped f (x ∷ xs) = ap suc (length-mapped f xs)

values_of-list : (n : ℕ) (f : ℕ → Val) (l : List Val) → n ≡ length l → ((i : ℕ) (v : Val) → slice_get l i ≡ Some v → f i ≡ v) → values_of f n ≡ l
values_of-list zero f [] e all = refl
values_of-list (suc n) f [] e all = absurd (omega arith)
values_of-list zero f (x ∷ xs) e all = absurd (omega arith)
values_of-list (suc n) f (x ∷ xs) e all =
    λ k. all 0 x refl k ∷ values_of-list n (λ i. f (i + 1)) xs (omega arith) (λ i v is. ap f (omega arith) ∙ all (suc i) v is) k

-- a value that each of some fields has
pub All-mapped : {A B : Type 0} (P : B → Type 0) (f : A → B) (l : List A) (i : ℕ) (x : A) → i < length l → x ≡ get_or l i x → All P (map f l) → P (f x)
All-mapped P f [] i x lt is all = absurd (omega arith)
All-mapped P f (y ∷ ys) zero x lt is all = subst (λ z. P (f z)) (sym is) (all 0 (f y) (omega arith))
All-mapped P f (y ∷ ys) (suc i) x lt is all = All-mapped P f ys i x (omega arith) is (All-tail P (f y) (map f ys) all)

-- the kinds of one more field
pub kinds_more : (r : Holding) (fields : List Field) (k : ℕ) (f : Field) (kinds bits : ℕ) (w : Word) → k < length fields → f ≡ get_or fields k f → kinds ≡ kinds_of (map (word_in r) (values_told (take k fields))) → w ≡ word_in r (value_told f)
    → bits ≡ kind_number w.kind * 2 ^ (2 * k) → kinds + bits ≡ kinds_of (map (word_in r) (values_told (take (k + 1) fields)))
kinds_more r fields k f kinds bits w lt is so word more =
    let front : List Word = map (word_in r) (values_told (take k fields)) in
    let many : length front ≡ k = length-mapped (word_in r) (values_told (take k fields)) ∙ length-mapped value_told (take k fields) ∙ length-take-le k fields (omega arith) in
    let all : map (word_in r) (values_told (take (k + 1) fields)) ≡ front ++ w ∷ [] =
    ap (λ l. map (word_in r) (values_told l)) (take_more fields k f lt)
    ∙ ap (map (word_in r)) (map-append value_told (take k fields) (get_or fields k f ∷ []))
    ∙ map-append (word_in r) (values_told (take k fields)) (value_told (get_or fields k f) ∷ [])
    ∙ ap (λ x. front ++ word_in r (value_told x) ∷ []) (sym is)
    ∙ ap (λ x. front ++ x ∷ []) (sym word) in
    (λ j. so j + more j)
    ∙ ap (λ (n : ℕ). kinds_of front + kind_number w.kind * 2 ^ (2 * n)) (sym many)
    ∙ sym (kinds_of-append front w)
    ∙ ap kinds_of (sym all)

-- they fit
pub kinds_fit : (r : Holding) (fields : List Field) (k : ℕ) → k < length fields → length fields ≤ 32 → kinds_of (map (word_in r) (values_told (take (k + 1) fields))) < 2 ^ 64
kinds_fit r fields k lt few =
    let ws : List Word = map (word_in r) (values_told (take (k + 1) fields)) in
    let many : length ws ≡ k + 1 = length-mapped (word_in r) (values_told (take (k + 1) fields)) ∙ length-mapped value_told (take (k + 1) fields) ∙ length-take-le (k + 1) fields (omega arith) in
    let low = kinds_of-lt ws in
    let most = pow_le (2 * length ws) 64 (omega arith) in
    omega arith

pub get_lt : {A : Type 0} (l : List A) (i : ℕ) (v : A) → slice_get l i ≡ Some v → i < length l
get_lt [] i v e = absurd (none-some v e)
get_lt (x ∷ xs) zero v e = omega arith
get_lt (x ∷ xs) (suc i) v e = let lt = get_lt xs i v e in omega arith

-- the field at a place of the list
pub get_mapped : {A B : Type 0} (f : A → B) (l : List A) (i : ℕ) (x : A) (y : B) → i < length l → x ≡ get_or l i x → slice_get (map f l) i ≡ Some y → f x ≡ y
get_mapped f [] i x y lt is e = absurd (omega arith)
get_mapped f (z ∷ zs) zero x y lt is e = ap f is ∙ same_Some (f z) y e
get_mapped f (z ∷ zs) (suc i) x y lt is e = get_mapped f zs i x y (omega arith) is e

module _ (old new : Holding) (name : ℕ) (fields : List Val) (words : List ℕ) (s : Slot) (h : Header) (kept : IsReplica old.slots old.heap.blocks) (found : IsFound old.slots old.heap.blocks name s h)
    (puts : PutsSlot old.slots new.slots name (Some (record s { has_copy = true })))
    (lays : Lays old.heap.blocks new.heap.blocks s.address (with_kinds h (kinds_of (map (word_in old) fields))) (λ j. slice_index words j)) (apart : AreApart new.heap.blocks)
    (held : AreHeld old fields words) (size : length fields ≡ h.size) where
  abbrev bits : ℕ
  bits = kinds_of (map (word_in old) fields)

  kind_there : (i : ℕ) (v : Val) → slice_get fields i ≡ Some v → kind_of bits i ≡ kind_number (word_in old v).kind
  kind_there i v e = kind_of-kinds_of (map (word_in old) fields) i (word_in old v) (mapped_there (word_in old) fields i v e)

  own : (i : ℕ) → i < h.size → IsField old.heap.blocks (kind_of bits i) (slice_index words i)
  own i lt =
      let t = there fields i (omega arith) in
      let P : ℕ → Type 0 = λ k. IsField old.heap.blocks k (slice_index words i) in
      subst P (sym (kind_there i t.0 t.1)) (held i t.0 t.1).field

  few : bits < 2 ^ (2 * h.size)
  few =
      let n : length (map (word_in old) fields) ≡ h.size = length-mapped (word_in old) fields ∙ size in
      subst (λ (k : ℕ). bits < 2 ^ (2 * k)) n (kinds_of-lt (map (word_in old) fields))

  pub Stands-installed : Stands new.slots old.slots old.heap.blocks new.heap.blocks name (record s { has_copy = true }) (with_kinds h bits)
  Stands-installed =
      Stands-laid old.slots new.slots old.heap.blocks new.heap.blocks name (record s { has_copy = true }) (with_kinds h bits) (λ i. slice_index words i) kept puts refl found.named
      (Laid-from old.heap.blocks old.heap.blocks new.heap.blocks s.address (with_kinds h bits) (λ i. slice_index words i) (λ i. slice_index words i) (λ x. refl) (λ x. refl) apart (λ j small. refl) lays)
      (λ t e. ap (λ (y : Header). y.name) (same_Some t h (sym e ∙ found.there)) ∙ found.named)
      own few (λ none. absurd (false≢true (sym none)))
      (λ x off e. off (same_Some x s.address (sym e ∙ ap (option_map (λ (t : Slot). t.address)) found.slot)))

  value_there : (i : ℕ) (v : Val) → slice_get fields i ≡ Some v → i < h.size → field_at new.heap.blocks s.address (with_kinds h bits) i ≡ v
  value_there i v e lt =
      let one = held i v e in
      ap (value_in new.heap.blocks (kind_of bits i)) (lays.fields i lt)
      ∙ ap (λ k. value_in new.heap.blocks k (slice_index words i)) (kind_there i v e)
      ∙ value_in-same old.heap.blocks new.heap.blocks (kind_number (word_in old v).kind) (slice_index words i) one.field (names_kept old.slots new.slots old.heap.blocks new.heap.blocks name (record s { has_copy = true }) (with_kinds h bits) Stands-installed)
      ∙ one.value

  entry_now : Some (entry_in new.heap.blocks (record s { has_copy = true }) (with_kinds h bits)) ≡ option_map (with_copy fields) (entry_of old name)
  entry_now =
      let copy : values_of (field_at new.heap.blocks s.address (with_kinds h bits)) h.size ≡ fields =
      values_of-list h.size (field_at new.heap.blocks s.address (with_kinds h bits)) fields (sym size) (λ i v e. value_there i v e (within fields i v e size)) in
      ap (λ (l : List Val). let e : Entry = record { bunch = h.bunch; size = h.size; place = record { address = s.address; moves = moves_in h.state }; copy = Some l } in Some e) copy
      ∙ sym (ap (option_map (with_copy fields)) (entry_at-found old.slots old.heap.blocks name s h found))
    where
      within : (l : List Val) (i : ℕ) (v : Val) → slice_get l i ≡ Some v → length l ≡ h.size → i < h.size
      within l i v e is = let lt = get_lt l i v e in omega arith

  pub Installs-done : new.heap ≡ record old.heap { blocks = new.heap.blocks } → new.spare ≡ old.spare → Installs old new name fields
  Installs-done heap spare = record {
    entry = Puts-stands old.slots new.slots old.heap.blocks new.heap.blocks name (record s { has_copy = true }) (with_kinds h bits) Stands-installed (option_map (with_copy fields) (entry_of old name)) entry_now;
    laid = of_object old name s h (λ a x. Lays old.heap.blocks new.heap.blocks a (with_kinds x bits) (λ i. slice_index (map (λ v. (word_in old v).word) fields) i)) found
        (Lays-words old.heap.blocks new.heap.blocks s.address (with_kinds h bits) (λ i. slice_index words i) (λ i. slice_index (map (λ v. (word_in old v).word) fields) i)
        (λ i small. let t = there fields i (omega arith) in (held i t.0 t.1).word ∙ sym (index_mapped (λ v. (word_in old v).word) fields i t.0 t.1)) lays);
    heap = heap;
    spare = spare;
    keeps = Keeps-stands old new name (record s { has_copy = true }) (with_kinds h bits) Stands-installed;
  }
