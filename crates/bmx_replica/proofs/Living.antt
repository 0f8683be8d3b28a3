-- Segments in which each header is live, and what their words reach.
use Rattle.std.specs.Prelude.{ℤ}
use Rattle.std.proofs.Common.{◌≡◌, ℕ, ◌+◌, ◌<◌, ◌==◌, Bool, true, false, cond, List, Option, Some, None, IsSome, slice_get, unwrap_or, option_and_then, refl, sym, ap, ◌∙◌, subst, ⊎_elim}
use Rattle.std.specs.Option.{option_map}
use Rattle.std.specs.Int.{w64, cast_signed}
use Rattle.std.proofs.lemmas.Bool.{cases_eq, eqb-true, eq-eqb, ne_eqb}
use Rattle.std.proofs.lemmas.Option.{none-some, same_Some}
use Rattle.bmx_types.specs.Words.{IsAddress}
use Rattle.bmx_types.specs.declared.values.Val.{Val}
use Rattle.bmx_types.specs.declared.values.Val.TheVariants as val
use Rattle.bmx_segment.specs.Headers.{kind_of, with_kind_at}
use Rattle.bmx_segment.specs.Blocks.{Block}
use Rattle.bmx_segment.specs.Stores.{header_at, word_at, Writes}
use Rattle.bmx_segment.specs.declared.headers.Header.{Header}
use Rattle.bmx_segment.specs.declared.headers.State.{State}
use Rattle.bmx_segment.specs.declared.headers.State.TheVariants.{Live, Forwarded, Dead}
use Rattle.bmx_replica.specs.declared.directory.Slot.{Slot}
use Rattle.bmx_replica.specs.Slots.{slot_of, address_of}
use Rattle.bmx_replica.specs.Chains.{is_live, here, Ends, EndsLive, Reaches, AllLive}
use Rattle.bmx_replica.specs.Layouts.{kinds_in}
use Rattle.bmx_segment.specs.Stores.{Lays}
use Rattle.bmx_replica.specs.Replicas.{Holding, Entry, IsReplica, IsField, entry_in, entry_of, field_of, field_at, value_in, values_of, MakesObject}
use Rattle.bmx_replica.proofs.Making.{HandsOut-same}
use Rattle.bmx_replica.proofs.Chained.{map_some, alive, is_end-live}
use Rattle.bmx_replica.proofs.Fielded.{field_within, slice_get-values_of}

-- ---- what changes them

pub all_live-laid : (old new : List Block) (a : ℕ) (h : Header) (f : ℕ → ℕ) → is_live h.state ≡ true → Lays old new a h f → AllLive old → AllLive new
all_live-laid old new a h f live lays all x t e =
    ⊎_elim
    (λ (at : a ≡ x).
    let same : h ≡ t = same_Some h t (sym (lays.headers x ∙ ap (λ b. cond b (Some h) (header_at old x)) (eq-eqb a x at)) ∙ e) in
    ap (λ (y : Header). is_live y.state) (sym same) ∙ live)
    (λ (off : a ≡ x → ⊥). all x t (sym (lays.headers x ∙ ap (λ b. cond b (Some h) (header_at old x)) (ne_eqb a x off)) ∙ e))
    (cases_eq a x)

-- a new object is live
pub all_live-made : (old new : Holding) (name bunch size : ℕ) → MakesObject old new name bunch size → AllLive old.heap.blocks → AllLive new.heap.blocks
all_live-made old new name bunch size made all =
    let same = HandsOut-same old.heap made.mid bunch size made.at made.placed in
    all_live-laid made.mid.blocks new.heap.blocks made.at (record { bunch = bunch; size = size; name = name; state = Live 0 0 }) (λ _. 0) refl made.laid (λ x t e. all x t (sym (same.0 x) ∙ e))

live_kinds : (s : State) (i n : ℕ) → is_live s ≡ true → is_live (with_kind_at s i n) ≡ true
live_kinds (Live m k) i n h = refl
live_kinds (Forwarded to) i n h = h
live_kinds Dead i n h = h

pub all_live-written : (old new : List Block) (a i kind w : ℕ) → Writes old new a i kind w → AllLive old → AllLive new
all_live-written old new a i kind w writes all x t e =
    ⊎_elim
    (λ (at : x ≡ a).
    let was = map_some (λ (h : Header). record h { state = with_kind_at h.state i kind }) (header_at old a) t (sym writes.header ∙ ap (header_at new) (sym at) ∙ e) in
    ap (λ (y : Header). is_live y.state) (sym was.2) ∙ live_kinds was.0.state i kind (all a was.0 was.1))
    (λ (off : x ≡ a → ⊥). all x t (sym (writes.headers x off) ∙ e))
    (cases_eq x a)

-- ---- what their words reach

-- the address of a header reaches the header's name
pub reaches-live : (blocks : List Block) (w : ℕ) (h : Header) → AllLive blocks → IsAddress w → header_at blocks w ≡ Some h → Reaches blocks w h.name
reaches-live blocks w h all address e =
    let live : is_live h.state ≡ true = all w h e in
    let end : Ends blocks w = record { at = w; header = h; leads = here e (is_end-live h.state live) } in
    let found : EndsLive blocks w h.name = record { end = end; named = refl; live = live } in
    record { address = address; ends = ∣ found ∣₁ }

-- a value that is a reference is read from a reference's word
reference_in : (b c : Bool) (k : ℤ) (n target : ℕ) → cond b (val.Int k) (cond c (val.Ref n) val.Null) ≡ val.Ref target → (c ≡ true) × (n ≡ target)
reference_in true c k n target e = absurd (cc)
reference_in false true k n target e = (refl, cc)
reference_in false false k n target e = absurd (cc)

header_named : (o : Option Header) (target : ℕ) → IsSome o → unwrap_or (option_map (λ (h : Header). h.name) o) 0 ≡ target → (h : Header) × (o ≡ Some h) × (h.name ≡ target)
header_named None target there e = absurd (cc)
header_named (Some h) target there e = (h, refl, e)

value_reaches : (blocks : List Block) (kind w target : ℕ) → AllLive blocks → IsField blocks kind w → value_in blocks kind w ≡ val.Ref target → Reaches blocks w target
value_reaches blocks kind w target all field e =
    let parts = reference_in (kind == 1) (kind == 2) (cast_signed w64 w) _ target e in
    let is : kind ≡ 2 = eqb-true kind 2 parts.0 in
    let found = header_named (header_at blocks w) target (field.there is) parts.1 in
    subst (Reaches blocks w) found.2 (reaches-live blocks w found.0 all (field.address is) found.1)

-- the value in a field, where there is a copy
value_of : (has : Bool) (f : ℕ → Val) (n i : ℕ) (v : Val) → i < n → option_and_then (λ (l : List Val). slice_get l i) (cond has (Some (values_of f n)) None) ≡ Some v → f i ≡ v
value_of false f n i v lt e = absurd (none-some v e)
value_of true f n i v lt e = same_Some (f i) v (sym (slice_get-values_of f n i lt) ∙ e)

some_of : (o : Option Val) (v : Val) → o ≡ Some v → IsSome o
some_of None v e = absurd (none-some v e)
some_of (Some x) v e = refl

-- the word of a field that refers to a name reaches that name
at_slot : (r : Holding) (name i target : ℕ) (s : Slot) → IsReplica r.slots r.heap.blocks → AllLive r.heap.blocks → field_of r name i ≡ Some (val.Ref target) → slot_of r.slots name ≡ Some s
    → Reaches r.heap.blocks (word_at r.heap.blocks (s.address + 4 + i)) target
at_slot r name i target s kept all field slot =
    let blocks : List Block = r.heap.blocks in
    let address : address_of r.slots name ≡ Some s.address = ap (option_map (λ (t : Slot). t.address)) slot in
    let h = alive blocks s.address name ((kept.entries name s.address).0 address) in
    let lt : i < h.0.size = field_within r name s h.0 slot h.1 i (some_of (field_of r name i) (val.Ref target) field) in
    let f : ℕ → Val = field_at blocks s.address h.0 in
    let entry : entry_of r name ≡ Some (entry_in blocks s h.0) =
    ap (option_and_then (λ (y : Slot). option_map (entry_in blocks y) (header_at blocks y.address))) slot ∙ ap (option_map (entry_in blocks s)) h.1 in
    let got : option_and_then (λ (l : List Val). slice_get l i) (cond s.has_copy (Some (values_of f h.0.size)) None) ≡ Some (val.Ref target) =
    sym (ap (λ (o : Option Entry). option_and_then (λ (l : List Val). slice_get l i) (option_and_then (λ (e : Entry). e.copy) o)) entry) ∙ field in
    value_reaches blocks (kind_of (kinds_in h.0.state) i) (word_at blocks (s.address + 4 + i)) target all (kept.fields s.address i h.0 h.1 h.2 lt)
    (value_of s.has_copy f h.0.size i (val.Ref target) lt got)

pub reference_reaches : (r : Holding) (name i a target : ℕ) → IsReplica r.slots r.heap.blocks → AllLive r.heap.blocks → field_of r name i ≡ Some (val.Ref target) → address_of r.slots name ≡ Some a
    → Reaches r.heap.blocks (word_at r.heap.blocks (a + 4 + i)) target
reference_reaches r name i a target kept all field address =
    let s = map_some (λ (t : Slot). t.address) (slot_of r.slots name) a address in
    subst (λ (x : ℕ). Reaches r.heap.blocks (word_at r.heap.blocks (x + 4 + i)) target) s.2 (at_slot r name i target s.0 kept all field s.1)
