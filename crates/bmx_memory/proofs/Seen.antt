-- Headers as the rules see them, and what leaves them as they are.
use Rattle.std.proofs.Common.{◌≡◌, ◌≢◌, ℕ, ◌^◌, ◌&&◌, nat_lt, true, cond, List, map, Option, Some, None, is_some, slice_set, refl, sym, ap, ◌∙◌, inl, inr}
use Rattle.std.specs.Prelude.{IsSomeAnd}
use Rattle.std.specs.Option.{option_map, MatchOption}
use Rattle.std.proofs.lemmas.Bool.{cases_eq, eq-eqb, ne_eqb, false≢true}
use Rattle.std.proofs.lemmas.List.{map-set}
use Rattle.std.proofs.lemmas.Option.{none-some, same_Some}
use Rattle.bmx_types.specs.Updates.{put, Puts}
use Rattle.bmx_types.specs.declared.values.Val.{Val}
use Rattle.bmx_segment.specs.Headers.{kind_number, with_kind_at}
use Rattle.bmx_segment.specs.Blocks.{Block}
use Rattle.bmx_segment.specs.Heaps.{Heap, made_of, handed_of, current_of}
use Rattle.bmx_segment.specs.Stores.{segment_key, block_at, header_at, Writes, Lays}
use Rattle.bmx_segment.specs.declared.headers.Header.{Header}
use Rattle.bmx_segment.specs.declared.headers.State.{State}
use Rattle.bmx_segment.specs.declared.headers.State.TheVariants.{Live, Forwarded, Dead}
use Rattle.bmx_replica.specs.Slots.{address_of}
use Rattle.bmx_replica.specs.Chains.{is_live}
use Rattle.bmx_replica.specs.Layouts.{moves_in, with_kinds}
use Rattle.bmx_replica.specs.Replicas.{Holding, Entry, IsReplica, WritesField, ClearsCopy, entry_of, word_in, with_value, without_copy}
use Rattle.bmx_replica.proofs.Chained.{alive}
use Rattle.bmx_protocol.specs.Nodes.{field_of as as_field}
use Rattle.bmx_protocol.specs.Places.{Header as HeaderSeen, Died}
use Rattle.bmx_memory.specs.Contents.{Contents}
use Rattle.bmx_memory.specs.Shown.{Object, shown, places_of, object_of, header_of, standing_of, with_copy, with_stored, with_fields, with_value as with_value_seen}
use Rattle.bmx_memory.specs.Inside.Keeping.{NoneDied, Keeps}
use Rattle.bmx_memory.proofs.Shows.{put_seen, put_same, map_map, map_same, places_from, shown_changed}

abbrev pub seen : List Block → ℕ → Option HeaderSeen
seen blocks a = option_map header_of (header_at blocks a)

-- ---- no header is dead

died : (s : State) → standing_of s ≡ Died → s ≡ Dead
died (Live moves kinds) e = absurd (cc)
died (Forwarded to) e = absurd (cc)
died Dead e = refl

seen_from : (o : Option Header) (t : HeaderSeen) → option_map header_of o ≡ Some t → (h : Header) × (o ≡ Some h) × (standing_of h.state ≡ t.standing)
seen_from None t e = absurd (none-some t e)
seen_from (Some h) t e = (h, refl, ap (λ (x : HeaderSeen). x.standing) (same_Some (header_of h) t e))

-- where headers are seen as before, none has died
pub none_died-seen : (old new : List Block) → ((a : ℕ) → seen new a ≡ seen old a) → NoneDied old → NoneDied new
none_died-seen old new same standing a t e dead =
    let was = seen_from (header_at old a) (header_of t) (sym (same a) ∙ ap (option_map header_of) e) in
    standing a was.0 was.1 (died was.0.state (was.2 ∙ ap standing_of dead))

live_not_dead : (s : State) → is_live s ≡ true → s ≢ Dead
live_not_dead s live dead = false≢true (sym (ap is_live dead) ∙ live)

-- nor where one is laid that is live
pub none_died-laid : (old new : List Block) (a : ℕ) (h : Header) (f : ℕ → ℕ) → is_live h.state ≡ true → Lays old new a h f → NoneDied old → NoneDied new
none_died-laid old new a h f live lays standing x t e =
    elim (cases_eq a x) [
      | inl at ↦
          let same : h ≡ t = same_Some h t (sym (lays.headers x ∙ ap (λ b. cond b (Some h) (header_at old x)) (eq-eqb a x at)) ∙ e) in
          live_not_dead t.state (ap (λ (y : Header). is_live y.state) (sym same) ∙ live)
      | inr off ↦ standing x t (sym (lays.headers x ∙ ap (λ b. cond b (Some h) (header_at old x)) (ne_eqb a x off)) ∙ e)
    ]

-- ---- headers that are seen as before

written_standing : (s : State) (i kind : ℕ) → standing_of (with_kind_at s i kind) ≡ standing_of s
written_standing (Live moves kinds) i kind = refl
written_standing (Forwarded to) i kind = refl
written_standing Dead i kind = refl

pub seen_written : (old new : List Block) (a i kind w : ℕ) → Writes old new a i kind w → (x : ℕ) → seen new x ≡ seen old x
seen_written old new a i kind w writes x =
    elim (cases_eq x a) [
      | inl at ↦
          ap (seen new) at ∙ ap (option_map header_of) writes.header
          ∙ map_map (λ (h : Header). record h { state = with_kind_at h.state i kind }) header_of (header_at old a)
          ∙ map_same (λ (h : Header). header_of (record h { state = with_kind_at h.state i kind })) header_of (header_at old a)
          (λ h. ap (λ s. record { name = h.name; size = h.size; standing = s }) (written_standing h.state i kind))
          ∙ ap (seen old) (sym at)
      | inr off ↦ ap (option_map header_of) (writes.headers x off)
    ]

laid_standing : (s : State) (kinds : ℕ) → is_live s ≡ true → standing_of (Live (moves_in s) kinds) ≡ standing_of s
laid_standing (Live moves k) kinds live = refl
laid_standing (Forwarded to) kinds live = absurd (false≢true live)
laid_standing Dead kinds live = absurd (false≢true live)

-- a live header is laid again with other kinds
pub seen_laid : (old new : List Block) (a : ℕ) (h : Header) (kinds : ℕ) (f : ℕ → ℕ) → header_at old a ≡ Some h → is_live h.state ≡ true → Lays old new a (with_kinds h kinds) f → (x : ℕ) → seen new x ≡ seen old x
seen_laid old new a h kinds f there live lays x =
    put_seen header_of (header_at old) (header_at new) a (Some (with_kinds h kinds)) lays.headers x
    ∙ put_same (seen old) a (Some (header_of (with_kinds h kinds)))
    (ap (λ s. Some (record { name = h.name; size = h.size; standing = s })) (laid_standing h.state kinds live) ∙ sym (ap (option_map header_of) there)) x

-- ---- places

-- where entries keep their places, headers are seen as before and no more is mapped, objects lie where they lay
pub places_kept : (old new : Holding) → ((q : ℕ) → option_map (λ (e : Entry). e.place) (entry_of new q) ≡ option_map (λ (e : Entry). e.place) (entry_of old q))
    → ((a : ℕ) → seen new.heap.blocks a ≡ seen old.heap.blocks a) → ((k : ℕ) → is_some (block_at new.heap.blocks k) ≡ is_some (block_at old.heap.blocks k))
    → new.heap ≡ record old.heap { blocks = new.heap.blocks } → places_of new ≡ places_of old
places_kept old new place header mapped rest =
    places_from new (places_of old) place header
    (λ home number. ap (λ b. nat_lt number (2 ^ 16) && b) (mapped (segment_key home number)))
    (λ number. ap (λ (h : Heap). handed_of h number) rest) (λ bunch. ap (λ (h : Heap). current_of h bunch) rest) (ap made_of rest)

-- an entry is put that keeps its place
pub place_put : (old new : Holding) (name : ℕ) (f : Entry → Entry) → ((e : Entry) → (f e).place ≡ e.place) → Puts (entry_of old) (entry_of new) name (option_map f (entry_of old name))
    → (q : ℕ) → option_map (λ (e : Entry). e.place) (entry_of new q) ≡ option_map (λ (e : Entry). e.place) (entry_of old q)
place_put old new name f keeps puts q =
    put_seen (λ (e : Entry). e.place) (entry_of old) (entry_of new) name (option_map f (entry_of old name)) puts q
    ∙ put_same (λ k. option_map (λ (e : Entry). e.place) (entry_of old k)) name _
    (map_map f (λ (e : Entry). e.place) (entry_of old name) ∙ map_same (λ e. (f e).place) (λ (e : Entry). e.place) (entry_of old name) keeps) q

-- what is seen of an entry that changes
pub object_put : (old new : Holding) (name : ℕ) (f : Entry → Entry) (g : Object → Object) → ((e : Entry) → object_of (f e) ≡ g (object_of e)) → Puts (entry_of old) (entry_of new) name (option_map f (entry_of old name))
    → (q : ℕ) → option_map object_of (entry_of new q) ≡ put (λ k. option_map object_of (entry_of old k)) name (option_map g (option_map object_of (entry_of old name))) q
object_put old new name f g same puts q =
    put_seen object_of (entry_of old) (entry_of new) name (option_map f (entry_of old name)) puts q
    ∙ ap (λ o. put (λ k. option_map object_of (entry_of old k)) name o q)
    (map_map f object_of (entry_of old name) ∙ map_same (λ e. object_of (f e)) (λ e. g (object_of e)) (entry_of old name) same ∙ sym (map_map object_of g (entry_of old name)))

-- ---- a field is written

writes_at : (r new : Holding) (o : Option ℕ) (i kind w : ℕ) → IsSomeAnd o (λ a. Writes r.heap.blocks new.heap.blocks a i kind w) → (a : ℕ) × Writes r.heap.blocks new.heap.blocks a i kind w
writes_at r new None i kind w writes = absurd writes
writes_at r new (Some a) i kind w writes = (a, writes)

value_of_copy : (o : Option (List Val)) (i : ℕ) (v : Val) → option_map (map as_field) (option_map (λ l. slice_set l i v) o) ≡ option_map (λ l. slice_set l i (as_field v)) (option_map (map as_field) o)
value_of_copy None i v = refl
value_of_copy (Some l) i v = ap Some (map-set as_field l i v)

object_written : (i : ℕ) (v : Val) (e : Entry) → object_of (with_value i v e) ≡ with_value_seen i v (object_of e)
object_written i v e = ap (λ c. record { bunch = e.bunch; size = e.size; copy = c }) (value_of_copy e.copy i v)

pub seen_field : (old new : Holding) (name i : ℕ) (v : Val) → WritesField old new name i v → (x : ℕ) → seen new.heap.blocks x ≡ seen old.heap.blocks x
seen_field old new name i v w x =
    let t = writes_at old new (address_of old.slots name) i (kind_number (word_in old v).kind) (word_in old v).word w.written in
    seen_written old.heap.blocks new.heap.blocks t.0 i (kind_number (word_in old v).kind) (word_in old v).word t.1 x

pub shown_written : (m : Contents) (new : Holding) (name i : ℕ) (v : Val) → Keeps m → WritesField m.replica new name i v → shown (record m { replica = new }) ≡ with_stored (shown m) name i v
unfolding shown
shown_written m new name i v kept w =
    let old : Holding = m.replica in
    let t = writes_at old new (address_of old.slots name) i (kind_number (word_in old v).kind) (word_in old v).word w.written in
    let heap : new.heap ≡ record old.heap { blocks = new.heap.blocks } = ap (λ (h : Holding). h.heap) w.rest in
    shown_changed m new _ (places_of old) kept w.keeps.names (ap (λ (h : Heap). h.me) heap) (ap (λ (h : Heap). h.limit) heap)
    (object_put old new name (with_value i v) (with_value_seen i v) (object_written i v) w.entry)
    (places_kept old new (place_put old new name (with_value i v) (λ e. refl) w.entry) (seen_field old new name i v w) t.1.mapped heap)

-- ---- a copy is cleared

-- a copy that is cleared leaves each header as it is seen, and each segment that is mapped
pub record Recast (old new : Holding) : Type 0 where
  pub headers : (x : ℕ) → seen new.heap.blocks x ≡ seen old.heap.blocks x
  pub mapped : (k : ℕ) → is_some (block_at new.heap.blocks k) ≡ is_some (block_at old.heap.blocks k)

recast_same : (old new : Holding) → new ≡ old → Recast old new
recast_same old new same = record {
  headers = λ x. ap (λ (h : Holding). seen h.heap.blocks x) same;
  mapped = λ k. ap (λ (h : Holding). is_some (block_at h.heap.blocks k)) same;
}

-- a name's live header is laid again with other kinds
pub recast_laid : (old new : Holding) (name a : ℕ) (h : Header) (kinds : ℕ) (f : ℕ → ℕ) → IsReplica old.slots old.heap.blocks → address_of old.slots name ≡ Some a → header_at old.heap.blocks a ≡ Some h
    → Lays old.heap.blocks new.heap.blocks a (with_kinds h kinds) f → Recast old new
recast_laid old new name a h kinds f kept at there lays =
    let live = alive old.heap.blocks a name ((kept.entries name a).0 at) in
    let is : is_live h.state ≡ true = ap (λ (y : Header). is_live y.state) (same_Some h live.0 (sym there ∙ live.1)) ∙ live.2 in
    record { headers = seen_laid old.heap.blocks new.heap.blocks a h kinds f there is lays; mapped = lays.mapped }

header_cleared : (old new : Holding) (name a : ℕ) (o : Option Header) → IsReplica old.slots old.heap.blocks → address_of old.slots name ≡ Some a → header_at old.heap.blocks a ≡ o
    → IsSomeAnd o (λ h. Lays old.heap.blocks new.heap.blocks a (with_kinds h 0) (λ j. 0)) → Recast old new
header_cleared old new name a None kept at there lays = absurd lays
header_cleared old new name a (Some h) kept at there lays = recast_laid old new name a h 0 (λ j. 0) kept at there lays

name_cleared : (old new : Holding) (name : ℕ) (o : Option ℕ) → IsReplica old.slots old.heap.blocks → address_of old.slots name ≡ o
    → MatchOption o (new ≡ old) (λ a. IsSomeAnd (header_at old.heap.blocks a) (λ h. Lays old.heap.blocks new.heap.blocks a (with_kinds h 0) (λ j. 0))) → Recast old new
name_cleared old new name None kept at cleared = recast_same old new cleared
name_cleared old new name (Some a) kept at cleared = header_cleared old new name a (header_at old.heap.blocks a) kept at refl cleared

pub recast_cleared : (old new : Holding) (name : ℕ) → IsReplica old.slots old.heap.blocks → ClearsCopy old new name → Recast old new
recast_cleared old new name kept c = name_cleared old new name (address_of old.slots name) kept refl c.cleared

pub shown_cleared : (m : Contents) (new : Holding) (name : ℕ) → Keeps m → ClearsCopy m.replica new name → shown (record m { replica = new }) ≡ with_copy (shown m) name None
unfolding shown
shown_cleared m new name kept c =
    let old : Holding = m.replica in
    let cast = recast_cleared old new name kept.sound.replica c in
    shown_changed m new _ (places_of old) kept c.keeps.names (ap (λ (h : Heap). h.me) c.heap) (ap (λ (h : Heap). h.limit) c.heap)
    (object_put old new name without_copy (with_fields None) (λ e. refl) c.entry)
    (places_kept old new (place_put old new name without_copy (λ e. refl) c.entry) cast.headers cast.mapped c.heap)
