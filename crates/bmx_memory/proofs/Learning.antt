-- An Info is learnt: what is shown after it.
use Rattle.std.proofs.Common.{◌≡◌, ◌≢◌, ℕ, ◌^◌, ◌<◌, ◌==◌, nat_lt, Bool, true, false, cond, List, Option, Some, None, is_some, refl, sym, ap, ◌∙◌, subst, inl, inr}
use Rattle.std.specs.Prelude.{IsSomeAnd, Result, Err, IsErrOf}
use Rattle.std.specs.Bool.{MatchBool}
use Rattle.std.specs.Option.{option_map}
use Rattle.std.proofs.lemmas.Bool.{cases_eq, eq-eqb, ne_eqb, ltb-true}
use Rattle.std.proofs.lemmas.Option.{same_Some}
use Rattle.bmx_types.specs.Updates.{put, put_at, Puts}
use Rattle.bmx_types.specs.Words.{home_of, segment_of}
use Rattle.bmx_types.specs.declared.addresses.Info.{Info}
use Rattle.bmx_segment.specs.Blocks.{Block}
use Rattle.bmx_segment.specs.Heaps.{Heap, made_of, handed_of, current_of}
use Rattle.bmx_segment.specs.Stores.{header_at, block_at, Lays}
use Rattle.bmx_segment.specs.declared.headers.Header.{Header as HeaderWords}
use Rattle.bmx_segment.specs.declared.headers.State.TheVariants.{Live, Forwarded, Dead}
use Rattle.bmx_replica.specs.Slots.{address_of}
use Rattle.bmx_replica.specs.Layouts.{Moves, MapsThen, blank_header, kinds_in}
use Rattle.bmx_replica.specs.Replicas.{Holding, Entry, IsObject, IsReplica, Accepts, Learns, TakesPlace, at_place, learned, entry_of}
use Rattle.bmx_replica.specs.declared.replica.LearnError.{LearnError}
use Rattle.bmx_replica.specs.declared.replica.LearnError.TheVariants.{NoMemory, Clash}
use Rattle.bmx_replica.specs.Inside.Replicas.{IsFound}
use Rattle.bmx_replica.specs.declared.directory.Slot.{Slot}
use Rattle.bmx_protocol.specs.Places.{Places, Header, Lives, Went, with_object, with_went, with_learnt, learn_at}
use Rattle.bmx_memory.specs.Contents.{Contents}
use Rattle.bmx_memory.specs.Shown.{Object, Fits, shown, places_of, object_of, header_of, object_told, with_info}
use Rattle.bmx_memory.specs.Inside.Keeping.{NoneDied, IsSound, Keeps}
use Rattle.bmx_memory.proofs.Clashing.{accepts_unless, shown_sketch}
use Rattle.bmx_memory.proofs.Kept.{kept_changed}
use Rattle.bmx_memory.proofs.Mapped.{mapped_in, mapped_maps, mapped_same}
use Rattle.bmx_memory.proofs.Reached.{Standing, entry_stands}
use Rattle.bmx_memory.proofs.Seen.{seen, none_died-laid}
use Rattle.bmx_memory.proofs.Shows.{put_seen, put_same, places_from, shown_changed}

-- ---- it can be learnt

-- an Info that fits is accepted
pub fits_accepts : (m : Contents) (i : Info) → Fits (shown m) i → Accepts m.replica.heap i (entry_of m.replica i.name)
unfolding shown
fits_accepts m i fits = accepts_unless m.replica.heap.me _ (places_of m.replica) _ i (shown_sketch m.replica fits.parts) fits.none

-- a call fails for memory or for a clash
pub cannot_fail : {T : Type 0} (r : Result T LearnError) (e : LearnError) → r ≡ Err e → (IsErrOf r Clash → ⊥) → (IsErrOf r NoMemory → ⊥) → ⊥
cannot_fail r NoMemory is clash memory = memory (subst (λ x. IsErrOf x NoMemory) (sym is) refl)
cannot_fail r Clash is clash memory = clash (subst (λ x. IsErrOf x Clash) (sym is) refl)

-- ---- what is learnt of places

-- the places after a change, with only blocks and room changed, in which no header is dead
record After (old new : Holding) (a : Places) : Type 0 where
  pub places : places_of new ≡ a
  pub rest : new.heap ≡ record old.heap { blocks = new.heap.blocks; spare = new.heap.spare }
  pub standing : NoneDied old.heap.blocks → NoneDied new.heap.blocks

-- a segment is mapped and then blocks change
module _ (old new : Holding) (i : Info) (small : segment_of i.place.address < 2 ^ 16) (change : List Block → List Block → Type 0) (m : MapsThen old.heap new.heap i.place.address change) where
  abbrev at : ℕ
  at = i.place.address

  then_rest : new.heap ≡ record old.heap { blocks = new.heap.blocks; spare = new.heap.spare }
  then_rest =
      m.rest ∙ ap (λ (h : Heap). record h { blocks = new.heap.blocks }) m.maps.rest
      ∙ ap (λ (n : ℕ). record old.heap { blocks = new.heap.blocks; spare = n }) (ap (λ (h : Heap). h.spare) (sym m.rest))

  then_mapped : ((k : ℕ) → is_some (block_at new.heap.blocks k) ≡ is_some (block_at m.mid.blocks k)) → (h n : ℕ) → mapped_in new.heap.blocks h n ≡ put_at (mapped_in old.heap.blocks) (home_of at) (segment_of at) true h n
  then_mapped same h n = mapped_same m.mid.blocks new.heap.blocks same h n ∙ mapped_maps old.heap.blocks m.mid.blocks (home_of at) (segment_of at) small m.maps.mapped h n

  -- the object lies there
  then_placed : (a : Places) (name size : ℕ) → a.mapped ≡ (λ h n. mapped_in old.heap.blocks h n) → a.handed ≡ handed_of old.heap → a.opened ≡ current_of old.heap → a.made ≡ made_of old.heap
      → ((k : ℕ) → is_some (block_at new.heap.blocks k) ≡ is_some (block_at m.mid.blocks k))
      → ((q : ℕ) → option_map (λ (e : Entry). e.place) (entry_of new q) ≡ put a.place name (Some i.place) q)
      → ((x : ℕ) → seen new.heap.blocks x ≡ put a.header at (Some (record { name = name; size = size; standing = Lives i.place.moves })) x)
      → places_of new ≡ with_object a name size i.place
  then_placed a name size mapped handed opened made same place header =
      places_from new (with_object a name size i.place) place header
      (λ h n. then_mapped same h n ∙ ap (λ (f : ℕ → ℕ → Bool). put_at f (home_of at) (segment_of at) true h n) (sym mapped))
      (λ n. ap (λ (h : Heap). handed_of h n) then_rest ∙ ap (λ (f : ℕ → ℕ). f n) (sym handed))
      (λ b. ap (λ (h : Heap). current_of h b) then_rest ∙ ap (λ (f : ℕ → Option ℕ). f b) (sym opened))
      (ap made_of then_rest ∙ sym made)

-- ---- a new name

learnt_none : (old new : Holding) (i : Info) → segment_of i.place.address < 2 ^ 16 → TakesPlace old new i None → Puts (entry_of old) (entry_of new) i.name (Some (learned i None))
    → After old new (with_object (places_of old) i.name i.size i.place)
learnt_none old new i small m puts =
    let lays = m.changes in
    let change : List Block → List Block → Type 0 = λ before after. Lays before after i.place.address (blank_header i) (λ j. 0) in
    record {
      places = then_placed old new i small change m (places_of old) i.name i.size refl refl refl refl lays.mapped
          (put_seen (λ (e : Entry). e.place) (entry_of old) (entry_of new) i.name (Some (learned i None)) puts)
          (λ x.
          put_seen header_of (header_at m.mid.blocks) (header_at new.heap.blocks) i.place.address (Some (blank_header i)) lays.headers x
          ∙ ap (λ o. cond (i.place.address == x) (Some (header_of (blank_header i))) (option_map header_of o)) (m.maps.mapped.headers x));
      rest = then_rest old new i small change m;
      standing = λ standing. none_died-laid m.mid.blocks new.heap.blocks i.place.address (blank_header i) (λ j. 0) refl lays (λ x t e. standing x t (sym (m.maps.mapped.headers x) ∙ e));
    }

-- ---- a newer place

went_at : (a : Places) (old to : ℕ) (h : Header) → a.header old ≡ Some h → (with_went a old to).header old ≡ Some (record h { standing = Went to })
went_at a old to h is = rw (is, eq-eqb old old refl) refl

went_else : (a : Places) (old to x : ℕ) → old ≢ x → (with_went a old to).header x ≡ a.header x
went_else a old to x off = rw (ne_eqb old x off) refl

none_died-set : (old new : List Block) (a to : ℕ) (h : HeaderWords) → h.state ≡ Forwarded to → Puts (header_at old) (header_at new) a (Some h) → NoneDied old → NoneDied new
none_died-set old new a to h forwarded puts standing x t e dead =
    elim (cases_eq a x) [
      | inl same ↦
          let is : h ≡ t = same_Some h t (sym (puts x ∙ ap (λ b. cond b (Some h) (header_at old x)) (eq-eqb a x same)) ∙ e) in
          let clash : Forwarded to ≡ Dead = sym forwarded ∙ ap (λ (y : HeaderWords). y.state) is ∙ dead in
          absurd (cc)
      | inr off ↦ standing x t (sym (puts x ∙ ap (λ b. cond b (Some h) (header_at old x)) (ne_eqb a x off)) ∙ e) dead
    ]

object_is : (r : Holding) (n : ℕ) (s : Slot) (h : HeaderWords) (P : ℕ → HeaderWords → Type 0) → IsFound r.slots r.heap.blocks n s h → IsObject r n P → P s.address h
object_is r n s h P found is =
    let place : address_of r.slots n ≡ Some s.address = ap (option_map (λ (t : Slot). t.address)) found.slot in
    let there : IsSomeAnd (header_at r.heap.blocks s.address) (P s.address) = subst (λ (o : Option ℕ). IsSomeAnd o (λ a. IsSomeAnd (header_at r.heap.blocks a) (P a))) place is in
    subst (λ (o : Option HeaderWords). IsSomeAnd o (P s.address)) found.there there

module _ (old new : Holding) (i : Info) (small : segment_of i.place.address < 2 ^ 16) (e : Entry) (s : Standing old i.name e) (size : e.size ≡ i.size) (apart : e.place.address ≢ i.place.address)
    (m : MapsThen old.heap new.heap i.place.address (λ before after. Moves before after s.slot.address i.place s.header)) where
  abbrev from : ℕ
  from = s.slot.address

  abbrev to : ℕ
  to = i.place.address

  abbrev moved : HeaderWords
  moved = record s.header { state = Live i.place.moves (kinds_in s.header.state) }

  abbrev left : HeaderWords
  left = record s.header { state = Forwarded to }

  abbrev went : Places
  went = with_went (places_of old) e.place.address to

  is_from : e.place.address ≡ from
  is_from = ap (λ (x : Entry). x.place.address) (sym s.entry)

  was : (places_of old).header e.place.address ≡ Some (header_of s.header)
  was = ap (seen old.heap.blocks) is_from ∙ ap (option_map header_of) s.found.there

  named : header_of moved ≡ record { name = i.name; size = i.size; standing = Lives i.place.moves }
  named = λ k. record { name = s.found.named k; size = sizes k; standing = Lives i.place.moves }
    where
      sizes : s.header.size ≡ i.size
      sizes = ap (λ (x : Entry). x.size) s.entry ∙ size

  seen_moved : (x : ℕ) → seen m.changes.mid x ≡ put (seen old.heap.blocks) to (Some (header_of moved)) x
  seen_moved x =
      put_seen header_of (header_at m.mid.blocks) (header_at m.changes.mid) to (Some moved) m.changes.lays.headers x
      ∙ ap (λ o. cond (to == x) (Some (header_of moved)) (option_map header_of o)) (m.maps.mapped.headers x)

  seen_left : (x : ℕ) → seen new.heap.blocks x ≡ put (seen m.changes.mid) from (Some (header_of left)) x
  seen_left x = put_seen header_of (header_at m.changes.mid) (header_at new.heap.blocks) from (Some left) m.changes.forwards.headers x

  header_moved : (x : ℕ) → seen new.heap.blocks x ≡ put went.header to (Some (record { name = i.name; size = i.size; standing = Lives i.place.moves })) x
  header_moved x =
      let lies : Header = record { name = i.name; size = i.size; standing = Lives i.place.moves } in
      elim (cases_eq from x) [
        | inl at ↦
            seen_left x ∙ ap (λ b. cond b (Some (header_of left)) (seen m.changes.mid x)) (eq-eqb from x at)
            ∙ sym (ap (λ b. cond b (Some lies) (went.header x)) (ne_eqb to x (λ y. apart (is_from ∙ at ∙ sym y)))
            ∙ ap went.header (sym (is_from ∙ at)) ∙ went_at (places_of old) e.place.address to (header_of s.header) was)
        | inr off ↦
            seen_left x ∙ ap (λ b. cond b (Some (header_of left)) (seen m.changes.mid x)) (ne_eqb from x off) ∙ seen_moved x
            ∙ ap (λ o. cond (to == x) (Some o) (seen old.heap.blocks x)) named
            ∙ ap (λ o. cond (to == x) (Some lies) o) (sym (went_else (places_of old) e.place.address to x (λ y. off (sym is_from ∙ y))))
      ]

  learnt_newer : Puts (entry_of old) (entry_of new) i.name (Some (at_place i.place e)) → After old new (with_object went i.name i.size i.place)
  learnt_newer puts =
      let change : List Block → List Block → Type 0 = λ before after. Moves before after from i.place s.header in
      record {
        places = then_placed old new i small change m went i.name i.size refl refl refl refl (λ k. m.changes.forwards.mapped k ∙ m.changes.lays.mapped k)
            (put_seen (λ (x : Entry). x.place) (entry_of old) (entry_of new) i.name (Some (at_place i.place e)) puts) header_moved;
        rest = then_rest old new i small change m;
        standing = λ standing.
            none_died-set m.changes.mid new.heap.blocks from to left refl m.changes.forwards.headers
            (none_died-laid m.mid.blocks m.changes.mid to moved _ refl m.changes.lays (λ x t y. standing x t (sym (m.maps.mapped.headers x) ∙ y)));
      }

-- ---- any

module _ (old new : Holding) (i : Info) (small : segment_of i.place.address < 2 ^ 16) (kept : IsReplica old.slots old.heap.blocks) (l : Learns old new i) where
  after_old : new ≡ old → After old new (places_of old)
  after_old same = record {
    places = ap places_of same;
    rest = ap (λ (h : Holding). h.heap) same ∙ ap (λ (h : Holding). record old.heap { blocks = h.heap.blocks; spare = h.heap.spare }) (sym same);
    standing = λ standing. subst (λ (h : Holding). NoneDied h.heap.blocks) (sym same) standing;
  }

  after_some : (e : Entry) → entry_of old i.name ≡ Some e → (b : Bool) → nat_lt e.place.moves i.place.moves ≡ b
      → After old new (cond b (with_object (with_went (places_of old) e.place.address i.place.address) i.name i.size i.place) (places_of old))
  after_some e is false test =
      after_old
      (subst (λ b. MatchBool b (IsObject old i.name (λ a h. MapsThen old.heap new.heap i.place.address (λ before after. Moves before after a i.place h))) (new ≡ old)) test
      (subst (TakesPlace old new i) is l.places))
  after_some e is true test =
      let s = entry_stands old i.name e kept is in
      let accepted = subst (Accepts old.heap i) is l.accepted in
      let newer = accepted.2 (ltb-true e.place.moves i.place.moves test) in
      let P : ℕ → HeaderWords → Type 0 = λ a h. MapsThen old.heap new.heap i.place.address (λ before after. Moves before after a i.place h) in
      let moves : IsObject old i.name P = subst (λ b. MatchBool b (IsObject old i.name P) (new ≡ old)) test (subst (TakesPlace old new i) is l.places) in
      learnt_newer old new i small e s accepted.1 newer.0 (object_is old i.name s.slot s.header P s.found moves)
      (λ q. l.entry q ∙ ap (λ o. put (entry_of old) i.name (Some (learned i o)) q) is ∙ ap (λ b. put (entry_of old) i.name (Some (cond b (at_place i.place e) e)) q) test)

  after_any : (o : Option Entry) → entry_of old i.name ≡ o → After old new (learn_at (places_of old) i (option_map (λ (e : Entry). e.place) o))
  after_any None is = learnt_none old new i small (subst (TakesPlace old new i) is l.places) (λ q. l.entry q ∙ ap (λ o. put (entry_of old) i.name (Some (learned i o)) q) is)
  after_any (Some e) is = after_some e is (nat_lt e.place.moves i.place.moves) refl

  after_learnt : After old new (with_learnt (places_of old) i)
  after_learnt = after_any (entry_of old i.name) refl

  -- ---- what is learnt of objects

  object_same : (b : Bool) (e : Entry) → object_of (cond b (at_place i.place e) e) ≡ object_of e
  object_same true e = refl
  object_same false e = refl

  abbrev objects : ℕ → Option Object
  objects q = option_map object_of (entry_of old q)

  objects_any : (o : Option Entry) → entry_of old i.name ≡ o → (q : ℕ)
      → option_map object_of (entry_of new q) ≡ cond (is_some (option_map object_of o)) objects (put objects i.name (Some (record { bunch = i.bunch; size = i.size; copy = None }))) q
  objects_any None is q =
      put_seen object_of (entry_of old) (entry_of new) i.name (Some (learned i (entry_of old i.name))) l.entry q
      ∙ ap (λ o. put objects i.name (Some (object_of (learned i o))) q) is
  objects_any (Some e) is q =
      put_seen object_of (entry_of old) (entry_of new) i.name (Some (learned i (entry_of old i.name))) l.entry q
      ∙ ap (λ o. put objects i.name (Some (object_of (learned i o))) q) is
      ∙ put_same objects i.name _ (ap Some (object_same (nat_lt e.place.moves i.place.moves) e) ∙ sym (ap (option_map object_of) is)) q

  objects_learnt : (q : ℕ) → option_map object_of (entry_of new q) ≡ object_told objects i q
  objects_learnt q = objects_any (entry_of old i.name) refl q

-- what is shown after an Info is learnt
pub shown_learnt : (m : Contents) (new : Holding) (i : Info) → Keeps m → segment_of i.place.address < 2 ^ 16 → Learns m.replica new i → shown (record m { replica = new }) ≡ with_info (shown m) i
unfolding shown
shown_learnt m new i kept small l =
    let old : Holding = m.replica in
    let after = after_learnt old new i small kept.sound.replica l in
    shown_changed m new _ (with_learnt (places_of old) i) kept l.keeps.names (ap (λ (h : Heap). h.me) after.rest) (ap (λ (h : Heap). h.limit) after.rest)
    (objects_learnt old new i small kept.sound.replica l) after.places

pub kept_learnt : (m : Contents) (new : Holding) (i : Info) → Keeps m → IsSound new → segment_of i.place.address < 2 ^ 16 → Learns m.replica new i → Keeps (record m { replica = new })
kept_learnt m new i kept sound small l =
    kept_changed m new kept sound ((after_learnt m.replica new i small kept.sound.replica l).standing kept.standing) l.keeps.names
