-- An object is made: what is shown after it, and where there is no room for it.
use Rattle.std.proofs.Common.{◌≡◌, ℕ, ◌+◌, ◌-◌, ◌^◌, ◌<◌, ◌≤◌, ◌==◌, ◌&&◌, ◌++◌, not, slice_index_or, nat_le, Bool, true, false, cond, List, [], ◌∷◌, map, length, replicate, zero, suc, Option, Some, None, refl, sym, ap, ◌∙◌, subst, inl, inr, arith}
use Rattle.std.specs.Prelude.{IsSomeAnd, Result, Ok, Err, OnOk, OnErr}
use Rattle.std.specs.Option.{option_map}
use Rattle.std.proofs.lemmas.Bool.{cases_eq, cases_lt, cases_Bool, eq-eqb, ne_eqb, false≢true, le-leb, lt-leb, leb-true}
use Rattle.std.proofs.lemmas.List.{length_push}
use Rattle.std.proofs.lemmas.Option.{none-some}
use Rattle.bmx_types.specs.Updates.{put}
use Rattle.bmx_types.specs.Words.{address_word, home_of, segment_of}
use Rattle.bmx_types.specs.declared.values.Val.TheVariants as val
use Rattle.bmx_segment.specs.Heaps.{Heap, IsHeap, PlacesIn, PlacesInNew, made_of, handed_of, handed_in, left_in, room_of, room_in, own_at, with_handed, raised, current_of}
use Rattle.bmx_segment.specs.Stores.{header_at}
use Rattle.bmx_segment.specs.declared.headers.Header.{Header as HeaderWords}
use Rattle.bmx_segment.specs.declared.headers.State.TheVariants.{Live}
use Rattle.bmx_segment.specs.declared.segments.Own.{Own}
use Rattle.bmx_segment.proofs.Owning.{length-raised, own_at-raised_same, own_at-raised_other, own_at-pushed, own_at-made, raised-pushed, handed-append}
use Rattle.bmx_graph.proofs.States.{get_or-set_put}
use Rattle.bmx_replica.specs.Replicas.{Holding, Entry, MakesObject, Same, blank_entry, entry_of}
use Rattle.bmx_replica.proofs.Making.{HandsOut-same, HandsOut-me}
use Rattle.bmx_protocol.specs.declared.views.ViewField.TheVariants as field
use Rattle.bmx_protocol.specs.Nodes.{field_of as as_field}
use Rattle.bmx_protocol.specs.Places.{Places, Lives, has_room, is_full, with_segment, with_placed, with_made}
use Rattle.bmx_memory.specs.Contents.{Contents}
use Rattle.bmx_memory.specs.Shown.{shown, places_of, object_of, header_of, with_object as with_made_object}
use Rattle.bmx_memory.specs.Inside.Keeping.{NoneDied, IsSound, Keeps}
use Rattle.bmx_memory.proofs.Kept.{kept_changed}
use Rattle.bmx_memory.proofs.Mapped.{at_spot, put_at_same, mapped_in, mapped_maps, mapped_there, mapped_same, both_true}
use Rattle.bmx_memory.proofs.Seen.{seen, none_died-laid}
use Rattle.bmx_memory.proofs.Shows.{put_seen, places_from, shown_changed, shown_same, same_truth}

-- ---- results

pub ok_map : {T E P Q : Type 0} (r : Result T E) → (P → Q) → OnOk r P → OnOk r Q
ok_map (Ok x) f p = f p
ok_map (Err e) f p = tt

pub err_map : {T E P Q : Type 0} (r : Result T E) → (P → Q) → OnErr r P → OnErr r Q
err_map (Ok x) f p = tt
err_map (Err e) f p = f p

pub result_map : {T E P Q R : Type 0} (r : Result T E) → (P → R) → (Q → R) → OnOk r P → OnErr r Q → R
result_map (Ok x) f g p q = f p
result_map (Err e) f g p q = g q

-- ---- room

-- the bunch's open segment has that many words left
has_room-is : (r : Holding) (bunch words : ℕ) → IsHeap r.heap → 0 < words → has_room (places_of r) (current_of r.heap bunch) words ≡ nat_le words (room_of r.heap bunch)
has_room-is r bunch words kept some = by (current_of r.heap bunch) refl
  where
    by : (o : Option ℕ) → current_of r.heap bunch ≡ o → has_room (places_of r) o words ≡ nat_le words (room_of r.heap bunch)
    by None is = sym (ap (λ o. nat_le words (room_in r.heap o)) is ∙ lt-leb words 0 some)
    by (Some n) is =
        let opened_one = kept.current bunch n is in
        let own = own_at-made r.heap.own n opened_one.some opened_one.a_made in
        let room : room_of r.heap bunch ≡ 1024 - own.0.handed = ap (room_in r.heap) is ∙ ap left_in own.1 in
        ap (λ o. nat_le (handed_in o + words) 1024) own.1
        ∙ same_truth (nat_le (own.0.handed + words) 1024) (nat_le words (1024 - own.0.handed))
        (λ e. let fits = leb-true (own.0.handed + words) 1024 e in le-leb words (1024 - own.0.handed) (omega (arith, fits)))
        (λ e. let fits = leb-true words (1024 - own.0.handed) e in le-leb (own.0.handed + words) 1024 (omega (arith, fits, some)))
        ∙ ap (nat_le words) (sym room)

-- it is full where no more segments may be made and the open one lacks room
full-is : (r : Holding) (limit bunch size : ℕ) → IsHeap r.heap → (limit ≤ made_of r.heap) × (room_of r.heap bunch < 4 + size) → is_full limit (places_of r) bunch size ≡ true
full-is r limit bunch size kept full =
    ap (λ b. nat_le limit (made_of r.heap) && not b) (has_room-is r bunch (4 + size) kept (omega arith) ∙ lt-leb (4 + size) (room_of r.heap bunch) full.1)
    ∙ ap (λ b. b && true) (le-leb limit (made_of r.heap) full.0)

not_true : (b : Bool) → not b ≡ true → b ≡ false
not_true true e = absurd (false≢true e)
not_true false e = refl

short : (n m : ℕ) → nat_le n m ≡ false → m < n
short n m e = elim (cases_lt m n) [ inl lt ↦ lt | inr ge ↦ absurd (false≢true (sym e ∙ le-leb n m ge)) ]

not_full-is : (r : Holding) (limit bunch size : ℕ) → IsHeap r.heap → ((limit ≤ made_of r.heap) × (room_of r.heap bunch < 4 + size) → ⊥) → is_full limit (places_of r) bunch size ≡ false
not_full-is r limit bunch size kept fits =
    elim (cases_Bool (is_full limit (places_of r) bunch size)) [
      | inl full ↦
          let p = both_true (nat_le limit (made_of r.heap)) (not (has_room (places_of r) (current_of r.heap bunch) (4 + size))) full in
          let lacks : nat_le (4 + size) (room_of r.heap bunch) ≡ false = sym (has_room-is r bunch (4 + size) kept (omega arith)) ∙ not_true (has_room (places_of r) (current_of r.heap bunch) (4 + size)) p.1 in
          absurd (fits (leb-true limit (made_of r.heap) p.0, short (4 + size) (room_of r.heap bunch) lacks))
      | inr isnt ↦ isnt
    ]

pub full_shown : (m : Contents) (bunch size : ℕ) → IsHeap m.replica.heap → (m.replica.heap.limit ≤ made_of m.replica.heap) × (room_of m.replica.heap bunch < 4 + size) → is_full (shown m).limit (shown m).places bunch size ≡ true
unfolding shown
full_shown m bunch size kept full = full-is m.replica m.replica.heap.limit bunch size kept full

pub not_full_shown : (m : Contents) (bunch size : ℕ) → IsHeap m.replica.heap → ((m.replica.heap.limit ≤ made_of m.replica.heap) × (room_of m.replica.heap bunch < 4 + size) → ⊥) → is_full (shown m).limit (shown m).places bunch size ≡ false
unfolding shown
not_full_shown m bunch size kept fits = not_full-is m.replica m.replica.heap.limit bunch size kept fits

-- ---- where the object lies

home_again : (h s i : ℕ) → s < 2 ^ 16 → i ≤ 1024 → home_of (address_word h s i) ≡ h
home_again h s i p q = omega arith

segment_again : (h s i : ℕ) → s < 2 ^ 16 → i ≤ 1024 → segment_of (address_word h s i) ≡ s
segment_again h s i p q = omega arith

put_self : {A : Type 0} (f : ℕ → A) (key : ℕ) (v : A) → put f key v key ≡ v
put_self f key v = ap (λ b. cond b v (f key)) (eq-eqb key key refl)

-- the next words of a segment are handed out
handed_in_open : (own : List Own) (n words k : ℕ) (o : Own) → 0 < n → own_at own n ≡ Some o → handed_in (own_at (with_handed own n words) k) ≡ put (λ j. handed_in (own_at own j)) n (handed_in (own_at own n) + words) k
handed_in_open own n words k o some is =
    elim (cases_eq n k) [
      | inl same ↦
          ap (λ j. handed_in (own_at (with_handed own n words) j)) (sym same) ∙ ap handed_in (own_at-raised_same own n words o is) ∙ ap (λ x. handed_in x + words) (sym is)
          ∙ sym (ap (λ b. cond b (handed_in (own_at own n) + words) (handed_in (own_at own k))) (eq-eqb n k same))
      | inr other ↦
          ap handed_in (own_at-raised_other own n k words some (λ e. other (sym e)))
          ∙ sym (ap (λ b. cond b (handed_in (own_at own n) + words) (handed_in (own_at own k))) (ne_eqb n k other))
    ]

-- the first words of a new one are
handed_in_new : (own : List Own) (bunch words rest k : ℕ) → rest ≡ 0
    → handed_in (own_at (own ++ record { bunch = bunch; handed = words } ∷ []) k) ≡ put (put (λ j. handed_in (own_at own j)) (length own + 1) 0) (length own + 1) (rest + words) k
handed_in_new own bunch words rest k none =
    let n : ℕ = length own + 1 in
    let before : ℕ → ℕ = put (λ j. handed_in (own_at own j)) n 0 in
    let blank : Own = record { bunch = bunch; handed = 0 } in
    let more : words ≡ rest + words = omega (arith, none) in
    let again : with_handed (own ++ blank ∷ []) n words ≡ own ++ record { bunch = bunch; handed = words } ∷ [] = ap (λ j. raised (own ++ blank ∷ []) j words) (omega arith) ∙ raised-pushed own blank words ∙ ap (λ h. own ++ record { bunch = bunch; handed = h } ∷ []) (omega arith) in
    elim (cases_eq n k) [
      | inl same ↦
          ap handed_in (own_at-pushed own (record { bunch = bunch; handed = words }) k (sym same)) ∙ more
          ∙ sym (ap (λ b. cond b (rest + words) (before k)) (eq-eqb n k same))
      | inr other ↦
          ap (λ os. handed_in (own_at os k)) (sym again)
          ∙ ap handed_in (own_at-raised_other (own ++ blank ∷ []) n k words (omega arith) (λ e. other (sym e)))
          ∙ handed-append own 1 blank k refl
          ∙ sym (ap (λ b. cond b (rest + words) (before k)) (ne_eqb n k other) ∙ ap (λ b. cond b 0 (handed_in (own_at own k))) (ne_eqb n k other))
    ]

module _ (old new : Holding) (name bunch size : ℕ) (kept : IsHeap old.heap) (after : IsHeap new.heap) (few : bunch < 16) (made : MakesObject old new name bunch size) where
  abbrev a : Places
  a = places_of old

  abbrev me : ℕ
  me = old.heap.me

  place_made : (at : ℕ) → made.at ≡ at → (q : ℕ) → option_map (λ (e : Entry). e.place) (entry_of new q) ≡ put a.place name (Some (record { address = at; moves = 0 })) q
  place_made at is q =
      put_seen (λ (e : Entry). e.place) (entry_of old) (entry_of new) name (Some (blank_entry bunch size made.at)) made.entry q
      ∙ ap (λ (x : ℕ). put a.place name (Some (record { address = x; moves = 0 })) q) is

  header_made : (at : ℕ) → made.at ≡ at → (x : ℕ) → seen new.heap.blocks x ≡ put a.header at (Some (record { name = name; size = size; standing = Lives 0 })) x
  header_made at is x =
      let h : HeaderWords = record { bunch = bunch; size = size; name = name; state = Live 0 0 } in
      put_seen header_of (header_at made.mid.blocks) (header_at new.heap.blocks) made.at (Some h) made.laid.headers x
      ∙ ap (λ o. cond (made.at == x) (Some (header_of h)) (option_map header_of o)) ((HandsOut-same old.heap made.mid bunch size made.at made.placed).0 x)
      ∙ ap (λ (y : ℕ). put a.header y (Some (header_of h)) x) is

  mapped_mid : (h n : ℕ) → mapped_in new.heap.blocks h n ≡ mapped_in made.mid.blocks h n
  mapped_mid h n = mapped_same made.mid.blocks new.heap.blocks made.laid.mapped h n

  -- in the open segment
  module _ (n : ℕ) (is : current_of old.heap bunch ≡ Some n) (room : 4 + size ≤ room_of old.heap bunch) (placed : PlacesIn old.heap made.mid n size made.at) where
    in_open : places_of new ≡ with_placed me a name size (Some n)
    in_open =
        let opened_one = kept.current bunch n is in
        let own = own_at-made old.heap.own n opened_one.some opened_one.a_made in
        let at : ℕ = address_word me n (handed_of old.heap n) in
        let most = kept.few_made in
        let made_so = opened_one.a_made in
        let small : n < 2 ^ 16 = omega (arith, most, made_so) in
        let home : home_of at ≡ me = home_again me n (handed_of old.heap n) small (kept.handed n) in
        let segment : segment_of at ≡ n = segment_again me n (handed_of old.heap n) small (kept.handed n) in
        let blocks : made.mid.blocks ≡ old.heap.blocks = ap (λ (h : Heap). h.blocks) placed.handed in
        let owns : new.heap.own ≡ with_handed old.heap.own n (4 + size) = ap (λ (h : Heap). h.own) made.heap ∙ ap (λ (h : Heap). h.own) placed.handed in
        places_from new (with_placed me a name size (Some n)) (place_made at placed.address) (header_made at placed.address)
        (λ h k.
        mapped_mid h k ∙ ap (λ bs. mapped_in bs h k) blocks
        ∙ sym (put_at_same (mapped_in old.heap.blocks) (home_of at) (segment_of at) true
        (sym ((λ i. mapped_in old.heap.blocks (home i) (segment i)) ∙ mapped_there old.heap.blocks me n small opened_one.mapped)) h k))
        (λ k. ap (λ os. handed_in (own_at os k)) owns ∙ handed_in_open old.heap.own n (4 + size) k own.0 opened_one.some own.1)
        (λ b. ap (λ (h : Heap). current_of h b) made.heap ∙ ap (λ (h : Heap). current_of h b) placed.handed)
        (ap length owns ∙ length-raised old.heap.own (n - 1) (4 + size))

    open_made : with_made me a name bunch size ≡ with_placed me a name size (Some n)
    open_made =
        ap (λ b. let c : Places = cond b a (with_segment me a bunch) in with_placed me c name size (c.opened bunch)) (has_room-is old bunch (4 + size) kept (omega arith) ∙ le-leb (4 + size) (room_of old.heap bunch) room)
        ∙ ap (with_placed me a name size) is

  -- in a new segment
  module _ (lacks : room_of old.heap bunch < 4 + size) (placed : PlacesInNew old.heap made.mid bunch size made.at) where
    abbrev fresh : Places
    fresh = with_segment me a bunch

    abbrev next : ℕ
    next = made_of old.heap + 1

    in_new : places_of new ≡ with_placed me fresh name size (Some next)
    in_new =
        let none : fresh.handed next ≡ 0 = put_self a.handed next 0 in
        let at : ℕ = address_word me next (fresh.handed next) in
        let owns : new.heap.own ≡ old.heap.own ++ record { bunch = bunch; handed = 4 + size } ∷ [] = ap (λ (h : Heap). h.own) made.heap ∙ placed.own in
        let count : made_of new.heap ≡ next = ap length owns ∙ length_push old.heap.own (record { bunch = bunch; handed = 4 + size }) in
        let most = after.few_made in
        let small : next < 2 ^ 16 = omega (arith, most, count) in
        let lies : made.at ≡ at = placed.address ∙ ap (address_word me next) (sym none) in
        let home : home_of at ≡ me = home_again me next (fresh.handed next) small (omega (arith, none)) in
        let segment : segment_of at ≡ next = segment_again me next (fresh.handed next) small (omega (arith, none)) in
        let bunches = kept.bunches in
        places_from new (with_placed me fresh name size (Some next)) (place_made at lies) (header_made at lies)
        (λ h k.
        mapped_mid h k ∙ mapped_maps old.heap.blocks made.mid.blocks me next small placed.mapped h k
        ∙ sym (put_at_same fresh.mapped (home_of at) (segment_of at) true (sym (at_spot (mapped_in old.heap.blocks) me next true (home_of at) (segment_of at) (sym home) (sym segment))) h k))
        (λ k. ap (λ os. handed_in (own_at os k)) owns ∙ handed_in_new old.heap.own bunch (4 + size) (fresh.handed next) k none)
        (λ b. ap (λ (h : Heap). current_of h b) made.heap ∙ ap (λ os. slice_index_or os b None) placed.current ∙ get_or-set_put old.heap.current bunch (Some next) None b (omega (arith, bunches, few)))
        count

    new_made : with_made me a name bunch size ≡ with_placed me fresh name size (Some next)
    new_made =
        ap (λ b. let c : Places = cond b a (with_segment me a bunch) in with_placed me c name size (c.opened bunch)) (has_room-is old bunch (4 + size) kept (omega arith) ∙ lt-leb (4 + size) (room_of old.heap bunch) lacks)
        ∙ ap (with_placed me fresh name size) (put_self a.opened bunch (Some next))

  opened : (o : Option ℕ) → IsSomeAnd o (λ n. PlacesIn old.heap made.mid n size made.at) → (n : ℕ) × (o ≡ Some n) × PlacesIn old.heap made.mid n size made.at
  opened None p = absurd p
  opened (Some n) p = (n, refl, p)

  pub places_made : places_of new ≡ with_made me a name bunch size
  places_made =
      elim (cases_lt (room_of old.heap bunch) (4 + size)) [
        | inl lacks ↦ let placed = made.placed.fresh lacks in in_new lacks placed ∙ sym (new_made lacks placed)
        | inr room ↦ let o = opened (current_of old.heap bunch) (made.placed.roomy room) in in_open o.0 o.1 room o.2 ∙ sym (open_made o.0 o.1 room o.2)
      ]

  limit_made : new.heap.limit ≡ old.heap.limit
  limit_made =
      ap (λ (h : Heap). h.limit) made.heap
      ∙ elim (cases_lt (room_of old.heap bunch) (4 + size)) [
        | inl lacks ↦ ap (λ (h : Heap). h.limit) (made.placed.fresh lacks).rest
        | inr room ↦ let o = opened (current_of old.heap bunch) (made.placed.roomy room) in ap (λ (h : Heap). h.limit) o.2.handed
      ]

  me_made : new.heap.me ≡ old.heap.me
  me_made = ap (λ (h : Heap). h.me) made.heap ∙ HandsOut-me old.heap made.mid bunch size made.at made.placed

  none_died : NoneDied old.heap.blocks → NoneDied new.heap.blocks
  none_died standing =
      let same = HandsOut-same old.heap made.mid bunch size made.at made.placed in
      none_died-laid made.mid.blocks new.heap.blocks made.at (record { bunch = bunch; size = size; name = name; state = Live 0 0 }) (λ i. 0) refl made.laid (λ x t e. standing x t (sym (same.0 x) ∙ e))

nulls : (n : ℕ) → map as_field (replicate n val.Null) ≡ replicate n field.Null
nulls zero = refl
nulls (suc n) = λ i. field.Null ∷ nulls n i

-- what is shown after an object is made
pub shown_made : (m : Contents) (new : Holding) (name bunch size : ℕ) → Keeps m → IsHeap new.heap → bunch < 16 → MakesObject m.replica new name bunch size → shown (record m { replica = new }) ≡ with_made_object (shown m) name bunch size
unfolding shown
shown_made m new name bunch size kept after few made =
    let old : Holding = m.replica in
    shown_changed m new _ (with_made old.heap.me (places_of old) name bunch size) kept made.keeps.names
    (me_made old new name bunch size kept.sound.heap after few made) (limit_made old new name bunch size kept.sound.heap after few made)
    (λ q.
    put_seen object_of (entry_of old) (entry_of new) name (Some (blank_entry bunch size made.at)) made.entry q
    ∙ ap (λ fields. put (λ k. option_map object_of (entry_of old k)) name (Some (record { bunch = bunch; size = size; copy = Some fields })) q) (nulls size))
    (places_made old new name bunch size kept.sound.heap after few made)

pub kept_made : (m : Contents) (new : Holding) (name bunch size : ℕ) → Keeps m → IsSound new → bunch < 16 → MakesObject m.replica new name bunch size → Keeps (record m { replica = new })
kept_made m new name bunch size kept sound few made =
    kept_changed m new kept sound (none_died m.replica new name bunch size kept.sound.heap sound.heap few made kept.standing) made.keeps.names

-- ---- nothing but room differs

pub shown_still : (m : Contents) (new : Holding) → Same m.replica new → shown (record m { replica = new }) ≡ shown m
shown_still m new same = shown_same m new m.replica.heap.spare same.slots same.heap

pub kept_still : (m : Contents) (new : Holding) → Keeps m → IsSound new → Same m.replica new → Keeps (record m { replica = new })
kept_still m new kept sound same =
    kept_changed m new kept sound (subst (λ (h : Heap). NoneDied h.blocks) (sym same.heap) kept.standing)
    (λ w n e. ap (λ (h : Heap). option_map (λ (x : HeaderWords). x.name) (header_at h.blocks w)) same.heap ∙ e)

-- ---- what is asked

absent : {A B : Type 0} (f : A → B) (o : Option A) → option_map f o ≡ None → o ≡ None
absent f None e = refl
absent f (Some x) e = absurd (none-some (f x) (sym e))

pub absent_shown : (m : Contents) (name : ℕ) → (shown m).object name ≡ None → entry_of m.replica name ≡ None
unfolding shown
absent_shown m name e = absent object_of (entry_of m.replica name) e

pub count_shown : (m : Contents) → (shown m).places.made < 65535 → made_of m.replica.heap < 65535
unfolding shown
count_shown m e = e
