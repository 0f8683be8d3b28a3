-- What each call does, from what its parts did.
use Rattle.std.proofs.Common.{◌≡◌, ◌≢◌, ℕ, ◌+◌, ◌*◌, ◌<◌, ◌≤◌, Bool, true, false, List, Option, Some, None, IsSome, IsSomeAnd, min, get_or, replicate, refl, sym, ap, subst, ◌∙◌, inl, inr, arith}
use Rattle.std.specs.Option.{option_map}
use Rattle.std.proofs.lemmas.Option.{same_Some}
use Rattle.std.proofs.lemmas.Nat.{pow_pos}
use Rattle.bmx_types.specs.declared.values.Val.{Val}
use Rattle.bmx_types.specs.declared.addresses.Place.{Place}
use Rattle.bmx_types.specs.declared.addresses.Info.{Info}
use Rattle.bmx_segment.specs.Headers.{kind_of, kind_number, with_kind}
use Rattle.bmx_segment.specs.Blocks.{Block}
use Rattle.bmx_segment.specs.Stores.{header_at, word_at, AreApart, Writes, Sets, Lays}
use Rattle.bmx_segment.specs.Heaps.{Heap, CanSet}
use Rattle.bmx_segment.specs.declared.headers.Header.{Header}
use Rattle.bmx_segment.specs.declared.headers.State.TheVariants.{Live, Dead}
use Rattle.bmx_replica.specs.Slots.{slot_of, address_of}
use Rattle.bmx_replica.specs.Layouts.{Moves, MapsThen, CanLie, kinds_in, moves_in, with_kinds, blank_header}
use Rattle.bmx_replica.specs.Replicas.{Holding, Entry, entry_of, entry_in, field_of, value_in, word_in, with_value, without_copy, at_place, blank_entry, IsReplica, IsField, HandsOut, WritesField, ClearsCopy, MakesObject, MovesObject, Forgets, Learns, Accepts, TakesPlace, learned, IsObject}
use Rattle.bmx_replica.specs.Inside.Layouts.{Readies}
use Rattle.std.specs.Prelude.{nat_lt, if◌then◌else◌}
use Rattle.std.specs.Bool.{MatchBool}
use Rattle.std.proofs.lemmas.Bool.{lt-ltb, le-ltb, cases_eq, eq-eqb, ne_eqb}
use Rattle.bmx_replica.specs.Inside.Slots.{PutsSlot}
use Rattle.bmx_replica.specs.Inside.Replicas.{IsFound, OthersStay}
use Rattle.bmx_replica.specs.declared.directory.Slot.{Slot}
use Rattle.bmx_replica.specs.declared.words.Word.{Word}
use Rattle.bmx_replica.proofs.Laid.{Laid, Laid-from, Moved, Moved-from, Lays-words, kind_of-none}
use Rattle.bmx_replica.proofs.Standing.{Stands, IsReplica-stands, Keeps-stands, Puts-stands, of_object, if_object, found_at, entry_none}
use Rattle.bmx_replica.proofs.Fielded.{field_of-there, entry_at-found}
use Rattle.bmx_replica.proofs.Changing.{Stands-written, entry-written, others_stay, Stands-laid, IsField-null, get_or-same, CanSet-same, Stands-re_placed, entry-re_placed}
use Rattle.bmx_replica.proofs.Making.{HandsOut-same, absent_slot, Stands-added, null_fields}
use Rattle.bmx_replica.proofs.Forgetting.{Means-forgotten, Reaches-forgotten, Puts-forgotten, forgotten_names}

-- ---- room

pub spare_same : (d e m n : ℕ) → e ≡ d → n ≡ m → min e n ≡ min d m
spare_same d e m n one two = λ i. min (one i) (two i)

pub spare_more : (d e m n : ℕ) → d ≤ e → n ≡ m → min d m ≤ min e n
spare_more d e m n more same = omega arith

pub spare_one : (a d e m n : ℕ) → a ≤ d → d ≤ e + 1 → n ≡ m → min a m ≤ min e n + 1
spare_one a d e m n first more same = omega arith

pub spare_both : (a d e m n : ℕ) → a ≤ d → d ≤ e + 1 → m ≤ n + 1 → min a m ≤ min e n + 1
spare_both a d e m n first more less = omega arith

-- ---- a field is written

module _ (old : Holding) (blocks : List Block) (name i : ℕ) (v : Val) (word : Word) (s : Slot) (kept : IsReplica old.slots old.heap.blocks) (slot : slot_of old.slots name ≡ Some s) (has : IsSome (field_of old name i))
    (field : IsField old.heap.blocks (kind_number word.kind) word.word) (apart : AreApart old.heap.blocks) (one : Writes old.heap.blocks blocks s.address i (kind_number word.kind) word.word) where
  abbrev header : Header
  header = (found_at old.slots old.heap.blocks name s kept slot).0

  abbrev found : IsFound old.slots old.heap.blocks name s (found_at old.slots old.heap.blocks name s kept slot).0
  found = (found_at old.slots old.heap.blocks name s kept slot).1

  abbrev there : (s.has_copy ≡ true) × (i < header.size)
  there = field_of-there old name s header found i has

  abbrev written : Holding
  written = record old { heap = record old.heap { blocks = blocks } }

  stands : Stands old.slots old.slots old.heap.blocks blocks name s (with_kinds header (with_kind (kinds_in header.state) i (kind_number word.kind)))
  stands = Stands-written old blocks name s header i (kind_number word.kind) word.word kept found apart there.0 there.1 field one

  pub IsReplica-written : IsReplica old.slots blocks
  IsReplica-written = IsReplica-stands old.slots old.slots old.heap.blocks blocks name s _ stands

  pub WritesField-done : word ≡ word_in old v → value_in old.heap.blocks (kind_number word.kind) word.word ≡ v → WritesField old (record old { heap = record old.heap { blocks = blocks } }) name i v
  WritesField-done is holds =
      let place : address_of old.slots name ≡ Some s.address = ap (option_map (λ (t : Slot). t.address)) slot in
      let W : Word → Type 0 = λ x. Writes old.heap.blocks blocks s.address i (kind_number x.kind) x.word in
      let P : Option ℕ → Type 0 = λ o. IsSomeAnd o (λ a. Writes old.heap.blocks blocks a i (kind_number (word_in old v).kind) (word_in old v).word) in
      record {
        entry = Puts-stands old.slots old.slots old.heap.blocks blocks name s _ stands (option_map (with_value i v) (entry_of old name))
            (entry-written old blocks name s header i (kind_number word.kind) word.word kept found apart there.0 there.1 field one v holds);
        written = subst P (sym place) (subst W is one);
        rest = refl;
        keeps = Keeps-stands old written name s _ stands;
      }

  pub OthersStay-done : OthersStay old (record old { heap = record old.heap { blocks = blocks } }) name i
  OthersStay-done = others_stay old blocks name s header i (kind_number word.kind) word.word kept found apart there.0 there.1 field one

-- ---- a copy is cleared

module _ (old new : Holding) (name : ℕ) (s : Slot) (h : Header) (kept : IsReplica old.slots old.heap.blocks) (found : IsFound old.slots old.heap.blocks name s h) (puts : PutsSlot old.slots new.slots name (Some (record s { has_copy = false })))
    (lays : Lays old.heap.blocks new.heap.blocks s.address (with_kinds h 0) (λ j. get_or (replicate 32 0) j 0)) (apart : AreApart new.heap.blocks) where
  zeros : Lays old.heap.blocks new.heap.blocks s.address (with_kinds h 0) (λ _. 0)
  zeros = Lays-words old.heap.blocks new.heap.blocks s.address (with_kinds h 0) (λ j. get_or (replicate 32 0) j 0) (λ _. 0) (λ j small. get_or-same 32 j 0) lays

  pub Stands-cleared : Stands new.slots old.slots old.heap.blocks new.heap.blocks name (record s { has_copy = false }) (with_kinds h 0)
  Stands-cleared =
      Stands-laid old.slots new.slots old.heap.blocks new.heap.blocks name (record s { has_copy = false }) (with_kinds h 0) (λ _. 0) kept puts refl found.named
      (Laid-from old.heap.blocks old.heap.blocks new.heap.blocks s.address (with_kinds h 0) (λ _. 0) (λ _. 0) (λ x. refl) (λ x. refl) apart (λ j small. refl) zeros)
      (λ t e. ap (λ (y : Header). y.name) (same_Some t h (sym e ∙ found.there)) ∙ found.named)
      (λ j small. IsField-null old.heap.blocks (kind_of 0 j) 0 (kind_of-none j) refl) (pow_pos (2 * h.size)) (λ none. refl)
      (λ x off e. off (same_Some x s.address (sym e ∙ ap (option_map (λ (t : Slot). t.address)) found.slot)))

  pub ClearsCopy-done : new.heap ≡ record old.heap { blocks = new.heap.blocks } → new.spare ≡ old.spare → ClearsCopy old new name
  ClearsCopy-done heap spare = record {
    entry = Puts-stands old.slots new.slots old.heap.blocks new.heap.blocks name (record s { has_copy = false }) (with_kinds h 0) Stands-cleared (option_map without_copy (entry_of old name))
        (sym (ap (option_map without_copy) (entry_at-found old.slots old.heap.blocks name s h found)));
    cleared = if_object old name s h _ _ found zeros;
    heap = heap;
    spare = spare;
    keeps = Keeps-stands old new name (record s { has_copy = false }) (with_kinds h 0) Stands-cleared;
  }

-- ---- an object is made

module _ (old new : Holding) (mid : Heap) (name bunch size at : ℕ) (kept : IsReplica old.slots old.heap.blocks) (absent : entry_of old name ≡ None) (hands : HandsOut old.heap mid bunch size at) (free : CanSet mid at name size)
    (puts : PutsSlot old.slots new.slots name (Some (record { address = at; has_copy = true })))
    (lays : Lays mid.blocks new.heap.blocks at (record { bunch = bunch; size = size; name = name; state = Live 0 0 }) (λ _. 0)) (apart : AreApart new.heap.blocks) where
  abbrev info : Info
  info = record { name = name; bunch = bunch; size = size; place = record { address = at; moves = 0 } }

  same : ((x : ℕ) → header_at mid.blocks x ≡ header_at old.heap.blocks x) × ((x : ℕ) → word_at mid.blocks x ≡ word_at old.heap.blocks x)
  same = HandsOut-same old.heap mid bunch size at hands

  none : slot_of old.slots name ≡ None
  none = absent_slot old.slots old.heap.blocks name kept absent

  laid : Laid old.heap.blocks new.heap.blocks at (record { bunch = bunch; size = size; name = name; state = Live 0 0 }) (λ _. 0)
  laid = Laid-from old.heap.blocks mid.blocks new.heap.blocks at (blank_header info) (λ _. 0) (λ _. 0) same.0 same.1 apart (λ j small. refl) lays

  before : (t : Header) → header_at old.heap.blocks at ≡ Some t → t.name ≡ name
  before t e = (CanSet-same mid at name size t free (same.0 at ∙ e)).0

  pub Stands-made : Stands new.slots old.slots old.heap.blocks new.heap.blocks name (record { address = at; has_copy = true }) (record { bunch = bunch; size = size; name = name; state = Live 0 0 })
  Stands-made = Stands-added old.slots new.slots old.heap.blocks new.heap.blocks info true kept none puts laid before

  pub MakesObject-done : new.heap ≡ record mid { blocks = new.heap.blocks } → old.spare ≤ new.spare + 1 → MakesObject old new name bunch size
  MakesObject-done heap spare =
      let last : Entry = blank_entry bunch size at in
      let is : Some (entry_in new.heap.blocks (record { address = at; has_copy = true }) (blank_header info)) ≡ Some last =
      ap (λ (l : List Val). let e : Entry = record { bunch = bunch; size = size; place = record { address = at; moves = 0 }; copy = Some l } in Some e) (null_fields old.slots new.slots old.heap.blocks new.heap.blocks info true kept none puts laid before) in
      record {
        at = at;
        mid = mid;
        placed = hands;
        laid = lays;
        heap = heap;
        entry = Puts-stands old.slots new.slots old.heap.blocks new.heap.blocks name (record { address = at; has_copy = true }) (blank_header info) Stands-made (Some last) is;
        spare = spare;
        keeps = Keeps-stands old new name (record { address = at; has_copy = true }) (blank_header info) Stands-made;
      }

-- ---- an object moves

module _ (old new : Holding) (name to : ℕ) (s : Slot) (h : Header) (kept : IsReplica old.slots old.heap.blocks) (found : IsFound old.slots old.heap.blocks name s h) (puts : PutsSlot old.slots new.slots name (Some (record s { address = to })))
    (off : s.address ≢ to) (before : (t : Header) → header_at old.heap.blocks to ≡ Some t → t.name ≡ name) (apart : AreApart new.heap.blocks)
    (moves : Moves old.heap.blocks new.heap.blocks s.address (record { address = to; moves = moves_in h.state + 1 }) h) where
  abbrev place : Place
  place = record { address = to; moves = moves_in h.state + 1 }

  moved : Moved old.heap.blocks new.heap.blocks s.address (record { address = to; moves = moves_in h.state + 1 }) h
  moved = Moved-from old.heap.blocks old.heap.blocks new.heap.blocks s.address place h (λ x. refl) (λ x. refl) apart found.there off moves

  pub Stands-relocated : Stands new.slots old.slots old.heap.blocks new.heap.blocks name (record s { address = to }) (record h { state = Live (moves_in h.state + 1) (kinds_in h.state) })
  Stands-relocated = Stands-re_placed old.slots new.slots old.heap.blocks new.heap.blocks name s h place kept found puts off before moved

  pub MovesObject-done : new.heap ≡ record old.heap { blocks = new.heap.blocks } → new.spare ≡ old.spare → MovesObject old new name to
  MovesObject-done heap spare =
      let had = entry_at-found old.slots old.heap.blocks name s h found in
      let e : Entry = entry_in old.heap.blocks s h in
      let last : Entry = at_place place e in
      let is : Some (entry_in new.heap.blocks (record s { address = to }) (record h { state = Live (moves_in h.state + 1) (kinds_in h.state) })) ≡ Some last =
      entry-re_placed old.slots new.slots old.heap.blocks new.heap.blocks name s h place kept found puts off before moved ∙ ap (option_map (at_place place)) had in
      let all = Puts-stands old.slots new.slots old.heap.blocks new.heap.blocks name (record s { address = to }) (record h { state = Live (moves_in h.state + 1) (kinds_in h.state) }) Stands-relocated (Some last) is in
      record {
        entry = rw had all;
        moved = of_object old name s h _ found moves;
        heap = heap;
        spare = spare;
        keeps = Keeps-stands old new name (record s { address = to }) (record h { state = Live (moves_in h.state + 1) (kinds_in h.state) }) Stands-relocated;
      }

-- ---- a name is forgotten

module _ (old new : Holding) (name : ℕ) (s : Slot) (h : Header) (kept : IsReplica old.slots old.heap.blocks) (found : IsFound old.slots old.heap.blocks name s h) (apart : AreApart old.heap.blocks) (puts : PutsSlot old.slots new.slots name None)
    (sets : Sets old.heap.blocks new.heap.blocks s.address (record h { state = Dead })) where
  pub Forgets-done : new.heap ≡ record old.heap { blocks = new.heap.blocks } → old.spare ≤ new.spare → Forgets old new name
  Forgets-done heap spare = record {
    entry = Puts-forgotten old.slots new.slots old.heap.blocks new.heap.blocks name s h kept found apart puts sets;
    dead = if_object old name s h _ _ found sets;
    heap = heap;
    spare = spare;
    names = forgotten_names old.slots new.slots old.heap.blocks new.heap.blocks name s h kept found apart puts sets;
    meaning = Means-forgotten old.slots new.slots old.heap.blocks new.heap.blocks name s h kept found apart puts sets;
    reach = Reaches-forgotten old.slots new.slots old.heap.blocks new.heap.blocks name s h kept found apart puts sets;
  }

-- ---- where an object lies is learned

module _ (old new : Holding) (mid : Heap) (i : Info) (kept : IsReplica old.slots old.heap.blocks) (rd : Readies old.heap mid i.place.address i.name i.size) (apart : AreApart new.heap.blocks) (rest : new.heap ≡ record mid { blocks = new.heap.blocks }) where
  -- of a new name
  module _ (absent : slot_of old.slots i.name ≡ None) (can : CanSet mid i.place.address i.name i.size) (puts : PutsSlot old.slots new.slots i.name (Some (record { address = i.place.address; has_copy = false })))
      (lays : Lays mid.blocks new.heap.blocks i.place.address (blank_header i) (λ _. 0)) where
    laid_new : Laid old.heap.blocks new.heap.blocks i.place.address (blank_header i) (λ _. 0)
    laid_new = Laid-from old.heap.blocks mid.blocks new.heap.blocks i.place.address (blank_header i) (λ _. 0) (λ _. 0) rd.maps.mapped.headers rd.maps.mapped.words apart (λ j small. refl) lays

    before_new : (t : Header) → header_at old.heap.blocks i.place.address ≡ Some t → t.name ≡ i.name
    before_new t e = (CanSet-same mid i.place.address i.name i.size t can (rd.maps.mapped.headers i.place.address ∙ e)).0

    pub Stands-learned : Stands new.slots old.slots old.heap.blocks new.heap.blocks i.name (record { address = i.place.address; has_copy = false }) (blank_header i)
    Stands-learned = Stands-added old.slots new.slots old.heap.blocks new.heap.blocks i false kept absent puts laid_new before_new

    pub Learns-new : old.spare ≤ new.spare + 1 → Learns old new i
    Learns-new spare =
        let none : entry_of old i.name ≡ None = entry_none old.slots old.heap.blocks i.name absent in
        let A : Option Entry → Type 0 = λ o. Accepts old.heap i o in
        let Q : Option Entry → Type 0 = λ o. TakesPlace old new i o in
        let last : Some (entry_in new.heap.blocks (record { address = i.place.address; has_copy = false }) (blank_header i)) ≡ Some (learned i (entry_of old i.name)) = ap (λ (o : Option Entry). Some (learned i o)) (sym none) in
        record {
          accepted = subst A (sym none) (rd.lies can);
          entry = Puts-stands old.slots new.slots old.heap.blocks new.heap.blocks i.name (record { address = i.place.address; has_copy = false }) (blank_header i) Stands-learned (Some (learned i (entry_of old i.name))) last;
          places = subst Q (sym none) (record { mid = mid; maps = rd.maps; changes = lays; rest = rest });
          spare = spare;
          keeps = Keeps-stands old new i.name (record { address = i.place.address; has_copy = false }) (blank_header i) Stands-learned;
        }

  -- of a name with an entry
  module _ (s : Slot) (h : Header) (found : IsFound old.slots old.heap.blocks i.name s h) (can : CanSet mid i.place.address h.name h.size) (puts : PutsSlot old.slots new.slots i.name (Some (record s { address = i.place.address })))
      (off : s.address ≢ i.place.address) (bunch : h.bunch ≡ i.bunch) (size : h.size ≡ i.size) (newer : moves_in h.state < i.place.moves) (moves : Moves mid.blocks new.heap.blocks s.address i.place h) where
    before_again : (t : Header) → header_at old.heap.blocks i.place.address ≡ Some t → t.name ≡ i.name
    before_again t e = (CanSet-same mid i.place.address h.name h.size t can (rd.maps.mapped.headers i.place.address ∙ e)).0 ∙ found.named

    moved_again : Moved old.heap.blocks new.heap.blocks s.address i.place h
    moved_again = Moved-from old.heap.blocks mid.blocks new.heap.blocks s.address i.place h rd.maps.mapped.headers rd.maps.mapped.words apart found.there off moves

    pub Stands-again : Stands new.slots old.slots old.heap.blocks new.heap.blocks i.name (record s { address = i.place.address }) (record h { state = Live i.place.moves (kinds_in h.state) })
    Stands-again = Stands-re_placed old.slots new.slots old.heap.blocks new.heap.blocks i.name s h i.place kept found puts off before_again moved_again

    pub Learns-again : old.spare ≤ new.spare + 1 → Learns old new i
    Learns-again spare =
        let had = entry_at-found old.slots old.heap.blocks i.name s h found in
        let e : Entry = entry_in old.heap.blocks s h in
        let lie : CanLie old.heap i.place.address i.name i.size = rd.lies (subst (λ (m : ℕ). CanSet mid i.place.address m i.size) found.named (subst (λ (z : ℕ). CanSet mid i.place.address h.name z) size can)) in
        let A : Option Entry → Type 0 = λ o. Accepts old.heap i o in
        let Q : Option Entry → Type 0 = λ o. TakesPlace old new i o in
        let accepted : A (Some e) = (bunch, size, λ lt. (off, lie)) in
        let test : nat_lt (moves_in h.state) i.place.moves ≡ true = lt-ltb (moves_in h.state) i.place.moves newer in
        let grown : learned i (Some e) ≡ at_place i.place e = ap (λ b. if b then at_place i.place e else e) test in
        let last : Some (entry_in new.heap.blocks (record s { address = i.place.address }) (record h { state = Live i.place.moves (kinds_in h.state) })) ≡ Some (learned i (entry_of old i.name)) =
        entry-re_placed old.slots new.slots old.heap.blocks new.heap.blocks i.name s h i.place kept found puts off before_again moved_again
        ∙ ap (option_map (at_place i.place)) had ∙ ap Some (sym grown) ∙ ap (λ (o : Option Entry). Some (learned i o)) (sym had) in
        let moving = of_object old i.name s h (λ a x. MapsThen old.heap new.heap i.place.address (λ before after. Moves before after a i.place x)) found (record { mid = mid; maps = rd.maps; changes = moves; rest = rest }) in
        let M : Bool → Type 0 = λ b. MatchBool b (IsObject old i.name (λ a x. MapsThen old.heap new.heap i.place.address (λ before after. Moves before after a i.place x))) (new ≡ old) in
        let placed : Q (Some e) = subst M (sym test) moving in
        record {
          accepted = subst A (sym had) accepted;
          entry = Puts-stands old.slots new.slots old.heap.blocks new.heap.blocks i.name (record s { address = i.place.address }) (record h { state = Live i.place.moves (kinds_in h.state) }) Stands-again (Some (learned i (entry_of old i.name))) last;
          places = subst Q (sym had) placed;
          spare = spare;
          keeps = Keeps-stands old new i.name (record s { address = i.place.address }) (record h { state = Live i.place.moves (kinds_in h.state) }) Stands-again;
        }

-- what isn't newer changes nothing
pub Learns-old : (r : Holding) (i : Info) (s : Slot) (h : Header) → IsFound r.slots r.heap.blocks i.name s h → h.bunch ≡ i.bunch → h.size ≡ i.size → i.place.moves ≤ moves_in h.state → Learns r r i
Learns-old r i s h found bunch size older =
    let had = entry_at-found r.slots r.heap.blocks i.name s h found in
    let e : Entry = entry_in r.heap.blocks s h in
    let A : Option Entry → Type 0 = λ o. Accepts r.heap i o in
    let Q : Option Entry → Type 0 = λ o. TakesPlace r r i o in
    let accepted : A (Some e) = (bunch, size, λ lt. absurd (omega arith)) in
    let test : nat_lt (moves_in h.state) i.place.moves ≡ false = le-ltb (moves_in h.state) i.place.moves older in
    let same : learned i (Some e) ≡ e = ap (λ b. if b then at_place i.place e else e) test in
    let M : Bool → Type 0 = λ b. MatchBool b (IsObject r i.name (λ a x. MapsThen r.heap r.heap i.place.address (λ before after. Moves before after a i.place x))) (r ≡ r) in
    let placed : Q (Some e) = subst M (sym test) refl in
    let last : entry_of r i.name ≡ Some (learned i (entry_of r i.name)) = had ∙ ap Some (sym same) ∙ ap (λ (o : Option Entry). Some (learned i o)) (sym had) in
    record {
      accepted = subst A (sym had) accepted;
      entry = λ q.
          elim (cases_eq i.name q) [
            | inl at ↦ ap (entry_of r) (sym at) ∙ last ∙ sym (ap (λ b. if b then Some (learned i (entry_of r i.name)) else entry_of r q) (eq-eqb i.name q at))
            | inr off ↦ sym (ap (λ b. if b then Some (learned i (entry_of r i.name)) else entry_of r q) (ne_eqb i.name q off))
          ];
      places = subst Q (sym had) placed;
      spare = omega arith;
      keeps = record { names = λ w m x. x; meaning = λ w m x. x; reach = λ w m x. x };
    }
