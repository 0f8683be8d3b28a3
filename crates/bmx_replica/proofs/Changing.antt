-- What a change of one object's words makes of a replica.
use Rattle.std.proofs.Common.{zero, suc, get_or, replicate, ◌≡◌, ◌≢◌, ◌⊎◌, ℕ, ◌+◌, ◌*◌, ◌^◌, ◌<◌, ◌≤◌, Bool, true, false, cond, List, Option, Some, None, slice_set, refl, sym, ap, subst, ◌∙◌, inl, inr, arith}
use Rattle.std.specs.Prelude.{IsSome, ◌==◌, if◌then◌else◌, IsSomeAnd}
use Rattle.std.specs.Option.{option_map}
use Rattle.std.proofs.lemmas.Bool.{cases_eq, cases_lt, false≢true, eq-eqb, ne_eqb}
use Rattle.std.proofs.lemmas.Option.{same_Some, option_and_then_some}
use Rattle.bmx_types.specs.declared.values.Val.{Val}
use Rattle.bmx_segment.specs.Headers.{kind_of, with_kind, with_kind_at}
use Rattle.bmx_types.specs.Words.{index_of}
use Rattle.bmx_types.specs.declared.addresses.Place.{Place}
use Rattle.bmx_segment.specs.Blocks.{Block, CanStand, header_in}
use Rattle.bmx_segment.specs.Heaps.{Heap, CanSet}
use Rattle.bmx_segment.specs.Stores.{header_at, word_at, block_at, key_at, AreApart, Writes, Sets}
use Rattle.bmx_segment.specs.declared.headers.Header.{Header}
use Rattle.bmx_segment.specs.declared.headers.State.TheVariants.{Live, Forwarded}
use Rattle.bmx_replica.specs.Slots.{slot_of, address_of}
use Rattle.bmx_replica.specs.Inside.Slots.{PutsSlot}
use Rattle.bmx_replica.specs.Chains.{is_live, name_at}
use Rattle.bmx_replica.specs.Layouts.{kinds_in, moves_in, with_kinds}
use Rattle.bmx_replica.specs.Replicas.{field_of, Holding, Entry, entry_in, entry_at, entry_of, at_place, field_at, value_in, values_of, with_value, IsReplica, IsField}
use Rattle.bmx_replica.specs.Inside.Replicas.{IsFound}
use Rattle.bmx_replica.specs.declared.directory.Slot.{Slot}
use Rattle.bmx_replica.proofs.Laid.{Laid, Moved, with_kinds-own, sets_there, sets_other}
use Rattle.bmx_segment.proofs.FieldKinds.{kind_of-with_kind}
use Rattle.bmx_segment.proofs.Fields.{with_kind-lt}
use Rattle.bmx_replica.proofs.Standing.{Stands, names_kept, value_in-same, values_of-same}
use Rattle.bmx_replica.proofs.Chained.{alive, map_some}
use Rattle.bmx_replica.proofs.Fielded.{field_within, values_of-set, entry_of-found, entry_at-found}

-- two headers share no word
pub disjoint : (bs : List Block) (a b : ℕ) (x y : Header) → AreApart bs → header_at bs a ≡ Some x → header_at bs b ≡ Some y → a ≢ b → (a + 4 + x.size ≤ b) ⊎ (b + 4 + y.size ≤ a)
disjoint bs a b x y apart ex ey off =
    elim (cases_lt a b) [
      | inl lt ↦ inl (apart a b x y ex ey lt)
      | inr ge ↦ inr (apart b a y x ey ex (omega arith))
    ]

-- a slot that stays is put again
pub PutsSlot-same : (slots : List (ℕ × Slot)) (n : ℕ) (s : Slot) → slot_of slots n ≡ Some s → PutsSlot slots slots n (Some s)
PutsSlot-same slots n s is = λ q.
    elim (cases_eq n q) [
      | inl same ↦ ap (slot_of slots) (sym same) ∙ is ∙ sym (ap (λ b. if b then Some s else slot_of slots q) (eq-eqb n q same))
      | inr other ↦ sym (ap (λ b. if b then Some s else slot_of slots q) (ne_eqb n q other))
    ]

map_cond : {A B : Type 0} (f : A → B) (b : Bool) (x : A) → option_map f (cond b (Some x) None) ≡ cond b (Some (f x)) None
map_cond f true x = refl
map_cond f false x = refl

pub IsField-null : (blocks : List Block) (kind w : ℕ) → kind ≡ 0 → w ≡ 0 → IsField blocks kind w
IsField-null blocks kind w none blank = record {
  known = omega arith;
  null = λ e. blank;
  address = λ e. absurd (omega arith);
  there = λ e. absurd (omega arith);
}

pub get_or-same : {A : Type 0} (k i : ℕ) (a : A) → get_or (replicate k a) i a ≡ a
get_or-same zero i a = refl
get_or-same (suc k) zero a = refl
get_or-same (suc k) (suc i) a = get_or-same k i a

-- ---- one field is written

module _ (r : Holding) (new : List Block) (n : ℕ) (s : Slot) (h : Header) (i kind w : ℕ) (kept : IsReplica r.slots r.heap.blocks) (found : IsFound r.slots r.heap.blocks n s h) (apart : AreApart r.heap.blocks) (copy : s.has_copy ≡ true) (lt : i < h.size) (field : IsField r.heap.blocks kind w) (one : Writes r.heap.blocks new s.address i kind w) where
  four : kind < 4
  four = let known = field.known in omega arith

  law : (ks j : ℕ) → kind_of (with_kind ks i kind) j ≡ (if j == i then kind else kind_of ks j)
  law ks j = kind_of-with_kind ks i kind four j

  abbrev written : Header
  written = with_kinds h (with_kind (kinds_in h.state) i kind)

  old_kinds : header_at r.heap.blocks s.address ≡ Some (with_kinds h (kinds_in h.state))
  old_kinds = found.there ∙ ap Some (with_kinds-own h found.live)

  written_there : header_at new s.address ≡ Some written
  written_there = one.header ∙ ap (option_map (λ (x : Header). record x { state = with_kind_at x.state i kind })) old_kinds

  kind_here : kind_of (with_kind (kinds_in h.state) i kind) i ≡ kind
  kind_here = law (kinds_in h.state) i ∙ ap (λ b. if b then kind else kind_of (kinds_in h.state) i) (eq-eqb i i refl)

  kind_other : (j : ℕ) → j ≢ i → kind_of (with_kind (kinds_in h.state) i kind) j ≡ kind_of (kinds_in h.state) j
  kind_other j off = law (kinds_in h.state) j ∙ ap (λ b. if b then kind else kind_of (kinds_in h.state) j) (ne_eqb j i off)

  word_other : (j : ℕ) → j ≢ i → word_at new (s.address + 4 + j) ≡ word_at r.heap.blocks (s.address + 4 + j)
  word_other j off = one.words (s.address + 4 + j) (λ e. absurd (omega arith)) (λ e. off (omega arith))

  only_place : (x : ℕ) → address_of r.slots n ≡ Some x → x ≡ s.address
  only_place x e = same_Some x s.address (sym e ∙ ap (option_map (λ (t : Slot). t.address)) found.slot)

  pub Stands-written : Stands r.slots r.slots r.heap.blocks new n s (with_kinds h (with_kind (kinds_in h.state) i kind))
  Stands-written = record {
    was = kept;
    puts = PutsSlot-same r.slots n s found.slot;
    there = written_there;
    live = refl;
    name = found.named;
    before = λ t e. ap (λ (y : Header). y.name) (same_Some t h (sym e ∙ found.there)) ∙ found.named;
    headers = λ x off not. one.headers x off;
    gone = λ x off e. absurd (off (only_place x e));
    words = λ x j t off not e live small.
        elim (disjoint r.heap.blocks x s.address t h apart e found.there off) [
          | inl before ↦ one.words (x + 4 + j) (λ at. absurd (omega arith)) (λ at. absurd (omega arith))
          | inr after ↦ one.words (x + 4 + j) (λ at. absurd (omega arith)) (λ at. absurd (omega arith))
        ];
    own = λ j small.
        elim (cases_eq j i) [
          | inl at ↦
              let P : ℕ → ℕ → Type 0 = λ k v. IsField r.heap.blocks k v in
              let first : IsField r.heap.blocks (kind_of (with_kind (kinds_in h.state) i kind) j) w =
              subst (λ (k : ℕ). IsField r.heap.blocks k w) (sym (ap (kind_of (with_kind (kinds_in h.state) i kind)) at ∙ kind_here)) field in
              subst (λ (v : ℕ). IsField r.heap.blocks (kind_of (with_kind (kinds_in h.state) i kind) j) v) (sym (ap (λ k. word_at new (s.address + 4 + k)) at ∙ one.word)) first
          | inr off ↦
              let first : IsField r.heap.blocks (kind_of (with_kind (kinds_in h.state) i kind) j) (word_at r.heap.blocks (s.address + 4 + j)) =
              subst (λ (k : ℕ). IsField r.heap.blocks k (word_at r.heap.blocks (s.address + 4 + j))) (sym (kind_other j off)) (kept.fields s.address j h found.there found.live small) in
              subst (λ (v : ℕ). IsField r.heap.blocks (kind_of (with_kind (kinds_in h.state) i kind) j) v) (sym (word_other j off)) first
        ];
    small = with_kind-lt (kinds_in h.state) i kind h.size (kept.small s.address h found.there found.live) lt four;
    blank = λ none. absurd (false≢true (sym none ∙ copy));
  }

  written_names : (x m : ℕ) → name_at r.heap.blocks x ≡ Some m → name_at new x ≡ Some m
  written_names = names_kept r.slots r.slots r.heap.blocks new n s written Stands-written

  -- no other field's word changes
  pub others_stay : (q j a : ℕ) → (q ≡ n → j ≡ i → ⊥) → address_of r.slots q ≡ Some a → IsSome (field_of r q j) → word_at new (a + 4 + j) ≡ word_at r.heap.blocks (a + 4 + j)
  others_stay q j a differ place has =
      let live = alive r.heap.blocks a q ((kept.entries q a).0 place) in
      let slot = map_some (λ (t : Slot). t.address) (slot_of r.slots q) a place in
      let there : header_at r.heap.blocks slot.0.address ≡ Some live.0 = ap (header_at r.heap.blocks) slot.2 ∙ live.1 in
      let small = field_within r q slot.0 live.0 slot.1 there j has in
      elim (cases_eq a s.address) [
        | inl at ↦
            let is : live.0 ≡ h = same_Some live.0 h (sym live.1 ∙ ap (header_at r.heap.blocks) at ∙ found.there) in
            let same : q ≡ n = sym live.3 ∙ ap (λ (y : Header). y.name) is ∙ found.named in
            ap (λ b. word_at new (b + 4 + j)) at ∙ word_other j (differ same) ∙ ap (λ b. word_at r.heap.blocks (b + 4 + j)) (sym at)
        | inr off ↦
            elim (disjoint r.heap.blocks a s.address live.0 h apart live.1 found.there off) [
              | inl before ↦ one.words (a + 4 + j) (λ at. absurd (omega arith)) (λ at. absurd (omega arith))
              | inr after ↦ one.words (a + 4 + j) (λ at. absurd (omega arith)) (λ at. absurd (omega arith))
            ]
      ]

  with_values : List Val → Entry
  with_values fields = record { bunch = h.bunch; size = h.size; place = record { address = s.address; moves = moves_in h.state }; copy = if s.has_copy then Some fields else None }

  -- the entry has another value in that field
  pub entry-written : (v : Val) → value_in r.heap.blocks kind w ≡ v → Some (entry_in new s (with_kinds h (with_kind (kinds_in h.state) i kind))) ≡ option_map (with_value i v) (entry_of r n)
  unfolding with_values
  entry-written v holds =
      let f : ℕ → Val = field_at r.heap.blocks s.address h in
      let g : ℕ → Val = field_at new s.address written in
      let here : g i ≡ v = ap (value_in new (kind_of (with_kind (kinds_in h.state) i kind) i)) one.word ∙ ap (λ k. value_in new k w) kind_here ∙ value_in-same r.heap.blocks new kind w field written_names ∙ holds in
      let there : (j : ℕ) → j < h.size → j ≢ i → g j ≡ f j = λ j small off.
      ap (value_in new (kind_of (with_kind (kinds_in h.state) i kind) j)) (word_other j off)
      ∙ ap (λ k. value_in new k (word_at r.heap.blocks (s.address + 4 + j))) (kind_other j off)
      ∙ value_in-same r.heap.blocks new (kind_of (kinds_in h.state) j) (word_at r.heap.blocks (s.address + 4 + j)) (kept.fields s.address j h found.there found.live small) written_names in
      let values : values_of g h.size ≡ slice_set (values_of f h.size) i v = values_of-set f g h.size i v lt here there in
      ap (λ l. Some (with_values l)) values
      ∙ ap (λ (o : Option (List Val)). let e : Entry = record { bunch = h.bunch; size = h.size; place = record { address = s.address; moves = moves_in h.state }; copy = o } in Some e) (sym (map_cond (λ (l : List Val). slice_set l i v) s.has_copy (values_of f h.size)))
      ∙ sym (ap (option_map (with_value i v)) (entry_of-found r n s h found))

-- ---- an object is laid whole

module _ (slots slots' : List (ℕ × Slot)) (old new : List Block) (n : ℕ) (s : Slot) (h : Header) (f : ℕ → ℕ) (kept : IsReplica slots old) (puts : PutsSlot slots slots' n (Some s)) (live : is_live h.state ≡ true) (name : h.name ≡ n) (lays : Laid old new s.address h f)
    (before : (t : Header) → header_at old s.address ≡ Some t → t.name ≡ n)
    (own : (i : ℕ) → i < h.size → IsField old (kind_of (kinds_in h.state) i) (f i))
    (small : kinds_in h.state < 2 ^ (2 * h.size)) (blank : s.has_copy ≡ false → kinds_in h.state ≡ 0) where
  laid_words : (x j : ℕ) (t : Header) → x ≢ s.address → header_at old x ≡ Some t → j < t.size → word_at new (x + 4 + j) ≡ word_at old (x + 4 + j)
  laid_words x j t off e within =
      elim (disjoint new x s.address t h lays.apart (lays.headers x off ∙ e) lays.header off) [
        | inl before ↦ lays.others (x + 4 + j) (inl (omega arith))
        | inr after ↦ lays.others (x + 4 + j) (inr (omega arith))
      ]

  laid_own : (i : ℕ) → i < h.size → IsField old (kind_of (kinds_in h.state) i) (word_at new (s.address + 4 + i))
  laid_own i within = subst (λ (v : ℕ). IsField old (kind_of (kinds_in h.state) i) v) (sym (lays.words i within)) (own i within)

  pub Stands-laid : ((x : ℕ) → x ≢ s.address → address_of slots n ≡ Some x → ⊥) → Stands slots' slots old new n s h
  Stands-laid free = record {
    was = kept;
    puts = puts;
    there = lays.header;
    live = live;
    name = name;
    before = before;
    headers = λ x off not. lays.headers x off;
    gone = λ x off e. absurd (free x off e);
    words = λ x j t off not e alive within. laid_words x j t off e within;
    own = laid_own;
    small = small;
    blank = blank;
  }

  -- the words after the header at another address changed
  pub forwarded_words : (last : List Block) (a : ℕ) (g x : Header) → a ≢ s.address → header_at old a ≡ Some g → Sets new last a x → (b j : ℕ) (t : Header) → b ≢ a → header_at new b ≡ Some t → j < t.size → word_at last (b + 4 + j) ≡ word_at new (b + 4 + j)
  forwarded_words last a g x off there sets b j t away e within =
      elim (disjoint new b a t g lays.apart e (lays.headers a off ∙ there) away) [
        | inl first ↦ sets.words (b + 4 + j) (inl (omega arith))
        | inr later ↦ sets.words (b + 4 + j) (inr (omega arith))
      ]

  -- and the header that its name had is forwarded to it
  pub Stands-moved : (last : List Block) (a : ℕ) (g : Header) → address_of slots n ≡ Some a → a ≢ s.address → header_at old a ≡ Some g → g.name ≡ n → Sets new last a (record g { state = Forwarded s.address })
      → Stands slots' slots old last n s h
  Stands-moved last a g place off there named sets =
      let only : (x : ℕ) → address_of slots n ≡ Some x → x ≡ a = λ x e. same_Some x a (sym e ∙ place) in
      let after : (x : ℕ) → x ≢ a → header_at last x ≡ header_at new x = λ x away. sets_other new last a (record g { state = Forwarded s.address }) x sets away in
      let clear = forwarded_words last a g (record g { state = Forwarded s.address }) off there sets in
      record {
        was = kept;
        puts = puts;
        there = after s.address (λ e. off (sym e)) ∙ lays.header;
        live = live;
        name = name;
        before = before;
        headers = λ x away not. after x (λ e. not (place ∙ ap Some (sym e))) ∙ lays.headers x away;
        gone = λ x away e. (record g { state = Forwarded s.address }, (ap (header_at last) (only x e) ∙ sets_there new last a (record g { state = Forwarded s.address }) sets), refl, named);
        words = λ x j t away not e alive within. clear x j t (λ at. not (place ∙ ap Some (sym at))) (lays.headers x away ∙ e) within ∙ laid_words x j t away e within;
        own = λ i within. subst (λ (v : ℕ). IsField old (kind_of (kinds_in h.state) i) v) (sym (clear s.address i h (λ e. off (sym e)) lays.header within)) (laid_own i within);
        small = small;
        blank = blank;
      }

-- ---- an object moves to another place

-- what can be set at an address has the name and the size of what stands there
pub CanSet-same : (h : Heap) (a name size : ℕ) (t : Header) → CanSet h a name size → header_at h.blocks a ≡ Some t → (t.name ≡ name) × (t.size ≡ size)
CanSet-same h a name size t can e =
    option_and_then_some (λ (b : Block). header_in b (index_of a)) (block_at h.blocks (key_at a)) t e
    (λ b is there. let P : Option Block → Type 0 = λ o. IsSomeAnd o (λ b. CanStand b (index_of a) name size) in
    let can' : CanStand b (index_of a) name size = subst P is can.stands in can'.same t there)

module _ (slots slots' : List (ℕ × Slot)) (old new : List Block) (n : ℕ) (s : Slot) (h : Header) (to : Place) (kept : IsReplica slots old) (found : IsFound slots old n s h) (puts : PutsSlot slots slots' n (Some (record s { address = to.address }))) (off : s.address ≢ to.address)
    (before : (t : Header) → header_at old to.address ≡ Some t → t.name ≡ n) (moves : Moved old new s.address to h) where
  abbrev slot_there : Slot
  slot_there = record s { address = to.address }

  abbrev laid_there : Header
  laid_there = record h { state = Live to.moves (kinds_in h.state) }

  was_place : address_of slots n ≡ Some s.address
  was_place = ap (option_map (λ (t : Slot). t.address)) found.slot

  moved_own : (i : ℕ) → i < h.size → IsField old (kind_of (kinds_in h.state) i) (word_at old (s.address + 4 + i))
  moved_own i small = kept.fields s.address i h found.there found.live small

  moved_small : kinds_in h.state < 2 ^ (2 * h.size)
  moved_small = kept.small s.address h found.there found.live

  moved_blank : s.has_copy ≡ false → kinds_in h.state ≡ 0
  moved_blank none = kept.blank n s h found.slot none found.there

  pub Stands-re_placed : Stands slots' slots old new n (record s { address = to.address }) (record h { state = Live to.moves (kinds_in h.state) })
  Stands-re_placed =
      Stands-moved slots slots' old moves.mid n slot_there laid_there (λ i. word_at old (s.address + 4 + i)) kept puts refl found.named moves.lays before moved_own moved_small moved_blank new s.address h was_place off found.there found.named moves.forwards

  re_placed_names : (x m : ℕ) → name_at old x ≡ Some m → name_at new x ≡ Some m
  re_placed_names = names_kept slots slots' old new n slot_there laid_there Stands-re_placed

  same_value : (i : ℕ) → i < h.size → field_at new to.address laid_there i ≡ field_at old s.address h i
  same_value i small =
      let word : word_at new (to.address + 4 + i) ≡ word_at old (s.address + 4 + i) =
      forwarded_words slots slots' old moves.mid n slot_there laid_there (λ i. word_at old (s.address + 4 + i)) kept puts refl found.named moves.lays before moved_own moved_small moved_blank new s.address h (record h { state = Forwarded to.address }) off found.there moves.forwards to.address i laid_there (λ e. off (sym e)) moves.lays.header small
      ∙ moves.lays.words i small in
      ap (value_in new (kind_of (kinds_in h.state) i)) word
      ∙ value_in-same old new (kind_of (kinds_in h.state) i) (word_at old (s.address + 4 + i)) (moved_own i small) re_placed_names

  with_all : List Val → Entry
  with_all fields = record { bunch = h.bunch; size = h.size; place = to; copy = if s.has_copy then Some fields else None }

  -- the entry is at the new place
  pub entry-re_placed : Some (entry_in new (record s { address = to.address }) (record h { state = Live to.moves (kinds_in h.state) })) ≡ option_map (at_place to) (entry_at slots old n)
  unfolding with_all
  entry-re_placed =
      ap (λ l. Some (with_all l)) (values_of-same (field_at new to.address laid_there) (field_at old s.address h) h.size same_value)
      ∙ sym (ap (option_map (at_place to)) (entry_at-found slots old n s h found))
