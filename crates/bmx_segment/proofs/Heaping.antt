-- What each change of a heap keeps.
use Rattle.std.proofs.Common.{◌≡◌, ℕ, ◌+◌, ◌-◌, ◌^◌, ◌<◌, ◌≤◌, List, [], ◌∷◌, ◌++◌, length, get_or, set, replicate, Option, Some, None, Result, Ok, Err, arith, refl, sym, ap, ◌∙◌, inl, inr, subst}
use Rattle.std.specs.Prelude.{IfSome, IsSome, is_some, IsSomeAnd, unwrap_or, MatchOption, OnOk, OnErr, IsOk}
use Rattle.std.specs.Option.{option_map, option_and_then}
use Rattle.std.proofs.lemmas.Bool.{cases_eq, cases_lt, cases_Bool, false≢true}
use Rattle.std.proofs.lemmas.Option.{none-some, same_Some}
use Rattle.std.proofs.lemmas.List.{length-set, get_or-set_same, get_or-set_other, length-append, length-replicate, get_or_past, get_or_default, length_push}
use Rattle.bmx_types.specs.Words.{home_of, segment_of, index_of, address_word}
use Rattle.bmx_segment.specs.Blocks.{Block, CanStand, header_in, blank_block}
use Rattle.bmx_segment.specs.Stores.{segment_key, key_at, block_at, header_at, IsMapped, is_between, CanStandAt, Maps, Sets, Writes, Drops}
use Rattle.bmx_segment.specs.Inside.Stores.{Mapped, Fills}
use Rattle.bmx_types.specs.Updates.{Puts}
use Rattle.bmx_segment.specs.Heaps.{Heap, IsHeap, IsOpenOne, IsOpen, CanSet, made_of, own_at, handed_in, handed_of, with_handed, raised, Makes, PlacesIn, PlacesInNew}
use Rattle.bmx_segment.specs.Headers.{with_kind_at}
use Rattle.bmx_segment.specs.declared.headers.Header.{Header}
use Rattle.bmx_segment.specs.declared.headers.State.{State}
use Rattle.bmx_segment.specs.declared.segments.Own.{Own}
use Rattle.bmx_segment.proofs.Owning.{own_at-within, own_at-raised_same, own_at-raised_other, length-raised, own_at-append, handed-append, own_at-pushed, raised-pushed}
use Rattle.bmx_segment.proofs.Found.{chosen, passed}
use Rattle.bmx_segment.proofs.Stored.{for_block}

-- ---- what is mapped stays mapped

some_kept : (x y : Option Block) → x ≡ y → IsSome y → IsSome x
some_kept x y e is = ap is_some e ∙ is

mapped-puts : (old new : List Block) (key : ℕ) (b : Block) → Puts (block_at old) (block_at new) key (Some b) → (k : ℕ) → IsSome (block_at old k) → IsSome (block_at new k)
mapped-puts old new key b puts k is =
    elim (cases_eq k key) [
      | inl same ↦ some_kept (block_at new k) (Some b) (puts k ∙ chosen k key (Some b) (block_at old k) same) refl
      | inr other ↦ some_kept (block_at new k) (block_at old k) (puts k ∙ passed k key (Some b) (block_at old k) other) is
    ]

mapped-some : (old new : List Block) (key : ℕ) (o : Option Block) (f : Block → Block) → IsSomeAnd o (λ b. Puts (block_at old) (block_at new) key (Some (f b))) → (k : ℕ) → IsSome (block_at old k) → IsSome (block_at new k)
mapped-some old new key None f none = absurd none
mapped-some old new key (Some b) f puts = mapped-puts old new key (f b) puts

mapped-maps : (old new : List Block) (home first more : ℕ) → Maps old new home first more → (k : ℕ) → IsSome (block_at old k) → IsSome (block_at new k)
mapped-maps old new home first more maps k is =
    let e = maps.blocks k in
    let d : Block = blank_block home (k - segment_key home 0) in
    elim (cases_Bool (is_between k (segment_key home first) more)) [
      | inl covered ↦ some_kept (block_at new k) (Some (unwrap_or (block_at old k) d)) (rw covered at e) refl
      | inr off ↦ some_kept (block_at new k) (block_at old k) (rw off at e) is
    ]

-- ---- changes of the blocks alone

IsHeap-blocks : (h : Heap) (blocks : List Block) (spare : ℕ) → IsHeap h
    → ((k : ℕ) → IsSome (block_at h.blocks k) → IsSome (block_at blocks k))
    → ((a : ℕ) (x : Header) → home_of a ≡ h.me → header_at blocks a ≡ Some x → index_of a + 4 + x.size ≤ handed_of h (segment_of a))
    → IsHeap (record h { blocks = blocks; spare = spare })
IsHeap-blocks h blocks spare heap mapped within = record {
  few = heap.few;
  few_made = heap.few_made;
  bunches = heap.bunches;
  handed = heap.handed;
  current = λ bunch number e.
      let o = heap.current bunch number e in
      record { some = o.some; a_made = o.a_made; of_bunch = o.of_bunch; mapped = mapped (segment_key h.me number) o.mapped };
  within = within;
}

pub IsHeap-mapped : (h : Heap) (blocks : List Block) (spare home first more : ℕ) → IsHeap h → Maps h.blocks blocks home first more → IsHeap (record h { blocks = blocks; spare = spare })
IsHeap-mapped h blocks spare home first more heap maps =
    IsHeap-blocks h blocks spare heap (mapped-maps h.blocks blocks home first more maps) (λ a x at e. heap.within a x at (sym (maps.headers a) ∙ e))

pub IsHeap-set : (h : Heap) (blocks : List Block) (spare : ℕ) (address : ℕ) (x : Header) → IsHeap h → CanSet h address x.name x.size → Sets h.blocks blocks address x → IsHeap (record h { blocks = blocks; spare = spare })
IsHeap-set h blocks spare address x heap can sets =
    IsHeap-blocks h blocks spare heap (mapped-some h.blocks blocks (key_at address) (block_at h.blocks (key_at address)) _ sets.blocks)
    (λ a y at e.
    elim (cases_eq a address) [
      | inl same ↦
          let one : x ≡ y = same_Some x y (sym (chosen a address (Some x) (header_at h.blocks a) same) ∙ (sym (sets.headers a) ∙ e)) in
          let size : x.size ≡ y.size = ap (λ (z : Header). z.size) one in
          let here : home_of address ≡ h.me = ap home_of (sym same) ∙ at in
          let handed = can.handed here in
          let P : ℕ → Type 0 = λ n. index_of n + 4 + y.size ≤ handed_of h (segment_of n) in
          let Q : ℕ → Type 0 = λ n. index_of address + 4 + n ≤ handed_of h (segment_of address) in
          subst P (sym same) (subst Q size handed)
      | inr other ↦ heap.within a y at (sym (passed a address (Some x) (header_at h.blocks a) other) ∙ (sym (sets.headers a) ∙ e))
    ])

-- words behind a header are written
pub IsHeap-filled : (h : Heap) (blocks : List Block) (spare : ℕ) (address n : ℕ) (ws : List ℕ) → IsHeap h → Fills h.blocks blocks address n ws → IsHeap (record h { blocks = blocks; spare = spare })
IsHeap-filled h blocks spare address n ws heap fills =
    IsHeap-blocks h blocks spare heap (λ k there. fills.mapped k ∙ there) (λ a x at e. heap.within a x at (sym (fills.headers a) ∙ e))

-- a header that stands is put into another state
pub IsHeap-stated : (h : Heap) (blocks : List Block) (spare : ℕ) (address : ℕ) (x : Header) (state : State) → IsHeap h → header_at h.blocks address ≡ Some x → Sets h.blocks blocks address (record x { state = state }) → IsHeap (record h { blocks = blocks; spare = spare })
IsHeap-stated h blocks spare address x state heap is sets =
    let y : Header = record x { state = state } in
    IsHeap-blocks h blocks spare heap (mapped-some h.blocks blocks (key_at address) (block_at h.blocks (key_at address)) _ sets.blocks)
    (λ a z at e.
    elim (cases_eq a address) [
      | inl same ↦
          let one : y ≡ z = same_Some y z (sym (chosen a address (Some y) (header_at h.blocks a) same) ∙ (sym (sets.headers a) ∙ e)) in
          let size : x.size ≡ z.size = ap (λ (w : Header). w.size) one in
          let old = heap.within a x at (ap (header_at h.blocks) same ∙ is) in
          let Q : ℕ → Type 0 = λ n. index_of a + 4 + n ≤ handed_of h (segment_of a) in
          subst Q size old
      | inr other ↦ heap.within a z at (sym (passed a address (Some y) (header_at h.blocks a) other) ∙ (sym (sets.headers a) ∙ e))
    ])

size_mapped : (o : Option Header) (f : State → State) (y : Header) → option_map (λ (h : Header). record h { state = f h.state }) o ≡ Some y → (x : Header) × (o ≡ Some x) × (x.size ≡ y.size)
size_mapped None f y e = absurd (none-some y e)
size_mapped (Some x) f y e = (x, refl, ap (λ (h : Header). h.size) (same_Some _ y e))

pub IsHeap-written : (h : Heap) (blocks : List Block) (spare : ℕ) (address field kind w : ℕ) → IsHeap h → Writes h.blocks blocks address field kind w → IsHeap (record h { blocks = blocks; spare = spare })
IsHeap-written h blocks spare address field kind w heap writes =
    IsHeap-blocks h blocks spare heap (mapped-some h.blocks blocks (key_at address) (block_at h.blocks (key_at address)) _ writes.blocks)
    (λ a y at e.
    elim (cases_eq a address) [
      | inl same ↦
          let there : header_at blocks address ≡ Some y = ap (header_at blocks) (sym same) ∙ e in
          let old = size_mapped (header_at h.blocks address) (λ s. with_kind_at s field kind) y (sym writes.header ∙ there) in
          let kept = heap.within a old.0 at (ap (header_at h.blocks) same ∙ old.1) in
          let Q : ℕ → Type 0 = λ n. index_of a + 4 + n ≤ handed_of h (segment_of a) in
          subst Q old.2 kept
      | inr other ↦ heap.within a y at (sym (writes.headers a other) ∙ e)
    ])

contained : (xs : List (Option ℕ)) (i n number : ℕ) → n ≡ number → get_or xs i None ≡ Some n → i < length xs → get_or xs i (Some number) ≡ Some number
contained xs i n number one e within = get_or_default xs i (Some number) None within ∙ (e ∙ ap Some one)

-- the open segment of a bunch is not the one that is dropped
pub IsHeap-dropped : (h : Heap) (blocks : List Block) (spare : ℕ) (home number : ℕ) → IsHeap h → (IsOpen h home number → ⊥) → number < 2 ^ 32 → Drops h.blocks blocks home number → IsHeap (record h { blocks = blocks; spare = spare })
IsHeap-dropped h blocks spare home number heap closed few drops = record {
  few = heap.few;
  few_made = heap.few_made;
  bunches = heap.bunches;
  handed = heap.handed;
  current = λ bunch n e.
      let o = heap.current bunch n e in
      let few_made = heap.few_made in
      let a_made = o.a_made in
      let bunch_within : bunch < 16 =
      elim (cases_lt bunch 16) [
        | inl lt ↦ lt
        | inr past ↦ absurd (none-some n (sym (get_or_past h.current bunch None (rw heap.bunches past)) ∙ e))
      ] in
      let other : segment_key h.me n ≡ segment_key home number → ⊥ =
      λ same.
      let one : n ≡ number = omega arith in
      let at : home ≡ h.me = omega arith in
      let inside : bunch < length h.current = rw heap.bunches bunch_within in
      closed (at, (bunch, inside, contained h.current bunch n number one e inside)) in
      record {
        some = o.some;
        a_made = o.a_made;
        of_bunch = o.of_bunch;
        mapped = some_kept (block_at blocks (segment_key h.me n)) (block_at h.blocks (segment_key h.me n))
            (drops.blocks (segment_key h.me n) ∙ passed (segment_key h.me n) (segment_key home number) None (block_at h.blocks (segment_key h.me n)) other) o.mapped;
      };
  within = λ a x at e.
      elim (cases_eq (key_at a) (segment_key home number)) [
        | inl same ↦ absurd (none-some x (sym (chosen {X = Option Header} (key_at a) (segment_key home number) None (header_at h.blocks a) same) ∙ (sym (drops.headers a) ∙ e)))
        | inr other ↦ heap.within a x at (sym (passed {X = Option Header} (key_at a) (segment_key home number) None (header_at h.blocks a) other) ∙ (sym (drops.headers a) ∙ e))
      ];
}

some_block : (o : Option Block) → IsSome o → (b : Block) × (o ≡ Some b)
some_block None none = absurd (false≢true none)
some_block (Some b) some = (b, refl)

header_at-block : (bs : List Block) (a : ℕ) (b : Block) → block_at bs (key_at a) ≡ Some b → header_at bs a ≡ header_in b (index_of a)
header_at-block bs a b e = ap (option_and_then (λ (b : Block). header_in b (index_of a))) e

-- what stands at an address can be set there again
pub can_set : (o : Option Header) (h : Heap) (a : ℕ) → IsHeap h → o ≡ header_at h.blocks a → IfSome o (λ x. CanStandAt h.blocks a x.name x.size) → IfSome o (λ x. CanSet h a x.name x.size)
can_set None h a heap is stands = tt
can_set (Some x) h a heap is stands = record { stands = stands; handed = λ home. heap.within a x home (sym is) }

-- ---- words are handed out

module _ (h : Heap) (n more : ℕ) (o : Own) (heap : IsHeap h) (is : own_at h.own n ≡ Some o) (room : o.handed + more ≤ 1024) where
  handed_there : handed_in (own_at (with_handed h.own n more) n) ≡ o.handed + more
  handed_there = ap handed_in (own_at-raised_same h.own n more o is)

  handed_elsewhere : (k : ℕ) → (k ≡ n → ⊥) → own_at (with_handed h.own n more) k ≡ own_at h.own k
  handed_elsewhere k other = own_at-raised_other h.own n k more (own_at-within h.own n o is).0 other

  handed_was : handed_in (own_at h.own n) ≡ o.handed
  handed_was = ap handed_in is

  handed_grows : (k : ℕ) → handed_in (own_at h.own k) ≤ handed_in (own_at (with_handed h.own n more) k)
  handed_grows k =
      elim (cases_eq k n) [
        | inl same ↦ rw (same, handed_there, handed_was) (omega arith)
        | inr other ↦ rw (handed_elsewhere k other) (omega arith)
      ]

  bunch_kept : (k : ℕ) (x : Own) → own_at (with_handed h.own n more) k ≡ Some x → (y : Own) × (own_at h.own k ≡ Some y) × (y.bunch ≡ x.bunch)
  bunch_kept k x e =
      elim (cases_eq k n) [
        | inl same ↦
            let there : own_at (with_handed h.own n more) n ≡ Some x = ap (own_at (with_handed h.own n more)) (sym same) ∙ e in
            let one = same_Some _ x (sym (own_at-raised_same h.own n more o is) ∙ there) in
            (o, ap (own_at h.own) same ∙ is, ap (λ (z : Own). z.bunch) one)
        | inr other ↦ (x, sym (handed_elsewhere k other) ∙ e, refl)
      ]

  pub IsHeap-handed : IsHeap (record h { own = with_handed h.own n more })
  IsHeap-handed = record {
    few = heap.few;
    few_made = rw length-raised heap.few_made;
    bunches = heap.bunches;
    handed = λ k.
        elim (cases_eq k n) [
          | inl same ↦ rw (same, handed_there) room
          | inr other ↦ rw (handed_elsewhere k other) (heap.handed k)
        ];
    current = λ bunch number e.
        let old = heap.current bunch number e in
        record {
          some = old.some;
          a_made = rw length-raised old.a_made;
          of_bunch = λ x ex. let y = bunch_kept number x ex in sym y.2 ∙ old.of_bunch y.0 y.1;
          mapped = old.mapped;
        };
    within = λ a x at e.
        let old = heap.within a x at e in
        let grows = handed_grows (segment_of a) in
        omega arith;
  }

  -- what was handed out is free
  pub CanSet-handed : (name size : ℕ) → more ≡ 4 + size → IsMapped h.blocks h.me n → CanSet (record h { own = with_handed h.own n more }) (address_word h.me n o.handed) name size
  CanSet-handed name size four mapped =
      let w = own_at-within h.own n o is in
      let few_made = heap.few_made in
      let n_some = w.0 in
      let n_made = w.1 in
      let a : ℕ = address_word h.me n o.handed in
      let home : home_of a ≡ h.me = omega arith in
      let number : segment_of a ≡ n = omega arith in
      let index : index_of a ≡ o.handed = omega arith in
      let key : key_at a ≡ segment_key h.me n = omega arith in
      let b = some_block (block_at h.blocks (segment_key h.me n)) mapped in
      let there : block_at h.blocks (key_at a) ≡ Some b.0 = ap (block_at h.blocks) key ∙ b.1 in
      let below : (j : ℕ) (x : Header) → j < 1024 → header_in b.0 j ≡ Some x → j + 4 + x.size ≤ o.handed =
      λ j x lt e.
      let c : ℕ = address_word h.me n j in
      let c_home : home_of c ≡ h.me = omega arith in
      let c_number : segment_of c ≡ n = omega arith in
      let c_index : index_of c ≡ j = omega arith in
      let c_key : key_at c ≡ segment_key h.me n = omega arith in
      let header : header_at h.blocks c ≡ Some x =
      header_at-block h.blocks c b.0 (ap (block_at h.blocks) c_key ∙ b.1) ∙ (ap (header_in b.0) c_index ∙ e) in
      let within = heap.within c x c_home header in
      let handed : handed_in (own_at h.own (segment_of c)) ≡ o.handed = ap (λ (k : ℕ). handed_in (own_at h.own k)) c_number ∙ handed_was in
      omega arith in
      let stands : CanStand b.0 (index_of a) name size = record {
        inside = omega arith;
        alone = λ j x lt e ne. let far = below j x lt e in inl (omega arith);
        same = λ x e.
            let e' : header_in b.0 o.handed ≡ Some x = ap (header_in b.0) (sym index) ∙ e in
            let far = below o.handed x (omega arith) e' in absurd (omega arith);
      } in
      record {
        stands = for_block (block_at h.blocks (key_at a)) b.0 (λ x. CanStand x (index_of a) name size) there stands;
        handed = λ at.
            let all : handed_in (own_at (with_handed h.own n more) (segment_of a)) ≡ o.handed + more =
            ap (λ (k : ℕ). handed_in (own_at (with_handed h.own n more) k)) number ∙ handed_there in
            omega arith;
      }

-- ---- segments are made

module _ (h : Heap) (blocks : List Block) (bunch more : ℕ) (heap : IsHeap h) (few : made_of h + more ≤ 65535) (maps : Maps h.blocks blocks h.me (made_of h + 1) more) where
  pub IsHeap-made : IsHeap (record h { own = h.own ++ replicate more (record { bunch = bunch; handed = 0 }); blocks = blocks })
  IsHeap-made =
      let o : Own = record { bunch = bunch; handed = 0 } in
      record {
        few = heap.few;
        few_made = let l = length-append h.own (replicate more o) in let r = length-replicate more o in omega arith;
        bunches = heap.bunches;
        handed = λ k. rw (handed-append h.own more o k refl) (heap.handed k);
        current = λ b number e.
            let old = heap.current b number e in
            let l = length-append h.own (replicate more o) in
            let made = old.a_made in
            record {
              some = old.some;
              a_made = omega arith;
              of_bunch = λ x ex. old.of_bunch x (sym (own_at-append h.own (replicate more o) number old.a_made) ∙ ex);
              mapped = mapped-maps h.blocks blocks h.me (made_of h + 1) more maps (segment_key h.me number) old.mapped;
            };
        within = λ a x at e. rw (handed-append h.own more o (segment_of a) refl) (heap.within a x at (sym (maps.headers a) ∙ e));
      }

-- ---- a segment becomes its bunch's open one

pub IsHeap-opened : (h : Heap) (bunch n : ℕ) → bunch < 16 → IsHeap h → IsOpenOne h bunch n → IsHeap (record h { current = set h.current bunch (Some n) })
IsHeap-opened h bunch n small heap one = record {
  few = heap.few;
  few_made = heap.few_made;
  bunches = length-set h.current bunch (Some n) ∙ heap.bunches;
  handed = heap.handed;
  current = λ b number e.
      elim (cases_eq b bunch) [
        | inl same ↦
            let within : bunch < length h.current = rw heap.bunches small in
            let there : get_or (set h.current bunch (Some n)) bunch None ≡ Some number = ap (λ (k : ℕ). get_or (set h.current bunch (Some n)) k None) (sym same) ∙ e in
            let same_number : n ≡ number = same_Some n number (sym (get_or-set_same h.current bunch (Some n) None within) ∙ there) in
            record {
              some = let s = one.some in omega arith;
              a_made = let s = one.a_made in omega arith;
              of_bunch = λ x ex. one.of_bunch x (ap (own_at h.own) same_number ∙ ex) ∙ sym same;
              mapped = some_kept (block_at h.blocks (segment_key h.me number)) (block_at h.blocks (segment_key h.me n)) (ap (λ (k : ℕ). block_at h.blocks (segment_key h.me k)) (sym same_number)) one.mapped;
            }
        | inr other ↦
            let old = heap.current b number (sym (get_or-set_other h.current bunch b (Some n) None other) ∙ e) in
            record { some = old.some; a_made = old.a_made; of_bunch = old.of_bunch; mapped = old.mapped }
      ];
  within = heap.within;
}

-- ---- other changes

pub IsHeap-spare : (h : Heap) (spare : ℕ) → IsHeap h → IsHeap (record h { spare = spare })
IsHeap-spare h spare heap = IsHeap-blocks h h.blocks spare heap (λ k is. is) heap.within

-- the header at an address is put into another state, where one begins
pub IsHeap-restated : (o : Option Header) (h : Heap) (m : Mapped) (address : ℕ) (state : State) → IsHeap h → header_at h.blocks address ≡ o → MatchOption o (m ≡ record { blocks = h.blocks; spare = h.spare }) (λ x. Sets h.blocks m.blocks address (record x { state = state })) → IsHeap (record h { blocks = m.blocks; spare = m.spare })
IsHeap-restated None h m address state heap is same = rw same heap
IsHeap-restated (Some x) h m address state heap is sets = IsHeap-stated h m.blocks m.spare address x state heap is sets

-- what holds of a result either way
pub either : {A E : Type 0} (r : Result A E) (P Q R : Type 0) → OnOk r P → OnErr r Q → (IsOk r → P → R) → (Q → R) → R
either (Ok x) P Q R p q ok err = ok refl p
either (Err e) P Q R p q ok err = err q

-- ---- a place in a new segment

module _ (a b d e : Heap) (bunch number size at : ℕ) (makes : Makes a b bunch 1) (last : number ≡ made_of b) (opened : d ≡ record b { current = set b.current bunch (Some number) }) (placed : PlacesIn d e number size at) where
  pub PlacesInNew-from : PlacesInNew a e bunch size at
  PlacesInNew-from =
      let z : Own = record { bunch = bunch; handed = 0 } in
      let own : List Own = a.own ++ z ∷ [] in
      let n : ℕ = length a.own + 1 in
      let more : ℕ = 4 + size in
      let B : Heap = record a { own = own; blocks = b.blocks } in
      let D : Heap = record a { own = own; blocks = b.blocks; current = set a.current bunch (Some n) } in
      let E : Heap = record a { own = with_handed own n more; blocks = b.blocks; current = set a.current bunch (Some n) } in
      let b_is : b ≡ B = makes.rest ∙ ap (λ (os : List Own). let x : Heap = record a { own = os; blocks = b.blocks } in x) makes.own in
      let n_is : number ≡ n = last ∙ (ap made_of b_is ∙ length_push a.own z) in
      let d_is : d ≡ D =
      opened
      ∙ (ap (λ (x : Heap). let y : Heap = record x { current = set x.current bunch (Some number) } in y) b_is
      ∙ ap (λ (k : ℕ). let y : Heap = record a { own = own; blocks = b.blocks; current = set a.current bunch (Some k) } in y) n_is) in
      let e_is : e ≡ E =
      placed.handed
      ∙ (ap (λ (x : Heap). let y : Heap = record x { own = with_handed x.own number more } in y) d_is
      ∙ ap (λ (k : ℕ). let y : Heap = record a { own = with_handed own k more; blocks = b.blocks; current = set a.current bunch (Some n) } in y) n_is) in
      let back : n - 1 ≡ length a.own = omega arith in
      let none : 0 + more ≡ more = omega arith in
      let own_is : with_handed own n more ≡ a.own ++ record { bunch = bunch; handed = more } ∷ [] =
      ap (λ (k : ℕ). raised own k more) back
      ∙ (raised-pushed a.own z more ∙ ap (λ (k : ℕ). a.own ++ record { bunch = bunch; handed = k } ∷ []) none) in
      let P : Heap → Type 0 = λ x. x ≡ record a { own = x.own; current = x.current; blocks = x.blocks } in
      let M : List Block → Type 0 = λ bs. Maps a.blocks bs a.me (made_of a + 1) 1 in
      record {
        address =
            placed.address
            ∙ (ap (λ (x : Heap). address_word x.me number (handed_of x number)) d_is
            ∙ (ap (λ (k : ℕ). address_word a.me k (handed_in (own_at own k))) n_is
            ∙ ap (λ (o : Option Own). address_word a.me n (handed_in o)) (own_at-pushed a.own z n refl)));
        own = ap (λ (x : Heap). x.own) e_is ∙ own_is;
        current = ap (λ (x : Heap). x.current) e_is;
        mapped = subst M (sym (ap (λ (x : Heap). x.blocks) e_is)) makes.mapped;
        rest = subst P (sym e_is) refl;
      }
