-- Where a header can be set, by what stands at addresses.
use Rattle.std.proofs.Common.{◌≡◌, ◌≢◌, ℕ, ◌+◌, ◌-◌, ◌^◌, ◌<◌, ◌≤◌, Bool, true, false, List, Option, Some, None, IsSome, IsSomeAnd, refl, sym, ap, subst, ◌∙◌, inl, inr, arith}
use Rattle.std.specs.Prelude.{unwrap_or, if◌then◌else◌, is_some}
use Rattle.bmx_segment.proofs.Keeping.{Maps-there}
use Rattle.std.specs.Option.{option_and_then}
use Rattle.std.proofs.lemmas.Bool.{false≢true}
use Rattle.std.proofs.lemmas.Bool.Decides.{nat_tests}
use Rattle.std.proofs.lemmas.Option.{none-some}
use Rattle.bmx_types.specs.Words.{home_of, segment_of, index_of}
use Rattle.bmx_segment.specs.Blocks.{Block, CanStand, header_in, blank_block}
use Rattle.bmx_segment.specs.Stores.{is_between, segment_key, block_at, header_at, key_at}
use Rattle.bmx_segment.specs.Heaps.{Heap, CanSet, handed_of, handed_in, own_at}
use Rattle.bmx_segment.specs.declared.segments.Own.{Own}
use Rattle.bmx_replica.specs.Layouts.{CanLie, MapsFor}
use Rattle.bmx_replica.specs.Inside.Layouts.{Readies}

some_block : (o : Option Block) → IsSome o → (b : Block) × (o ≡ Some b)
some_block None is = absurd (false≢true is)
some_block (Some b) is = (b, refl)

same_base : (x a : ℕ) → key_at x ≡ key_at a → x + index_of a ≡ a + index_of x
same_base x a same = omega arith

start_key : (a : ℕ) → key_at (a - index_of a) ≡ key_at a
start_key a = omega arith

start_index : (a : ℕ) → index_of (a - index_of a) ≡ 0
start_index a = omega arith

later_key : (a k : ℕ) → index_of a + k < 2 ^ 32 → key_at (a + k) ≡ key_at a
later_key a k within = omega arith

later_index : (a k : ℕ) → index_of a + k < 2 ^ 32 → index_of (a + k) ≡ index_of a + k
later_index a k within = omega arith

header_there : (bs : List Block) (x : ℕ) (b : Block) → block_at bs (key_at x) ≡ Some b → header_at bs x ≡ header_in b (index_of x)
header_there bs x b is = ap (option_and_then (λ (b : Block). header_in b (index_of x))) is

module _ (h : Heap) (a name size : ℕ) (b : Block) (is : block_at h.blocks (key_at a) ≡ Some b) where
  stands_in : CanSet h a name size → CanStand b (index_of a) name size
  stands_in can = let P : Option Block → Type 0 = λ o. IsSomeAnd o (λ b. CanStand b (index_of a) name size) in subst P is can.stands

  pub CanLie-set : CanSet h a name size → CanLie h a name size
  CanLie-set can =
      let s = stands_in can in
      record {
        inside = s.inside;
        alone = λ x o key index e off.
            let base = same_base x a key in
            let there : header_in b (index_of x) ≡ Some o = sym (header_there h.blocks x b (ap (block_at h.blocks) key ∙ is)) ∙ e in
            let ne : index_of x ≢ index_of a = λ same. off (omega arith) in
            elim (s.alone (index_of x) o index there ne) [ inl before ↦ inl (omega arith) | inr after ↦ inr (omega arith) ];
        same = λ o e. s.same o (sym (header_there h.blocks a b is) ∙ e);
        handed = can.handed;
      }

  pub CanSet-lie : CanLie h a name size → CanSet h a name size
  CanSet-lie can =
      let c : ℕ = a - index_of a in
      let stands : CanStand b (index_of a) name size = record {
        inside = can.inside;
        alone = λ j o small e off.
            let zero = start_index a in
            let key : key_at (c + j) ≡ key_at a = later_key c j (omega arith) ∙ start_key a in
            let index : index_of (c + j) ≡ j = later_index c j (omega arith) ∙ omega arith in
            let there : header_at h.blocks (c + j) ≡ Some o = header_there h.blocks (c + j) b (ap (block_at h.blocks) key ∙ is) ∙ ap (header_in b) index ∙ e in
            let within : index_of (c + j) < 1024 = omega arith in
            let low : index_of a ≤ a = omega arith in
            let ne : c + j ≢ a = λ same. off (omega arith) in
            elim (can.alone (c + j) o key within there ne) [ inl before ↦ inl (omega arith) | inr after ↦ inr (omega arith) ];
        same = λ o e. can.same o (header_there h.blocks a b is ∙ e);
      } in
      let P : Option Block → Type 0 = λ o. IsSomeAnd o (λ b. CanStand b (index_of a) name size) in
      record { stands = subst P (sym is) stands; handed = can.handed }

-- in a segment that isn't mapped nothing stands
pub CanLie-unmapped : (h : Heap) (a name size : ℕ) → block_at h.blocks (key_at a) ≡ None → index_of a + 4 + size ≤ 1024 → (home_of a ≡ h.me → index_of a + 4 + size ≤ handed_of h (segment_of a)) → CanLie h a name size
CanLie-unmapped h a name size none inside handed =
    let nothing : (x : ℕ) → key_at x ≡ key_at a → header_at h.blocks x ≡ None = λ x key. ap (option_and_then (λ (b : Block). header_in b (index_of x))) (ap (block_at h.blocks) key ∙ none) in
    record {
      inside = inside;
      alone = λ x o key index e off. absurd (none-some o (sym (nothing x key) ∙ e));
      same = λ o e. absurd (none-some o (sym (nothing a refl) ∙ e));
      handed = handed;
    }

-- a segment that is mapped already
MapsFor-there : (h : Heap) (a : ℕ) (b : Block) → block_at h.blocks (key_at a) ≡ Some b → MapsFor h h a
MapsFor-there h a b is = record {
  mapped = Maps-there h.blocks (home_of a) (segment_of a) b is;
  spare = rw is (omega arith);
  rest = refl;
}

-- where the segment is mapped
pub Readies-there : (h : Heap) (a name size : ℕ) → IsSome (block_at h.blocks (key_at a)) → Readies h h a name size
Readies-there h a name size there =
    let b = some_block (block_at h.blocks (key_at a)) there in
    record {
      maps = MapsFor-there h a b.0 b.1;
      lies = CanLie-set h a name size b.0 b.1;
      can = CanSet-lie h a name size b.0 b.1;
      stays = λ no. refl;
    }

CanLie-kept : (old new : Heap) (a name size : ℕ) → ((x : ℕ) → header_at new.blocks x ≡ header_at old.blocks x) → new.me ≡ old.me → new.own ≡ old.own → CanLie old a name size → CanLie new a name size
CanLie-kept old new a name size headers me own can = record {
  inside = can.inside;
  alone = λ x o key index e off. can.alone x o key index (sym (headers x) ∙ e) off;
  same = λ o e. can.same o (sym (headers a) ∙ e);
  handed = λ home.
      let h = can.handed (home ∙ me) in
      let P : List Own → Type 0 = λ os. index_of a + 4 + size ≤ handed_in (own_at os (segment_of a)) in
      subst P (sym own) h;
}

between_one : (key : ℕ) → is_between key key 1 ≡ true
between_one key = grind (arith, nat_tests)

-- and where it is mapped now
pub Readies-mapped : (old new : Heap) (a name size : ℕ) → block_at old.blocks (key_at a) ≡ None → index_of a + 4 + size ≤ 1024 → (home_of a ≡ old.me → index_of a + 4 + size ≤ handed_of old (segment_of a))
    → MapsFor old new a → Readies old new a name size
Readies-mapped old new a name size none inside handed maps =
    let lie : CanLie old a name size = CanLie-unmapped old a name size none inside handed in
    let now : CanLie new a name size = CanLie-kept old new a name size maps.mapped.headers (ap (λ (h : Heap). h.me) maps.rest) (ap (λ (h : Heap). h.own) maps.rest) lie in
    let there = maps.mapped.blocks (key_at a) ∙ ap (λ c. if c then Some (unwrap_or (block_at old.blocks (key_at a)) (blank_block (home_of a) (key_at a - segment_key (home_of a) 0))) else block_at old.blocks (key_at a)) (between_one (key_at a)) in
    let can : CanSet new a name size = CanSet-lie new a name size _ there now in
    record {
      maps = maps;
      lies = λ set. lie;
      can = λ l. can;
      stays = λ no. absurd (no can);
    }

pub spare_from : (b : Bool) (m n : ℕ) → n ≡ m - (if b then 0 else 1) → m ≤ n + 1
spare_from true m n e = omega arith
spare_from false m n e = omega arith

pub none_from : (o : Option Block) → (IsSome o → ⊥) → o ≡ None
none_from None off = refl
none_from (Some b) off = absurd (off refl)

-- mapping takes at most one from the stock
pub spare_after : (old mid : Heap) (a : ℕ) → MapsFor old mid a → old.spare ≤ mid.spare + 1
spare_after old mid a maps = spare_from (is_some (block_at old.blocks (key_at a))) old.spare mid.spare maps.spare
