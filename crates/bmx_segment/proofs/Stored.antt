-- What a store keeps when a segment is found, changed, added or taken out.
use Rattle.std.proofs.Common.{◌≡◌, ◌≢◌, ℕ, ◌+◌, ◌-◌, ◌^◌, ◌<◌, ◌≤◌, List, [], ◌∷◌, ◌++◌, length, get_or, set, Option, Some, None, IsSome, true, false, arith, refl, sym, ap, ◌∙◌, inl, inr, subst, is_some}
use Rattle.std.specs.Prelude.{IsSomeAnd, IfSome, IfNone, slice_index}
use Rattle.std.specs.Option.{option_and_then}
use Rattle.bmx_types.specs.Words.{home_of, segment_of, index_of}
use Rattle.std.proofs.lemmas.Bool.{cases_eq, cases_lt}
use Rattle.std.proofs.lemmas.List.{length-set, get_or_read, get_or_past, get_or_push, get_or_append_left, length_push}
use Rattle.bmx_types.specs.Updates.{Puts}
use Rattle.bmx_segment.specs.Blocks.{Block, header_in, CanStand, blank_block}
use Rattle.bmx_segment.specs.declared.headers.Header.{Header}
use Rattle.bmx_segment.specs.Stores.{segment_key, key_of, key_at, block_at, header_at, IsAt, CanStandAt}
use Rattle.bmx_segment.specs.Inside.Blocks.{IsBlock}
use Rattle.bmx_segment.specs.Inside.Stores.{AreBlocks, AreDistinct, IsBlank, IsListed, IsStored, rank_of, rank_in}
use Rattle.bmx_segment.proofs.Found.{block_at-at, block_at-none, AreBlocks-set, at-set, Puts-set, Puts-removed, chosen, passed}

-- a fact of the block of a segment
pub of_block : (o : Option Block) (b : Block) (P : Block → Type 0) → o ≡ Some b → IsSomeAnd o P → P b
of_block o b P is holds = let Q : Option Block → Type 0 = λ x. IsSomeAnd x P in subst Q is holds

pub for_block : (o : Option Block) (b : Block) (P : Block → Type 0) → o ≡ Some b → P b → IsSomeAnd o P
for_block o b P is holds = let Q : Option Block → Type 0 = λ x. IsSomeAnd x P in subst Q (sym is) holds

pub no_block : (o : Option Block) (P : Block → Type 0) → o ≡ None → IsSomeAnd o P → ⊥
no_block o P none holds = let Q : Option Block → Type 0 = λ x. IsSomeAnd x P in subst Q none holds

-- ---- ranks and keys

pub same_key : (h n k m : ℕ) → h < 8 → k < 8 → rank_of h n ≡ rank_of k m → segment_key h n ≡ segment_key k m
same_key h n k m few also same =
    let homes : h ≡ k = omega arith in
    let numbers : n ≡ m = omega arith in
    omega arith

pub same_rank : (h n k m : ℕ) → n < 2 ^ 32 → m < 2 ^ 32 → segment_key h n ≡ segment_key k m → rank_of h n ≡ rank_of k m
same_rank h n k m few also same =
    let homes : h ≡ k = omega arith in
    let numbers : n ≡ m = omega arith in
    omega arith

pub in_table : (table : List ℕ) (r i : ℕ) → slice_index table r ≡ i + 1 → r < length table
in_table table r i e =
    elim (cases_lt r (length table)) [
      | inl lt ↦ lt
      | inr past ↦ let none = get_or_past table r 0 past in absurd (omega arith)
    ]

-- ---- segments are found by the table

module _ (xs : List Block) (table : List ℕ) (blocks : AreBlocks xs) (lists : IsListed xs table) where
  pub distinct : AreDistinct xs
  distinct = λ i j d wi wj same.
      let bi = blocks i d wi in
      let bj = blocks j d wj in
      let fi = bi.few_numbers in
      let fj = bj.few_numbers in
      let rank = same_rank (get_or xs i d).home (get_or xs i d).number (get_or xs j d).home (get_or xs j d).number (omega arith) (omega arith) same in
      let e : i + 1 ≡ j + 1 = sym (lists.listed i d wi) ∙ (ap (slice_index table) rank ∙ lists.listed j d wj) in
      omega arith

  pub IsAt-from : (home number i : ℕ) → home < 8 → slice_index table (rank_of home number) ≡ i + 1 → IsAt xs (segment_key home number) i
  IsAt-from home number i few e =
      let d : Block = blank_block 0 0 in
      let within = (lists.placed (rank_of home number) i d e).0 in
      let keyed : (d : Block) → key_of (get_or xs i d) ≡ segment_key home number = λ d.
      same_key (get_or xs i d).home (get_or xs i d).number home number (blocks i d within).a_home few (lists.placed (rank_of home number) i d e).1 in
      record {
        within = within;
        keyed = keyed;
        found = λ d. block_at-at xs i (segment_key home number) d distinct within (keyed d);
      }

  pub absent-from : (home number : ℕ) → number < 2 ^ 32 → slice_index table (rank_of home number) ≡ 0 → block_at xs (segment_key home number) ≡ None
  absent-from home number few e =
      let d : Block = blank_block 0 0 in
      block_at-none xs (segment_key home number) d (λ j within same.
      let b = (blocks j d within).few_numbers in
      let rank = same_rank (get_or xs j d).home (get_or xs j d).number home number (omega arith) few same in
      let there = sym (ap (slice_index table) rank) ∙ lists.listed j d within in
      absurd (omega arith))

-- the block at a place where one is found
pub at_place : (xs : List Block) (key i : ℕ) (s : Block) → IsAt xs key i → s ≡ get_or xs i s → block_at xs key ≡ Some s
at_place xs key i s at is = at.found s ∙ ap Some (sym is)

pub key_there : (xs : List Block) (key i : ℕ) (s : Block) → IsAt xs key i → s ≡ get_or xs i s → key_of s ≡ key
key_there xs key i s at is = ap key_of is ∙ at.keyed s

-- what a look-up tells
pub found_of : (o : Option ℕ) (xs now : List Block) (table : List ℕ) (home number rank : ℕ) → AreBlocks xs → IsListed xs table → xs ≡ now → home < 8 → rank ≡ rank_of home number
    → IfSome o (λ i. slice_index table rank ≡ i + 1) → IfSome o (λ i. IsAt now (segment_key home number) i)
found_of None xs now table home number rank blocks lists same few is tells = tt
found_of (Some i) xs now table home number rank blocks lists same few is tells =
    let P : List Block → Type 0 = λ bs. IsAt bs (segment_key home number) i in
    subst P same (IsAt-from xs table blocks lists home number i few (ap (slice_index table) (sym is) ∙ tells))

pub none_of : (o : Option ℕ) (xs now : List Block) (table : List ℕ) (home number rank : ℕ) → AreBlocks xs → IsListed xs table → xs ≡ now → number < 2 ^ 32 → rank ≡ rank_of home number
    → IfNone o (slice_index table rank ≡ 0) → IfNone o (block_at now (segment_key home number) ≡ None)
none_of (Some i) xs now table home number rank blocks lists same few is tells = tt
none_of None xs now table home number rank blocks lists same few is tells =
    let P : List Block → Type 0 = λ bs. block_at bs (segment_key home number) ≡ None in
    subst P same (absent-from xs table blocks lists home number few (ap (slice_index table) (sym is) ∙ tells))

-- the row of a mapped segment tells where it stands
pub row_at : (xs now : List Block) (table known : List ℕ) (home number address rank : ℕ) → AreBlocks xs → IsListed xs table → xs ≡ now → known ≡ table → home < 8 → number < 2 ^ 32
    → home ≡ home_of address → number ≡ segment_of address → rank ≡ rank_of home number → IsSome (block_at now (key_at address))
    → (rank < length known) × (1 ≤ slice_index known rank) × IsAt now (key_at address) (slice_index known rank - 1)
row_at xs now table known home number address rank blocks lists same is few less h n ranked mapped =
    let row : ℕ = slice_index table rank in
    let key : segment_key home number ≡ key_at address = λ i. segment_key (h i) (n i) in
    let some : 1 ≤ row = elim (cases_lt 0 row) [
      | inl more ↦ omega arith
      | inr past ↦
          let here : row ≡ 0 = omega arith in
          let none : block_at xs (segment_key home number) ≡ None = absent-from xs table blocks lists home number less (ap (slice_index table) (sym ranked) ∙ here) in
          let gone : block_at now (key_at address) ≡ None = ap (block_at now) (sym key) ∙ subst (λ (bs : List Block). block_at bs (segment_key home number) ≡ None) same none in
          let e : false ≡ true = sym (ap is_some gone) ∙ mapped in
          absurd (cc)
    ] in
    let next : row ≡ row - 1 + 1 = omega arith in
    let at : IsAt xs (segment_key home number) (row - 1) = IsAt-from xs table blocks lists home number (row - 1) few (ap (slice_index table) (sym ranked) ∙ next) in
    let now_at : IsAt now (key_at address) (row - 1) = subst (λ (k : ℕ). IsAt now k (row - 1)) key (subst (λ (bs : List Block). IsAt bs (segment_key home number) (row - 1)) same at) in
    subst (λ (t : List ℕ). (rank < length t) × (1 ≤ slice_index t rank) × IsAt now (key_at address) (slice_index t rank - 1)) (sym is) (in_table table rank (row - 1) next, some, now_at)

pub is_there : (o : Option ℕ) (now : List Block) (key : ℕ) → IfSome o (λ i. IsAt now key i) → IfNone o (block_at now key ≡ None) → is_some o ≡ is_some (block_at now key)
is_there None now key some none = sym (ap is_some none)
is_there (Some i) now key some none = sym (ap is_some (some.found (blank_block 0 0)))

-- where a header begins at an address, its segment is mapped
pub header_mapped : (bs : List Block) (address : ℕ) (P : Header → Type 0) → IsSomeAnd (header_at bs address) P → IsSome (block_at bs (key_at address))
header_mapped bs address P holds = mapped (block_at bs (key_at address)) holds
  where
    mapped : (o : Option Block) → IsSomeAnd (option_and_then (λ b. header_in b (index_of address)) o) P → IsSome o
    mapped None holds = absurd holds
    mapped (Some b) holds = refl

-- the segment of an address, where its place was found
module _ (xs now : List Block) (same : xs ≡ now) (home number address place : ℕ) (h : home ≡ home_of address) (n : number ≡ segment_of address) (at : IsAt now (segment_key home number) place) (s : Block) (is : s ≡ get_or xs place s) where
  here_now : IsAt now (key_at address) place
  here_now = let P : ℕ → Type 0 = λ k. IsAt now k place in subst P (λ i. segment_key (h i) (n i)) at

  here_too : IsAt xs (key_at address) place
  here_too = let P : List Block → Type 0 = λ bs. IsAt bs (key_at address) place in subst P (sym same) here_now

  pub within_there : place < length xs
  within_there = here_too.within

  pub block_there : block_at xs (key_at address) ≡ Some s
  block_there = at_place xs (key_at address) place s here_too is

  pub block_now : block_at now (key_at address) ≡ Some s
  block_now = ap (λ bs. block_at bs (key_at address)) (sym same) ∙ block_there

  pub keyed_there : key_of s ≡ key_at address
  keyed_there = key_there xs (key_at address) place s here_too is

-- and where it was not
pub no_block_at : (now : List Block) (home number address : ℕ) → home ≡ home_of address → number ≡ segment_of address → block_at now (segment_key home number) ≡ None → block_at now (key_at address) ≡ None
no_block_at now home number address h n none = ap (block_at now) (sym (λ i. segment_key (h i) (n i))) ∙ none

-- what can be set in the segment of an address can be set at the address
pub stands_at : (o : Option Header) (bs : List Block) (a : ℕ) (s : Block) (i : ℕ) → block_at bs (key_at a) ≡ Some s → i ≡ index_of a → IfSome o (λ h. CanStand s i h.name h.size) → IfSome o (λ h. CanStandAt bs a h.name h.size)
stands_at None bs a s i there index can = tt
stands_at (Some h) bs a s i there index can =
    let P : ℕ → Type 0 = λ j. CanStand s j h.name h.size in
    for_block (block_at bs (key_at a)) s (λ b. CanStand b (index_of a) h.name h.size) there (subst P index can)

-- ---- a block is replaced by one of its segment

module _ (xs pool : List Block) (table : List ℕ) (room ranks place : ℕ) (s t : Block) (stored : IsStored xs pool table room ranks) (within : place < length xs) (is : s ≡ get_or xs place s) (home : t.home ≡ s.home) (number : t.number ≡ s.number) where
  same_there : (d : Block) → rank_in t ≡ rank_in (get_or xs place d)
  same_there d = (λ i. rank_of (home i) (number i)) ∙ ap rank_in (get_or_read xs place s within is d)

  key_here : (d : Block) → key_of t ≡ key_of (get_or xs place d)
  key_here d = (λ i. segment_key (home i) (number i)) ∙ ap key_of (get_or_read xs place s within is d)

  rank_kept : (j : ℕ) (d : Block) → rank_in (get_or (set xs place t) j d) ≡ rank_in (get_or xs j d)
  rank_kept j d =
      elim (at-set xs place j t d within) [
        | inl here ↦ ap rank_in here.1 ∙ (same_there d ∙ ap (λ (n : ℕ). rank_in (get_or xs n d)) (sym here.0))
        | inr there ↦ ap rank_in there
      ]

  pub IsStored-set : IsBlock t → IsStored (set xs place t) pool table room ranks
  IsStored-set block =
      let l = length-set xs place t in
      record {
        blocks = AreBlocks-set xs place t stored.blocks within block;
        lists = record {
          listed = λ i d inside. ap (slice_index table) (rank_kept i d) ∙ stored.lists.listed i d (omega arith);
          placed = λ rank i d e. let p = stored.lists.placed rank i d e in let lt = p.0 in (omega arith, rank_kept i d ∙ p.1);
        };
        blank = stored.blank;
        enough = let e = stored.enough in omega arith;
        whole = stored.whole;
      }

  pub Puts-stored : (key : ℕ) → key_of s ≡ key → Puts (block_at xs) (block_at (set xs place t)) key (Some t)
  Puts-stored key keyed =
      let same : key_of t ≡ key = (λ i. segment_key (home i) (number i)) ∙ keyed in
      let P : ℕ → Type 0 = λ k. Puts (block_at xs) (block_at (set xs place t)) k (Some t) in
      subst P same (Puts-set xs place t s (distinct xs table stored.blocks stored.lists) within (key_here s))

-- ---- a block is added

module _ (xs pool less : List Block) (table next : List ℕ) (room ranks room' ranks' : ℕ) (b : Block) (stored : IsStored xs pool table room ranks) (block : IsBlock b)
    (absent : block_at xs (key_of b) ≡ None) (here : slice_index next (rank_in b) ≡ length xs + 1) (others : (k : ℕ) → k ≢ rank_in b → slice_index next k ≡ slice_index table k) where
  not_there : (i : ℕ) (d : Block) → i < length xs → rank_in (get_or xs i d) ≢ rank_in b
  not_there i d within same =
      let there = block_at-at xs i (key_of b) d (distinct xs table stored.blocks stored.lists) within
      (same_key (get_or xs i d).home (get_or xs i d).number b.home b.number (stored.blocks i d within).a_home block.a_home same) in
      let wrong : Some (get_or xs i d) ≡ None = sym there ∙ absent in
      cc

  last_there : (d : Block) → get_or (xs ++ b ∷ []) (length xs) d ≡ b
  last_there d = get_or_push xs b d (length xs) refl

  earlier : (i : ℕ) (d : Block) → i < length xs → get_or (xs ++ b ∷ []) i d ≡ get_or xs i d
  earlier i d within = get_or_append_left xs (b ∷ []) d i within

  pub IsStored-push : ((i : ℕ) (d : Block) → i < length less → IsBlank (get_or less i d)) → length less + 1 ≡ length pool → room ≤ room' → ranks ≤ ranks'
      → IsStored (xs ++ b ∷ []) less next room' ranks'
  IsStored-push blank fewer more wider =
      let l = length_push xs b in
      record {
        blocks = λ i d within.
            elim (cases_lt i (length xs)) [
              | inl lt ↦ rw (earlier i d lt) (stored.blocks i d lt)
              | inr le ↦ let last : i ≡ length xs = omega arith in rw (last, last_there d) block
            ];
        lists = record {
          listed = λ i d within.
              elim (cases_lt i (length xs)) [
                | inl lt ↦
                    ap (λ (x : Block). slice_index next (rank_in x)) (earlier i d lt)
                    ∙ (others (rank_in (get_or xs i d)) (not_there i d lt) ∙ stored.lists.listed i d lt)
                | inr le ↦
                    let last : i ≡ length xs = omega arith in
                    ap (λ (k : ℕ). slice_index next (rank_in (get_or (xs ++ b ∷ []) k d))) last
                    ∙ (ap (λ (x : Block). slice_index next (rank_in x)) (last_there d) ∙ (here ∙ ap (λ (k : ℕ). k + 1) (sym last)))
              ];
          placed = λ rank i d e.
              elim (cases_eq rank (rank_in b)) [
                | inl at ↦
                    let last : i ≡ length xs = let t = here in let u = ap (slice_index next) at in omega arith in
                    (omega arith, ap (λ (k : ℕ). rank_in (get_or (xs ++ b ∷ []) k d)) last ∙ (ap rank_in (last_there d) ∙ sym at))
                | inr other ↦
                    let p = stored.lists.placed rank i d (sym (others rank other) ∙ e) in
                    let lt = p.0 in
                    (omega arith, ap rank_in (earlier i d lt) ∙ p.1)
              ];
        };
        blank = blank;
        enough = let e = stored.enough in omega arith;
        whole = λ some. let w = stored.whole (omega arith) in omega arith;
      }

-- ---- a block is taken out, and the last takes its place

module _ (xs ys pool : List Block) (table next : List ℕ) (room ranks place moved : ℕ) (stored : IsStored xs pool table room ranks) (within : place < length xs) (fewer : length ys + 1 ≡ length xs)
    (last_is : (d : Block) → rank_in (get_or xs (length xs - 1) d) ≡ moved)
    (here : (d : Block) → place + 1 < length xs → get_or ys place d ≡ get_or xs (length xs - 1) d)
    (stay : (k : ℕ) (d : Block) → k ≢ place → k + 1 < length xs → get_or ys k d ≡ get_or xs k d)
    (gone : (d : Block) → slice_index next (rank_in (get_or xs place d)) ≡ 0)
    (moves : (d : Block) → moved ≢ rank_in (get_or xs place d) → slice_index next moved ≡ place + 1)
    (others : (k : ℕ) (d : Block) → k ≢ moved → k ≢ rank_in (get_or xs place d) → slice_index next k ≡ slice_index table k) where
  ranks_differ : (i j : ℕ) (d : Block) → i < length xs → j < length xs → i ≢ j → rank_in (get_or xs i d) ≢ rank_in (get_or xs j d)
  ranks_differ i j d wi wj ne same =
      let e : i + 1 ≡ j + 1 = sym (stored.lists.listed i d wi) ∙ (ap (slice_index table) same ∙ stored.lists.listed j d wj) in
      ne (omega arith)

  last_moved : (d : Block) → place ≢ length xs - 1 → moved ≢ rank_in (get_or xs place d)
  last_moved d ne same = ranks_differ (length xs - 1) place d (omega arith) within (λ e. ne (sym e)) (last_is d ∙ same)

  listed_now : (k : ℕ) (d : Block) → k < length ys → slice_index next (rank_in (get_or ys k d)) ≡ k + 1
  listed_now k d inside =
      elim (cases_eq k place) [
        | inl same ↦
            let ne : place ≢ length xs - 1 = omega arith in
            let is : get_or ys k d ≡ get_or xs (length xs - 1) d = ap (λ (n : ℕ). get_or ys n d) same ∙ here d (omega arith) in
            ap (λ (x : Block). slice_index next (rank_in x)) is ∙ (ap (slice_index next) (last_is d) ∙ (moves d (last_moved d ne) ∙ ap (λ (n : ℕ). n + 1) (sym same)))
        | inr other ↦
            let is : get_or ys k d ≡ get_or xs k d = stay k d other (omega arith) in
            let off : rank_in (get_or xs k d) ≢ moved = λ e. ranks_differ k (length xs - 1) d (omega arith) (omega arith) (omega arith) (e ∙ sym (last_is d)) in
            ap (λ (x : Block). slice_index next (rank_in x)) is
            ∙ (others (rank_in (get_or xs k d)) d off (ranks_differ k place d (omega arith) within other) ∙ stored.lists.listed k d (omega arith))
      ]

  placed_now : (rank i : ℕ) (d : Block) → slice_index next rank ≡ i + 1 → (i < length ys) × (rank_in (get_or ys i d) ≡ rank)
  placed_now rank i d e =
      elim (cases_eq rank (rank_in (get_or xs place d))) [
        | inl same ↦ let zero_there = ap (slice_index next) same ∙ gone d in absurd (omega arith)
        | inr off ↦ elim (cases_eq rank moved) [
          | inl at ↦
              let off' : moved ≢ rank_in (get_or xs place d) = λ x. off (at ∙ x) in
              let is : i ≡ place = let m = sym (ap (slice_index next) at) ∙ e in let n = moves d off' in omega arith in
              let ne : place ≢ length xs - 1 = λ x. off' (sym (last_is d) ∙ ap (λ (n : ℕ). rank_in (get_or xs n d)) (sym x)) in
              (omega arith, ap (λ (n : ℕ). rank_in (get_or ys n d)) is ∙ (ap rank_in (here d (omega arith)) ∙ (last_is d ∙ sym at)))
          | inr away ↦
              let p = stored.lists.placed rank i d (sym (others rank d away off) ∙ e) in
              let lt = p.0 in
              let not_place : i ≢ place = λ x. off (sym p.1 ∙ ap (λ (n : ℕ). rank_in (get_or xs n d)) x) in
              let not_last : i ≢ length xs - 1 = λ x. away (sym p.1 ∙ (ap (λ (n : ℕ). rank_in (get_or xs n d)) x ∙ last_is d)) in
              (omega arith, ap rank_in (stay i d not_place (omega arith)) ∙ p.1)
        ]
      ]

  lists_now : IsListed ys next
  lists_now = record { listed = listed_now; placed = placed_now }

  blocks_now : AreBlocks ys
  blocks_now = λ k d inside.
      elim (cases_eq k place) [
        | inl same ↦ rw (same, here d (omega arith)) (stored.blocks (length xs - 1) d (omega arith))
        | inr other ↦ rw (stay k d other (omega arith)) (stored.blocks k d (omega arith))
      ]

  pub IsStored-removed : (ranks' : ℕ) → ranks ≤ ranks' → IsStored ys pool next room ranks'
  IsStored-removed ranks' wider = record {
    blocks = blocks_now;
    lists = lists_now;
    blank = stored.blank;
    enough = let e = stored.enough in omega arith;
    whole = λ some. let w = stored.whole some in omega arith;
  }

  pub Puts-taken : (d : Block) (key : ℕ) → key_of (get_or xs place d) ≡ key → Puts (block_at xs) (block_at ys) key None
  Puts-taken d key keyed =
      let P : ℕ → Type 0 = λ k. Puts (block_at xs) (block_at ys) k None in
      subst P keyed (Puts-removed xs ys place d (distinct xs table stored.blocks stored.lists) (distinct ys next blocks_now lists_now) within fewer
      (λ j inside. elim (cases_eq j place) [
        | inl same ↦ (length xs - 1, omega arith, omega arith, ap (λ (n : ℕ). get_or ys n d) same ∙ here d (omega arith))
        | inr other ↦ (j, omega arith, other, stay j d other (omega arith))
      ])
      (λ k inside ne. elim (cases_eq k (length xs - 1)) [
        | inl last ↦ (place, omega arith, here d (omega arith) ∙ ap (λ (n : ℕ). get_or xs n d) (sym last))
        | inr early ↦ (k, omega arith, stay k d ne (omega arith))
      ]))

-- where there is none, none is left
pub Puts-nothing : (bs : List Block) (key : ℕ) → block_at bs key ≡ None → Puts (block_at bs) (block_at bs) key None
Puts-nothing bs key none = λ k.
    elim (cases_eq k key) [
      | inl same ↦ (ap (block_at bs) same ∙ none) ∙ sym (chosen k key None (block_at bs k) same)
      | inr other ↦ sym (passed k key None (block_at bs k) other)
    ]
