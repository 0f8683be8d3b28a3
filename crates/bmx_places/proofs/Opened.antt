-- The ledger that a store opens with: the blocks of its births, in the order in which they are placed.
use Rattle.bmx_store_laws.proofs.Words.{◌≡◌, ℕ, refl, ap, sym, subst, ◌∙◌, Bool, true, false, cond, List, [], ◌∷◌, ◌<◌, arith, length, zero, suc, inl, inr, ◌+◌, ◌≤◌, ◌≢◌, length-append, ◌*◌, length-map, length-filter_both, option_map, Option, Some}
use Rattle.bmx_store_laws.proofs.Words.{None, unwrap_or, slice_get, ◌==◌, ◌&&◌, nat_lt, not, filter, IsOpening, bunches_of, put, maker, count_of, Info, Place, Birth, blank, Record, put_same, some_same, none_some, put_apart, eqb_apart, Every, In, Distinct}
use Rattle.bmx_store_laws.proofs.Words.{every_of, in_contains, found, in_bunches, of_bunches, all_bunches, distinct_bunches, learns, learns_in, distinct, ordered, known_first, anchors, anchors_of, known_told, Setting, Known}
use Rattle.bmx_store_laws.proofs.Words.{birth_of, is_anchor, owned_birth, heard_birth, field_of, first_entering, Places, with_made, no_places, with_births, by_bunch, owner_places, told_place, with_told, first_node, nowhere, clashes, world_of}
use Rattle.bmx_store_laws.proofs.Words.{nat_tests, World, some_or_none, IsCounted}
use Rattle.bmx_places.specs.Ledger.{Block, AreBlocks, block_at, LiesIn, block_of}
use Rattle.bmx_places.proofs.Blocks.{Keeps, IsMade, blocks_later, no_clash, object_keeps, object_made, none_keeps}
use Rattle.bmx_places.proofs.Kept.{Kept}
use Rattle.bmx_places.proofs.Outcomes.{AllOf, of_kept}

no_keeps : (blocks : ℕ → Option Block) → Keeps blocks (λ x. None) no_places
no_keeps blocks = record {
  known = none_keeps blocks;
  headers = λ address h e. none_some e;
  home = record { opened = λ b s e. none_some e; above = λ s h. refl; within = λ s. omega arith; few = omega arith };
}

-- a birth stands at the number in front of its name
born_at : (bs : List Birth) (b : Birth) → In b bs → (i : ℕ) × (i < length bs) × (slice_get bs i ≡ Some b)
born_at [] b there = absurd there
born_at (c ∷ bs) b (inl e) = (0, omega arith, ap (λ (z : Birth). Some z) e)
born_at (c ∷ bs) b (inr there) = (let at = born_at bs b there in (suc at.0, omega (arith, at.1), at.2))

-- ## node 0

most_made : (a : Places) (x bunch size : ℕ) → (with_made 0 a x bunch size).made ≤ a.made + 1
most_made a x bunch size = grind arith

module _ (st : Setting) (opening : IsOpening st.nodes st.limit st.births) where
  -- a world where only node 0 has places
  abbrev world_at : Places → World
  world_at a = record { state = λ n. (first_node st n).state; places = λ n. cond (n == 0) a no_places; channel = λ n m. [] }

  elsewhere : (a b : Places) (n : ℕ) → (0 == n) ≡ false → ((world_at a).places n).handed ≡ ((world_at b).places n).handed
  elsewhere a b n e = (let apart : (n == 0) ≡ false = grind (arith, nat_tests) in (λ i. (cond (apart i) a no_places).handed) ∙ sym (λ i. (cond (apart i) b no_places).handed))

  record Placed (known : ℕ → Option Known) (a : Places) (rest : List Birth) : Type 0 where
    blocks : ℕ → Option Block
    are : AreBlocks st (world_at a) blocks
    still : (c : ℕ) (b : Block) → blocks c ≡ Some b → b.moves ≡ 0
    keeps : Keeps blocks known a
    fresh : (c : ℕ) (b : Block) → blocks c ≡ Some b → Every (λ (d : Birth). b.name ≢ d.name) rest

  counted : (b : Birth) → In b st.births → (v : Places) → IsCounted st (world_at v) b.name
  counted b there v =
      let at : (i : ℕ) × (i < length st.births) × (slice_get st.births i ≡ Some b) = born_at st.births b there in
      let named : b.name ≡ at.0 + 1 = opening.born.named at.0 b at.2 in
      let by_first : maker b.name ≡ 0 = omega (arith, named, at.1, opening.born.few) in
      let number : count_of b.name ≤ length st.births = omega (arith, named, at.1, opening.born.few) in
      record {
        by_a_node = omega (arith, by_first, opening.a_node);
        from_one = omega (arith, named, by_first);
        made = subst (λ (z : ℕ). count_of b.name ≤ cond (z == 0) (length st.births) 0) (sym by_first) number;
      }

  -- one birth more
  placed_one : (b : Birth) (bs : List Birth) (known : ℕ → Option Known) (a : Places) → In b st.births → Every (λ (c : Birth). b.name ≢ c.name) bs → a.made < 6000000 → Placed known a (b ∷ bs) →
      Placed (put known b.name (Some (owned_birth b))) (with_made 0 a b.name b.bunch (length b.fields)) bs
  placed_one b bs known a there apart few p = record {
    blocks = m.more;
    are = m.are;
    still = λ c d e. elim (m.new_or_old c d e) [ inl new ↦ new.1 | inr old ↦ p.still c d old ];
    keeps = m.keeps;
    fresh = λ c d e. elim (m.new_or_old c d e) [ inl new ↦ subst (λ (k : ℕ). Every (λ (z : Birth). k ≢ z.name) bs) (sym new.0) apart | inr old ↦ (p.fresh c d old).1 ];
  }
    where
      after : Places
      after = with_made 0 a b.name b.bunch (length b.fields)

      m : IsMade st (world_at a) (world_at after) p.blocks known after b.name (owned_birth b)
      m = object_made st (world_at a) (world_at after) p.blocks p.are 0 known b.name (owned_birth b) p.keeps
          (λ fields c. ap length (sym (some_same c)) ∙ length-map b.fields field_of) (opening.born.sizes b (in_contains st.births b there)) (in_bunches st.births b there) opening.a_node
          (counted b there after) (λ c d e. (p.fresh c d e).0) (λ n. omega arith) (elsewhere after a) (λ h. few) refl

  placed_all : (bs : List Birth) (known : ℕ → Option Known) (a : Places) → Every (λ (b : Birth). In b st.births) bs → Distinct bs → a.made + length bs ≤ 6000000 →
      Placed known a bs → Placed (learns owned_birth known bs) (with_births a bs) []
  placed_all [] known a of apart few p = p
  placed_all (b ∷ bs) known a of apart few p = placed_all bs (put known b.name (Some (owned_birth b))) (with_made 0 a b.name b.bunch (length b.fields)) of.1 apart.1
      (omega (arith, few, most_made a b.name b.bunch (length b.fields))) (placed_one b bs known a of.0 apart.0 (omega (arith, few)) p)

  -- as many as there are births
  few_ordered : length (ordered st opening) ≤ 5120000
  few_ordered = omega (arith, all (bunches_of st.births), opening.born.few, opening.born.bunches)
    where
      all : (n : ℕ) → length (by_bunch st.births n) ≤ n * 320000
      all zero = omega arith
      all (suc n) = omega (arith, all n, length-filter_both (λ (b : Birth). b.bunch == n) (λ b. not (b.bunch == n)) (λ b. refl) st.births, opening.born.few, length-append (by_bunch st.births n) (filter (λ b. b.bunch == n) st.births))

  abbrev owned : Places
  owned = owner_places st

  nobody : Placed (λ x. None) no_places (ordered st opening)
  nobody = record {
    blocks = λ c. None;
    are = record {
      each = λ c b e. none_some e;
      apart = λ c d a b e f home segment differ. none_some e;
      one_address = λ c d a b e f name moves. none_some e;
      one_shape = λ c d a b e f name. none_some e;
    };
    still = λ c b e. none_some e;
    keeps = no_keeps (λ c. None);
    fresh = λ c b e. none_some e;
  }

  placed : Placed (learns owned_birth (λ x. None) (ordered st opening)) owned []
  placed = placed_all (ordered st opening) (λ x. None) no_places (every_of (λ (b : Birth). In b st.births) (ordered st opening) (λ b there. (of_bunches st.births (bunches_of st.births) b there).0))
      (distinct_bunches st.births (distinct st opening) (bunches_of st.births)) (omega (arith, few_ordered)) nobody

  -- ## other nodes

  -- where an object lies at node 0
  lies_there : (b : Birth) → In b st.births → LiesIn placed.blocks (owned.place b.name) b.name (owned_birth b)
  lies_there b there = (placed.keeps.known b.name).lies (owned_birth b)
      (learns_in owned_birth (ordered st opening) (λ x. None) b (distinct_bunches st.births (distinct st opening) (bunches_of st.births)) (all_bunches st.births (bunches_of st.births) b there (in_bunches st.births b there)))

  pub lies_somewhere : (b : Birth) → In b st.births → owned.place b.name ≡ Some (unwrap_or (owned.place b.name) nowhere)
  lies_somewhere b there =
      let l : LiesIn placed.blocks (owned.place b.name) b.name (owned_birth b) = lies_there b there in
      l.lies ∙ ap (λ (p : Option Place). Some (unwrap_or p nowhere)) (sym l.lies)

  -- births told one after another lie in their blocks, and hand nothing out
  told_keeps : (bs : List Birth) (known : ℕ → Option Known) (a : Places) → Every (λ (b : Birth). In b st.births) bs → Keeps placed.blocks known a → ((s : ℕ) → a.handed s ≡ 0) →
      Keeps placed.blocks (learns heard_birth known bs) (with_told owned a bs) × ((s : ℕ) → (with_told owned a bs).handed s ≡ 0)
  told_keeps [] known a of keeps none = (keeps, none)
  told_keeps (b ∷ bs) known a of keeps none =
      let l : LiesIn placed.blocks (owned.place b.name) b.name (owned_birth b) = lies_there b of.0 in
      told_keeps bs (put known b.name (Some (heard_birth b))) (told_place a (owned.place b.name) b) of.1
      (subst (λ (p : Option Place). Keeps placed.blocks (put known b.name (Some (heard_birth b))) (told_place a p b)) (sym l.lies)
      (object_keeps placed.blocks known (put known b.name (Some (heard_birth b))) a b.name (heard_birth b) l.place (put_same known b.name (Some (heard_birth b)))
      (λ y f. put_apart known b.name y (Some (heard_birth b)) f) (λ fields c. none_some c) l.block keeps))
      (λ s. (λ i. (told_place a (l.lies i) b).handed s) ∙ none s)

  -- what an anchor is told as to another node that has heard of others clashes with none of them
  pub told_fits : (me : ℕ) → 0 < me → (bs : List Birth) → Every (λ (b : Birth). In b st.births) bs → (b : Birth) → In b st.births → (info : Info) →
      info.name ≡ b.name → info.bunch ≡ b.bunch → info.size ≡ length b.fields → owned.place b.name ≡ Some info.place →
      clashes me (learns heard_birth (λ x. None) bs) (with_told owned no_places bs) info ≡ false
  told_fits me other bs of b there info named bunched sized placed_at =
      let all = told_keeps bs (λ x. None) no_places of (no_keeps placed.blocks) (λ s. refl) in
      no_clash st (world_at owned) placed.blocks placed.are me info told (learns heard_birth (λ x. None) bs) (with_told owned no_places bs) all.0
      (λ s. all.1 s ∙ sym (λ i. (cond (eqb_apart me 0 (omega (arith, other)) i) owned no_places).handed s))
    where
      l : LiesIn placed.blocks (owned.place b.name) b.name (owned_birth b)
      l = lies_there b there

      same : l.place ≡ info.place
      same = some_same (sym l.lies ∙ placed_at)

      told : placed.blocks info.place.address ≡ Some (block_of info)
      told = ap (λ (p : Place). placed.blocks p.address) (sym same) ∙ l.block
          ∙ (λ i. Some (record { name = sym named i; bunch = sym bunched i; size = sym sized i; moves = (same i).moves }))

  -- ## all nodes

  node_keeps : (t u : Bool) →
      Keeps placed.blocks (λ x. cond t (option_map owned_birth (birth_of st x)) (cond (u && is_anchor st x) (option_map heard_birth (birth_of st x)) None))
      (cond t owned (cond u (with_told owned no_places (anchors st opening)) no_places))
  node_keeps true u = subst (λ (known : ℕ → Option Known). Keeps placed.blocks known owned) (λ i x. sym (known_first st opening owned_birth x) i) placed.keeps
  node_keeps false true = subst (λ (known : ℕ → Option Known). Keeps placed.blocks known (with_told owned no_places (anchors st opening)))
      (λ i x. sym (known_told st opening heard_birth x) i)
      (told_keeps (anchors st opening) (λ x. None) no_places (anchors_of st opening) (no_keeps placed.blocks) (λ s. refl)).0
  node_keeps false false = no_keeps placed.blocks

  first_records : (n : ℕ) → AllOf placed.blocks (first_entering st n)
  first_records n x m r e =
      let born : option_map (λ (b : Birth). blank x b.bunch m) (birth_of st x) ≡ Some r = of_kept (n == 0 && nat_lt 0 m && nat_lt m st.nodes && is_anchor st x) _ r e in
      elim (some_or_none (birth_of st x)) [
        | inl none ↦ none_some (ap (option_map (λ (b : Birth). blank x b.bunch m)) (sym none) ∙ born)
        | inr b ↦ (let g : In b.0 st.births × (b.0.name ≡ x) = found st.births x b.0 b.1 in
            let l : LiesIn placed.blocks (owned.place b.0.name) b.0.name (owned_birth b.0) = lies_there b.0 g.0 in
            let same : blank x b.0.bunch m ≡ r = some_same (ap (option_map (λ (c : Birth). blank x c.bunch m)) (sym b.1) ∙ born) in
            record { address = l.place.address; block = block_at b.0.name (owned_birth b.0) l.place; there = l.block; named = g.1; of = ap (λ (q : Record). q.bunch) same })
      ]

  pub first_kept : Kept st [] (first_node st)
  first_kept = record {
    blocks = placed.blocks;
    are = blocks_later st (world_at owned) (world_of (first_node st) []) placed.blocks (record { handed = λ n s. later (nat_lt n st.nodes) s (n == 0); made = λ n. omega arith }) placed.are;
    still = placed.still;
    each = λ n. record { keeps = node_keeps (n == 0) (nat_lt n st.nodes); records = first_records n };
    letters = tt;
    answers = tt;
    few = λ n. omega arith;
    all = refl;
  }
    where
      later : (u : Bool) (s : ℕ) (t : Bool) → (cond t owned no_places).handed s ≤ (cond t owned (cond u (with_told owned no_places (anchors st opening)) no_places)).handed s
      later u s true = omega arith
      later u s false = omega arith
