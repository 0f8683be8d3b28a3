-- No Info of a block clashes at a node whose headers are of blocks, and once it is learnt they still are. An object that is
-- made lies in a new block: words that were never handed out before.
use Rattle.bmx_store_laws.proofs.Words.{◌≡◌, ℕ, refl, ap, sym, subst, ◌∙◌, Bool, true, false, cond, List, [], ◌∷◌, map, ◌<◌, arith, length, zero, suc, ◌⊎◌, inl, inr, ◌+◌, ◌≤◌, ◌≢◌, ◌^◌, le-ltb, leb-true, nat_tests, option_map_or, Option, Some, None, is_some}
use Rattle.bmx_store_laws.proofs.Words.{◌==◌, ◌&&◌, nat_lt, not, ◌||◌, nat_le, bunches_of, put, maker, address_word, home_of, segment_of, index_of, Info, Place, put_same, some_same, none_some, put_apart, eqb_of, Every, after_changes, Hears, heard_of}
use Rattle.bmx_store_laws.proofs.Words.{after_change, heard, Setting, NodeState, Known, Places, Header, with_object, overlaps, any_below, is_in_the_way, is_barred, with_went, with_learnt, learn_at, with_all_learnt, differs, clashes_at, has_room}
use Rattle.bmx_store_laws.proofs.Words.{with_made, with_segment, with_room, with_placed, some_clash, clashes, World, ViewField, either, at_each_number, put_each, IsCounted}
use Rattle.bmx_places.specs.Ledger.{Block, IsBlock, AreBlocks, block_at, block_of, LiesIn, Heads}

-- ## addresses

pub same_word : (a : ℕ) → address_word (home_of a) (segment_of a) (index_of a) ≡ a
same_word a = omega arith

-- an address has the parts that it is made of
pub parts_again : (h s i : ℕ) → s < 2 ^ 24 → i < 2 ^ 32 →
    (home_of (address_word h s i) ≡ h) × (segment_of (address_word h s i) ≡ s) × (index_of (address_word h s i) ≡ i)
parts_again h s i p q = (omega arith, omega arith, omega arith)

-- ## a node

-- what an Info tells is of a block
abbrev pub IsTold : (ℕ → Option Block) → Info → Type 0
IsTold blocks info = blocks info.place.address ≡ Some (block_of info)

abbrev pub AllHead : (ℕ → Option Block) → (ℕ → Option Header) → Type 0
AllHead blocks header = (address : ℕ) (h : Header) → header address ≡ Some h → Heads blocks address h

-- a copy has as many fields as its object
abbrev pub IsFull : Option (List ViewField) → ℕ → Type 0
IsFull copy size = (fields : List ViewField) → copy ≡ Some fields → length fields ≡ size

-- what is known of x lies in its block, and its copy is whole; what isn't known has no place
pub record KeepsOne (blocks : ℕ → Option Block) (place : Option Place) (x : ℕ) (k : Option Known) : Type 0 where
  pub lies : (j : Known) → k ≡ Some j → LiesIn blocks place x j
  pub unplaced : k ≡ None → place ≡ None
  pub full : (j : Known) → k ≡ Some j → IsFull j.copy j.size

pub one_keeps : (blocks : ℕ → Option Block) (place : Option Place) (x : ℕ) (k : Known) → LiesIn blocks place x k → IsFull k.copy k.size → KeepsOne blocks place x (Some k)
one_keeps blocks place x k lies full = record {
  lies = λ j e. subst (LiesIn blocks place x) (some_same e) lies;
  unplaced = λ e. none_some (sym e);
  full = λ j e. subst (λ (i : Known). IsFull i.copy i.size) (some_same e) full;
}

pub none_keeps : (blocks : ℕ → Option Block) (x : ℕ) → KeepsOne blocks None x None
none_keeps blocks x = record { lies = λ j e. none_some e; unplaced = λ e. refl; full = λ j e. none_some e }

-- segments that are open were made, words were handed out of those alone, within each, and not too many were made
pub record IsHome (segments : ℕ → Option ℕ) (handed : ℕ → ℕ) (made : ℕ) : Type 0 where
  pub opened : (bunch s : ℕ) → segments bunch ≡ Some s → s ≤ made
  pub above : (s : ℕ) → made < s → handed s ≡ 0
  pub within : (s : ℕ) → handed s ≤ 1024
  pub few : made ≤ 6000000

-- each entry of a node is so, each header stands in front of a block, and the node's segments are right
pub record Keeps (blocks : ℕ → Option Block) (entries : ℕ → Option Known) (a : Places) : Type 0 where
  pub known : (x : ℕ) → KeepsOne blocks (a.place x) x (entries x)
  pub headers : AllHead blocks a.header
  pub home : IsHome a.opened a.handed a.made

-- ## nothing clashes

none_below : (n : ℕ) (test : ℕ → Bool) → ((j : ℕ) → j < n → test j ≡ false) → any_below n test ≡ false
none_below zero test h = refl
none_below (suc n) test h = grind (arith, h n, none_below n test (λ j p. h j (omega (arith, p))))

-- what stands at its own word is the same, and what stands at another doesn't reach it
not_in_the_way : (name size i j : ℕ) (h : Header) → (j ≡ i → (h.name ≡ name) × (h.size ≡ size)) → (j ≢ i → overlaps i (4 + size) j (4 + h.size) ≡ false) →
    is_in_the_way name size i j h ≡ false
not_in_the_way name size i j h same other = grind (arith, nat_tests)

not_owned : (home me handed i : ℕ) → (home ≡ me → i ≤ handed) → (home == me && nat_lt handed i) ≡ false
not_owned home me handed i h = grind (arith, nat_tests)

-- a place that isn't another, with more moves, is fine if it isn't barred
not_clashing : (m n a b : ℕ) (barred : Bool) → barred ≡ false → (a ≡ b → m ≡ n) → cond (nat_lt m n) (cond (a == b) true barred) false ≡ false
not_clashing m n a b barred fine same = grind (arith, nat_tests)

module _ (st : Setting) (w : World) (blocks : ℕ → Option Block) (are : AreBlocks st w blocks) (me : ℕ) where
  module _ (info : Info) (told : IsTold blocks info) where
    abbrev at : ℕ
    at = info.place.address

    its : IsBlock st w at (block_of info)
    its = are.each at (block_of info) told

    -- no header is in the way
    no_way : (header : ℕ → Option Header) → AllHead blocks header → (j : ℕ) → j < 1024 →
        option_map_or (is_in_the_way info.name info.size (index_of at) j) (header (address_word (home_of at) (segment_of at) j)) false ≡ false
    no_way header heads j below = by_header (header other) refl
      where
        other : ℕ
        other = address_word (home_of at) (segment_of at) j

        by_header : (h : Option Header) → header (address_word (home_of at) (segment_of at) j) ≡ h → option_map_or (is_in_the_way info.name info.size (index_of at) j) h false ≡ false
        by_header None e = refl
        by_header (Some h) e =
            let of : Heads blocks other h = heads other h e in
            let parts : (home_of other ≡ home_of at) × (segment_of other ≡ segment_of at) × (index_of other ≡ j) = parts_again (home_of at) (segment_of at) j (omega arith) (omega (arith, below)) in
            not_in_the_way info.name info.size (index_of at) j h
            (λ s. (let same : of.block ≡ block_of info = some_same (sym of.there ∙ ap blocks (ap (address_word (home_of at) (segment_of at)) s ∙ same_word at) ∙ told) in
            (sym of.named ∙ ap (λ (b : Block). b.name) same, sym of.sized ∙ ap (λ (b : Block). b.size) same)))
            (λ d. (λ i. overlaps (index_of at) (4 + info.size) (sym parts.2 i) (4 + sym of.sized i))
            ∙ are.apart at other (block_of info) of.block told of.there (sym parts.0) (sym parts.1) (λ e. d (sym parts.2 ∙ ap index_of (sym e))))

    not_barred : (a : Places) → AllHead blocks a.header → ((s : ℕ) → a.handed s ≡ (w.places me).handed s) → is_barred me a info.name info.size at ≡ false
    not_barred a heads handed =
        let inside : nat_lt 1024 (index_of at + (4 + info.size)) ≡ false = le-ltb 1024 (index_of at + (4 + info.size)) its.inside in
        let free : any_below 1024 (λ j. option_map_or (is_in_the_way info.name info.size (index_of at) j) (a.header (address_word (home_of at) (segment_of at) j)) false) ≡ false =
        none_below 1024 (λ j. option_map_or (is_in_the_way info.name info.size (index_of at) j) (a.header (address_word (home_of at) (segment_of at) j)) false) (no_way a.header heads) in
        let own : (home_of at == me && nat_lt (a.handed (segment_of at)) (index_of at + (4 + info.size))) ≡ false =
        not_owned (home_of at) me (a.handed (segment_of at)) (index_of at + (4 + info.size))
        (λ e. omega (arith, handed (segment_of at), subst (λ (h : ℕ). index_of at + (4 + info.size) ≤ (w.places h).handed (segment_of at)) e its.handed)) in
        (λ i. inside i || own i || free i)

    -- what is known of it is told alike
    pub same_shape : (place : Place) (k : Known) → blocks place.address ≡ Some (block_at info.name k place) → (k.bunch ≡ info.bunch) × (k.size ≡ info.size)
    same_shape place k there = are.one_shape place.address at (block_at info.name k place) (block_of info) there told refl

    pub no_clash : (known : ℕ → Option Known) (a : Places) → Keeps blocks known a → ((s : ℕ) → a.handed s ≡ (w.places me).handed s) → clashes me known a info ≡ false
    no_clash known a keeps handed = by_known (known info.name) refl
      where
        barred : is_barred me a info.name info.size at ≡ false
        barred = not_barred a keeps.headers handed

        by_known : (k : Option Known) → known info.name ≡ k → (option_map_or (λ k. differs k info) k false || clashes_at me a info (a.place info.name)) ≡ false
        by_known None e = ap (clashes_at me a info) ((keeps.known info.name).unplaced e) ∙ barred
        by_known (Some k) e =
            let l : LiesIn blocks (a.place info.name) info.name k = (keeps.known info.name).lies k e in
            let shape : (k.bunch ≡ info.bunch) × (k.size ≡ info.size) = same_shape l.place k l.block in
            (λ i. not (eqb_of shape.0 i && eqb_of shape.1 i) || clashes_at me a info (l.lies i)) ∙ not_clashing l.place.moves info.place.moves l.place.address at _ barred
            (λ same. ap (λ (b : Block). b.moves) (some_same (sym l.block ∙ ap blocks same ∙ told)))

-- ## learning

module _ (blocks : ℕ → Option Block) where
  -- an old header leads on
  went_keeps : (known : ℕ → Option Known) (a : Places) (old new : ℕ) → Keeps blocks known a → Keeps blocks known (with_went a old new)
  went_keeps known a old new keeps = record {
    known = keeps.known;
    headers = put_each (λ address o. (h : Header) → o ≡ Some h → Heads blocks address h) a.header old _ (by_old (a.header old) refl) (λ address _. keeps.headers address);
    home = keeps.home;
  }
    where
      by_old : (o : Option Header) → a.header old ≡ o → (h : Header) → (with_went (record a { header = λ z. o }) 0 new).header 0 ≡ Some h → Heads blocks old h
      by_old None is h f = none_some f
      by_old (Some g) is h f = (let of = keeps.headers old g is in subst (Heads blocks old) (some_same f) (record { block = of.block; there = of.there; named = of.named; sized = of.sized }))

  -- an object comes to lie in its block, and is known
  pub object_keeps : (known after : ℕ → Option Known) (a : Places) (name : ℕ) (k : Known) (place : Place) → after name ≡ Some k →
      ((y : ℕ) → (name == y) ≡ false → after y ≡ known y) → IsFull k.copy k.size → blocks place.address ≡ Some (block_at name k place) → Keeps blocks known a →
      Keeps blocks after (with_object a name k.size place)
  object_keeps known after a name k place is others full there keeps = record {
    known = at_each_number (λ x. KeepsOne blocks (put a.place name (Some place) x) x (after x)) name
        (rw (put_same a.place name (Some place), is) (one_keeps blocks (Some place) name k (record { place = place; lies = refl; block = there }) full))
        (λ x f. rw (put_apart a.place name x (Some place) f, others x f) (keeps.known x));
    headers = put_each (λ address o. (h : Header) → o ≡ Some h → Heads blocks address h) a.header place.address _
        (λ h e. subst (Heads blocks place.address) (some_same e) (record { block = block_at name k place; there = there; named = refl; sized = refl })) (λ y _. keeps.headers y);
    home = keeps.home;
  }

-- learning hands nothing out
learnt_handed : (a : Places) (info : Info) (n : ℕ) → (with_learnt a info).handed n ≡ a.handed n
learnt_handed a info n = grind arith

module _ (st : Setting) (w : World) (blocks : ℕ → Option Block) (are : AreBlocks st w blocks) (me from : ℕ) where
  heard_keeps : (known : ℕ → Option Known) (a : Places) (info : Info) → IsTold blocks info → Keeps blocks known a → Keeps blocks (heard from known info) (with_learnt a info)
  heard_keeps known a info told keeps = by_known (known info.name) refl
    where
      by_known : (k : Option Known) → known info.name ≡ k →
          Keeps blocks (cond (is_some k) known (put known info.name (Some (heard_of from info)))) (learn_at a info (a.place info.name))
      by_known None e = subst (λ (p : Option Place). Keeps blocks (put known info.name (Some (heard_of from info))) (learn_at a info p)) (sym ((keeps.known info.name).unplaced e))
          (object_keeps blocks known (put known info.name (Some (heard_of from info))) a info.name (heard_of from info) info.place
          (put_same known info.name (Some (heard_of from info))) (λ y f. put_apart known info.name y (Some (heard_of from info)) f)
          (λ fields c. none_some c) told keeps)
      by_known (Some k) e =
          let l : LiesIn blocks (a.place info.name) info.name k = (keeps.known info.name).lies k e in
          subst (λ (p : Option Place). Keeps blocks known (learn_at a info p)) (sym l.lies)
          (by_test l.place (same_shape st w blocks are me info told l.place k l.block) (nat_lt l.place.moves info.place.moves))
        where
          by_test : (old : Place) → (k.bunch ≡ info.bunch) × (k.size ≡ info.size) → (b : Bool) →
              Keeps blocks known (cond b (with_object (with_went a old.address info.place.address) info.name info.size info.place) a)
          by_test old shape false = keeps
          by_test old shape true = subst (λ (size : ℕ). Keeps blocks known (with_object (with_went a old.address info.place.address) info.name size info.place)) shape.1
              (object_keeps blocks known known (with_went a old.address info.place.address) info.name k info.place e (λ y f. refl)
              ((keeps.known info.name).full k e)
              (told ∙ (λ i. Some (record { name = info.name; bunch = sym shape.0 i; size = sym shape.1 i; moves = info.place.moves })))
              (went_keeps blocks known a old.address info.place.address keeps))

  -- Infos of blocks, one after another: none clashes, and no words are handed out
  pub hears_all : (more : List Info) (s : NodeState) (a : Places) → Every (IsTold blocks) more → Keeps blocks s.known a → ((n : ℕ) → a.handed n ≡ (w.places me).handed n) →
      (some_clash me from s.known a more ≡ false) × Keeps blocks (after_changes s (map (Hears from) more)).known (with_all_learnt a more)
      × ((n : ℕ) → (with_all_learnt a more).handed n ≡ (w.places me).handed n)
  hears_all [] s a told keeps handed = (refl, keeps, handed)
  hears_all (info ∷ more) s a told keeps handed =
      let rest = hears_all more (after_change s (Hears from info)) (with_learnt a info) told.1 (heard_keeps s.known a info told.0 keeps)
      (λ n. learnt_handed a info n ∙ handed n) in
      ((λ i. no_clash st w blocks are me info told.0 s.known a keeps handed i || rest.0 i), rest.1, rest.2)

-- ## ledgers that grow

-- what was a block is one
abbrev pub Grows : (ℕ → Option Block) → (ℕ → Option Block) → Type 0
Grows blocks more = (a : ℕ) (b : Block) → blocks a ≡ Some b → more a ≡ Some b

pub keeps_grown : (blocks more : ℕ → Option Block) → Grows blocks more → (known : ℕ → Option Known) (a : Places) → Keeps blocks known a → Keeps more known a
keeps_grown blocks more grows known a keeps = record {
  known = λ x. record { lies = λ k e. (let l = (keeps.known x).lies k e in record { place = l.place; lies = l.lies; block = grows _ _ l.block }); unplaced = (keeps.known x).unplaced; full = (keeps.known x).full };
  headers = λ address h e. (let of : Heads blocks address h = keeps.headers address h e in record { block = of.block; there = grows _ _ of.there; named = of.named; sized = of.sized });
  home = keeps.home;
}

-- a world in which as much was handed out and made, or more
pub record IsLaterThan (w v : World) : Type 0 where
  pub handed : (n s : ℕ) → (w.places n).handed s ≤ (v.places n).handed s
  pub made : (n : ℕ) → (w.state n).made ≤ (v.state n).made

pub block_later : (st : Setting) (w v : World) → IsLaterThan w v → (a : ℕ) (b : Block) → IsBlock st w a b → IsBlock st v a b
block_later st w v later a b is = record {
  home = is.home;
  handed = omega (arith, is.handed, later.handed (home_of a) (segment_of a));
  inside = is.inside;
  counted = record { by_a_node = is.counted.by_a_node; from_one = is.counted.from_one; made = omega (arith, is.counted.made, later.made (maker b.name)) };
  bunch = is.bunch;
  size = is.size;
}

pub blocks_later : (st : Setting) (w v : World) (blocks : ℕ → Option Block) → IsLaterThan w v → AreBlocks st w blocks → AreBlocks st v blocks
blocks_later st w v blocks later are = record {
  each = λ a b e. block_later st w v later a b (are.each a b e);
  apart = are.apart;
  one_address = are.one_address;
  one_shape = are.one_shape;
}

-- a block behind those of its segment
module _ (st : Setting) (w v : World) (blocks : ℕ → Option Block) (at : ℕ) (new : Block) (later : IsLaterThan w v) (are : AreBlocks st w blocks)
    (is : IsBlock st v at new) (behind : (w.places (home_of at)).handed (segment_of at) ≤ index_of at)
    (unnamed : (a : ℕ) (b : Block) → blocks a ≡ Some b → b.name ≢ new.name) where
  abbrev more : ℕ → Option Block
  more = put blocks at (Some new)

  -- those of its segment end in front of it
  in_front : (a : ℕ) (b : Block) → blocks a ≡ Some b → home_of a ≡ home_of at → segment_of a ≡ segment_of at → index_of a + (4 + b.size) ≤ index_of at
  in_front a b e home segment =
      let within : index_of a + (4 + b.size) ≤ (w.places (home_of a)).handed (segment_of a) = (are.each a b e).handed in
      let same : (w.places (home_of a)).handed (segment_of a) ≡ (w.places (home_of at)).handed (segment_of at) = (λ i. (w.places (home i)).handed (segment i)) in
      omega (arith, within, same, behind)

  pub block_added : Grows blocks more
  block_added = put_each (λ a o. (b : Block) → blocks a ≡ Some b → o ≡ Some b) blocks at (Some new)
      (λ b e. (let front : index_of at + (4 + b.size) ≤ index_of at = in_front at b e refl refl in absurd (omega (arith, front)))) (λ a _ b e. e)

  -- a block is the new one, or an old one: what holds of both, and between both, holds of blocks
  which : (a : ℕ) (b : Block) → more a ≡ Some b → ((at ≡ a) × (new ≡ b)) ⊎ (blocks a ≡ Some b)
  which = put_each (λ a o. (b : Block) → o ≡ Some b → ((at ≡ a) × (new ≡ b)) ⊎ (blocks a ≡ Some b)) blocks at (Some new) (λ b e. inl (refl, some_same e)) (λ a _ b e. inr e)

  pairs : (P : ℕ → Block → ℕ → Block → Type 0) → P at new at new → ((a : ℕ) (b : Block) → blocks a ≡ Some b → P at new a b × P a b at new) →
      ((a c : ℕ) (b d : Block) → blocks a ≡ Some b → blocks c ≡ Some d → P a b c d) → (a c : ℕ) (b d : Block) → more a ≡ Some b → more c ≡ Some d → P a b c d
  pairs P same one both a c b d e f = elim (which a b e) [
    | inl n ↦ rw (← n.0, ← n.1) (elim (which c d f) [ inl o ↦ rw (← o.0, ← o.1) same | inr o ↦ (one c d o).0 ])
    | inr n ↦ elim (which c d f) [ inl o ↦ rw (← o.0, ← o.1) ((one a b n).1) | inr o ↦ both a c b d n o ]
  ]

  overlaps_not : (i words j others : ℕ) → i + words ≤ j → (overlaps i words j others ≡ false) × (overlaps j others i words ≡ false)
  overlaps_not i words j others h = (grind (arith, nat_tests), grind (arith, nat_tests))

  pub blocks_with : AreBlocks st v more
  blocks_with = record {
    each = λ a b e. elim (which a b e) [ inl n ↦ rw (← n.0, ← n.1) is | inr o ↦ block_later st w v later a b (are.each a b o) ];
    apart = pairs (λ a b c d. home_of a ≡ home_of c → segment_of a ≡ segment_of c → a ≢ c → overlaps (index_of a) (4 + b.size) (index_of c) (4 + d.size) ≡ false) (λ home segment differ. absurd (differ refl))
        (λ c d f. (
          λ home segment differ. (overlaps_not (index_of c) (4 + d.size) (index_of at) (4 + new.size) (in_front c d f (sym home) (sym segment))).1,
          λ home segment differ. (overlaps_not (index_of c) (4 + d.size) (index_of at) (4 + new.size) (in_front c d f home segment)).0,
        )) are.apart;
    one_address = pairs (λ a b c d. b.name ≡ d.name → b.moves ≡ d.moves → a ≡ c) (λ name moves. refl)
        (λ c d f. (λ name moves. absurd (unnamed c d f (sym name)), λ name moves. absurd (unnamed c d f name))) are.one_address;
    one_shape = pairs (λ a b c d. b.name ≡ d.name → (b.bunch ≡ d.bunch) × (b.size ≡ d.size)) (λ name. (refl, refl))
        (λ c d f. (λ name. absurd (unnamed c d f (sym name)), λ name. absurd (unnamed c d f name))) are.one_shape;
  }

-- ## a node's own segments

-- places with a segment open for the bunch that has room for so many words
pub record HasRoom (a b : Places) (bunch words : ℕ) : Type 0 where
  pub segment : ℕ
  pub open_for : b.opened bunch ≡ Some segment
  pub home : IsHome b.opened b.handed b.made
  pub fits : b.handed segment + words ≤ 1024
  pub handed : (s : ℕ) → b.handed s ≡ a.handed s
  pub place : b.place ≡ a.place
  pub header : b.header ≡ a.header

module _ (me : ℕ) (a : Places) (home : IsHome a.opened a.handed a.made) (bunch size : ℕ) where
  with_segment_room : size ≤ 32 → a.made < 6000000 → HasRoom a (with_segment me a bunch) bunch (4 + size)
  with_segment_room small few = record {
    segment = a.made + 1;
    open_for = put_same a.opened bunch (Some (a.made + 1));
    home = record {
      opened = put_each (λ c o. (s : ℕ) → o ≡ Some s → s ≤ a.made + 1) a.opened bunch (Some (a.made + 1))
          (λ s e. (let same : a.made + 1 ≡ s = some_same e in omega arith)) (λ c _ s e. omega (arith, home.opened c s e));
      above = λ s h. same s ∙ home.above s (omega (arith, h));
      within = λ s. omega (arith, same s, home.within s);
      few = omega (arith, few);
    };
    fits = (let none : put a.handed (a.made + 1) 0 (a.made + 1) ≡ 0 = put_same a.handed (a.made + 1) 0 in omega (arith, none, small));
    handed = same;
    place = refl;
    header = refl;
  }
    where
      same : (s : ℕ) → put a.handed (a.made + 1) 0 s ≡ a.handed s
      same = put_each (λ s n. n ≡ a.handed s) a.handed (a.made + 1) 0 (sym (home.above (a.made + 1) (omega arith))) (λ s _. refl)

  finds_room : size ≤ 32 → (has_room a (a.opened bunch) (4 + size) ≡ false → a.made < 6000000) → HasRoom a (with_room me a bunch size) bunch (4 + size)
  finds_room small few = by_opened (a.opened bunch) refl few
    where
      by_opened : (o : Option ℕ) → a.opened bunch ≡ o → (has_room a o (4 + size) ≡ false → a.made < 6000000) →
          HasRoom a (cond (has_room a o (4 + size)) a (with_segment me a bunch)) bunch (4 + size)
      by_opened None e few = with_segment_room small (few refl)
      by_opened (Some segment) e few = either (λ (b : Places). HasRoom a b bunch (4 + size)) (nat_le (a.handed segment + (4 + size)) 1024) _ _
          (λ is. record { segment = segment; open_for = e; home = home; fits = leb-true _ _ is; handed = λ s. refl; place = refl; header = refl }) (λ is. with_segment_room small (few is))

-- ## making

-- an object is made: a later world has one block more, a new one, and the node's entries and places belong to its ledger
pub record IsMade (st : Setting) (w v : World) (blocks : ℕ → Option Block) (known : ℕ → Option Known) (a : Places) (x : ℕ) (k : Known) : Type 0 where
  pub more : ℕ → Option Block
  pub later : IsLaterThan w v
  pub grows : Grows blocks more
  pub are : AreBlocks st v more
  pub new_or_old : (c : ℕ) (b : Block) → more c ≡ Some b → ((b.name ≡ x) × (b.moves ≡ 0)) ⊎ (blocks c ≡ Some b)
  pub keeps : Keeps more (put known x (Some k)) a

-- the node is one of the store, its object a new one of the store, and the other nodes stay as they are
module _ (st : Setting) (w v : World) (blocks : ℕ → Option Block) (are : AreBlocks st w blocks) (me : ℕ) (known : ℕ → Option Known) (x : ℕ) (k : Known)
    (keeps : Keeps blocks known (w.places me)) (full : IsFull k.copy k.size) (small : k.size ≤ 32) (bunch : k.bunch < bunches_of st.births) (real : me < st.nodes)
    (counted : IsCounted st v x) (unnamed : (c : ℕ) (b : Block) → blocks c ≡ Some b → b.name ≢ x) (made : (n : ℕ) → (w.state n).made ≤ (v.state n).made)
    (elsewhere : (n : ℕ) → (me == n) ≡ false → (v.places n).handed ≡ (w.places n).handed) where
  -- it is placed where there is room for it
  placed : (b : Places) (r : HasRoom (w.places me) b k.bunch (4 + k.size)) → (v.places me).handed ≡ put b.handed r.segment (b.handed r.segment + (4 + k.size)) →
      IsMade st w v blocks known (with_placed me b x k.size (Some r.segment)) x k
  placed b r here =
      let word : ℕ = address_word me r.segment (b.handed r.segment) in
      let new : Block = block_at x k (record { address = word; moves = 0 }) in
      let last : ℕ = b.handed r.segment + (4 + k.size) in
      let more : ℕ → Option Block = put blocks word (Some new) in
      let parts : (home_of word ≡ me) × (segment_of word ≡ r.segment) × (index_of word ≡ b.handed r.segment) =
      parts_again me r.segment (b.handed r.segment) (omega (arith, r.home.opened k.bunch r.segment r.open_for, r.home.few)) (omega (arith, r.fits)) in
      let later : IsLaterThan w v = record {
        handed = λ n s. at_each_number (λ n. (w.places n).handed s ≤ (v.places n).handed s) me
            (subst (λ (f : ℕ → ℕ). (w.places me).handed s ≤ f s) (sym here)
            (put_each (λ s n. (w.places me).handed s ≤ n) b.handed r.segment last (omega (arith, r.handed r.segment)) (λ s _. omega (arith, r.handed s)) s))
            (λ n apart. omega (arith, ap (λ (f : ℕ → ℕ). f s) (elsewhere n apart))) n;
        made = made;
      } in
      let before : (w.places (home_of word)).handed (segment_of word) ≡ b.handed r.segment = (λ i. (w.places (parts.0 i)).handed (parts.1 i)) ∙ sym (r.handed r.segment) in
      let now : (v.places (home_of word)).handed (segment_of word) ≡ last =
      (λ i. (v.places (parts.0 i)).handed (parts.1 i)) ∙ ap (λ (f : ℕ → ℕ). f r.segment) here ∙ put_same b.handed r.segment _ in
      let is : IsBlock st v word new =
      record { home = omega (arith, parts.0, real); handed = omega (arith, now, parts.2); inside = omega (arith, parts.2, r.fits); counted = counted; bunch = bunch; size = small } in
      let behind : (w.places (home_of word)).handed (segment_of word) ≤ index_of word = omega (arith, before, parts.2) in
      let grows : Grows blocks more = block_added st w v blocks word new later are is behind unnamed in
      let grown : Keeps more known (w.places me) = keeps_grown blocks more grows known (w.places me) keeps in
      record {
        more = more;
        later = later;
        grows = grows;
        are = blocks_with st w v blocks word new later are is behind unnamed;
        new_or_old = put_each (λ c o. (d : Block) → o ≡ Some d → ((d.name ≡ x) × (d.moves ≡ 0)) ⊎ (blocks c ≡ Some d)) blocks word (Some new)
            (λ d e. inl (subst (λ (z : Block). (z.name ≡ x) × (z.moves ≡ 0)) (some_same e) (refl, refl))) (λ c _ d e. inr e);
        keeps = object_keeps more known (put known x (Some k)) (record b { handed = put b.handed r.segment last }) x k
            (record { address = word; moves = 0 }) (put_same known x (Some k)) (λ y f. put_apart known x y (Some k) f) full (put_same blocks word (Some new)) (record {
              known = subst (λ (f : ℕ → Option Place). (y : ℕ) → KeepsOne more (f y) y (known y)) (sym r.place) grown.known;
              headers = subst (AllHead more) (sym r.header) grown.headers;
              home = record {
                opened = r.home.opened;
                above = put_each (λ s n. b.made < s → n ≡ 0) b.handed r.segment last (λ h. absurd (omega (arith, h, r.home.opened k.bunch r.segment r.open_for))) (λ s _. r.home.above s);
                within = put_each (λ s n. n ≤ 1024) b.handed r.segment last r.fits (λ s _. r.home.within s);
                few = r.home.few;
              };
            });
      }

  pub object_made : (has_room (w.places me) ((w.places me).opened k.bunch) (4 + k.size) ≡ false → (w.places me).made < 6000000) →
      (v.places me).handed ≡ (with_made me (w.places me) x k.bunch k.size).handed → IsMade st w v blocks known (with_made me (w.places me) x k.bunch k.size) x k
  object_made room here =
      let r : HasRoom (w.places me) (with_room me (w.places me) k.bunch k.size) k.bunch (4 + k.size) = finds_room me (w.places me) keeps.home k.bunch k.size small room in
      subst (λ (o : Option ℕ). (v.places me).handed ≡ (with_placed me (with_room me (w.places me) k.bunch k.size) x k.size o).handed →
      IsMade st w v blocks known (with_placed me (with_room me (w.places me) k.bunch k.size) x k.size o) x k) (sym r.open_for) (placed _ r) here
