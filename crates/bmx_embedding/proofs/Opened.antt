-- What the store opens with is an opening, and its nodes are opened one after another.
use Rattle.std.proofs.Common.{◌≡◌, ℕ, ◌+◌, ◌<◌, ◌≤◌, zero, suc, arith, refl, sym, ap, subst, ◌∙◌, List, [], ◌∷◌, ◌++◌, length, map, take, get_or, replicate}
use Rattle.std.specs.Prelude.{Some, slice_get, Contains, All}
use Rattle.std.proofs.lemmas.List.{get_or-replicate, map-append, take_more}
use Rattle.std.proofs.lemmas.List.Elements.{All-append}
use Rattle.std.proofs.lemmas.Option.{slice_get-get_or}
use Rattle.bmx_types.specs.Openings.{IsOpening}
use Rattle.bmx_types.specs.declared.openings.Birth.{Birth}
use Rattle.bmx_types.specs.declared.values.Val.TheVariants as val
use Rattle.bmx_protocol.specs.Steps.{first_node}
use Rattle.bmx_node.specs.Stamped.{Stamped}
use Rattle.bmx_node.specs.Seen.{node_of, Suits}
use Rattle.bmx_embedding.specs.Settings.{the_anchor, the_setting}
use Rattle.bmx_embedding.specs.Steps.{AreNodes, seen, first_seen}

-- the anchor alone is born
only : (i : ℕ) (b : Birth) → slice_get (the_anchor ∷ []) i ≡ Some b → (i ≡ 0) × (b ≡ the_anchor)
only zero b there = (refl, cc)
only (suc i) b there = absurd cc

one : (b : Birth) → Contains (the_anchor ∷ []) b → b ≡ the_anchor
one b there = (only there.0 b (slice_get-get_or (the_anchor ∷ []) there.0 b there.1 ∙ ap Some there.2)).1

refers_nowhere : (name : ℕ) → Contains (replicate 32 val.Null) (val.Ref name) → ⊥
refers_nowhere name there = (let same : val.Null ≡ val.Ref name = sym (get_or-replicate 32 there.0 val.Null (val.Ref name) there.1) ∙ there.2 in absurd cc)

pub opens : IsOpening 2 4 (the_anchor ∷ [])
opens = record {
  a_node = omega arith;
  few_nodes = omega arith;
  a_segment = omega arith;
  few_segments = omega arith;
  born = record {
    few = omega arith;
    named = λ i b there. named i b (only i b there);
    some = omega arith;
    bunches = omega arith;
    anchors = omega arith;
    first = λ i b below there. first i b (only i b there);
    wide = λ i b below there. ap (λ (c : Birth). length c.fields) (only i b there).1;
    sizes = λ b there. sizes b (one b there);
    closed = λ b name there refers. absurd (refers_nowhere name (subst (λ (c : Birth). Contains c.fields (val.Ref name)) (one b there) refers));
  };
}
  where
    named : (i : ℕ) (b : Birth) → (i ≡ 0) × (b ≡ the_anchor) → b.name ≡ i + 1
    named i b is = ap (λ (c : Birth). c.name) is.1 ∙ ap (λ (k : ℕ). k + 1) (sym is.0)

    first : (i : ℕ) (b : Birth) → (i ≡ 0) × (b ≡ the_anchor) → b.bunch ≡ i
    first i b is = ap (λ (c : Birth). c.bunch) is.1 ∙ sym is.0

    sizes : (b : Birth) → b ≡ the_anchor → length b.fields ≤ 32
    sizes b is = (let wide : length b.fields ≡ 32 = ap (λ (c : Birth). length c.fields) is in omega (arith, wide))

-- ## the nodes

-- they are the first so many of the store's nodes, as it opens
pub record AreFirst (n : ℕ) (nodes : List Stamped) : Type 0 where
  pub numbers : map (λ (node : Stamped). node.holdings.me) nodes ≡ take n (0 ∷ 1 ∷ [])
  pub suits : All (λ (node : Stamped). Suits the_setting node.holdings) nodes
  pub seen_so : seen nodes ≡ take n first_seen

pub none_first : AreFirst 0 []
none_first = record { numbers = refl; suits = λ k d below. absurd (omega (arith, below)); seen_so = refl }

-- one more of a whole list
more : {A : Type 0} (whole xs : List A) (n : ℕ) (y : A) → n < length whole → xs ≡ take n whole → get_or whole n y ≡ y → xs ++ y ∷ [] ≡ take (n + 1) whole
more {A} whole xs n y below are is =
    ap (λ (l : List A). l ++ y ∷ []) are ∙ ap (λ (x : A). take n whole ++ x ∷ []) (sym is) ∙ sym (take_more whole n y below)

number : (k : ℕ) (d : Stamped) → k < 2 → d.holdings.me ≡ k → get_or (0 ∷ 1 ∷ []) k d.holdings.me ≡ d.holdings.me
number zero d short is = sym is
number (suc zero) d short is = sym is
number (suc (suc k)) d short is = absurd (omega (arith, short))

shown : (k : ℕ) (d : Stamped) → k < 2 → node_of d.holdings ≡ first_node the_setting k → d.stamp ≡ 0 → get_or first_seen k (node_of d.holdings, d.stamp) ≡ (node_of d.holdings, d.stamp)
shown zero d short node stamp = cc
shown (suc zero) d short node stamp = cc
shown (suc (suc k)) d short node stamp = absurd (omega (arith, short))

alone : (d : Stamped) → Suits the_setting d.holdings → All (λ (x : Stamped). Suits the_setting x.holdings) (d ∷ [])
alone d suits zero e short = suits
alone d suits (suc k) e short = absurd (omega (arith, short))

pub first_more : (n : ℕ) (nodes : List Stamped) (d : Stamped) → n < 2 → AreFirst n nodes → d.holdings.me ≡ n → Suits the_setting d.holdings →
    node_of d.holdings ≡ first_node the_setting n → d.stamp ≡ 0 → AreFirst (n + 1) (nodes ++ d ∷ [])
first_more n nodes d below are me suits node stamp = record {
  numbers =
      map-append (λ (x : Stamped). x.holdings.me) nodes (d ∷ [])
      ∙ more (0 ∷ 1 ∷ []) (map (λ (x : Stamped). x.holdings.me) nodes) n d.holdings.me below are.numbers (number n d below me);
  suits = All-append (λ (x : Stamped). Suits the_setting x.holdings) nodes (d ∷ []) are.suits (alone d suits);
  seen_so =
      map-append (λ (x : Stamped). (node_of x.holdings, x.stamp)) nodes (d ∷ [])
      ∙ more first_seen (seen nodes) n (node_of d.holdings, d.stamp) below are.seen_so (shown n d below node stamp);
}

pub all_first : (nodes : List Stamped) → AreFirst 2 nodes → AreNodes nodes
all_first nodes are = record { numbers = are.numbers; suits = are.suits }
