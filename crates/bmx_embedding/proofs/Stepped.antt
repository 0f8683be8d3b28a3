-- What a step of one node makes of the nodes.
use Rattle.std.proofs.Common.{◌≡◌, ℕ, ◌<◌, zero, suc, arith, sym, ap, subst, ◌∙◌, List, [], ◌∷◌, length, map, get_or, Some}
use Rattle.std.specs.Prelude.{slice_set}
use Rattle.std.proofs.Math.Seq.{map-set_same}
use Rattle.std.proofs.lemmas.List.Elements.{All-set, All-get_or}
use Rattle.std.proofs.lemmas.Option.{slice_get-get_or}
use Rattle.bmx_protocol.specs.declared.inputs.Input.{Input}
use Rattle.bmx_protocol.specs.declared.inputs.Done.{Done}
use Rattle.bmx_protocol.specs.Steps.{Node, IsStep, stamp_after}
use Rattle.bmx_node.specs.Stamped.{Stamped}
use Rattle.bmx_node.specs.Seen.{node_of, Suits, FitsInput}
use Rattle.bmx_embedding.specs.Settings.{the_setting}
use Rattle.bmx_embedding.specs.Steps.{AreNodes, Steps, seen}

number_at : (nodes : List Stamped) (n : ℕ) (d : Stamped) → map (λ (node : Stamped). node.holdings.me) nodes ≡ 0 ∷ 1 ∷ [] → n < length nodes →
    (get_or nodes n d).holdings.me ≡ n
number_at [] n d e h = absurd (omega (arith, h))
number_at (x ∷ []) n d e h = absurd cc
number_at (x ∷ y ∷ []) zero d e h = cc
number_at (x ∷ y ∷ []) (suc zero) d e h = cc
number_at (x ∷ y ∷ []) (suc (suc n)) d e h = absurd (omega (arith, h))
number_at (x ∷ y ∷ z ∷ zs) n d e h = absurd cc

-- what was read at a place is the node of that number, and suits the store
pub suits_at : (nodes : List Stamped) (n : ℕ) (d : Stamped) → AreNodes nodes → n < length nodes → d ≡ get_or nodes n d → Suits the_setting d.holdings
suits_at nodes n d are short read =
    subst (λ (node : Stamped). Suits the_setting node.holdings) (sym read) (All-get_or (λ (node : Stamped). Suits the_setting node.holdings) nodes n d short are.suits)

pub number_is : (nodes : List Stamped) (n : ℕ) (d : Stamped) → AreNodes nodes → n < length nodes → d ≡ get_or nodes n d → d.holdings.me ≡ n
number_is nodes n d are short read = ap (λ (node : Stamped). node.holdings.me) read ∙ number_at nodes n d are.numbers short

-- an input of the store fits the node
pub fits_at : (nodes : List Stamped) (n : ℕ) (d : Stamped) (i : Input) → AreNodes nodes → n < length nodes → d ≡ get_or nodes n d → FitsInput 1 i →
    FitsInput d.holdings.store.bunches i
fits_at nodes n d i are short read fits = subst (λ (k : ℕ). FitsInput k i) (suits_at nodes n d are short read).bunches fits

-- the nodes with another in the place of one
pub are_set : (nodes : List Stamped) (n : ℕ) (before behind : Stamped) → AreNodes nodes → before ≡ get_or nodes n before →
    behind.holdings.me ≡ before.holdings.me → Suits the_setting behind.holdings → AreNodes (slice_set nodes n behind)
are_set nodes n before behind are read me suits = record {
  numbers =
      map-set_same (λ (node : Stamped). node.holdings.me) nodes n behind before (me ∙ ap (λ (node : Stamped). node.holdings.me) read)
      ∙ are.numbers;
  suits = All-set (λ (node : Stamped). Suits the_setting node.holdings) nodes n behind suits are.suits;
}

-- a node that is seen as before
pub seen_set : (nodes : List Stamped) (n : ℕ) (before behind : Stamped) → before ≡ get_or nodes n before →
    node_of behind.holdings ≡ node_of before.holdings → behind.stamp ≡ before.stamp → seen (slice_set nodes n behind) ≡ seen nodes
seen_set nodes n before behind read node stamp =
    map-set_same look nodes n behind before (same ∙ ap look read)
  where
    look : Stamped → Node × ℕ
    look d = (node_of d.holdings, d.stamp)

    same : look behind ≡ look before
    same = cc

-- a step by the rules
pub steps_by : (old new : List Stamped) (at n : ℕ) (i : Input) (before behind : Stamped) (done : Done) →
    AreNodes old → n < length old → n ≡ at → before ≡ get_or old n before →
    (Suits the_setting before.holdings → IsStep the_setting before.holdings.me (node_of before.holdings) (stamp_after before.stamp i) i done (node_of behind.holdings)) →
    behind.stamp ≡ stamp_after before.stamp i → new ≡ slice_set old n behind → Steps old at i done new
steps_by old new at n i before behind done are short same read steps stamp nodes =
    subst (λ (k : ℕ). Steps old k i done new) same (record {
      before = before;
      behind = behind;
      there = slice_get-get_or old n before short ∙ ap Some (sym read);
      step =
          subst (λ (m : ℕ). IsStep the_setting m (node_of before.holdings) (stamp_after before.stamp i) i done (node_of behind.holdings))
          (number_is old n before are short read) (steps (suits_at old n before are short read));
      stamp = stamp;
      nodes = nodes;
    })
