-- A collector's step touches no token, and a collection keeps exactly its reach.
use Rattle.std.proofs.Common.{◌≡◌, ℕ, ◌+◌, ◌==◌, ◌&&◌, not, Bool, true, false, cond, List, refl, ap, sym, ◌∙◌, subst}
use Rattle.std.specs.Prelude.{Option, Some, None}
use Rattle.std.specs.Option.{option_map_or}
use Rattle.bmx_types.specs.declared.commands.Refusal.TheVariants as refusal
use Rattle.bmx_owner.specs.declared.entering.Record.{Record}
use Rattle.bmx_owner.specs.Records.{is_listed}
use Rattle.bmx_protocol.specs.Nodes.{Setting, NodeState, Known, AreAll}
use Rattle.bmx_protocol.specs.Changes.{with_step}
use Rattle.bmx_collection.specs.Links.{Links}
use Rattle.bmx_collection.specs.Reach.{is_entry, is_busy, IsRoot, IsBusy, IsRecorded, IsReachedHere, MayBeKept}
use Rattle.bmx_collection.specs.Forgetting.{known_left, forgotten}
use Rattle.bmx_collection.specs.ToSpaces.{is_too_large}
use Rattle.bmx_collection.specs.Tables.{is_stray_table, state_cleaned}
use Rattle.bmx_collection.specs.Steps.{LinkedNode, CollectorInput, Collect, Sweep, MakeTable, TakeTable, CollectorAnswer, Forgot, Refused, Stray, CollectorTold, CollectorReaction, CollectorDone, unchanged, collected, collect_rule, collector_rule, counted, IsCollectorTold, IsCollectorStep}
use Rattle.bmx_collection.specs.Windows.{window_of_one}
use Rattle.bmx_collection.specs.Laws.{IsSilent, LeavesTokens, CollectorTouchesNoToken, KeepsItsReach, CollectionKeepsItsReach}
use Rattle.bmx_collection.proofs.Rising.{listed, listed_there}
use Rattle.bmx_collection.proofs.Reaching.{reach_may_be_kept, reached_then, reached_in_one}

-- ## what stays of one entry

-- what stands after it was there before
pub left_was : (bunch : ℕ) (kept : Bool) (o : Option Known) (k : Known) → known_left bunch kept o ≡ Some k → o ≡ Some k
left_was bunch kept None k e = e
left_was bunch kept (Some j) k e = by (j.bunch == bunch && not kept) e
  where
    by : (b : Bool) → cond b None (Some j) ≡ Some k → Some j ≡ Some k
    by true e = cc
    by false e = e

-- what goes is of the bunch, and isn't kept
gone_is : (bunch : ℕ) (kept : Bool) (k : Known) → known_left bunch kept (Some k) ≡ None → ((k.bunch == bunch) ≡ true) × (kept ≡ false)
gone_is bunch kept k e = by (k.bunch == bunch) kept e
  where
    by : (b kept : Bool) → cond (b && not kept) None (Some k) ≡ None → (b ≡ true) × (kept ≡ false)
    by true false e = (refl, refl)
    by true true e = cc
    by false true e = cc
    by false false e = cc

-- what is kept stays, and so does what is of another bunch
kept_stays : (bunch : ℕ) (o : Option Known) → known_left bunch true o ≡ o
kept_stays bunch None = refl
kept_stays bunch (Some k) = by (k.bunch == bunch)
  where
    by : (b : Bool) → cond (b && false) None (Some k) ≡ Some k
    by true = refl
    by false = refl

other_stays : (bunch : ℕ) (kept : Bool) (o : Option Known) → option_map_or (λ k. k.bunch == bunch) o false ≡ false → known_left bunch kept o ≡ o
other_stays bunch kept None e = refl
other_stays bunch kept (Some k) e = ap (λ (b : Bool). cond (b && not kept) None (Some k)) e

-- an entry of the bunch that stands was kept
pub stands_kept : (bunch : ℕ) (kept : Bool) (o : Option Known) → option_map_or (λ k. k.bunch == bunch) (known_left bunch kept o) false ≡ true → kept ≡ true
stands_kept bunch true o e = refl
stands_kept bunch false None e = cc
stands_kept bunch false (Some k) e = by (k.bunch == bunch) refl e
  where
    by : (b : Bool) → (k.bunch == bunch) ≡ b → option_map_or (λ (k : Known). k.bunch == bunch) (cond (b && true) None (Some k)) false ≡ true → false ≡ true
    by true is e = e
    by false is e = sym is ∙ e

-- ## tokens

same_leaves : (s u : NodeState) → u.known ≡ s.known → LeavesTokens s u
same_leaves s u same = record {
  stands = λ name k e. ap (λ (f : ℕ → Option Known). f name) (sym same) ∙ e;
  idle = λ name k e gone. absurd (not_both name k e gone);
  unrecorded = λ name node k e gone. absurd (not_both name k e gone);
}
  where
    not_both : (name : ℕ) (k : Known) → s.known name ≡ Some k → u.known name ≡ None → ⊥
    not_both name k e gone = (let both : Some k ≡ None = sym e ∙ ap (λ (f : ℕ → Option Known). f name) (sym same) ∙ gone in cc)

module _ (s : NodeState) (l : Links) (bunch : ℕ) (kept : List ℕ) (may : MayBeKept s l bunch kept) where
  -- a root of the bunch doesn't go
  root_stays : (name : ℕ) (k : Known) → s.known name ≡ Some k → (forgotten bunch kept s).known name ≡ None → IsRoot s l bunch name → ⊥
  root_stays name k e gone root =
      let is : ((k.bunch == bunch) ≡ true) × (is_listed kept name ≡ false) =
      gone_is bunch (is_listed kept name) k (subst (λ (o : Option Known). known_left bunch (is_listed kept name) o ≡ None) e gone) in
      let entry : is_entry s bunch name ≡ true = ap (λ (o : Option Known). option_map_or (λ (j : Known). j.bunch == bunch) o false) e ∙ is.0 in
      let both : true ≡ false = sym (listed kept name (may.rooted name entry root)) ∙ is.1 in
      cc

  forgetting_leaves : LeavesTokens s (with_step (forgotten bunch kept s))
  forgetting_leaves = record {
    stands = λ name k e. left_was bunch (is_listed kept name) (s.known name) k e;
    idle = λ name k e gone. quiet name k e gone (is_busy k.part) refl;
    unrecorded = λ name node k e gone. none name node k e gone (s.entering name node) refl;
  }
    where
      quiet : (name : ℕ) (k : Known) → s.known name ≡ Some k → (forgotten bunch kept s).known name ≡ None →
          (b : Bool) → is_busy k.part ≡ b → b ≡ false
      quiet name k e gone true busy = absurd (root_stays name k e gone (IsBusy k e busy))
      quiet name k e gone false busy = refl

      none : (name node : ℕ) (k : Known) → s.known name ≡ Some k → (forgotten bunch kept s).known name ≡ None →
          (o : Option Record) → s.entering name node ≡ o → o ≡ None
      none name node k e gone None is = refl
      none name node k e gone (Some r) is = absurd (root_stays name k e gone (IsRecorded node r is))

-- what a step makes of the state, once it is counted
abbrev Calm : LinkedNode → LinkedNode → Type 0
Calm n m = IsSilent n.state (with_step m.state) × LeavesTokens n.state (with_step m.state)

silent_same : (s u : NodeState) → u.issued ≡ s.issued → u.taken ≡ s.taken → u.register ≡ s.register → u.made ≡ s.made → u.clock ≡ s.clock → IsSilent s (with_step u)
silent_same s u issued taken registers made clock = record { issued = issued; taken = taken; registers = registers; made = made; clock = ap (λ (c : ℕ). c + 1) clock }

either_calm : (n : LinkedNode) (b : Bool) (a : CollectorAnswer) (r : CollectorReaction) → Calm n r.node → Calm n (cond b (unchanged n a) r).node
either_calm n true a r calm = (silent_same n.state n.state refl refl refl refl refl, same_leaves n.state (with_step n.state) refl)
either_calm n false a r calm = calm

-- what the rule of an input needs: the kept names of a collection are those that are reached
abbrev Reaches : LinkedNode → CollectorInput → CollectorTold → Type 0
Reaches n (Collect bunch) t = AreAll (IsReachedHere n.state n.links bunch) t.kept
Reaches n Sweep t = Unit {0}
Reaches n (MakeTable bunch to) t = Unit {0}
Reaches n (TakeTable table) t = Unit {0}

reaches : (me : ℕ) (n : LinkedNode) (i : CollectorInput) (t : CollectorTold) → IsCollectorTold me n i t → Reaches n i t
reaches me n (Collect bunch) t told = told.kept
reaches me n Sweep t told = tt
reaches me n (MakeTable bunch to) t told = tt
reaches me n (TakeTable table) t told = tt

rule_calm : (st : Setting) (me : ℕ) (n : LinkedNode) (t : CollectorTold) (stamp : ℕ) (i : CollectorInput) → Reaches n i t → Calm n (collector_rule st me n t stamp i).node
rule_calm st me n t stamp (Collect bunch) all =
    either_calm n (is_too_large st.limit n.state n.places t.owned) (Refused refusal.Full) _
    (silent_same n.state (forgotten bunch t.kept n.state) refl refl refl refl refl, forgetting_leaves n.state n.links bunch t.kept (reach_may_be_kept n.state n.links bunch t.kept all))
rule_calm st me n t stamp Sweep all = (silent_same n.state n.state refl refl refl refl refl, same_leaves n.state (with_step n.state) refl)
rule_calm st me n t stamp (MakeTable bunch to) all = (silent_same n.state n.state refl refl refl refl refl, same_leaves n.state (with_step n.state) refl)
rule_calm st me n t stamp (TakeTable table) all =
    either_calm n (is_stray_table st me table) Stray _
    (silent_same n.state (state_cleaned table n.state) refl refl refl refl refl, same_leaves n.state (with_step (state_cleaned table n.state)) refl)

pub collector_touches_no_token : CollectorTouchesNoToken
collector_touches_no_token st me stamp i n n' d step =
    let calm : Calm n (collector_rule st me n step.told stamp i).node = rule_calm st me n step.told stamp i (reaches me n i step.told step.is_told) in
    subst (λ (m : LinkedNode). IsSilent n.state m.state × LeavesTokens n.state m.state) (sym step.node) calm

-- ## the reach

-- a node that was collected keeps the reach
collected_keeps : (me : ℕ) (n : LinkedNode) (t : CollectorTold) (bunch : ℕ) → AreAll (IsReachedHere n.state n.links bunch) t.kept →
    KeepsItsReach n (counted (collected me n t bunch)) (window_of_one n) bunch
collected_keeps me n t bunch all = record {
  kept = λ name reached.
      ap (λ (b : Bool). known_left bunch b (n.state.known name)) (listed t.kept name ((all.all name).1 reached)) ∙ kept_stays bunch (n.state.known name);
  no_more = λ name stands. reached_in_one n bunch name ((all.all name).0 (listed_there t.kept name (stands_kept bunch (is_listed t.kept name) (n.state.known name) stands)));
  others = λ name other. other_stays bunch (is_listed t.kept name) (n.state.known name) other;
}

-- by whether segments are lacking: then nothing was forgotten
either_keeps : (me : ℕ) (n : LinkedNode) (t : CollectorTold) (bunch entries : ℕ) (b : Bool) (r : CollectorReaction) →
    r.node ≡ collected me n t bunch → (cond b (unchanged n (Refused refusal.Full)) r).answer ≡ Forgot entries →
    (cond b (unchanged n (Refused refusal.Full)) r).node ≡ collected me n t bunch
either_keeps me n t bunch entries true r is answered = cc
either_keeps me n t bunch entries false r is answered = is

finished : (st : Setting) (me stamp bunch entries : ℕ) (n n' : LinkedNode) (d : CollectorDone) →
    IsCollectorStep st me n stamp (Collect bunch) d n' → d.answer ≡ Forgot entries → KeepsItsReach n n' (window_of_one n) bunch
finished st me stamp bunch entries n n' d step answered =
    let node : (collect_rule st me n step.told bunch).node ≡ collected me n step.told bunch =
    either_keeps me n step.told bunch entries (is_too_large st.limit n.state n.places step.told.owned) _ refl
    (sym (ap (λ (x : CollectorDone). x.answer) step.outcome) ∙ answered) in
    subst (λ (m : LinkedNode). KeepsItsReach n m (window_of_one n) bunch) (sym (step.node ∙ ap counted node))
    (collected_keeps me n step.told bunch step.is_told.kept)

pub collection_keeps_its_reach : CollectionKeepsItsReach
collection_keeps_its_reach = record { finished = finished; window = λ n bunch name. (reached_then n bunch name, reached_in_one n bunch name) }
