-- What a node's step makes of a runner, by what the step says.
use Rattle.std.proofs.Common.{◌≡◌, ℕ, ap, sym, ◌∙◌, subst, List, [], ◌∷◌, ◌++◌, get_or, Some}
use Rattle.std.specs.Prelude.{slice_get, slice_set}
use Rattle.std.specs.Option.{option_map_or}
use Rattle.std.proofs.lemmas.Option.{slice_get_within, get_or_from_slice_get}
use Rattle.std.proofs.Math.Path.{fun_ext}
use Rattle.bmx_protocol.specs.declared.inputs.Input.{Input}
use Rattle.bmx_protocol.specs.declared.inputs.Done.{Done}
use Rattle.bmx_protocol.specs.Nodes.{Setting}
use Rattle.bmx_protocol.specs.Steps.{first_node, IsStep, stamp_after}
use Rattle.bmx_protocol.proofs.Basics.{Two, Same, Apart, two}
use Rattle.bmx_node.specs.Stamped.{Stamped}
use Rattle.bmx_node.specs.Seen.{node_of, Suits}
use Rattle.bmx_run.specs.declared.runner.Runner.{Runner}
use Rattle.bmx_run.specs.Inside.Steps.{AreNodes, Steps, SameNodes, SameRun}
use Rattle.bmx_run.proofs.Listing.{got_same, got_other}
use Rattle.bmx_run.proofs.Stepping.{set_nodes}

-- what was read at a place is what stands there
pub read_is : {A : Type 0} (xs : List A) (n k : ℕ) (x y : A) → slice_get xs n ≡ Some x → k ≡ n → y ≡ get_or xs k y → y ≡ x
read_is xs n k x y there same read = read ∙ ap (λ (j : ℕ). get_or xs j y) same ∙ get_or_from_slice_get xs n x y there

-- a step was taken
pub steps_by : (st : Setting) (old new : Runner) (n k : ℕ) (i : Input) (d before behind : Stamped) (stamp : ℕ) (done : Done) →
    AreNodes st old.nodes.items → slice_get old.nodes.items n ≡ Some d → k ≡ n → before ≡ get_or old.nodes.items k before →
    (Suits st before.holdings → IsStep st before.holdings.me (node_of before.holdings) (stamp_after before.stamp i) i done (node_of behind.holdings)) →
    (Suits st before.holdings → Suits st behind.holdings) → behind.holdings.me ≡ before.holdings.me → behind.stamp ≡ stamp_after before.stamp i → stamp ≡ behind.stamp →
    new.history.items ≡ old.history.items ++ record { node = n; stamp = stamp; input = i; done = done } ∷ [] → new.nodes.items ≡ slice_set old.nodes.items k behind →
    Steps st old n i new
steps_by st old new n k i d before behind stamp done are there same read steps suits me stamped taken history nodes = record {
  before = before;
  behind = behind;
  done = done;
  there = here;
  stamped = stamped;
  step = subst (λ (m : ℕ). IsStep st m (node_of before.holdings) behind.stamp i done (node_of behind.holdings)) is_me
      (subst (λ (t : ℕ). IsStep st before.holdings.me (node_of before.holdings) t i done (node_of behind.holdings)) (sym stamped) (steps fits));
  same = me ∙ is_me;
  suits = suits fits;
  history = history ∙ ap (λ (t : ℕ). old.history.items ++ record { node = n; stamp = t; input = i; done = done } ∷ []) taken;
  nodes = nodes ∙ ap (λ (j : ℕ). slice_set old.nodes.items j behind) same;
}
  where
    here : slice_get old.nodes.items n ≡ Some before
    here = there ∙ ap (λ (x : Stamped). Some x) (sym (read_is old.nodes.items n k d before there same read))

    is_me : before.holdings.me ≡ n
    is_me = are.me n before here

    fits : Suits st before.holdings
    fits = are.suits n before here

-- nodes of which one is seen as before
seen_as : {B : Type 0} (f : Stamped → B) (e : ℕ → B) (xs : List Stamped) (n : ℕ) (d y : Stamped) → slice_get xs n ≡ Some d → f y ≡ f d →
    ◌≡◌ {A = ℕ → B} (λ m. option_map_or f (slice_get (slice_set xs n y) m) (e m)) (λ m. option_map_or f (slice_get xs m) (e m))
seen_as f e xs n d y there same = fun_ext (λ m. at m (two n m))
  where
    at : (m : ℕ) → Two n m → option_map_or f (slice_get (slice_set xs n y) m) (e m) ≡ option_map_or f (slice_get xs m) (e m)
    at m (Same q) =
        ap (λ k. option_map_or f (slice_get (slice_set xs n y) k) (e k)) (sym q)
        ∙ ap (λ o. option_map_or f o (e n)) (got_same xs n y (slice_get_within xs n d there))
        ∙ same
        ∙ sym (ap (λ o. option_map_or f o (e n)) there)
        ∙ ap (λ k. option_map_or f (slice_get xs k) (e k)) q
    at m (Apart t q) = ap (λ o. option_map_or f o (e m)) (got_other xs n m y q)

-- none was taken
pub same_by : (st : Setting) (nodes after : List Stamped) (n k : ℕ) (d before behind : Stamped) →
    AreNodes st nodes → slice_get nodes n ≡ Some d → k ≡ n → before ≡ get_or nodes k before →
    (Suits st before.holdings → Suits st behind.holdings) → behind.holdings.me ≡ before.holdings.me →
    node_of behind.holdings ≡ node_of before.holdings → behind.stamp ≡ before.stamp → after ≡ slice_set nodes k behind → SameNodes st nodes after
same_by st nodes after n k d before behind are there same read suits me seen stamp is =
    subst (SameNodes st nodes) (sym (is ∙ ap (λ (j : ℕ). slice_set nodes j behind) same)) (record {
      nodes = set_nodes st nodes n behind are (slice_get_within nodes n before here) (me ∙ are.me n before here) (suits (are.suits n before here));
      seen = seen_as (λ (x : Stamped). node_of x.holdings) (first_node st) nodes n before behind here seen;
      stamps = seen_as (λ (x : Stamped). x.stamp) (λ m. 0) nodes n before behind here stamp;
    })
  where
    here : slice_get nodes n ≡ Some before
    here = there ∙ ap (λ (x : Stamped). Some x) (sym (read_is nodes n k d before there same read))

pub run_by : (st : Setting) (old new : Runner) → new.history.items ≡ old.history.items → SameNodes st old.nodes.items new.nodes.items → SameRun st old new
run_by st old new history nodes = record { history = history; nodes = nodes }
