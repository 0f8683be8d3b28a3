-- The local reach may be kept; without references it is its roots; it is what is reached in a window of one moment.
use Rattle.std.proofs.Common.{◌≡◌, ℕ, true, false, sym, ◌∙◌, subst, ⊎_elim, [], ◌∷◌, Contains}
use Rattle.bmx_protocol.specs.Nodes.{NodeState}
use Rattle.bmx_collection.specs.Links.{Links}
use Rattle.bmx_collection.specs.Reach.{is_entry, refers, IsRoot, IsReachedHere, Root, InField}
use Rattle.bmx_collection.specs.Steps.{LinkedNode}
use Rattle.bmx_collection.specs.Windows.{IsReachedIn, RootThen, InFieldThen, window_of_one}
use Rattle.bmx_collection.proofs.Listing.{nothing_in, first_of, one_of}
use Rattle.bmx_collection.specs.Laws.{ReachMayBeKept, ReachWithoutReferencesIsRoots}

pub reach_may_be_kept : ReachMayBeKept
reach_may_be_kept s l bunch kept all = record {
  rooted = λ name entry root. (all.all name).1 (Root entry root);
  closed = λ from name there entry ref. (all.all name).1 (InField from entry ((all.all from).0 there) ref);
}

roots_alone : (s : NodeState) (l : Links) (bunch : ℕ) → ((from name : ℕ) → refers s from name ≡ false) →
    (name : ℕ) → IsReachedHere s l bunch name → (is_entry s bunch name ≡ true) × IsRoot s l bunch name
roots_alone s l bunch none_refers name (Root entry root) = (entry, root)
roots_alone s l bunch none_refers name (InField from entry reached ref) = (let both : true ≡ false = sym ref ∙ none_refers from name in cc)

pub reach_without_references_is_roots : ReachWithoutReferencesIsRoots
reach_without_references_is_roots = roots_alone

-- ## a window of one moment

the_moment : (n m : LinkedNode) → Contains (n ∷ []) m → n ≡ m
the_moment n m there = ⊎_elim (λ same. same) (λ none. absurd (nothing_in m none)) (one_of n m [] there)

pub reached_then : (n : LinkedNode) (bunch name : ℕ) → IsReachedIn (window_of_one n) bunch name → IsReachedHere n.state n.links bunch name
reached_then n bunch name (RootThen m there entry root) =
    let same : m ≡ n = sym (the_moment n m there) in
    Root (subst (λ (x : LinkedNode). is_entry x.state bunch name ≡ true) same entry) (subst (λ (x : LinkedNode). IsRoot x.state x.links bunch name) same root)
reached_then n bunch name (InFieldThen m from there entry reached ref) =
    let same : m ≡ n = sym (the_moment n m there) in
    InField from (subst (λ (x : LinkedNode). is_entry x.state bunch name ≡ true) same entry) (reached_then n bunch from reached)
    (subst (λ (x : LinkedNode). refers x.state from name ≡ true) same ref)

pub reached_in_one : (n : LinkedNode) (bunch name : ℕ) → IsReachedHere n.state n.links bunch name → IsReachedIn (window_of_one n) bunch name
reached_in_one n bunch name (Root entry root) = RootThen n (first_of n []) entry root
reached_in_one n bunch name (InField from entry reached ref) = InFieldThen n from (first_of n []) entry (reached_in_one n bunch from reached) ref
