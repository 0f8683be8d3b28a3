-- The laws of stores, over legal histories with collectors.
use Rattle.std.proofs.Common.{◌≡◌, ℕ, ◌<◌, refl, ap, sym, subst, ◌∙◌, cond, List, [], ◌∷◌, ◌++◌}
use Rattle.std.specs.Prelude.{None}
use Rattle.bmx_types.specs.Openings.{IsOpening}
use Rattle.bmx_types.specs.Updates.{put}
use Rattle.bmx_token_model.specs.Laws.{HasOneSeat, ReadersListed, WantsArePlaced, WriteExcludes as Excludes, ParentsLead as ModelLeads}
use Rattle.bmx_token_model.proofs.Requests.{IsRequested, requested_run}
use Rattle.bmx_token_model.proofs.Parents.{IsPointed, pointed_run}
use Rattle.bmx_token_model.proofs.Chains.{IsChained, chained_run}
use Rattle.bmx_token_model.proofs.Stated.{each_want_is_placed, parents_lead}
use Rattle.bmx_token_model.proofs.Owners.{ownership_is_one}
use Rattle.bmx_token_model.proofs.Readers.{readers_are_listed}
use Rattle.bmx_token_model.proofs.Shared.{tokens_exclude}
use Rattle.bmx_protocol.specs.Nodes.{Setting}
use Rattle.bmx_protocol.specs.Worlds.{World, world_of, IsSomewhere}
use Rattle.bmx_protocol.proofs.Basics.{Two, Same, Apart, two}
use Rattle.bmx_collection.specs.Steps.{LinkedNode, unlinked, first_linked}
use Rattle.bmx_collection.specs.Histories.{LinkedEvent, plain_events, tables_made, ReplaysLinked, IsLegalLinked}
use Rattle.bmx_collection.proofs.Replayed.{joined}
use Rattle.bmx_store_laws.specs.Laws.{IsCounted}
use Rattle.bmx_store_laws.specs.Inside.Seen.{seen, seen_known}
use Rattle.bmx_store_laws.proofs.Openings.{beyond_first}
use Rattle.bmx_store_laws.proofs.Owners.{AreNodes, GoesBetween, not_nowhere, each_owner, each_seat, writes_exclude}
use Rattle.bmx_store_laws.proofs.Readers.{each_reader}
use Rattle.bmx_store_laws.proofs.Wants.{wants_stand}
use Rattle.bmx_store_laws.proofs.Parents.{between, parents_answer}
use Rattle.bmx_store_laws.proofs.Chains.{nodes_of, chains}
use Rattle.bmx_collection_laws.specs.Laws.{LawsOfStoresStand}
use Rattle.bmx_collection_laws.proofs.Came.{Kept, Nowhere, Somewhere}
use Rattle.bmx_collection_laws.proofs.Always.{came_always, each_name_always}

-- a number that is no node of the store does nothing
untouched : (st : Setting) (history : List LinkedEvent) → IsLegalLinked st history → (past rest : List LinkedEvent) (nodes last : ℕ → LinkedNode) → past ++ rest ≡ history →
    ((k : ℕ) → (k < st.nodes → ⊥) → nodes k ≡ first_linked st k) → ReplaysLinked st nodes rest last → (k : ℕ) → (k < st.nodes → ⊥) → last k ≡ first_linked st k
untouched st history legal past [] nodes last whole all r k none = (λ i. sym r i k) ∙ all k none
untouched st history legal past (e ∷ rest) nodes last whole all r k none =
    untouched st history legal (past ++ e ∷ []) rest (put nodes e.node r.0) last (joined past (e ∷ []) rest ∙ whole) (λ j h. by j h (two e.node j)) r.2 k none
  where
    by : (k : ℕ) → (k < st.nodes → ⊥) → Two e.node k → put nodes e.node r.0 k ≡ first_linked st k
    by k none (Same a) = absurd (none (subst (λ (z : ℕ). z < st.nodes) a (legal.fits past rest e whole).a_node))
    by k none (Apart h d) = (λ i. cond (h i) r.0 (nodes k)) ∙ all k none

module _ (st : Setting) (history : List LinkedEvent) (nodes : ℕ → LinkedNode) (opening : IsOpening st.nodes st.limit st.births) (legal : IsLegalLinked st history)
    (r : ReplaysLinked st (first_linked st) history nodes) where
  abbrev w : World
  w = world_of (λ k. unlinked (nodes k)) (plain_events history)

  beyond : (x n : ℕ) → (n < st.nodes → ⊥) → (seen x w).holds n ≡ None
  beyond x n none =
      ap (λ (k : LinkedNode). seen_known (k.state.known x)) (untouched st history legal [] history (first_linked st) nodes refl (λ k h. refl) r n none)
      ∙ beyond_first st opening x n none

  real_nodes : (x : ℕ) → AreNodes st w x
  real_nodes x = nodes_of st (seen x w) (beyond x)

  requested : (x : ℕ) → IsRequested (seen x w)
  requested = each_name_always IsRequested requested_run st history nodes opening legal r

  goes_between : (x : ℕ) → GoesBetween st w x
  goes_between x = between st w x (requested x) (each_name_always IsChained chained_run st history nodes opening legal r x) (real_nodes x)

  one_seat : (x : ℕ) → HasOneSeat (seen x w)
  one_seat = each_name_always HasOneSeat ownership_is_one st history nodes opening legal r

pub laws_of_stores_stand : LawsOfStoresStand
laws_of_stores_stand st history nodes opening legal r = record {
  owners = each_owner st v (real_nodes st history nodes opening legal r) (goes_between st history nodes opening legal r) (one_seat st history nodes opening legal r);
  seats = each_seat st v (real_nodes st history nodes opening legal r) (goes_between st history nodes opening legal r) (one_seat st history nodes opening legal r);
  writers = writes_exclude st v (each_name_always Excludes tokens_exclude st history nodes opening legal r);
  readers = each_reader v (each_name_always ReadersListed readers_are_listed st history nodes opening legal r);
  wants = λ x. wants_stand v x (each_name_always WantsArePlaced each_want_is_placed st history nodes opening legal r x);
  parents = parents_answer st v (each_name_always IsPointed pointed_run st history nodes opening legal r) (requested st history nodes opening legal r);
  chains = chains st v (each_name_always ModelLeads parents_lead st history nodes opening legal r) (beyond st history nodes opening legal r);
  names = λ x somewhere. by x somewhere (came_always st history nodes opening legal r x).kept;
}
  where
    v : World
    v = world_of (λ k. unlinked (nodes k)) (plain_events history)

    by : (x : ℕ) → IsSomewhere st v x → Kept st x (plain_events history) (λ k. unlinked (nodes k)) (tables_made history) → IsCounted st v x
    by x somewhere (Somewhere counted b has) = counted
    by x somewhere (Nowhere nowhere all) = absurd (not_nowhere st v x somewhere nowhere)
