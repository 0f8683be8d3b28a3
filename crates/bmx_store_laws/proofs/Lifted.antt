-- The laws of the model of one object, over legal histories.
use Rattle.std.proofs.Common.{ℕ, List, inl, inr}
use Rattle.bmx_types.specs.Openings.{IsOpening}
use Rattle.bmx_protocol.specs.declared.events.Event.{Event}
use Rattle.bmx_protocol.specs.Nodes.{Setting}
use Rattle.bmx_protocol.specs.Steps.{Node}
use Rattle.bmx_protocol.specs.Histories.{AreAfter, IsLegal}
use Rattle.bmx_protocol.specs.Worlds.{world_of}
use Rattle.bmx_token_model.specs.Laws.{HasOneSeat, ReadersListed, WriteExcludes as Excludes}
use Rattle.bmx_token_model.proofs.Requests.{IsRequested, requested_run}
use Rattle.bmx_token_model.proofs.Parents.{IsPointed, pointed_run}
use Rattle.bmx_token_model.proofs.Chains.{IsChained, chained_run}
use Rattle.bmx_token_model.specs.Laws.{WantsArePlaced, ParentsLead as ModelLeads}
use Rattle.bmx_token_model.proofs.Stated.{each_want_is_placed, parents_lead}
use Rattle.bmx_token_model.proofs.Owners.{ownership_is_one}
use Rattle.bmx_token_model.proofs.Readers.{readers_are_listed}
use Rattle.bmx_token_model.proofs.Shared.{tokens_exclude}
use Rattle.bmx_store_laws.specs.Laws.{IsCounted, OneOwner, OneSeat, ReadersAreListed, WriteExcludes, WantsStandOnce, ParentsAnswer, ParentsLead, NamesAreCounted}
use Rattle.bmx_store_laws.proofs.Openings.{IsNamed}
use Rattle.bmx_store_laws.proofs.Histories.{came_after, each_name}
use Rattle.bmx_store_laws.specs.Inside.Seen.{seen}
use Rattle.bmx_store_laws.proofs.Owners.{AreNodes, GoesBetween, not_nowhere, each_owner, each_seat, writes_exclude}
use Rattle.bmx_store_laws.proofs.Readers.{each_reader}
use Rattle.bmx_store_laws.proofs.Wants.{wants_stand}
use Rattle.bmx_store_laws.proofs.Parents.{between, parents_answer}
use Rattle.bmx_store_laws.proofs.Chains.{nodes_of, chains}

real_nodes : (st : Setting) (history : List Event) (nodes : ℕ → Node) → IsOpening st.nodes st.limit st.births → IsLegal st history → AreAfter st history nodes →
    (x : ℕ) → AreNodes st (world_of nodes history) x
real_nodes st history nodes opening legal after x = nodes_of st (seen x (world_of nodes history)) (came_after st history nodes opening legal after x).beyond

goes_between : (st : Setting) (history : List Event) (nodes : ℕ → Node) → IsOpening st.nodes st.limit st.births → IsLegal st history → AreAfter st history nodes →
    (x : ℕ) → GoesBetween st (world_of nodes history) x
goes_between st history nodes opening legal after x =
    between st (world_of nodes history) x (each_name IsRequested requested_run st history nodes opening legal after x)
    (each_name IsChained chained_run st history nodes opening legal after x)
    (real_nodes st history nodes opening legal after x)

pub one_owner : OneOwner
one_owner st history nodes opening legal after =
    each_owner st (world_of nodes history) (real_nodes st history nodes opening legal after) (goes_between st history nodes opening legal after)
    (each_name HasOneSeat ownership_is_one st history nodes opening legal after)

pub one_seat : OneSeat
one_seat st history nodes opening legal after =
    each_seat st (world_of nodes history) (real_nodes st history nodes opening legal after) (goes_between st history nodes opening legal after)
    (each_name HasOneSeat ownership_is_one st history nodes opening legal after)

pub write_excludes : WriteExcludes
write_excludes st history nodes opening legal after =
    writes_exclude st (world_of nodes history) (each_name Excludes tokens_exclude st history nodes opening legal after)

pub readers_are_listed_always : ReadersAreListed
readers_are_listed_always st history nodes opening legal after =
    each_reader (world_of nodes history) (each_name ReadersListed readers_are_listed st history nodes opening legal after)

pub wants_stand_once : WantsStandOnce
wants_stand_once st history nodes opening legal after x =
    wants_stand (world_of nodes history) x (each_name WantsArePlaced each_want_is_placed st history nodes opening legal after x)

pub parents_answer_always : ParentsAnswer
parents_answer_always st history nodes opening legal after =
    parents_answer st (world_of nodes history) (each_name IsPointed pointed_run st history nodes opening legal after)
    (each_name IsRequested requested_run st history nodes opening legal after)

pub parents_lead_always : ParentsLead
parents_lead_always st history nodes opening legal after =
    chains st (world_of nodes history) (each_name ModelLeads parents_lead st history nodes opening legal after)
    (λ x n none. (came_after st history nodes opening legal after x).beyond n none)

pub names_are_counted : NamesAreCounted
names_are_counted st history nodes opening legal after x somewhere = by_named (came_after st history nodes opening legal after x).named
  where
    by_named : IsNamed st x nodes history → IsCounted st (world_of nodes history) x
    by_named (inl counted) = counted
    by_named (inr nowhere) = absurd (not_nowhere st (world_of nodes history) x somewhere nowhere)
