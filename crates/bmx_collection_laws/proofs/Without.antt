-- The laws of places and of the graph, over those legal histories in which no collector acts.
use Rattle.std.proofs.Common.{◌≡◌, ◌⊎◌, inl, inr, ℕ, refl, ap, sym, ◌∙◌, subst, Bool, true, false, cond, List, [], ◌∷◌, Contains}
use Rattle.std.specs.Prelude.{Option, Some, None}
use Rattle.std.specs.List.{cons_option}
use Rattle.bmx_types.specs.Openings.{IsOpening}
use Rattle.bmx_types.specs.declared.commands.Refusal.TheVariants as refusal
use Rattle.bmx_protocol.specs.declared.inputs.NodeAnswer.{NodeAnswer}
use Rattle.bmx_protocol.specs.declared.inputs.NodeAnswer.TheVariants as answer
use Rattle.bmx_protocol.specs.declared.inputs.Done.{Done}
use Rattle.bmx_protocol.specs.declared.events.Event.{Event}
use Rattle.bmx_protocol.specs.Nodes.{Setting}
use Rattle.bmx_protocol.specs.Places.{is_full}
use Rattle.bmx_protocol.specs.Rules.{Reaction}
use Rattle.bmx_protocol.specs.Histories.{AreAfter, IsLegal}
use Rattle.bmx_collection.specs.Steps.{LinkedNode, unlinked, first_linked}
use Rattle.bmx_collection.specs.Histories.{Deed, Plain, Collector, LinkedEvent, plain_event, plain_events, ReplaysLinked, IsLegalLinked, IsWithoutCollector}
use Rattle.bmx_collection.specs.Worlds.{linked_world_of}
use Rattle.bmx_collection.proofs.Listing.{nothing_in, first_of, behind, one_of}
use Rattle.bmx_collection.proofs.Without.{without_collectors_alike}
use Rattle.bmx_places.proofs.Always.{blocks_are_kept, one_shape, one_place, no_info_clashes, next_is_taken, no_letter_is_stray}
use Rattle.bmx_coherence.proofs.Stated.{every_history_is_a_graph_run, nodes_have_the_graph, copies_are_current, each_waits_for_its_want, stuck_nodes_name_holders}
use Rattle.bmx_collection_laws.specs.Laws.{FullIsAtTheLimit, IsStrayLetter, PlacesStand, GraphStands, PlacesStandWithoutCollector, GraphStandsWithoutCollector, MadeStayCurrentWithoutCollector}

-- the event of a deed without a collector is among those without one
in_plain : (h : List LinkedEvent) (e : LinkedEvent) (f : Event) → Contains h e → plain_event e ≡ Some f → Contains (plain_events h) f
in_plain [] e f c is = absurd (nothing_in e c)
in_plain (g ∷ h) e f c is = by (one_of g e h c) (λ later. in_plain h e f later is)
  where
    later_in : (o : Option Event) → Contains (plain_events h) f → Contains (cons_option o (plain_events h)) f
    later_in None c = c
    later_in (Some x) c = behind x f (plain_events h) c

    by : (g ≡ e) ⊎ Contains h e → (Contains h e → Contains (plain_events h) f) → Contains (plain_events (g ∷ h)) f
    by (inl same) rest = subst (λ (o : Option Event). Contains (cons_option o (plain_events h)) f) (sym (ap plain_event same ∙ is)) (first_of f (plain_events h))
    by (inr later) rest = later_in (plain_event g) (rest later)

module _ (st : Setting) (history : List LinkedEvent) (nodes : ℕ → LinkedNode) (opening : IsOpening st.nodes st.limit st.births) (legal_linked : IsLegalLinked st history)
    (r : ReplaysLinked st (first_linked st) history nodes) (without : IsWithoutCollector history) where
  past : List Event
  past = plain_events history

  legal : IsLegal st (plain_events history)
  legal = (without_collectors_alike.legal st history without).0 legal_linked

  after : AreAfter st (plain_events history) (λ n. unlinked (nodes n))
  after = without_collectors_alike.nodes st history nodes without r

  none_stray : (node stamp : ℕ) (d : Deed) → Contains history (record { node = node; stamp = stamp; deed = d }) → IsStrayLetter d → ⊥
  none_stray node stamp (Plain i d) there stray =
      let e : Event = record { node = node; stamp = stamp; input = i; done = d } in
      no_letter_is_stray st (plain_events history) e opening legal (in_plain history (record { node = node; stamp = stamp; deed = Plain i d }) e there refl) stray
  none_stray node stamp (Collector i d) there stray = stray

  places : PlacesStand st history (linked_world_of nodes history)
  places = record {
    blocks = blocks_are_kept st (plain_events history) (λ n. unlinked (nodes n)) opening legal after;
    shapes = one_shape st (plain_events history) (λ n. unlinked (nodes n)) opening legal after;
    places = one_place st (plain_events history) (λ n. unlinked (nodes n)) opening legal after;
    clashes = no_info_clashes st (plain_events history) (λ n. unlinked (nodes n)) opening legal after;
    next = next_is_taken st (plain_events history) (λ n. unlinked (nodes n)) opening legal after;
    letters = λ e there stray. none_stray e.node e.stamp e.deed there stray;
  }

  graph : GraphStands st history (linked_world_of nodes history)
  graph = record {
    run = every_history_is_a_graph_run st (plain_events history) opening legal;
    graph = nodes_have_the_graph st (plain_events history) (λ n. unlinked (nodes n)) opening legal after;
    current = (copies_are_current st (plain_events history) (λ n. unlinked (nodes n)) opening legal after).reached;
    waits = each_waits_for_its_want st (plain_events history) (λ n. unlinked (nodes n)) opening legal after;
    stuck = stuck_nodes_name_holders st (plain_events history) (λ n. unlinked (nodes n)) opening legal after;
  }

pub places_stand_without_collector : PlacesStandWithoutCollector
places_stand_without_collector st history nodes opening legal r without = places st history nodes opening legal r without

pub graph_stands_without_collector : GraphStandsWithoutCollector
graph_stands_without_collector st history nodes opening legal r without = graph st history nodes opening legal r without

pub made_stay_current_without_collector : MadeStayCurrentWithoutCollector
made_stay_current_without_collector st history nodes opening legal r without =
    copies_are_current st (plain_events history) (λ n. unlinked (nodes n)) opening ((without_collectors_alike.legal st history without).0 legal)
    (without_collectors_alike.nodes st history nodes without r)

-- ## full, in each step

pub full_is_at_the_limit : FullIsAtTheLimit
full_is_at_the_limit st me stamp register bunch size n n' d step =
    (λ answered. by_full (is_full st.limit n.places bunch size) refl (sym same ∙ answered), λ full. same ∙ ap given full)
  where
    given : Bool → NodeAnswer
    given b = cond b (answer.Refused refusal.Full) answer.Nil

    by_reaction : (b : Bool) (o p : Reaction) → (cond b o p).answer ≡ cond b o.answer p.answer
    by_reaction true o p = refl
    by_reaction false o p = refl

    same : d.answer ≡ given (is_full st.limit n.places bunch size)
    same = ap (λ (x : Done). x.answer) step.step.outcome ∙ by_reaction step.step.told.full _ _ ∙ ap given step.step.is_told.full

    by_full : (b : Bool) → is_full st.limit n.places bunch size ≡ b → given (is_full st.limit n.places bunch size) ≡ answer.Refused refusal.Full → is_full st.limit n.places bunch size ≡ true
    by_full true e h = e
    by_full false e h = (let both : answer.Nil ≡ answer.Refused refusal.Full = sym (ap given e) ∙ h in absurd cc)
