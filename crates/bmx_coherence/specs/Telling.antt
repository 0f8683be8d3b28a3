-- That the laws say something: they apply to runs worked by hand, and fail where one outcome of them is changed.
use Rattle.std.specs.Prelude.{◌≡◌, true, slice_get, IfSome, ◌↔◌}
use Rattle.bmx_types.specs.Openings.{IsOpening}
use Rattle.bmx_types.specs.declared.commands.Refusal.TheVariants as refusal
use Rattle.bmx_types.specs.declared.numbers.Mode.TheVariants as mode
use Rattle.bmx_protocol.specs.declared.inputs.NodeAnswer.TheVariants as answer
use Rattle.bmx_protocol.specs.Places.{is_full}
use Rattle.bmx_protocol.specs.Steps.{first_node}
use Rattle.bmx_protocol.specs.Histories.{IsLegal}
use Rattle.bmx_protocol.specs.Worlds.{world_of}
use Rattle.bmx_protocol.specs.Cases.{told_of_the_object, written_by_its_taker}
use Rattle.bmx_coherence.specs.Graphs.{graph_after}
use Rattle.bmx_coherence.specs.Waits.{WaitsFor, WantsAreWaitedFor}
use Rattle.bmx_coherence.specs.Stuck.{IsStuck, StuckNamesHolders}
use Rattle.bmx_coherence.specs.Copies.{AreCurrent, TargetsAreKnown}
use Rattle.bmx_coherence.specs.Laws.{IsGraphRun, HasGraph}
use Rattle.bmx_coherence.specs.Cases.{store, read_while_written, never_made, granted, granted_of_old, waiting, never_asked}
use Rattle.bmx_coherence.specs.Wrong.{three, hastily_granted, deafly_taken, rashly_dropped}

-- the laws of a store apply to two runs, at the end of the second of which a node is stuck; and none of these is what a
-- law says of a legal history: a node reads what another writes; a new object is refused as full where there is room;
-- a grant brings old fields; a name that was made is refused to the graph; a letter gives what its sender doesn't know;
-- a node wants what it doesn't wait for; nothing can go on, and a node waits for what nobody holds
pub record LawsTell : Type 0 where
  pub apply : IsOpening store.nodes store.limit store.births × IsLegal store told_of_the_object.past × IsLegal store written_by_its_taker.past
  pub stuck : IsStuck store (world_of written_by_its_taker.nodes written_by_its_taker.past) written_by_its_taker.past
      × WaitsFor (world_of written_by_its_taker.nodes written_by_its_taker.past) written_by_its_taker.past 0 mode.Read 1
  pub run : IsGraphRun store read_while_written → ⊥
  pub full : IfSome (slice_get never_made 0)
      (λ e. (e.done.answer ≡ answer.Refused refusal.Full) ↔ (is_full store.limit (first_node store e.node).places 0 1 ≡ true)) → ⊥
  pub graph : HasGraph (world_of granted.nodes granted_of_old) (graph_after store granted_of_old) → ⊥
  pub current : AreCurrent store (world_of told_of_the_object.nodes never_made) (graph_after store never_made) → ⊥
  pub targets : TargetsAreKnown store (world_of (first_node store) granted.past) → ⊥
  pub waits : WantsAreWaitedFor store (world_of written_by_its_taker.nodes read_while_written) read_while_written → ⊥
  pub holders : StuckNamesHolders store (world_of waiting.nodes never_asked) never_asked → ⊥

-- and three wrong rules break them: one that grants a write while a reader has its copy, one that takes a grant without
-- hearing of what its fields refer to, one that drops a held copy when it is recalled
pub record WrongRulesBreak : Type 0 where
  pub hasty : IsGraphRun three hastily_granted.past → ⊥
  pub deaf : TargetsAreKnown store (world_of deafly_taken.nodes deafly_taken.past) → ⊥
  pub rash : IsGraphRun three rashly_dropped.past → ⊥
