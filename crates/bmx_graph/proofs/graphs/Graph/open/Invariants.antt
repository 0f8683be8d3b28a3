use Rattle.std.proofs.Common.{◌≡◌, ℕ, take}
use Rattle.std.specs.Option.{option_map}
use Rattle.std.specs.HashMap.{get}
use Rattle.bmx_types.specs.Openings.{bunches_of}
use Rattle.bmx_graph.specs.State.{born_as}
use Rattle.bmx_graph.specs.Graphs.{same_name}
use Rattle.bmx_graph.proofs.graphs.Graph.open.Given as goal

abbrev pub invariant-loop-birth : goal.invariant-loop-birth
invariant-loop-birth l = record {
  objects : (q : ℕ) → option_map (λ fields. fields.items) (get same_name l.objects q) ≡ born_as (take l.birth-index l.birth-items) q;
  bunches : l.bunches ≡ bunches_of (take l.birth-index l.birth-items);
}
