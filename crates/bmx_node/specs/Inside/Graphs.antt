-- The graph as a node sees it.
use Rattle.std.specs.Prelude.{◌==◌, if◌then◌else◌, None, option_and_then}
use Rattle.bmx_token.specs.declared.parts.Part.{Part}
use Rattle.bmx_tokens.specs.Tables.{part_of}
use Rattle.bmx_graph.specs.State.{State}
use Rattle.bmx_memory.specs.Shown.{shown, values_of}
use Rattle.bmx_node.specs.declared.holdings.Holdings.{Holdings}
use Rattle.bmx_types.specs.declared.values.Val.TheVariants as val

-- its own copies, registers and tokens; of other nodes it sees nothing
unfoldable pub graph_of : Holdings → State
graph_of h = record {
  object = values_of (shown h.memory);
  register = λ n r. if n == h.me then (shown h.memory).register r else val.Null;
  held = λ n name. if n == h.me then option_and_then (λ (p : Part). p.held) (part_of h.tokens name) else None;
  made = λ n. if n == h.me then h.made else 0;
}
