-- A collection that finds no segment is refused, and nothing of it is done.
use Rattle.std.specs.Prelude.{◌≡◌, pos, List, [], ◌∷◌, map, replicate, Some, None, refl}
use Rattle.bmx_types.specs.declared.values.Val.TheVariants as val
use Rattle.bmx_types.specs.declared.commands.Operand.TheVariants as operand
use Rattle.bmx_types.specs.declared.commands.Command.TheVariants as command
use Rattle.bmx_types.specs.declared.commands.Refusal.TheVariants as refusal
use Rattle.bmx_clean.specs.declared.cleaner.Applied.TheVariants.{Removed}
use Rattle.bmx_protocol.specs.declared.inputs.NodeAnswer.TheVariants as answer
use Rattle.bmx_protocol.specs.declared.views.ViewField.TheVariants as field
use Rattle.bmx_protocol.specs.Cases.{Do, one_bunch}
use Rattle.bmx_collection.specs.Steps.{Collect, MakeTable, Forgot, Cleaned, Nil, Refused}
use Rattle.bmx_collection.specs.Playing.{Of, By, Takes, NodeSays, CollectorSays, LinkedLine, by, IsSaidOf, LinkedPlay, played_linked}
use Rattle.bmx_collection.specs.Cases.Stores.{table, owned, lies, lives, went, left_at}

-- what comes next, and what is to be said of it
abbrev pub lines : List LinkedLine
lines =
    by (Of (Do 0 (command.Write (operand.Anchor 0)))) (NodeSays 1 answer.Nil [])
    ∷ by (Of (Do 0 (command.Set (operand.Anchor 0) 0 (operand.Int (pos 6))))) (NodeSays 2 answer.Nil [])
    ∷ by (Of (Do 0 (command.Done (operand.Anchor 0)))) (NodeSays 3 answer.Nil [])
    ∷ by (By 0 (Collect 0)) (CollectorSays 4 (Forgot 0) None)
    ∷ by (By 0 (MakeTable 0 0)) (CollectorSays 5 Nil (Some (table 0 0 1 5 0 0 0 5 [] [])))
    ∷ by (Takes 0 0) (CollectorSays 6 (Cleaned (Removed 0)) None)
    ∷ by (By 0 (Collect 0)) (CollectorSays 7 (Refused refusal.Full) None)
    ∷ by (Of (Do 0 (command.Read (operand.Anchor 0)))) (NodeSays 8 answer.Nil [])
    ∷ by (Of (Do 0 (command.Show (operand.Anchor 0) 0))) (NodeSays 9 (answer.Value (val.Int (pos 6))) [])
    ∷ by (Of (Do 0 (command.Done (operand.Anchor 0)))) (NodeSays 10 answer.Nil [])
    ∷ []

pub a_full_collection : IsSaidOf (record (one_bunch 1) { limit = 2 }) lines
a_full_collection = refl

-- the nodes at the end, and all that each of them has then
abbrev pub at_the_end : LinkedPlay
at_the_end = played_linked (record (one_bunch 1) { limit = 2 }) (map (λ l. l.move) lines)

left_at_node_0 :
    left_at 1 (at_the_end.nodes 0)
    ≡ record {
      counts = record { clock = 10; made = 1; segments = 2; issued = 0 ∷ []; taken = 0 ∷ []; tables = 1 ∷ [] };
      registers = replicate 16 val.Null;
      entries = (1, owned 0 32 (field.Int (pos 6) ∷ replicate 31 field.Null) []) ∷ [];
      places = (1, lies 0x200000000 1) ∷ [];
      records = [];
      stubs = [];
      scions = [];
      mapped =
          0x100000000
          ∷ 0x200000000
          ∷ [];
      headers =
          (0x100000000, went 1 32 0x200000000)
          ∷ (0x200000000, lives 1 32 1)
          ∷ [];
    }
left_at_node_0 = refl
