-- An object to which only an object of another bunch refers is kept by a scion; a sweep then drops the segment that it left.
use Rattle.std.specs.Prelude.{◌≡◌, pos, List, [], ◌∷◌, map, replicate, Some, None, refl}
use Rattle.bmx_types.specs.declared.values.Val.TheVariants as val
use Rattle.bmx_types.specs.declared.commands.Operand.TheVariants as operand
use Rattle.bmx_types.specs.declared.commands.Command.TheVariants as command
use Rattle.bmx_clean.specs.declared.cleaner.Applied.TheVariants.{Removed}
use Rattle.bmx_protocol.specs.declared.inputs.NodeAnswer.TheVariants as answer
use Rattle.bmx_protocol.specs.declared.views.ViewField.TheVariants as field
use Rattle.bmx_protocol.specs.Cases.{Do}
use Rattle.bmx_collection.specs.Steps.{Collect, Sweep, MakeTable, Forgot, Swept, Cleaned, Nil}
use Rattle.bmx_collection.specs.Playing.{Of, By, Takes, NodeSays, CollectorSays, LinkedLine, by, IsSaidOf, LinkedPlay, played_linked}
use Rattle.bmx_collection.specs.Cases.Stores.{two_bunches, pair, table, owned, lies, lives, went, left_at}

-- what comes next, and what is to be said of it
abbrev pub lines : List LinkedLine
lines =
    by (Of (Do 0 (command.New 0 1 1))) (NodeSays 1 answer.Nil [])
    ∷ by (Of (Do 0 (command.Write (operand.Register 0)))) (NodeSays 2 answer.Nil [])
    ∷ by (Of (Do 0 (command.Set (operand.Register 0) 0 (operand.Int (pos 9))))) (NodeSays 3 answer.Nil [])
    ∷ by (Of (Do 0 (command.Done (operand.Register 0)))) (NodeSays 4 answer.Nil [])
    ∷ by (Of (Do 0 (command.Write (operand.Anchor 0)))) (NodeSays 5 answer.Nil [])
    ∷ by (Of (Do 0 (command.Set (operand.Anchor 0) 0 (operand.Register 0)))) (NodeSays 6 answer.Nil [])
    ∷ by (Of (Do 0 (command.Done (operand.Anchor 0)))) (NodeSays 7 answer.Nil [])
    ∷ by (Of (Do 0 (command.Drop 0))) (NodeSays 8 answer.Nil [])
    ∷ by (By 0 (Collect 1)) (CollectorSays 9 (Forgot 0) None)
    ∷ by (By 0 (MakeTable 1 0)) (CollectorSays 10 Nil (Some (table 0 0 1 10 1 0 0 10 [] [])))
    ∷ by (By 0 (Collect 0)) (CollectorSays 11 (Forgot 0) None)
    ∷ by (Of (Do 0 (command.Read (operand.Anchor 0)))) (NodeSays 12 answer.Nil [])
    ∷ by (Takes 0 0) (CollectorSays 13 (Cleaned (Removed 0)) None)
    ∷ by (Of (Do 0 (command.Get 1 (operand.Anchor 0) 0))) (NodeSays 14 (answer.Value (val.Ref 3)) [])
    ∷ by (Of (Do 0 (command.Done (operand.Anchor 0)))) (NodeSays 15 answer.Nil [])
    ∷ by (By 0 (MakeTable 0 0)) (CollectorSays 16 Nil (Some (table 0 0 2 16 0 0 0 16 [] (pair 1 3 ∷ []))))
    ∷ by (Takes 0 1) (CollectorSays 17 (Cleaned (Removed 0)) None)
    ∷ by (Of (Do 0 (command.Read (operand.Register 1)))) (NodeSays 18 answer.Nil [])
    ∷ by (Of (Do 0 (command.Show (operand.Register 1) 0))) (NodeSays 19 (answer.Value (val.Int (pos 9))) [])
    ∷ by (Of (Do 0 (command.Done (operand.Register 1)))) (NodeSays 20 answer.Nil [])
    ∷ by (Of (Do 0 (command.Drop 1))) (NodeSays 21 answer.Nil [])
    ∷ by (Of (Do 0 (command.Write (operand.Anchor 0)))) (NodeSays 22 answer.Nil [])
    ∷ by (Of (Do 0 (command.Set (operand.Anchor 0) 0 operand.Null))) (NodeSays 23 answer.Nil [])
    ∷ by (Of (Do 0 (command.Done (operand.Anchor 0)))) (NodeSays 24 answer.Nil [])
    ∷ by (By 0 (Collect 1)) (CollectorSays 25 (Forgot 0) None)
    ∷ by (By 0 (MakeTable 1 0)) (CollectorSays 26 Nil (Some (table 0 0 3 26 1 0 0 26 [] [])))
    ∷ by (Takes 0 2) (CollectorSays 27 (Cleaned (Removed 0)) None)
    ∷ by (By 0 Sweep) (CollectorSays 28 (Swept 1) None)
    ∷ []

between_bunches : IsSaidOf (two_bunches 1) lines
between_bunches = refl

-- the nodes at the end, and all that each of them has then
abbrev pub at_the_end : LinkedPlay
at_the_end = played_linked (two_bunches 1) (map (λ l. l.move) lines)

left_at_node_0 :
    left_at 1 (at_the_end.nodes 0)
    ≡ record {
      counts = record { clock = 28; made = 3; segments = 5; issued = 0 ∷ []; taken = 0 ∷ []; tables = 3 ∷ [] };
      registers = replicate 16 val.Null;
      entries =
          (1, owned 0 32 (replicate 32 field.Null) [])
          ∷ (2, owned 1 32 (replicate 32 field.Null) [])
          ∷ (3, owned 1 1 (field.Int (pos 9) ∷ []) [])
          ∷ [];
      places =
          (1, lies 0x400000000 1)
          ∷ (2, lies 0x500000000 2)
          ∷ (3, lies 0x500000024 2)
          ∷ [];
      records = [];
      stubs = record { source = 1; bunch = 0; target = 3 } ∷ [];
      scions = record { target = 3; source = 1; bunch = 0; clock = 6 } ∷ [];
      mapped =
          0x100000000
          ∷ 0x200000000
          ∷ 0x400000000
          ∷ 0x500000000
          ∷ [];
      headers =
          (0x100000000, went 1 32 0x400000000)
          ∷ (0x200000000, went 2 32 0x300000000)
          ∷ (0x200000024, went 3 1 0x300000024)
          ∷ (0x400000000, lives 1 32 1)
          ∷ (0x500000000, lives 2 32 2)
          ∷ (0x500000024, lives 3 1 2)
          ∷ [];
    }
left_at_node_0 = refl
