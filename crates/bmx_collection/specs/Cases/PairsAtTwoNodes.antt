-- The object that refers to another bunch goes to node 1 and back: each receiver makes its own pair, and its own table ends it.
use Rattle.std.specs.Prelude.{◌≡◌, pos, List, [], ◌∷◌, map, replicate, Some, None, refl}
use Rattle.bmx_types.specs.declared.values.Val.TheVariants as val
use Rattle.bmx_types.specs.declared.commands.Operand.TheVariants as operand
use Rattle.bmx_types.specs.declared.commands.Command.TheVariants as command
use Rattle.bmx_msg.specs.declared.letters.Field.TheVariants as msg_field
use Rattle.bmx_msg.specs.declared.letters.Msg.TheVariants as msg
use Rattle.bmx_clean.specs.declared.cleaner.Applied.TheVariants.{Removed}
use Rattle.bmx_protocol.specs.declared.inputs.NodeAnswer.TheVariants as answer
use Rattle.bmx_protocol.specs.declared.views.ViewField.TheVariants as field
use Rattle.bmx_protocol.specs.Cases.{Do, Serve, Next}
use Rattle.bmx_collection.specs.Steps.{Collect, Sweep, MakeTable, Forgot, Swept, Cleaned, Nil}
use Rattle.bmx_collection.specs.Playing.{Of, By, Takes, NodeSays, CollectorSays, LinkedLine, by, IsSaidOf, LinkedPlay, played_linked}
use Rattle.bmx_collection.specs.Cases.Stores.{two_bunches, object, letter, pair, table, owned, asked_of, recorded, lies, lives, went, left_at}

-- what comes next, and what is to be said of it
abbrev pub lines : List LinkedLine
lines =
    by (Of (Do 0 (command.New 0 1 1))) (NodeSays 1 answer.Nil [])
    ∷ by (Of (Do 0 (command.Write (operand.Register 0)))) (NodeSays 2 answer.Nil [])
    ∷ by (Of (Do 0 (command.Set (operand.Register 0) 0 (operand.Int (pos 9))))) (NodeSays 3 answer.Nil [])
    ∷ by (Of (Do 0 (command.Done (operand.Register 0)))) (NodeSays 4 answer.Nil [])
    ∷ by (Of (Do 0 (command.Write (operand.Anchor 0)))) (NodeSays 5 answer.Nil [])
    ∷ by (Of (Do 0 (command.Set (operand.Anchor 0) 0 (operand.Register 0)))) (NodeSays 6 answer.Nil [])
    ∷ by (Of (Do 0 (command.Done (operand.Anchor 0)))) (NodeSays 7 answer.Nil [])
    ∷ by (Of (Do 0 (command.Drop 0))) (NodeSays 8 answer.Nil [])
    ∷ by (Of (Do 1 (command.Write (operand.Anchor 0)))) (NodeSays 1 answer.Wait (letter 0 1 1 (msg.WriteReq 1 1) ∷ []))
    ∷ by (Of (Next 1 0)) (NodeSays 9 answer.Nil [])
    ∷ by (Of (Serve 0 1)) (NodeSays 10 answer.Nil (letter 1 1 10 (msg.WriteGrant (object 1 0 32 0x100000000 0) (msg_field.Ref (object 3 1 1 0x200000024 0) ∷ replicate 31 msg_field.Null)) ∷ []))
    ∷ by (Of (Next 0 1)) (NodeSays 11 answer.Nil [])
    ∷ by (Of (Do 1 (command.Write (operand.Anchor 0)))) (NodeSays 12 answer.Nil [])
    ∷ by (Of (Do 1 (command.Set (operand.Anchor 0) 1 (operand.Int (pos 1))))) (NodeSays 13 answer.Nil [])
    ∷ by (Of (Do 1 (command.Done (operand.Anchor 0)))) (NodeSays 14 answer.Nil [])
    ∷ by (Of (Do 0 (command.Write (operand.Anchor 0)))) (NodeSays 11 answer.Wait (letter 1 2 11 (msg.WriteReq 1 0) ∷ []))
    ∷ by (Of (Next 0 1)) (NodeSays 15 answer.Nil [])
    ∷ by (Of (Serve 1 1)) (NodeSays 16 answer.Nil (letter 0 2 16 (msg.WriteGrant (object 1 0 32 0x100000000 0) (msg_field.Ref (object 3 1 1 0x200000024 0) ∷ msg_field.Int (pos 1) ∷ replicate 30 msg_field.Null)) ∷ []))
    ∷ by (Of (Next 1 0)) (NodeSays 17 answer.Nil [])
    ∷ by (Of (Do 0 (command.Write (operand.Anchor 0)))) (NodeSays 18 answer.Nil [])
    ∷ by (Of (Do 0 (command.Set (operand.Anchor 0) 2 (operand.Int (pos 2))))) (NodeSays 19 answer.Nil [])
    ∷ by (Of (Do 0 (command.Get 1 (operand.Anchor 0) 0))) (NodeSays 20 (answer.Value (val.Ref 3)) [])
    ∷ by (Of (Do 0 (command.Done (operand.Anchor 0)))) (NodeSays 21 answer.Nil [])
    ∷ by (Of (Do 0 (command.Read (operand.Register 1)))) (NodeSays 22 answer.Nil [])
    ∷ by (Of (Do 0 (command.Show (operand.Register 1) 0))) (NodeSays 23 (answer.Value (val.Int (pos 9))) [])
    ∷ by (Of (Do 0 (command.Done (operand.Register 1)))) (NodeSays 24 answer.Nil [])
    ∷ by (Of (Do 0 (command.Drop 1))) (NodeSays 25 answer.Nil [])
    ∷ by (By 0 (Collect 0)) (CollectorSays 26 (Forgot 0) None)
    ∷ by (By 0 (MakeTable 0 0)) (CollectorSays 27 Nil (Some (table 0 0 1 27 0 0 0 22 [] (pair 1 3 ∷ []))))
    ∷ by (Takes 0 0) (CollectorSays 28 (Cleaned (Removed 0)) None)
    ∷ by (Of (Do 0 (command.Write (operand.Anchor 0)))) (NodeSays 29 answer.Nil [])
    ∷ by (By 0 (MakeTable 0 1)) (CollectorSays 30 Nil (Some (table 0 1 1 30 0 2 2 25 [] [])))
    ∷ by (By 0 (Collect 1)) (CollectorSays 31 (Forgot 0) None)
    ∷ by (By 1 (Collect 0)) (CollectorSays 17 (Forgot 0) None)
    ∷ by (Of (Do 0 (command.Set (operand.Anchor 0) 0 operand.Null))) (NodeSays 32 answer.Nil [])
    ∷ by (By 0 (MakeTable 1 0)) (CollectorSays 33 Nil (Some (table 0 0 2 33 1 0 0 28 [] [])))
    ∷ by (By 1 (MakeTable 0 0)) (CollectorSays 18 Nil (Some (table 1 0 1 18 0 2 2 9 (1 ∷ []) [])))
    ∷ by (Takes 0 2) (CollectorSays 34 (Cleaned (Removed 0)) None)
    ∷ by (By 1 (MakeTable 0 1)) (CollectorSays 19 Nil (Some (table 1 1 1 19 0 0 0 10 [] [])))
    ∷ by (Takes 1 1) (CollectorSays 31 (Cleaned (Removed 1)) None)
    ∷ by (Takes 1 4) (CollectorSays 32 (Cleaned (Removed 1)) None)
    ∷ by (Takes 0 3) (CollectorSays 35 (Cleaned (Removed 0)) None)
    ∷ by (Of (Do 0 (command.Done (operand.Anchor 0)))) (NodeSays 36 answer.Nil [])
    ∷ by (By 1 (Collect 1)) (CollectorSays 33 (Forgot 0) None)
    ∷ by (By 0 (MakeTable 1 1)) (CollectorSays 37 Nil (Some (table 0 1 2 37 1 2 2 32 [] [])))
    ∷ by (By 1 (MakeTable 1 0)) (CollectorSays 34 Nil (Some (table 1 0 2 34 1 2 2 14 (2 ∷ 3 ∷ []) [])))
    ∷ by (By 1 (MakeTable 1 1)) (CollectorSays 35 Nil (Some (table 1 1 2 35 1 0 0 15 [] [])))
    ∷ by (Takes 1 7) (CollectorSays 36 (Cleaned (Removed 0)) None)
    ∷ by (By 1 Sweep) (CollectorSays 37 (Swept 0) None)
    ∷ by (Takes 1 5) (CollectorSays 38 (Cleaned (Removed 1)) None)
    ∷ by (By 0 Sweep) (CollectorSays 38 (Swept 0) None)
    ∷ []

pairs_at_two_nodes : IsSaidOf (two_bunches 2) lines
pairs_at_two_nodes = refl

-- the nodes at the end, and all that each of them has then
abbrev pub at_the_end : LinkedPlay
at_the_end = played_linked (two_bunches 2) (map (λ l. l.move) lines)

left_at_node_0 :
    left_at 2 (at_the_end.nodes 0)
    ≡ record {
      counts = record { clock = 33; made = 3; segments = 4; issued = 0 ∷ 2 ∷ []; taken = 0 ∷ 2 ∷ []; tables = 2 ∷ 2 ∷ [] };
      registers = replicate 16 val.Null;
      entries =
          (1, owned 0 32 (field.Null ∷ field.Int (pos 1) ∷ field.Int (pos 2) ∷ replicate 29 field.Null) [])
          ∷ (2, owned 1 32 (replicate 32 field.Null) [])
          ∷ (3, owned 1 1 (field.Int (pos 9) ∷ []) [])
          ∷ [];
      places =
          (1, lies 0x300000000 1)
          ∷ (2, lies 0x400000000 1)
          ∷ (3, lies 0x400000024 1)
          ∷ [];
      records =
          recorded 1 0 1 0 2
          ∷ recorded 2 1 1 0 0
          ∷ recorded 3 1 1 1 0
          ∷ [];
      stubs = record { source = 1; bunch = 0; target = 3 } ∷ [];
      scions = record { target = 3; source = 1; bunch = 0; clock = 12 } ∷ [];
      mapped =
          0x100000000
          ∷ 0x200000000
          ∷ 0x300000000
          ∷ 0x400000000
          ∷ [];
      headers =
          (0x100000000, went 1 32 0x300000000)
          ∷ (0x200000000, went 2 32 0x400000000)
          ∷ (0x200000024, went 3 1 0x400000024)
          ∷ (0x300000000, lives 1 32 1)
          ∷ (0x400000000, lives 2 32 1)
          ∷ (0x400000024, lives 3 1 1)
          ∷ [];
    }
left_at_node_0 = refl

left_at_node_1 :
    left_at 2 (at_the_end.nodes 1)
    ≡ record {
      counts = record { clock = 18; made = 0; segments = 0; issued = 2 ∷ 0 ∷ []; taken = 2 ∷ 0 ∷ []; tables = 2 ∷ 2 ∷ [] };
      registers = replicate 16 val.Null;
      entries =
          (1, asked_of 0 0 32 None)
          ∷ (2, asked_of 0 1 32 None)
          ∷ (3, asked_of 0 1 1 None)
          ∷ [];
      places =
          (1, lies 0x100000000 0)
          ∷ (2, lies 0x200000000 0)
          ∷ (3, lies 0x200000024 0)
          ∷ [];
      records = [];
      stubs = [];
      scions = [];
      mapped =
          0x100000000
          ∷ 0x200000000
          ∷ [];
      headers =
          (0x100000000, lives 1 32 0)
          ∷ (0x200000000, lives 2 32 0)
          ∷ (0x200000024, lives 3 1 0)
          ∷ [];
    }
left_at_node_1 = refl
