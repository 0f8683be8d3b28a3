-- No object refers to 0.2 any more, and no register of its owner; node 1 has it in a register, and so a record keeps it.
use Rattle.std.specs.Prelude.{◌≡◌, pos, List, [], ◌∷◌, map, replicate, Some, None, refl}
use Rattle.bmx_types.specs.declared.values.Val.TheVariants as val
use Rattle.bmx_types.specs.declared.commands.Operand.TheVariants as operand
use Rattle.bmx_types.specs.declared.commands.Command.TheVariants as command
use Rattle.bmx_msg.specs.declared.letters.Field.TheVariants as msg_field
use Rattle.bmx_msg.specs.declared.letters.Msg.TheVariants as msg
use Rattle.bmx_clean.specs.declared.cleaner.Applied.TheVariants.{Removed}
use Rattle.bmx_protocol.specs.declared.inputs.NodeAnswer.TheVariants as answer
use Rattle.bmx_protocol.specs.declared.views.ViewField.TheVariants as field
use Rattle.bmx_protocol.specs.Cases.{Do, Serve, Next, one_bunch}
use Rattle.bmx_collection.specs.Steps.{Collect, MakeTable, Forgot, Cleaned, Nil}
use Rattle.bmx_collection.specs.Playing.{Of, By, Takes, NodeSays, CollectorSays, LinkedLine, by, IsSaidOf, LinkedPlay, played_linked}
use Rattle.bmx_collection.specs.Cases.Stores.{object, letter, table, owned, asked_of, recorded, lies, lives, went, left_at}

-- what comes next, and what is to be said of it
abbrev pub lines : List LinkedLine
lines =
    by (Of (Do 0 (command.New 0 0 1))) (NodeSays 1 answer.Nil [])
    ∷ by (Of (Do 0 (command.Write (operand.Register 0)))) (NodeSays 2 answer.Nil [])
    ∷ by (Of (Do 0 (command.Set (operand.Register 0) 0 (operand.Int (pos 42))))) (NodeSays 3 answer.Nil [])
    ∷ by (Of (Do 0 (command.Done (operand.Register 0)))) (NodeSays 4 answer.Nil [])
    ∷ by (Of (Do 0 (command.Write (operand.Anchor 0)))) (NodeSays 5 answer.Nil [])
    ∷ by (Of (Do 0 (command.Set (operand.Anchor 0) 0 (operand.Register 0)))) (NodeSays 6 answer.Nil [])
    ∷ by (Of (Do 0 (command.Done (operand.Anchor 0)))) (NodeSays 7 answer.Nil [])
    ∷ by (Of (Do 1 (command.Read (operand.Anchor 0)))) (NodeSays 1 answer.Wait (letter 0 1 1 (msg.ReadReq 1 1) ∷ []))
    ∷ by (Of (Next 1 0)) (NodeSays 8 answer.Nil [])
    ∷ by (Of (Serve 0 1)) (NodeSays 9 answer.Nil (letter 1 1 9 (msg.ReadGrant (object 1 0 32 0x100000000 0) (msg_field.Ref (object 2 0 1 0x100000024 0) ∷ replicate 31 msg_field.Null)) ∷ []))
    ∷ by (Of (Next 0 1)) (NodeSays 10 answer.Nil [])
    ∷ by (Of (Do 1 (command.Read (operand.Anchor 0)))) (NodeSays 11 answer.Nil [])
    ∷ by (Of (Do 1 (command.Get 0 (operand.Anchor 0) 0))) (NodeSays 12 (answer.Value (val.Ref 2)) [])
    ∷ by (Of (Do 1 (command.Done (operand.Anchor 0)))) (NodeSays 13 answer.Nil [])
    ∷ by (Of (Do 0 (command.Write (operand.Anchor 0)))) (NodeSays 10 answer.Wait [])
    ∷ by (Of (Serve 0 1)) (NodeSays 11 answer.Nil (letter 1 2 11 (msg.Inval 1) ∷ []))
    ∷ by (Of (Next 0 1)) (NodeSays 14 answer.Nil (letter 0 2 14 (msg.InvAck 1) ∷ []))
    ∷ by (Of (Next 1 0)) (NodeSays 15 answer.Nil [])
    ∷ by (Of (Serve 0 1)) (NodeSays 16 answer.Nil [])
    ∷ by (Of (Do 0 (command.Write (operand.Anchor 0)))) (NodeSays 17 answer.Nil [])
    ∷ by (Of (Do 0 (command.Set (operand.Anchor 0) 0 operand.Null))) (NodeSays 18 answer.Nil [])
    ∷ by (Of (Do 0 (command.Done (operand.Anchor 0)))) (NodeSays 19 answer.Nil [])
    ∷ by (Of (Do 0 (command.Drop 0))) (NodeSays 20 answer.Nil [])
    ∷ by (By 0 (Collect 0)) (CollectorSays 21 (Forgot 0) None)
    ∷ by (By 0 (MakeTable 0 0)) (CollectorSays 22 Nil (Some (table 0 0 1 22 0 0 0 19 [] [])))
    ∷ by (By 0 (MakeTable 0 1)) (CollectorSays 23 Nil (Some (table 0 1 1 23 0 2 2 20 [] [])))
    ∷ by (Of (Do 1 (command.Read (operand.Register 0)))) (NodeSays 15 answer.Wait (letter 0 3 15 (msg.ReadReq 2 1) ∷ []))
    ∷ by (Takes 0 0) (CollectorSays 24 (Cleaned (Removed 0)) None)
    ∷ by (Of (Next 1 0)) (NodeSays 25 answer.Nil [])
    ∷ by (Of (Serve 0 2)) (NodeSays 26 answer.Nil (letter 1 3 26 (msg.ReadGrant (object 2 0 1 0x200000024 1) (msg_field.Int (pos 42) ∷ [])) ∷ []))
    ∷ by (Takes 1 1) (CollectorSays 24 (Cleaned (Removed 0)) None)
    ∷ by (Of (Next 0 1)) (NodeSays 27 answer.Nil [])
    ∷ by (Of (Do 1 (command.Read (operand.Register 0)))) (NodeSays 28 answer.Nil [])
    ∷ by (Of (Do 1 (command.Show (operand.Register 0) 0))) (NodeSays 29 (answer.Value (val.Int (pos 42))) [])
    ∷ by (Of (Do 1 (command.Done (operand.Register 0)))) (NodeSays 30 answer.Nil [])
    ∷ []

pub only_a_register_elsewhere : IsSaidOf (one_bunch 2) lines
only_a_register_elsewhere = refl

-- the nodes at the end, and all that each of them has then
abbrev pub at_the_end : LinkedPlay
at_the_end = played_linked (one_bunch 2) (map (λ l. l.move) lines)

left_at_node_0 :
    left_at 2 (at_the_end.nodes 0)
    ≡ record {
      counts = record { clock = 23; made = 2; segments = 2; issued = 0 ∷ 3 ∷ []; taken = 0 ∷ 3 ∷ []; tables = 1 ∷ 1 ∷ [] };
      registers = replicate 16 val.Null;
      entries =
          (1, owned 0 32 (replicate 32 field.Null) [])
          ∷ (2, owned 0 1 (field.Int (pos 42) ∷ []) (1 ∷ []))
          ∷ [];
      places =
          (1, lies 0x200000000 1)
          ∷ (2, lies 0x200000024 1)
          ∷ [];
      records =
          recorded 1 0 1 1 0
          ∷ recorded 2 0 1 3 0
          ∷ [];
      stubs = [];
      scions = [];
      mapped =
          0x100000000
          ∷ 0x200000000
          ∷ [];
      headers =
          (0x100000000, went 1 32 0x200000000)
          ∷ (0x100000024, went 2 1 0x200000024)
          ∷ (0x200000000, lives 1 32 1)
          ∷ (0x200000024, lives 2 1 1)
          ∷ [];
    }
left_at_node_0 = refl

left_at_node_1 :
    left_at 2 (at_the_end.nodes 1)
    ≡ record {
      counts = record { clock = 12; made = 0; segments = 0; issued = 3 ∷ 0 ∷ []; taken = 3 ∷ 0 ∷ []; tables = 0 ∷ 0 ∷ [] };
      registers = val.Ref 2 ∷ replicate 15 val.Null;
      entries =
          (1, asked_of 0 0 32 None)
          ∷ (2, asked_of 0 0 1 (Some (field.Int (pos 42) ∷ [])))
          ∷ [];
      places =
          (1, lies 0x100000000 0)
          ∷ (2, lies 0x200000024 1)
          ∷ [];
      records = [];
      stubs = [];
      scions = [];
      mapped =
          0x100000000
          ∷ 0x200000000
          ∷ [];
      headers =
          (0x100000000, lives 1 32 0)
          ∷ (0x100000024, went 2 1 0x200000024)
          ∷ (0x200000024, lives 2 1 1)
          ∷ [];
    }
left_at_node_1 = refl
