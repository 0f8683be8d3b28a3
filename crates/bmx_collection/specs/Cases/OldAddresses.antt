-- Node 1 has 0.2 in a register while its owner collects twice: old addresses still mean it, and each letter brings new ones.
use Rattle.std.specs.Prelude.{◌≡◌, pos, List, [], ◌∷◌, map, replicate, Some, None, refl}
use Rattle.bmx_types.specs.declared.values.Val.TheVariants as val
use Rattle.bmx_types.specs.declared.commands.Operand.TheVariants as operand
use Rattle.bmx_types.specs.declared.commands.Command.TheVariants as command
use Rattle.bmx_msg.specs.declared.letters.Field.TheVariants as msg_field
use Rattle.bmx_msg.specs.declared.letters.Msg.TheVariants as msg
use Rattle.bmx_clean.specs.declared.cleaner.Applied.TheVariants.{Removed}
use Rattle.bmx_protocol.specs.declared.inputs.NodeAnswer.TheVariants as answer
use Rattle.bmx_protocol.specs.declared.views.ViewField.TheVariants as field
use Rattle.bmx_protocol.specs.Cases.{Do, Serve, Next, one_bunch}
use Rattle.bmx_collection.specs.Steps.{Collect, MakeTable, Forgot, Cleaned, Nil}
use Rattle.bmx_collection.specs.Playing.{Of, By, Takes, NodeSays, CollectorSays, LinkedLine, by, IsSaidOf, LinkedPlay, played_linked}
use Rattle.bmx_collection.specs.Cases.Stores.{object, letter, table, owned, asked_of, recorded, lies, lives, went, left_at}

-- what comes next, and what is to be said of it
abbrev pub lines : List LinkedLine
lines =
    by (Of (Do 0 (command.New 0 0 1))) (NodeSays 1 answer.Nil [])
    ∷ by (Of (Do 0 (command.Write (operand.Register 0)))) (NodeSays 2 answer.Nil [])
    ∷ by (Of (Do 0 (command.Set (operand.Register 0) 0 (operand.Int (pos 42))))) (NodeSays 3 answer.Nil [])
    ∷ by (Of (Do 0 (command.Done (operand.Register 0)))) (NodeSays 4 answer.Nil [])
    ∷ by (Of (Do 0 (command.Write (operand.Anchor 0)))) (NodeSays 5 answer.Nil [])
    ∷ by (Of (Do 0 (command.Set (operand.Anchor 0) 0 (operand.Register 0)))) (NodeSays 6 answer.Nil [])
    ∷ by (Of (Do 0 (command.Done (operand.Anchor 0)))) (NodeSays 7 answer.Nil [])
    ∷ by (Of (Do 1 (command.Read (operand.Anchor 0)))) (NodeSays 1 answer.Wait (letter 0 1 1 (msg.ReadReq 1 1) ∷ []))
    ∷ by (Of (Next 1 0)) (NodeSays 8 answer.Nil [])
    ∷ by (Of (Serve 0 1)) (NodeSays 9 answer.Nil (letter 1 1 9 (msg.ReadGrant (object 1 0 32 0x100000000 0) (msg_field.Ref (object 2 0 1 0x100000024 0) ∷ replicate 31 msg_field.Null)) ∷ []))
    ∷ by (Of (Next 0 1)) (NodeSays 10 answer.Nil [])
    ∷ by (Of (Do 1 (command.Read (operand.Anchor 0)))) (NodeSays 11 answer.Nil [])
    ∷ by (Of (Do 1 (command.Get 0 (operand.Anchor 0) 0))) (NodeSays 12 (answer.Value (val.Ref 2)) [])
    ∷ by (Of (Do 1 (command.Done (operand.Anchor 0)))) (NodeSays 13 answer.Nil [])
    ∷ by (By 0 (Collect 0)) (CollectorSays 10 (Forgot 0) None)
    ∷ by (By 0 (MakeTable 0 0)) (CollectorSays 11 Nil (Some (table 0 0 1 11 0 0 0 11 [] [])))
    ∷ by (Takes 0 0) (CollectorSays 12 (Cleaned (Removed 0)) None)
    ∷ by (By 0 (MakeTable 0 1)) (CollectorSays 13 Nil (Some (table 0 1 1 13 0 1 1 13 [] [])))
    ∷ by (Takes 1 1) (CollectorSays 14 (Cleaned (Removed 0)) None)
    ∷ by (By 0 (Collect 0)) (CollectorSays 14 (Forgot 0) None)
    ∷ by (By 0 (MakeTable 0 0)) (CollectorSays 15 Nil (Some (table 0 0 2 15 0 0 0 15 [] [])))
    ∷ by (By 0 (MakeTable 0 1)) (CollectorSays 16 Nil (Some (table 0 1 2 16 0 1 1 16 [] [])))
    ∷ by (Of (Do 0 (command.Write (operand.Anchor 0)))) (NodeSays 17 answer.Wait [])
    ∷ by (Of (Serve 0 1)) (NodeSays 18 answer.Nil (letter 1 2 18 (msg.Inval 1) ∷ []))
    ∷ by (Takes 1 3) (CollectorSays 17 (Cleaned (Removed 0)) None)
    ∷ by (Takes 0 2) (CollectorSays 19 (Cleaned (Removed 0)) None)
    ∷ by (Of (Next 0 1)) (NodeSays 19 answer.Nil (letter 0 2 19 (msg.InvAck 1) ∷ []))
    ∷ by (Of (Next 1 0)) (NodeSays 20 answer.Nil [])
    ∷ by (Of (Serve 0 1)) (NodeSays 21 answer.Nil [])
    ∷ by (Of (Do 0 (command.Write (operand.Anchor 0)))) (NodeSays 22 answer.Nil [])
    ∷ by (Of (Do 0 (command.Set (operand.Anchor 0) 1 (operand.Register 0)))) (NodeSays 23 answer.Nil [])
    ∷ by (Of (Do 0 (command.Done (operand.Anchor 0)))) (NodeSays 24 answer.Nil [])
    ∷ by (Of (Do 1 (command.Read (operand.Anchor 0)))) (NodeSays 20 answer.Wait (letter 0 3 20 (msg.ReadReq 1 1) ∷ []))
    ∷ by (Of (Next 1 0)) (NodeSays 25 answer.Nil [])
    ∷ by (Of (Serve 0 1)) (NodeSays 26 answer.Nil (letter 1 3 26 (msg.ReadGrant (object 1 0 32 0x300000000 2) (msg_field.Ref (object 2 0 1 0x300000024 2) ∷ msg_field.Ref (object 2 0 1 0x300000024 2) ∷ replicate 30 msg_field.Null)) ∷ []))
    ∷ by (Of (Next 0 1)) (NodeSays 27 answer.Nil [])
    ∷ by (Of (Do 1 (command.Read (operand.Anchor 0)))) (NodeSays 28 answer.Nil [])
    ∷ by (Of (Do 1 (command.Get 1 (operand.Anchor 0) 1))) (NodeSays 29 (answer.Value (val.Ref 2)) [])
    ∷ by (Of (Do 1 (command.Done (operand.Anchor 0)))) (NodeSays 30 answer.Nil [])
    ∷ by (Of (Do 1 (command.Same (operand.Register 0) (operand.Register 1)))) (NodeSays 31 answer.Yes [])
    ∷ by (Of (Do 1 (command.Read (operand.Register 1)))) (NodeSays 32 answer.Wait (letter 0 4 32 (msg.ReadReq 2 1) ∷ []))
    ∷ by (Of (Next 1 0)) (NodeSays 33 answer.Nil [])
    ∷ by (Of (Serve 0 2)) (NodeSays 34 answer.Nil (letter 1 4 34 (msg.ReadGrant (object 2 0 1 0x300000024 2) (msg_field.Int (pos 42) ∷ [])) ∷ []))
    ∷ by (Of (Next 0 1)) (NodeSays 35 answer.Nil [])
    ∷ by (Of (Do 1 (command.Read (operand.Register 1)))) (NodeSays 36 answer.Nil [])
    ∷ by (Of (Do 1 (command.Show (operand.Register 1) 0))) (NodeSays 37 (answer.Value (val.Int (pos 42))) [])
    ∷ by (Of (Do 1 (command.Done (operand.Register 1)))) (NodeSays 38 answer.Nil [])
    ∷ []

old_addresses : IsSaidOf (one_bunch 2) lines
old_addresses = refl

-- the nodes at the end, and all that each of them has then
abbrev pub at_the_end : LinkedPlay
at_the_end = played_linked (one_bunch 2) (map (λ l. l.move) lines)

left_at_node_0 :
    left_at 2 (at_the_end.nodes 0)
    ≡ record {
      counts = record { clock = 28; made = 2; segments = 3; issued = 0 ∷ 4 ∷ []; taken = 0 ∷ 4 ∷ []; tables = 2 ∷ 2 ∷ [] };
      registers = val.Ref 2 ∷ replicate 15 val.Null;
      entries =
          (1, owned 0 32 (field.Ref 2 ∷ field.Ref 2 ∷ replicate 30 field.Null) (1 ∷ []))
          ∷ (2, owned 0 1 (field.Int (pos 42) ∷ []) (1 ∷ []))
          ∷ [];
      places =
          (1, lies 0x300000000 2)
          ∷ (2, lies 0x300000024 2)
          ∷ [];
      records =
          recorded 1 0 1 3 0
          ∷ recorded 2 0 1 4 0
          ∷ [];
      stubs = [];
      scions = [];
      mapped =
          0x100000000
          ∷ 0x200000000
          ∷ 0x300000000
          ∷ [];
      headers =
          (0x100000000, went 1 32 0x200000000)
          ∷ (0x100000024, went 2 1 0x200000024)
          ∷ (0x200000000, went 1 32 0x300000000)
          ∷ (0x200000024, went 2 1 0x300000024)
          ∷ (0x300000000, lives 1 32 2)
          ∷ (0x300000024, lives 2 1 2)
          ∷ [];
    }
left_at_node_0 = refl

left_at_node_1 :
    left_at 2 (at_the_end.nodes 1)
    ≡ record {
      counts = record { clock = 19; made = 0; segments = 0; issued = 4 ∷ 0 ∷ []; taken = 4 ∷ 0 ∷ []; tables = 0 ∷ 0 ∷ [] };
      registers = val.Ref 2 ∷ val.Ref 2 ∷ replicate 14 val.Null;
      entries =
          (1, asked_of 0 0 32 (Some (field.Ref 2 ∷ field.Ref 2 ∷ replicate 30 field.Null)))
          ∷ (2, asked_of 0 0 1 (Some (field.Int (pos 42) ∷ [])))
          ∷ [];
      places =
          (1, lies 0x300000000 2)
          ∷ (2, lies 0x300000024 2)
          ∷ [];
      records = [];
      stubs = [];
      scions = [];
      mapped =
          0x100000000
          ∷ 0x300000000
          ∷ [];
      headers =
          (0x100000000, went 1 32 0x300000000)
          ∷ (0x100000024, went 2 1 0x300000024)
          ∷ (0x300000000, lives 1 32 2)
          ∷ (0x300000024, lives 2 1 2)
          ∷ [];
    }
left_at_node_1 = refl
