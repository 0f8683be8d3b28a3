-- A table that node 1 made before it heard of 0.2 again comes late: it ends no record, and a collection keeps 0.2.
use Rattle.std.specs.Prelude.{◌≡◌, ℕ, pos, Bool, true, false, List, [], ◌∷◌, map, take, replicate, Some, None, refl}
use Rattle.bmx_types.specs.declared.values.Val.TheVariants as val
use Rattle.bmx_types.specs.declared.commands.Operand.TheVariants as operand
use Rattle.bmx_types.specs.declared.commands.Command.TheVariants as command
use Rattle.bmx_msg.specs.declared.letters.Field.TheVariants as msg_field
use Rattle.bmx_msg.specs.declared.letters.Msg.TheVariants as msg
use Rattle.bmx_clean.specs.declared.cleaner.Applied.TheVariants.{Removed}
use Rattle.bmx_protocol.specs.declared.inputs.NodeAnswer.TheVariants as answer
use Rattle.bmx_protocol.specs.declared.views.ViewField.TheVariants as field
use Rattle.bmx_clean.specs.Cleaning.{ends_record}
use Rattle.bmx_protocol.specs.Cases.{Do, Serve, Next, one_bunch}
use Rattle.bmx_collection.specs.Steps.{Collect, MakeTable, Forgot, Cleaned, Nil}
use Rattle.bmx_collection.specs.Histories.{tables_made}
use Rattle.bmx_collection.specs.Playing.{Of, By, Takes, NodeSays, CollectorSays, LinkedLine, by, IsSaidOf, LinkedPlay, played_linked}
use Rattle.bmx_collection.specs.Cases.Stores.{object, letter, table, owned, asked_of, recorded, lies, lives, went, left_at}

-- what comes next, and what is to be said of it
abbrev pub lines : List LinkedLine
lines =
    by (Of (Do 0 (command.New 0 0 1))) (NodeSays 1 answer.Nil [])
    ∷ by (Of (Do 0 (command.Write (operand.Register 0)))) (NodeSays 2 answer.Nil [])
    ∷ by (Of (Do 0 (command.Set (operand.Register 0) 0 (operand.Int (pos 7))))) (NodeSays 3 answer.Nil [])
    ∷ by (Of (Do 0 (command.Done (operand.Register 0)))) (NodeSays 4 answer.Nil [])
    ∷ by (Of (Do 0 (command.Write (operand.Anchor 0)))) (NodeSays 5 answer.Nil [])
    ∷ by (Of (Do 0 (command.Set (operand.Anchor 0) 0 (operand.Register 0)))) (NodeSays 6 answer.Nil [])
    ∷ by (Of (Do 0 (command.Done (operand.Anchor 0)))) (NodeSays 7 answer.Nil [])
    ∷ by (Of (Do 1 (command.Read (operand.Anchor 0)))) (NodeSays 1 answer.Wait (letter 0 1 1 (msg.ReadReq 1 1) ∷ []))
    ∷ by (Of (Next 1 0)) (NodeSays 8 answer.Nil [])
    ∷ by (Of (Serve 0 1)) (NodeSays 9 answer.Nil (letter 1 1 9 (msg.ReadGrant (object 1 0 32 0x100000000 0) (msg_field.Ref (object 2 0 1 0x100000024 0) ∷ replicate 31 msg_field.Null)) ∷ []))
    ∷ by (Of (Next 0 1)) (NodeSays 10 answer.Nil [])
    ∷ by (Of (Do 1 (command.Read (operand.Anchor 0)))) (NodeSays 11 answer.Nil [])
    ∷ by (Of (Do 1 (command.Get 0 (operand.Anchor 0) 0))) (NodeSays 12 (answer.Value (val.Ref 2)) [])
    ∷ by (Of (Do 1 (command.Done (operand.Anchor 0)))) (NodeSays 13 answer.Nil [])
    ∷ by (Of (Do 0 (command.Write (operand.Anchor 0)))) (NodeSays 10 answer.Wait [])
    ∷ by (Of (Do 1 (command.Drop 0))) (NodeSays 14 answer.Nil [])
    ∷ by (Of (Serve 0 1)) (NodeSays 11 answer.Nil (letter 1 2 11 (msg.Inval 1) ∷ []))
    ∷ by (Of (Next 0 1)) (NodeSays 15 answer.Nil (letter 0 2 15 (msg.InvAck 1) ∷ []))
    ∷ by (Of (Next 1 0)) (NodeSays 16 answer.Nil [])
    ∷ by (Of (Serve 0 1)) (NodeSays 17 answer.Nil [])
    ∷ by (Of (Do 0 (command.Write (operand.Anchor 0)))) (NodeSays 18 answer.Nil [])
    ∷ by (Of (Do 0 (command.Set (operand.Anchor 0) 0 operand.Null))) (NodeSays 19 answer.Nil [])
    ∷ by (Of (Do 0 (command.Done (operand.Anchor 0)))) (NodeSays 20 answer.Nil [])
    ∷ by (By 1 (Collect 0)) (CollectorSays 16 (Forgot 1) None)
    ∷ by (By 1 (MakeTable 0 0)) (CollectorSays 17 Nil (Some (table 1 0 1 17 0 2 2 9 (1 ∷ []) [])))
    ∷ by (By 1 (MakeTable 0 1)) (CollectorSays 18 Nil (Some (table 1 1 1 18 0 0 0 10 [] [])))
    ∷ by (Takes 1 1) (CollectorSays 19 (Cleaned (Removed 0)) None)
    ∷ by (Of (Do 0 (command.Write (operand.Anchor 0)))) (NodeSays 21 answer.Nil [])
    ∷ by (Of (Do 0 (command.Set (operand.Anchor 0) 0 (operand.Register 0)))) (NodeSays 22 answer.Nil [])
    ∷ by (Of (Do 0 (command.Done (operand.Anchor 0)))) (NodeSays 23 answer.Nil [])
    ∷ by (Of (Do 1 (command.Read (operand.Anchor 0)))) (NodeSays 20 answer.Wait (letter 0 3 20 (msg.ReadReq 1 1) ∷ []))
    ∷ by (Of (Next 1 0)) (NodeSays 24 answer.Nil [])
    ∷ by (Of (Serve 0 1)) (NodeSays 25 answer.Nil (letter 1 3 25 (msg.ReadGrant (object 1 0 32 0x100000000 0) (msg_field.Ref (object 2 0 1 0x100000024 0) ∷ replicate 31 msg_field.Null)) ∷ []))
    ∷ by (Of (Next 0 1)) (NodeSays 26 answer.Nil [])
    ∷ by (Of (Do 1 (command.Read (operand.Anchor 0)))) (NodeSays 27 answer.Nil [])
    ∷ by (Of (Do 1 (command.Get 0 (operand.Anchor 0) 0))) (NodeSays 28 (answer.Value (val.Ref 2)) [])
    ∷ by (Of (Do 1 (command.Done (operand.Anchor 0)))) (NodeSays 29 answer.Nil [])
    ∷ by (Of (Do 0 (command.Write (operand.Anchor 0)))) (NodeSays 26 answer.Wait [])
    ∷ by (Of (Serve 0 1)) (NodeSays 27 answer.Nil (letter 1 4 27 (msg.Inval 1) ∷ []))
    ∷ by (Of (Next 0 1)) (NodeSays 30 answer.Nil (letter 0 4 30 (msg.InvAck 1) ∷ []))
    ∷ by (Of (Next 1 0)) (NodeSays 31 answer.Nil [])
    ∷ by (Of (Serve 0 1)) (NodeSays 32 answer.Nil [])
    ∷ by (Of (Do 0 (command.Write (operand.Anchor 0)))) (NodeSays 33 answer.Nil [])
    ∷ by (Of (Do 0 (command.Set (operand.Anchor 0) 0 operand.Null))) (NodeSays 34 answer.Nil [])
    ∷ by (Of (Do 0 (command.Done (operand.Anchor 0)))) (NodeSays 35 answer.Nil [])
    ∷ by (Of (Do 0 (command.Drop 0))) (NodeSays 36 answer.Nil [])
    ∷ by (Takes 0 0) (CollectorSays 37 (Cleaned (Removed 0)) None)
    ∷ by (By 0 (Collect 0)) (CollectorSays 38 (Forgot 0) None)
    ∷ by (By 0 (MakeTable 0 0)) (CollectorSays 39 Nil (Some (table 0 0 1 39 0 0 0 32 [] [])))
    ∷ by (By 0 (MakeTable 0 1)) (CollectorSays 40 Nil (Some (table 0 1 1 40 0 4 4 33 [] [])))
    ∷ by (Of (Do 1 (command.Read (operand.Register 0)))) (NodeSays 31 answer.Wait (letter 0 5 31 (msg.ReadReq 2 1) ∷ []))
    ∷ by (Takes 1 3) (CollectorSays 41 (Cleaned (Removed 0)) None)
    ∷ by (Of (Next 1 0)) (NodeSays 41 answer.Nil [])
    ∷ by (Takes 0 2) (CollectorSays 42 (Cleaned (Removed 0)) None)
    ∷ by (Of (Serve 0 2)) (NodeSays 43 answer.Nil (letter 1 5 43 (msg.ReadGrant (object 2 0 1 0x200000024 1) (msg_field.Int (pos 7) ∷ [])) ∷ []))
    ∷ by (Of (Next 0 1)) (NodeSays 44 answer.Nil [])
    ∷ by (Of (Do 1 (command.Read (operand.Register 0)))) (NodeSays 45 answer.Nil [])
    ∷ by (Of (Do 1 (command.Show (operand.Register 0) 0))) (NodeSays 46 (answer.Value (val.Int (pos 7))) [])
    ∷ by (Of (Do 1 (command.Done (operand.Register 0)))) (NodeSays 47 answer.Nil [])
    ∷ []

pub a_late_table : IsSaidOf (one_bunch 2) lines
a_late_table = refl

-- when the table of node 1 comes at last it ends nothing: 0.2 isn't listed, but was given again by letter 3, of which the
-- table doesn't know. Had no letter but the first given it, the record would go
abbrev pub before_it_comes : LinkedPlay
before_it_comes = played_linked (one_bunch 2) (map (λ l. l.move) (take 46 lines))

abbrev pub is_ended : ℕ → List Bool
is_ended sent =
    map (λ t. ends_record ((before_it_comes.nodes 0).state.taken 1) t (record { name = 2; bunch = 0; from = 1; sent = sent; got = 0 })) (take 1 (tables_made before_it_comes.history))

the_record_then : (before_it_comes.nodes 0).state.entering 2 1 ≡ Some (record { name = 2; bunch = 0; from = 1; sent = 3; got = 0 })
the_record_then = refl

it_ends_nothing : (is_ended 3 ≡ false ∷ []) × (is_ended 1 ≡ true ∷ [])
it_ends_nothing = (refl, refl)

-- the nodes at the end, and all that each of them has then
abbrev pub at_the_end : LinkedPlay
at_the_end = played_linked (one_bunch 2) (map (λ l. l.move) lines)

left_at_node_0 :
    left_at 2 (at_the_end.nodes 0)
    ≡ record {
      counts = record { clock = 36; made = 2; segments = 2; issued = 0 ∷ 5 ∷ []; taken = 0 ∷ 5 ∷ []; tables = 1 ∷ 1 ∷ [] };
      registers = replicate 16 val.Null;
      entries =
          (1, owned 0 32 (replicate 32 field.Null) [])
          ∷ (2, owned 0 1 (field.Int (pos 7) ∷ []) (1 ∷ []))
          ∷ [];
      places =
          (1, lies 0x200000000 1)
          ∷ (2, lies 0x200000024 1)
          ∷ [];
      records =
          recorded 1 0 1 3 0
          ∷ recorded 2 0 1 5 0
          ∷ [];
      stubs = [];
      scions = [];
      mapped =
          0x100000000
          ∷ 0x200000000
          ∷ [];
      headers =
          (0x100000000, went 1 32 0x200000000)
          ∷ (0x100000024, went 2 1 0x200000024)
          ∷ (0x200000000, lives 1 32 1)
          ∷ (0x200000024, lives 2 1 1)
          ∷ [];
    }
left_at_node_0 = refl

left_at_node_1 :
    left_at 2 (at_the_end.nodes 1)
    ≡ record {
      counts = record { clock = 23; made = 0; segments = 0; issued = 5 ∷ 0 ∷ []; taken = 5 ∷ 0 ∷ []; tables = 1 ∷ 1 ∷ [] };
      registers = val.Ref 2 ∷ replicate 15 val.Null;
      entries =
          (1, asked_of 0 0 32 None)
          ∷ (2, asked_of 0 0 1 (Some (field.Int (pos 7) ∷ [])))
          ∷ [];
      places =
          (1, lies 0x100000000 0)
          ∷ (2, lies 0x200000024 1)
          ∷ [];
      records = [];
      stubs = [];
      scions = [];
      mapped =
          0x100000000
          ∷ 0x200000000
          ∷ [];
      headers =
          (0x100000000, lives 1 32 0)
          ∷ (0x100000024, went 2 1 0x200000024)
          ∷ (0x200000024, lives 2 1 1)
          ∷ [];
    }
left_at_node_1 = refl
