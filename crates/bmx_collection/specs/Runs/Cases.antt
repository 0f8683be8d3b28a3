-- Scripts with collectors run by hand: phases, what a collector's program comes to, fates, which action the turn picks,
-- and what is printed, each closed by computing.
use Rattle.std.specs.Prelude.{◌≡◌, ℕ, pos, false, List, [], ◌∷◌, map, take, drop, slice_get, Some, None, refl}
use Rattle.bmx_types.specs.declared.values.Val.TheVariants as val
use Rattle.bmx_types.specs.declared.commands.Operand.TheVariants as operand
use Rattle.bmx_types.specs.declared.commands.Command.TheVariants as command
use Rattle.bmx_types.specs.declared.commands.Refusal.TheVariants as refusal
use Rattle.bmx_table.specs.declared.tables.Table.{Table}
use Rattle.rand_pcg.specs.Lcg.{state_after}
use Rattle.rand_core.specs.Pcg32Seed.{pcg32_seed}
use Rattle.rand_core.specs.Steps.{u32_at, word_bytes}
use Rattle.bmx_protocol.specs.declared.inputs.NodeAnswer.TheVariants as answer
use Rattle.bmx_protocol.specs.Nodes.{Setting}
use Rattle.bmx_protocol.specs.Cases.{one_bunch, anchor}
use Rattle.bmx_protocol.specs.Runs.Programs.{Gives, Phase}
use Rattle.bmx_collection.specs.Steps.{Collect, Sweep, MakeTable, Swept, Refused}
use Rattle.bmx_collection.specs.Playing.{LinkedPlay, played_linked}
use Rattle.bmx_collection.specs.Cases.Stores.{table}
use Rattle.bmx_collection.specs.Cases.AFullCollection as full_collection
use Rattle.bmx_collection.specs.Runs.Programs.{Collects, Sweeps, Other, Assigns, TableLine, Decides, Loses, LinkedScript, LinkedStage, linked_stages, plan, fate_of, next_part, linked_text}
use Rattle.bmx_collection.specs.Runs.Turns.{LinkedAction, DoesPart, TakesIt, linked_actions, linked_pick}

-- ## what a collector's program comes to

-- a collection, a table for each of two nodes, and a sweep; where the collection is refused no table
tables_follow : plan 2 [] (Collects 3 ∷ Sweeps ∷ []) ≡ Collect 3 ∷ MakeTable 3 0 ∷ MakeTable 3 1 ∷ Sweep ∷ []
tables_follow = refl

no_table_after_a_refusal : plan 2 (Refused refusal.Full ∷ Swept 0 ∷ []) (Collects 3 ∷ Sweeps ∷ Collects 4 ∷ []) ≡ Collect 3 ∷ Sweep ∷ Collect 4 ∷ MakeTable 4 0 ∷ MakeTable 4 1 ∷ []
no_table_after_a_refusal = refl

-- ## fates

-- each second table is lost, but for the second from node 1 to node 0, which is taken three times
abbrev some_lost : List TableLine
some_lost = Loses 2 ∷ Decides 1 0 2 (record { times = 3; phase = 1 }) ∷ Decides 0 1 1 (record { times = 1; phase = 8 }) ∷ []

abbrev number_of : ℕ → ℕ → ℕ → Table
number_of from to number = table from to number 9 0 0 0 7 [] []

fates :
    (fate_of some_lost (number_of 1 0 1) ≡ record { times = 1; phase = 1 })
    × (fate_of some_lost (number_of 1 0 2) ≡ record { times = 3; phase = 1 })
    × (fate_of some_lost (number_of 0 0 2) ≡ record { times = 0; phase = 1 })
    × (fate_of some_lost (number_of 0 1 1) ≡ record { times = 1; phase = 8 })
fates = (refl, refl, refl, refl)

-- ## a script with a collection that is refused

abbrev a_script : LinkedScript
a_script = record {
  lines = [];
  body =
      Other (Gives 0 5 (command.Write anchor))
      ∷ Other (Gives 0 6 (command.Set anchor 0 (operand.Int (pos 6))))
      ∷ Other (Gives 0 7 (command.Done anchor))
      ∷ Other Phase
      ∷ Assigns (record { node = 0; line = 9; duty = Collects 0 })
      ∷ Assigns (record { node = 0; line = 10; duty = Collects 0 })
      ∷ Other Phase
      ∷ Other (Gives 0 12 (command.Read anchor))
      ∷ Other (Gives 0 13 (command.Show anchor 0))
      ∷ Other (Gives 0 14 (command.Done anchor))
      ∷ [];
}

abbrev collecting : LinkedStage
collecting = record {
  stage = record { commands = []; quiet = false };
  duties = record { node = 0; line = 9; duty = Collects 0 } ∷ record { node = 0; line = 10; duty = Collects 0 } ∷ [];
  phase = 2;
  lines = [];
}

the_second_phase : slice_get (linked_stages a_script) 1 ≡ Some collecting
the_second_phase = refl

-- its first five events, and what may come next: the second collection, or the table that the first one made
abbrev small : Setting
small = record (one_bunch 1) { limit = 2 }

abbrev so_far : LinkedPlay
so_far = played_linked small (map (λ l. l.move) (take 5 full_collection.lines))

abbrev enabled : List LinkedAction
enabled = linked_actions small collecting (take 3 so_far.history) (drop 3 so_far.history) so_far.nodes (λ _. []) 1

two_actions_are_enabled : enabled ≡ DoesPart 0 (Collect 0) ∷ TakesIt 0 (table 0 0 1 5 0 0 0 5 [] []) ∷ []
two_actions_are_enabled = refl

-- the turn takes the table
the_table_is_picked : linked_pick 0 5 enabled ≡ Some (TakesIt 0 (table 0 0 1 5 0 0 0 5 [] []))
unfolding state_after pcg32_seed u32_at word_bytes
the_table_is_picked = refl

-- once the second collection is refused no part is left: it has no tables
nothing_is_left : next_part small collecting 0 (drop 3 (played_linked small (map (λ l. l.move) (take 7 full_collection.lines))).history) ≡ None
nothing_is_left = refl

-- the refusal is printed with its line, and then what is shown
what_is_printed :
    linked_text a_script.body (played_linked small (map (λ l. l.move) full_collection.lines)).history
    ≡ record { node = 0; line = 10; answer = answer.Refused refusal.Full } ∷ record { node = 0; line = 13; answer = answer.Value (val.Int (pos 6)) } ∷ []
what_is_printed = refl
