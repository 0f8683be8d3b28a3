-- A run worked by hand that is stuck, each part closed by computing.
use Rattle.std.specs.Prelude.{◌≡◌, false, List, [], ◌∷◌, refl}
use Rattle.bmx_types.specs.declared.commands.Command.TheVariants as command
use Rattle.bmx_protocol.specs.Cases.{Do, Next, Play, played, one_bunch, anchor}
use Rattle.bmx_protocol.specs.Runs.Programs.{Body, Gives, Stage, stages}
use Rattle.bmx_protocol.specs.Runs.Turns.{actions}
use Rattle.bmx_turns.specs.Stuck.{IsStuck}

-- two nodes want to write the anchor, and neither says that it is done
abbrev pub both_write : List Body
both_write = Gives 0 4 (command.Write anchor) ∷ Gives 1 5 (command.Write anchor) ∷ []

-- node 0 has its token, node 1 asks for it, and node 0 hears of that
abbrev pub waiting : Play
waiting = played (one_bunch 2) (Do 0 (command.Write anchor) ∷ Do 1 (command.Write anchor) ∷ Next 1 0 ∷ [])

-- the one phase
abbrev pub crossing : Stage
crossing = record {
  commands = record { node = 0; line = 4; command = command.Write anchor } ∷ record { node = 1; line = 5; command = command.Write anchor } ∷ [];
  quiet = false;
}

the_one_phase : stages both_write ≡ crossing ∷ []
the_one_phase = refl

-- node 0 has done its program, and node 1 waits: no letter is in flight, and node 0 holds what node 1 wants
no_action_is_enabled : actions (one_bunch 2) crossing [] waiting.past waiting.nodes (λ _. []) 2 ≡ []
no_action_is_enabled = refl

-- that run is stuck
abbrev pub CrossedWritersAreStuck : Type 0
CrossedWritersAreStuck = IsStuck (one_bunch 2) both_write waiting.past
