-- Scripts run by hand: what they print, and which action the turn picks, each closed by computing.
use Rattle.std.specs.Prelude.{◌≡◌, ℕ, ◌+◌, ◌*◌, ◌^◌, pos, false, List, [], ◌∷◌, take, drop, slice_get, Some, refl}
use Rattle.bmx_types.specs.declared.values.Val.TheVariants as val
use Rattle.bmx_types.specs.declared.commands.Operand.TheVariants as operand
use Rattle.bmx_types.specs.declared.commands.Command.TheVariants as command
use Rattle.bmx_msg.specs.declared.letters.Letter.{Letter}
use Rattle.bmx_msg.specs.declared.letters.Msg.TheVariants as msg
use Rattle.rand_pcg.specs.Lcg.{state_after}
use Rattle.rand_core.specs.Pcg32Seed.{pcg32_seed}
use Rattle.rand_core.specs.Steps.{u32_at, word_bytes}
use Rattle.bmx_protocol.specs.declared.inputs.NodeAnswer.TheVariants as answer
use Rattle.bmx_protocol.specs.Cases.{Do, Serve, Next, Play, played, one_bunch, r0, anchor}
use Rattle.bmx_protocol.specs.Runs.Programs.{Body, Gives, Phase, Stage, stages, Output, text}
use Rattle.bmx_protocol.specs.Runs.Turns.{Action, TriesCommand, TakesLetter, actions, picked, word}

-- ## what is printed

-- nodes 2 and 3 read 0.2, nodes 1 and 0 write it, and nodes 2 and 3 read it again
abbrev readers_and_writers : List Body
readers_and_writers =
    Gives 0 4 (command.New 0 0 1)
    ∷ Gives 0 5 (command.Write r0)
    ∷ Gives 0 6 (command.Set r0 0 (operand.Int (pos 42)))
    ∷ Gives 0 7 (command.Done r0)
    ∷ Gives 0 8 (command.Write anchor)
    ∷ Gives 0 9 (command.Set anchor 0 r0)
    ∷ Gives 0 10 (command.Done anchor)
    ∷ Phase
    ∷ Gives 2 12 (command.Read anchor)
    ∷ Gives 2 13 (command.Get 0 anchor 0)
    ∷ Gives 2 14 (command.Done anchor)
    ∷ Gives 2 15 (command.Read r0)
    ∷ Gives 2 16 (command.Show r0 0)
    ∷ Gives 2 17 (command.Done r0)
    ∷ Phase
    ∷ Gives 3 19 (command.Read anchor)
    ∷ Gives 3 20 (command.Get 0 anchor 0)
    ∷ Gives 3 21 (command.Done anchor)
    ∷ Gives 3 22 (command.Read r0)
    ∷ Gives 3 23 (command.Show r0 0)
    ∷ Gives 3 24 (command.Done r0)
    ∷ Phase
    ∷ Gives 1 26 (command.Read anchor)
    ∷ Gives 1 27 (command.Get 0 anchor 0)
    ∷ Gives 1 28 (command.Done anchor)
    ∷ Gives 1 29 (command.Write r0)
    ∷ Gives 1 30 (command.Set r0 0 (operand.Int (pos 43)))
    ∷ Gives 1 31 (command.Done r0)
    ∷ Phase
    ∷ Gives 0 33 (command.Write r0)
    ∷ Gives 0 34 (command.Add r0 0 (pos 1))
    ∷ Gives 0 35 (command.Done r0)
    ∷ Phase
    ∷ Gives 2 37 (command.Read r0)
    ∷ Gives 2 38 (command.Show r0 0)
    ∷ Gives 2 39 (command.Done r0)
    ∷ Phase
    ∷ Gives 3 41 (command.Read r0)
    ∷ Gives 3 42 (command.Show r0 0)
    ∷ Gives 3 43 (command.Done r0)
    ∷ []

abbrev readers_and_writers_played : Play
readers_and_writers_played = played (one_bunch 4) (
    Do 0 (command.New 0 0 1)
    ∷ Do 0 (command.Write r0)
    ∷ Do 0 (command.Set r0 0 (operand.Int (pos 42)))
    ∷ Do 0 (command.Done r0)
    ∷ Do 0 (command.Write anchor)
    ∷ Do 0 (command.Set anchor 0 r0)
    ∷ Do 0 (command.Done anchor)
    ∷ Do 2 (command.Read anchor)
    ∷ Next 2 0
    ∷ Serve 0 1
    ∷ Next 0 2
    ∷ Do 2 (command.Read anchor)
    ∷ Do 2 (command.Get 0 anchor 0)
    ∷ Do 2 (command.Done anchor)
    ∷ Do 2 (command.Read r0)
    ∷ Next 2 0
    ∷ Serve 0 2
    ∷ Next 0 2
    ∷ Do 2 (command.Read r0)
    ∷ Do 2 (command.Show r0 0)
    ∷ Do 2 (command.Done r0)
    ∷ Do 3 (command.Read anchor)
    ∷ Next 3 0
    ∷ Serve 0 1
    ∷ Next 0 3
    ∷ Do 3 (command.Read anchor)
    ∷ Do 3 (command.Get 0 anchor 0)
    ∷ Do 3 (command.Done anchor)
    ∷ Do 3 (command.Read r0)
    ∷ Next 3 0
    ∷ Serve 0 2
    ∷ Next 0 3
    ∷ Do 3 (command.Read r0)
    ∷ Do 3 (command.Show r0 0)
    ∷ Do 3 (command.Done r0)
    ∷ Do 1 (command.Read anchor)
    ∷ Next 1 0
    ∷ Serve 0 1
    ∷ Next 0 1
    ∷ Do 1 (command.Read anchor)
    ∷ Do 1 (command.Get 0 anchor 0)
    ∷ Do 1 (command.Done anchor)
    ∷ Do 1 (command.Write r0)
    ∷ Next 1 0
    ∷ Serve 0 2
    ∷ Next 0 2
    ∷ Next 2 0
    ∷ Next 0 3
    ∷ Next 3 0
    ∷ Serve 0 2
    ∷ Next 0 1
    ∷ Do 1 (command.Write r0)
    ∷ Do 1 (command.Set r0 0 (operand.Int (pos 43)))
    ∷ Do 1 (command.Done r0)
    ∷ Do 0 (command.Write r0)
    ∷ Next 0 1
    ∷ Serve 1 2
    ∷ Next 1 0
    ∷ Do 0 (command.Write r0)
    ∷ Do 0 (command.Add r0 0 (pos 1))
    ∷ Do 0 (command.Done r0)
    ∷ Do 2 (command.Read r0)
    ∷ Next 2 0
    ∷ Serve 0 2
    ∷ Next 0 2
    ∷ Do 2 (command.Read r0)
    ∷ Do 2 (command.Show r0 0)
    ∷ Do 2 (command.Done r0)
    ∷ Do 3 (command.Read r0)
    ∷ Next 3 0
    ∷ Serve 0 2
    ∷ Next 0 3
    ∷ Do 3 (command.Read r0)
    ∷ Do 3 (command.Show r0 0)
    ∷ Do 3 (command.Done r0)
    ∷ [])

abbrev prints : ℕ → ℕ → ℕ → Output
prints node line k = record { node = node; line = line; answer = answer.Value (val.Int (pos k)) }

each_show_is_printed :
    text readers_and_writers readers_and_writers_played.past ≡ prints 2 16 42 ∷ prints 3 23 42 ∷ prints 2 38 44 ∷ prints 3 42 44 ∷ []
each_show_is_printed = refl

-- ## turns

-- the first two words of the seed 0 are those of the generator's own test
first_words : word 0 0 + 2 ^ 32 * word 0 1 ≡ 18195738587432868099
unfolding state_after pcg32_seed u32_at word_bytes
first_words = refl

-- two nodes want to write what the other holds
abbrev crossed_writers : List Body
crossed_writers =
    Gives 0 4 (command.New 0 0 1)
    ∷ Gives 0 5 (command.Write r0)
    ∷ Gives 0 6 (command.Set r0 0 (operand.Int (pos 42)))
    ∷ Gives 0 7 (command.Done r0)
    ∷ Gives 0 8 (command.Write anchor)
    ∷ Gives 0 9 (command.Set anchor 0 r0)
    ∷ Gives 0 10 (command.Done anchor)
    ∷ Phase
    ∷ Gives 1 12 (command.Read anchor)
    ∷ Gives 1 13 (command.Get 0 anchor 0)
    ∷ Gives 1 14 (command.Done anchor)
    ∷ Phase
    ∷ Gives 0 16 (command.Write anchor)
    ∷ Phase
    ∷ Gives 1 18 (command.Write r0)
    ∷ Phase
    ∷ Gives 0 20 (command.Write r0)
    ∷ Gives 1 21 (command.Write anchor)
    ∷ []

-- its first 26 events: of the last phase node 0's command is done
abbrev crossed : Play
crossed = played (one_bunch 2) (
    Do 0 (command.New 0 0 1)
    ∷ Do 0 (command.Write r0)
    ∷ Do 0 (command.Set r0 0 (operand.Int (pos 42)))
    ∷ Do 0 (command.Done r0)
    ∷ Do 0 (command.Write anchor)
    ∷ Do 0 (command.Set anchor 0 r0)
    ∷ Do 0 (command.Done anchor)
    ∷ Do 1 (command.Read anchor)
    ∷ Next 1 0
    ∷ Serve 0 1
    ∷ Next 0 1
    ∷ Do 1 (command.Read anchor)
    ∷ Do 1 (command.Get 0 anchor 0)
    ∷ Do 1 (command.Done anchor)
    ∷ Do 0 (command.Write anchor)
    ∷ Serve 0 1
    ∷ Next 0 1
    ∷ Next 1 0
    ∷ Serve 0 1
    ∷ Do 0 (command.Write anchor)
    ∷ Do 1 (command.Write r0)
    ∷ Next 1 0
    ∷ Serve 0 2
    ∷ Next 0 1
    ∷ Do 1 (command.Write r0)
    ∷ Do 0 (command.Write r0)
    ∷ [])

abbrev last_stage : Stage
last_stage = record {
  commands =
      record { node = 0; line = 20; command = command.Write r0 } ∷ record { node = 1; line = 21; command = command.Write anchor } ∷ [];
  quiet = false;
}

-- node 0's request for what node 1 holds
abbrev request : Letter
request = record { seq = 4; stamp = 20; msg = msg.WriteReq 2 0 }

abbrev enabled : List Action
enabled = actions (one_bunch 2) last_stage (take 25 crossed.past) (drop 25 crossed.past) crossed.nodes (λ _. []) 2

the_last_stage : slice_get (stages crossed_writers) 4 ≡ Some last_stage
the_last_stage = refl

-- node 0 waits and isn't tried again; node 1 may do its command or take the request
two_actions_are_enabled : enabled ≡ TriesCommand 1 (command.Write anchor) ∷ TakesLetter 1 0 request ∷ []
two_actions_are_enabled = refl

-- the turn takes the request
the_request_is_picked : picked 0 26 enabled ≡ Some (TakesLetter 1 0 request)
unfolding state_after pcg32_seed u32_at word_bytes
the_request_is_picked = refl
