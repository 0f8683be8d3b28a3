-- Three wrong rules, each with a run worked by hand that it breaks: a write is granted while a reader still has its
-- copy; a node takes a grant without hearing of what its fields refer to; a recall drops a copy that is held.
use Rattle.std.specs.Prelude.{ℕ, List, [], ◌∷◌, ◌++◌, Option, Some, None, true}
use Rattle.std.specs.Option.{option_map, option_map_or}
use Rattle.bmx_types.specs.declared.commands.Command.TheVariants as command
use Rattle.bmx_types.specs.declared.addresses.Place.{Place}
use Rattle.bmx_msg.specs.declared.letters.Letter.{Letter}
use Rattle.bmx_token.specs.declared.parts.Ask.{Ask}
use Rattle.bmx_token.specs.declared.parts.Part.{Part}
use Rattle.bmx_token.specs.Tokens.{serve_alone}
use Rattle.bmx_token.specs.Transitions.{Transition, Returns, send, served, without_copy, note_transition}
use Rattle.bmx_protocol.specs.declared.inputs.Input.{Input}
use Rattle.bmx_protocol.specs.declared.inputs.Input.TheVariants as input
use Rattle.bmx_protocol.specs.declared.inputs.NodeAnswer.TheVariants as answer
use Rattle.bmx_protocol.specs.Nodes.{Setting, NodeState, share_of}
use Rattle.bmx_protocol.specs.Changes.{Takes}
use Rattle.bmx_protocol.specs.Rules.{Reaction, only, after_operation, known_change, copy_after, drafts_of, name_in, note_in}
use Rattle.bmx_protocol.specs.Cases.{Play, Do, Serve, Next, told_at, with_outcome, play, played, one_bunch, anchor, r0}
use Rattle.bmx_protocol.specs.Histories.{in_flight}

abbrev pub three : Setting
three = one_bunch 3

-- node me reacts to an input as a wrong rule says, which is told what the right one is told
abbrev reacts : Setting → Play → ℕ → ℕ → Input → (NodeState → (ℕ → Place) → Reaction) → Play
reacts st p me stamp i wrong = with_outcome p me stamp i (wrong (p.nodes me).state (told_at st me (p.nodes me) i).lies)

-- ## a write granted while a reader has its copy

-- the head of the queue is served as where nobody reads
abbrev hasty_head : ℕ → Part → List Ask → Option Transition → Option Transition
hasty_head me p [] otherwise = otherwise
hasty_head me p (head ∷ rest) otherwise = served (record { copy = true; part = p }) (serve_alone me p head.asker rest).0 (serve_alone me p head.asker rest).1

abbrev hasty_serve : ℕ → NodeState → (ℕ → Place) → Reaction
hasty_serve me s lies = option_map_or (λ k. after_operation s lies 1 k answer.Nil (hasty_head me k.part k.part.queue None)) (s.known 1) (only answer.Idle)

-- node 1 reads the anchor, and node 2 asks to write it
abbrev read_and_asked : Play
read_and_asked = played three (
    Do 1 (command.Read anchor) ∷ Next 1 0 ∷ Serve 0 1 ∷ Next 0 1 ∷ Do 1 (command.Read anchor) ∷ Do 2 (command.Write anchor) ∷ Next 2 0 ∷ [])

abbrev pub hastily_granted : Play
hastily_granted = play three (reacts three read_and_asked 0 7 (input.Serve 1) (hasty_serve 0)) (Next 0 2 ∷ Do 2 (command.Write anchor) ∷ [])

-- ## a grant without what its fields refer to

abbrev deaf_take : ℕ → ℕ → Letter → NodeState → (ℕ → Place) → Reaction
deaf_take me from l s lies = took_without (note_transition me from (note_in l.msg) (option_map share_of (s.known (name_in l.msg))))
  where
    took_without : Option Transition → Reaction
    took_without None = only answer.Stray
    took_without (Some t) = record {
      changes = known_change (name_in l.msg) (s.known (name_in l.msg)) (copy_after l.msg (s.known (name_in l.msg))) t.after ++ Takes from ∷ [];
      drafts = drafts_of s lies (name_in l.msg) t.sends;
      answer = answer.Nil;
    }

-- the first letter in flight is taken by a wrong rule
abbrev takes_first : Setting → Play → ℕ → ℕ → ℕ → (Letter → NodeState → (ℕ → Place) → Reaction) → Play
takes_first st p from me stamp wrong = first (in_flight from me p.past)
  where
    first : List Letter → Play
    first [] = p
    first (l ∷ letters) = reacts st p me stamp (input.Take from l) (wrong l)

abbrev pub deafly_taken : Play
deafly_taken = takes_first (one_bunch 2) (played (one_bunch 2) (
    Do 0 (command.New 0 0 1) ∷ Do 0 (command.Write anchor) ∷ Do 0 (command.Set anchor 0 r0) ∷ Do 0 (command.Done anchor)
    ∷ Do 1 (command.Read anchor) ∷ Next 1 0 ∷ Serve 0 1 ∷ [])) 0 1 8 (deaf_take 1 0)

-- ## a recall that drops a copy that is held

abbrev rash_take : ℕ → ℕ → Letter → NodeState → (ℕ → Place) → Reaction
rash_take me from l s lies = option_map_or (λ k. record {
  changes = known_change (name_in l.msg) (Some k) k.copy (Some (without_copy k.part)) ++ Takes from ∷ [];
  drafts = drafts_of s lies (name_in l.msg) (send from Returns ∷ []);
  answer = answer.Nil;
}) (s.known (name_in l.msg)) (only answer.Stray)

-- node 1 reads the anchor, and is told to give it up since node 2 is to write it
abbrev recalled_while_read : Play
recalled_while_read = play three read_and_asked (Serve 0 1 ∷ [])

abbrev pub rashly_dropped : Play
rashly_dropped = play three (takes_first three recalled_while_read 0 1 9 (rash_take 1 0)) (Next 1 0 ∷ Serve 0 1 ∷ Next 0 2 ∷ Do 2 (command.Write anchor) ∷ [])
