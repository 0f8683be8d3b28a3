-- Turns of a phase, one after another.
use Rattle.std.proofs.Common.{◌≡◌, ℕ, refl, ap, sym, ◌∙◌, subst, zero, suc, Bool, true, false, cond, List, [], ◌∷◌, ◌++◌, length, map}
use Rattle.std.specs.Prelude.{◌%◌, slice_get, Option, Some, None}
use Rattle.bmx_types.specs.declared.commands.Command.{Command}
use Rattle.bmx_msg.specs.declared.letters.Letter.{Letter}
use Rattle.bmx_protocol.specs.declared.events.Event.{Event}
use Rattle.bmx_protocol.specs.Nodes.{Setting, NodeState}
use Rattle.bmx_protocol.specs.Steps.{Node, command_in}
use Rattle.bmx_protocol.specs.Histories.{in_flight, waits_with}
use Rattle.bmx_protocol.specs.Runs.Programs.{Stage, Order, program_in, commands_in, completed, BeginsStage, DoesStage}
use Rattle.bmx_protocol.specs.Runs.Turns.{Action, TriesCommand, ServesName, TakesLetter, actor, input_of, is_ready, command_action, letter_action, letter_actions, actions_of, actions, picked, word, ComesNext, TakesTurns}
use Rattle.bmx_protocol.proofs.Basics.{Every, every_append}
use Rattle.bmx_protocol.proofs.Prefixes.{joined, not_empty}
use Rattle.bmx_turns.proofs.Lists.{Place, Within, Last, place, by_last}
use Rattle.bmx_turns.proofs.Completing.{begins_none, begins_one, command_at}

-- ## one turn more

pub takes_none : (st : Setting) (seed : ℕ) (past : List Event) (s : Stage) → TakesTurns st seed past s []
takes_none st seed past s part rest e is = absurd (not_empty part rest e is)

pub takes_prefix : (st : Setting) (seed : ℕ) (past : List Event) (s : Stage) (a b : List Event) → TakesTurns st seed past s (a ++ b) → TakesTurns st seed past s a
takes_prefix st seed past s a b takes part rest e is = takes part (rest ++ b) e (sym (joined part (e ∷ rest) b) ∙ ap (λ (l : List Event). l ++ b) is)

pub takes_one : (st : Setting) (seed : ℕ) (past : List Event) (s : Stage) (part : List Event) (e : Event) → TakesTurns st seed past s part →
    (DoesStage st past s part → ⊥) → ComesNext st seed s past part e → TakesTurns st seed past s (part ++ e ∷ [])
takes_one st seed past s part e takes goes_on next before rest f is = by_place (place part e before rest f is)
  where
    by_place : Place part e before f → (DoesStage st past s before → ⊥) × ComesNext st seed s past before f
    by_place (Within z at) = takes before z f at
    by_place (Last at same) = (
      λ does. goes_on (subst (DoesStage st past s) at does),
      subst (λ (l : List Event). ComesNext st seed s past l f) (sym at) (subst (ComesNext st seed s past part) (sym same) next),
    )

-- ## the turn takes the next command

-- an action that tries a command tries the next one of its node
abbrev TriesNext : Stage → List Event → Action → Type 0
TriesNext s part (TriesCommand n c) = slice_get (commands_in s n) (length (completed n part)) ≡ Some c
TriesNext s part (ServesName n name) = Unit {0}
TriesNext s part (TakesLetter n from l) = Unit {0}

next_command : (s : Stage) (part : List Event) (n : ℕ) (state : NodeState) (w : Option Command) (o : Option Order) →
    slice_get (program_in s n) (length (completed n part)) ≡ o → Every (TriesNext s part) (command_action n state w o)
next_command s part n state w None is = tt
next_command s part n state w (Some g) is = by_wait w
  where
    tries : slice_get (commands_in s n) (length (completed n part)) ≡ Some g.command
    tries = command_at s n (length (completed n part)) g is

    by_test : (b : Bool) → Every (TriesNext s part) (cond b (TriesCommand n g.command ∷ []) [])
    by_test true = (tries, tt)
    by_test false = tt

    by_wait : (w : Option Command) → Every (TriesNext s part) (command_action n state w (Some g))
    by_wait None = (tries, tt)
    by_wait (Some c) = by_test (is_ready n state g.command)

next_serves : (s : Stage) (part : List Event) (n : ℕ) (names : List ℕ) → Every (TriesNext s part) (map (ServesName n) names)
next_serves s part n [] = tt
next_serves s part n (name ∷ names) = (tt, next_serves s part n names)

next_letter : (s : Stage) (part : List Event) (n from : ℕ) (letters : List Letter) → Every (TriesNext s part) (letter_action n from letters)
next_letter s part n from [] = tt
next_letter s part n from (l ∷ letters) = (tt, tt)

next_letters : (s : Stage) (part past : List Event) (n k : ℕ) → Every (TriesNext s part) (letter_actions past n k)
next_letters s part past n zero = tt
next_letters s part past n (suc from) =
    every_append (TriesNext s part) (letter_actions past n from) (letter_action n from (in_flight from n past))
    (next_letters s part past n from) (next_letter s part n from (in_flight from n past))

next_actions : (st : Setting) (s : Stage) (past part : List Event) (nodes : ℕ → Node) (names : ℕ → List ℕ) (k : ℕ) → Every (TriesNext s part) (actions st s past part nodes names k)
next_actions st s past part nodes names zero = tt
next_actions st s past part nodes names (suc n) =
    every_append (TriesNext s part) (actions st s past part nodes names n) (actions_of st s past part n (nodes n).state (names n))
    (next_actions st s past part nodes names n)
    (every_append (TriesNext s part)
    (command_action n (nodes n).state (waits_with n None (past ++ part)) (slice_get (program_in s n) (length (completed n part))) ++ map (ServesName n) (names n))
    (letter_actions (past ++ part) n st.nodes)
    (every_append (TriesNext s part)
    (command_action n (nodes n).state (waits_with n None (past ++ part)) (slice_get (program_in s n) (length (completed n part)))) (map (ServesName n) (names n))
    (next_command s part n (nodes n).state (waits_with n None (past ++ part)) (slice_get (program_in s n) (length (completed n part))) refl)
    (next_serves s part n (names n)))
    (next_letters s part (past ++ part) n st.nodes))

every_at : {A : Type 0} (P : A → Type 0) (xs : List A) (k : ℕ) (x : A) → Every P xs → slice_get xs k ≡ Some x → P x
every_at P [] k x all is = absurd cc
every_at P (y ∷ xs) zero x all is = (let same : y ≡ x = cc in subst P same all.0)
every_at P (y ∷ xs) (suc k) x all is = every_at P xs k x all.1 is

picked_of : (P : Action → Type 0) (seed i : ℕ) (l : List Action) (a : Action) → Every P l → picked seed i l ≡ Some a → P a
picked_of P seed i [] a all is = absurd cc
picked_of P seed i (b ∷ l) a all is = every_at P (b ∷ l) (word seed i % length (b ∷ l)) a all is

-- a command that an event which comes next tries is the next of its node's program
pub next_tried : (st : Setting) (seed : ℕ) (s : Stage) (past part : List Event) (e : Event) → ComesNext st seed s past part e → (c : Command) → command_in e.input ≡ Some c →
    slice_get (commands_in s e.node) (length (completed e.node part)) ≡ Some c
next_tried st seed s past part e next c tried =
    by_action next.turn.action
    (picked_of (TriesNext s part) seed (length (past ++ part)) (actions st s past part next.nodes next.names st.nodes) next.turn.action
    (next_actions st s past part next.nodes next.names st.nodes) next.turn.picks)
    next.turn.by_node (ap command_in (sym next.turn.by_input) ∙ tried)
  where
    by_action : (a : Action) → TriesNext s part a → e.node ≡ actor a → command_in (input_of a) ≡ Some c → slice_get (commands_in s e.node) (length (completed e.node part)) ≡ Some c
    by_action (TriesCommand n d) next node is = (λ i. slice_get (commands_in s (node i)) (length (completed (node i) part))) ∙ next ∙ is
    by_action (ServesName n name) next node is = absurd cc
    by_action (TakesLetter n from l) next node is = absurd cc

-- turns begin their phase
pub takes_begins : (st : Setting) (seed : ℕ) (past : List Event) (s : Stage) (part : List Event) → TakesTurns st seed past s part → BeginsStage s part
takes_begins st seed past s part takes = by_last (λ l. TakesTurns st seed past s l → BeginsStage s l) (λ _. begins_none s) one part takes
  where
    one : (l : List Event) (e : Event) → (TakesTurns st seed past s l → BeginsStage s l) → TakesTurns st seed past s (l ++ e ∷ []) → BeginsStage s (l ++ e ∷ [])
    one l e h turns = begins_one s l e (h (takes_prefix st seed past s l (e ∷ []) turns)) (next_tried st seed s past l e (turns l [] e refl).1)
