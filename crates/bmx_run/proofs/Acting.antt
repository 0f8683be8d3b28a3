-- Which node acts by an action that the turn picks, and what a runner's choice means.
use Rattle.std.proofs.Common.{◌≡◌, ℕ, zero, suc, ◌<◌, ◌≤◌, arith, refl, subst, Bool, true, false, cond, List, [], ◌∷◌, ◌++◌, length, map, Option, Some, None}
use Rattle.std.specs.Prelude.{◌%◌, slice_get}
use Rattle.bmx_types.specs.declared.commands.Command.{Command}
use Rattle.bmx_msg.specs.declared.letters.Letter.{Letter}
use Rattle.bmx_protocol.specs.declared.events.Event.{Event}
use Rattle.bmx_protocol.specs.Nodes.{Setting, NodeState}
use Rattle.bmx_protocol.specs.Steps.{Node}
use Rattle.bmx_protocol.specs.Histories.{in_flight, waits_with}
use Rattle.bmx_protocol.specs.Runs.Programs.{Stage, Order, program_in, completed}
use Rattle.bmx_protocol.specs.Runs.Turns.{Action, TriesCommand, ServesName, TakesLetter, actor, is_ready, command_action, letter_action, letter_actions, actions_of, actions, picked, word}
use Rattle.bmx_protocol.proofs.Basics.{Every, every_append}
use Rattle.bmx_run.specs.declared.actions.Action.{Action as Choice}
use Rattle.bmx_run.specs.declared.actions.Action.TheVariants as choice
use Rattle.bmx_run.specs.Inside.Picking.{Means, Tries, Serves, Takes}

-- ## which node acts

-- an action is of one of the first so many nodes
abbrev Below : ℕ → Action → Type 0
Below k a = actor a < k

by_command : (k n : ℕ) (s : NodeState) (w : Option Command) (o : Option Order) → n < k → Every (Below k) (command_action n s w o)
by_command k n s w None h = tt
by_command k n s None (Some g) h = (h, tt)
by_command k n s (Some c) (Some g) h = by_test (is_ready n s g.command)
  where
    by_test : (b : Bool) → Every (Below k) (cond b (TriesCommand n g.command ∷ []) [])
    by_test true = (h, tt)
    by_test false = tt

by_serves : (k n : ℕ) (names : List ℕ) → n < k → Every (Below k) (map (ServesName n) names)
by_serves k n [] h = tt
by_serves k n (name ∷ names) h = (h, by_serves k n names h)

by_letter : (k n from : ℕ) (letters : List Letter) → n < k → Every (Below k) (letter_action n from letters)
by_letter k n from [] h = tt
by_letter k n from (l ∷ letters) h = (h, tt)

by_letters : (k : ℕ) (past : List Event) (n from : ℕ) → n < k → Every (Below k) (letter_actions past n from)
by_letters k past n zero h = tt
by_letters k past n (suc from) h =
    every_append (Below k) (letter_actions past n from) (letter_action n from (in_flight from n past)) (by_letters k past n from h) (by_letter k n from (in_flight from n past) h)

by_actions : (st : Setting) (s : Stage) (past part : List Event) (nodes : ℕ → Node) (names : ℕ → List ℕ) (k m : ℕ) → m ≤ k → Every (Below k) (actions st s past part nodes names m)
by_actions st s past part nodes names k zero h = tt
by_actions st s past part nodes names k (suc n) h =
    every_append (Below k) (actions st s past part nodes names n) (actions_of st s past part n (nodes n).state (names n))
    (by_actions st s past part nodes names k n (omega (arith, h)))
    (every_append (Below k)
    (command_action n (nodes n).state (waits_with n None (past ++ part)) (slice_get (program_in s n) (length (completed n part))) ++ map (ServesName n) (names n))
    (letter_actions (past ++ part) n st.nodes)
    (every_append (Below k)
    (command_action n (nodes n).state (waits_with n None (past ++ part)) (slice_get (program_in s n) (length (completed n part)))) (map (ServesName n) (names n))
    (by_command k n (nodes n).state (waits_with n None (past ++ part)) (slice_get (program_in s n) (length (completed n part))) here)
    (by_serves k n (names n) here))
    (by_letters k (past ++ part) n st.nodes here))
  where
    here : n < k
    here = omega (arith, h)

every_at : {A : Type 0} (P : A → Type 0) (xs : List A) (k : ℕ) (x : A) → Every P xs → slice_get xs k ≡ Some x → P x
every_at P [] k x all is = absurd cc
every_at P (y ∷ xs) zero x all is = (let same : y ≡ x = cc in subst P same all.0)
every_at P (y ∷ xs) (suc k) x all is = every_at P xs k x all.1 is

at_pick : (k seed i : ℕ) (l : List Action) (a : Action) → Every (Below k) l → picked seed i l ≡ Some a → actor a < k
at_pick k seed i [] a all is = absurd cc
at_pick k seed i (b ∷ l) a all is = every_at (Below k) (b ∷ l) (word seed i % length (b ∷ l)) a all is

-- a node of the store acts
pub picked_acts : (st : Setting) (seed i : ℕ) (s : Stage) (past part : List Event) (nodes : ℕ → Node) (names : ℕ → List ℕ) (a : Action) →
    picked seed i (actions st s past part nodes names st.nodes) ≡ Some a → actor a < st.nodes
picked_acts st seed i s past part nodes names a is =
    at_pick st.nodes seed i (actions st s past part nodes names st.nodes) a (by_actions st s past part nodes names st.nodes st.nodes (omega arith)) is

-- ## what a choice means

-- a letter is taken that is the first in flight
pub record FirstTaken (history : List Event) (n from : ℕ) (a : Action) : Type 0 where
  pub letter : Letter
  pub rest : List Letter
  pub first : in_flight from n history ≡ letter ∷ rest
  pub is : a ≡ TakesLetter n from letter

abbrev pub ActionIs : List Event → Choice → Action → Type 0
ActionIs history (choice.Try g) a = a ≡ TriesCommand g.node g.command
ActionIs history (choice.Serve n name) a = a ≡ ServesName n name
ActionIs history (choice.Take n from) a = FirstTaken history n from a

pub action_is : (history : List Event) (c : Choice) (a : Action) → Means history c a → ActionIs history c a
action_is history c a (Tries g) = refl
action_is history c a (Serves n name) = refl
action_is history c a (Takes n from l rest first) = record { letter = l; rest = rest; first = first; is = refl }
