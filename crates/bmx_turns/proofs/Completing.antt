-- What nodes complete in the events of a phase, one event after another.
use Rattle.std.proofs.Common.{◌≡◌, ℕ, ◌+◌, ◌<◌, ◌≤◌, arith, refl, ap, sym, ◌∙◌, subst, Bool, true, false, cond, List, [], ◌∷◌, ◌++◌, length, take}
use Rattle.std.specs.Prelude.{◌==◌, slice_get, Option, Some, None, if◌then◌else◌}
use Rattle.std.specs.List.{cons_option, flat_map}
use Rattle.std.specs.Option.{option_map, option_and_then}
use Rattle.std.proofs.lemmas.Bool.{eqb-true}
use Rattle.std.proofs.lemmas.Option.{slice_get-map}
use Rattle.std.proofs.lemmas.List.{append-nil, length-append, length-map, length-take, length_push, take_all}
use Rattle.std.proofs.lemmas.List.Elements.{filter_map-append}
use Rattle.bmx_types.specs.declared.commands.Command.{Command}
use Rattle.bmx_protocol.specs.declared.inputs.Input.{Input}
use Rattle.bmx_protocol.specs.declared.inputs.NodeAnswer.{NodeAnswer}
use Rattle.bmx_protocol.specs.declared.events.Event.{Event}
use Rattle.bmx_protocol.specs.Nodes.{Setting}
use Rattle.bmx_protocol.specs.Steps.{command_in}
use Rattle.bmx_protocol.specs.Histories.{is_wait}
use Rattle.bmx_protocol.specs.Runs.Programs.{Stage, Order, program_in, commands_in, completion, completed, EndsPhase, BeginsStage, DoesStage, DoAll, counts_after}
use Rattle.bmx_protocol.proofs.Prefixes.{joined, not_empty}
use Rattle.bmx_turns.proofs.Lists.{Place, Within, Last, place, by_last, take_one}

-- ## what is completed

pub completed_two : (n : ℕ) (a b : List Event) → completed n (a ++ b) ≡ completed n a ++ completed n b
completed_two n a b = filter_map-append (λ (e : Event). if e.node == n then completion e.input e.done.answer else None) a b

pub length_two : (n : ℕ) (a b : List Event) → length (completed n (a ++ b)) ≡ length (completed n a) + length (completed n b)
length_two n a b = ap (λ (l : List Command). length l) (completed_two n a b) ∙ length-append (completed n a) (completed n b)

-- the command that an event completes at a node
abbrev pub completed_by : ℕ → Event → Option Command
completed_by n e = if e.node == n then completion e.input e.done.answer else None

pub completed_one : (n : ℕ) (part : List Event) (e : Event) → completed n (part ++ e ∷ []) ≡ completed n part ++ cons_option (completed_by n e) []
completed_one n part e = completed_two n part (e ∷ [])

-- an event that completes nothing
pub completed_not : (n : ℕ) (part : List Event) (e : Event) → completed_by n e ≡ None → completed n (part ++ e ∷ []) ≡ completed n part
completed_not n part e none = completed_one n part e ∙ ap (λ (o : Option Command). completed n part ++ cons_option o []) none ∙ append-nil (completed n part)

pub completed_here : (n : ℕ) (part : List Event) (e : Event) (c : Command) → completed_by n e ≡ Some c → completed n (part ++ e ∷ []) ≡ completed n part ++ c ∷ []
completed_here n part e c some = completed_one n part e ∙ ap (λ (o : Option Command). completed n part ++ cons_option o []) some

-- what is completed was tried
pub completion_is : (i : Input) (a : NodeAnswer) (c : Command) → completion i a ≡ Some c → command_in i ≡ Some c
completion_is i a c h = by_command (command_in i) (is_wait a) h
  where
    by_command : (o : Option Command) (w : Bool) → option_and_then (λ (d : Command). cond w None (Some d)) o ≡ Some c → o ≡ Some c
    by_command None w e = absurd cc
    by_command (Some d) true e = absurd cc
    by_command (Some d) false e = e

-- the counts of all nodes after one event more
pub counts_one : (n : ℕ) (part : List Event) (e : Event) →
    length (completed n (part ++ e ∷ [])) ≡ counts_after (λ m. length (completed m part)) e.node (completion e.input e.done.answer) n
counts_one n part e = ap (λ (l : List Command). length l) (completed_one n part e) ∙ by_option (completion e.input e.done.answer)
  where
    nothing : (b : Bool) → length (completed n part ++ cons_option (cond b None None) []) ≡ length (completed n part)
    nothing true = ap (λ (l : List Command). length l) (append-nil (completed n part))
    nothing false = ap (λ (l : List Command). length l) (append-nil (completed n part))

    something : (c : Command) (b : Bool) → (b ≡ true → e.node ≡ n) →
        length (completed n part ++ cons_option (cond b (Some c) None) []) ≡ cond b (length (completed e.node part) + 1) (length (completed n part))
    something c true q = length_push (completed n part) c ∙ ap (λ (m : ℕ). length (completed m part) + 1) (sym (q refl))
    something c false q = ap (λ (l : List Command). length l) (append-nil (completed n part))

    by_option : (o : Option Command) →
        length (completed n part ++ cons_option (cond (e.node == n) o None) []) ≡ counts_after (λ m. length (completed m part)) e.node o n
    by_option None = nothing (e.node == n)
    by_option (Some c) = something c (e.node == n) (eqb-true e.node n)

-- ## how a phase begins

pub begins_prefix : (s : Stage) (a b : List Event) → BeginsStage s (a ++ b) → BeginsStage s a
begins_prefix s a b begun before rest e c is = begun before (rest ++ b) e c (sym (joined before (e ∷ rest) b) ∙ ap (λ (l : List Event). l ++ b) is)

pub begins_none : (s : Stage) → BeginsStage s []
begins_none s before rest e c is = absurd (not_empty before rest e is)

-- one event more: the command that it tries is the next of its node's program
pub begins_one : (s : Stage) (part : List Event) (e : Event) → BeginsStage s part →
    ((c : Command) → command_in e.input ≡ Some c → slice_get (commands_in s e.node) (length (completed e.node part)) ≡ Some c) →
    BeginsStage s (part ++ e ∷ [])
begins_one s part e begun next before rest f c is tried = by_place (place part e before rest f is)
  where
    by_place : Place part e before f → slice_get (commands_in s f.node) (length (completed f.node before)) ≡ Some c
    by_place (Within z at) = begun before z f c at tried
    by_place (Last at same) =
        (λ i. slice_get (commands_in s (same i).node) (length (completed (same i).node (at i)))) ∙ next c ((λ i. command_in (sym same i).input) ∙ tried)

-- the commands completed are the first of the program
pub completes_prefix : (s : Stage) (n : ℕ) (part : List Event) → BeginsStage s part → completed n part ≡ take (length (completed n part)) (commands_in s n)
completes_prefix s n part begun = by_last (λ l. BeginsStage s l → completed n l ≡ take (length (completed n l)) (commands_in s n)) (λ _. refl) one part begun
  where
    more : (xs : List Command) (o : Option Command) → xs ≡ take (length xs) (commands_in s n) →
        ((c : Command) → o ≡ Some c → slice_get (commands_in s n) (length xs) ≡ Some c) →
        xs ++ cons_option o [] ≡ take (length (xs ++ cons_option o [])) (commands_in s n)
    more xs None h next = subst (λ (l : List Command). l ≡ take (length l) (commands_in s n)) (sym (append-nil xs)) h
    more xs (Some c) h next =
        ap (λ (l : List Command). l ++ c ∷ []) h ∙ sym (take_one (commands_in s n) (length xs) c (next c refl))
        ∙ ap (λ (k : ℕ). take k (commands_in s n)) (sym (length_push xs c))

    one : (l : List Event) (e : Event) → (BeginsStage s l → completed n l ≡ take (length (completed n l)) (commands_in s n)) →
        BeginsStage s (l ++ e ∷ []) → completed n (l ++ e ∷ []) ≡ take (length (completed n (l ++ e ∷ []))) (commands_in s n)
    one l e h begins =
        subst (λ (xs : List Command). xs ≡ take (length xs) (commands_in s n)) (sym (completed_one n l e))
        (more (completed n l) (completed_by n e) (h (begins_prefix s l (e ∷ []) begins)) (λ c. by_node c (e.node == n) (eqb-true e.node n)))
      where
        by_node : (c : Command) (b : Bool) → (b ≡ true → e.node ≡ n) → cond b (completion e.input e.done.answer) None ≡ Some c → slice_get (commands_in s n) (length (completed n l)) ≡ Some c
        by_node c true q is =
            subst (λ (m : ℕ). slice_get (commands_in s m) (length (completed m l)) ≡ Some c) (q refl)
            (begins l [] e c refl (completion_is e.input e.done.answer c is))
        by_node c false q is = absurd cc

pub length_commands : (s : Stage) (n : ℕ) → length (commands_in s n) ≡ length (program_in s n)
length_commands s n = length-map (program_in s n) (λ (g : Order). g.command)

-- so they are no more than it has
pub completes_few : (s : Stage) (n : ℕ) (part : List Event) → BeginsStage s part → length (completed n part) ≤ length (program_in s n)
completes_few s n part begun =
    omega (arith, ap (λ (l : List Command). length l) (completes_prefix s n part begun), length-take (length (completed n part)) (commands_in s n), length_commands s n)

-- the command of an order of the program
pub command_at : (s : Stage) (n k : ℕ) (g : Order) → slice_get (program_in s n) k ≡ Some g → slice_get (commands_in s n) k ≡ Some g.command
command_at s n k g is = slice_get-map (λ (h : Order). h.command) (program_in s n) k ∙ ap (option_map (λ (h : Order). h.command)) is

-- ## when a phase is done

-- each node has completed as many commands as its program has, and the phase ends quietly where it is to
pub record IsOver (st : Setting) (past : List Event) (s : Stage) (part : List Event) : Type 0 where
  pub each : (n : ℕ) → n < st.nodes → length (completed n part) ≡ length (program_in s n)
  pub ended : EndsPhase st s.quiet (past ++ part)

pub does_over : (st : Setting) (past : List Event) (s : Stage) (part : List Event) → BeginsStage s part → IsOver st past s part → DoesStage st past s part
does_over st past s part begun over = record {
  begun = begun;
  done = λ n lt.
      completes_prefix s n part begun ∙ ap (λ (k : ℕ). take k (commands_in s n)) (over.each n lt ∙ sym (length_commands s n))
      ∙ take_all (length (commands_in s n)) (commands_in s n) (omega arith);
  ended = over.ended;
}

pub over_done : (st : Setting) (past : List Event) (s : Stage) (part : List Event) → DoesStage st past s part → IsOver st past s part
over_done st past s part does = record {
  each = λ n lt. ap (λ (l : List Command). length l) (does.done n lt) ∙ length_commands s n;
  ended = does.ended;
}

-- ## phase after phase

pub do_all_more : (st : Setting) (past : List Event) (ss ts : List Stage) (a b : List Event) → DoAll st past ss a → DoAll st (past ++ a) ts b → DoAll st past (ss ++ ts) (a ++ b)
do_all_more st past [] ts a b is rest =
    subst (λ (l : List Event). DoAll st past ts (l ++ b)) (sym is)
    (subst (λ (l : List Event). DoAll st l ts b) ((λ i. past ++ is i) ∙ append-nil past) rest)
do_all_more st past (s ∷ ss) ts a b (part, later, is, does, more) rest = (
  part,
  later ++ b,
  (λ i. is i ++ b) ∙ joined part later b,
  does,
  do_all_more st (past ++ part) ss ts later b more (subst (λ (l : List Event). DoAll st l ts b) ((λ i. past ++ is i) ∙ sym (joined past part later)) rest),
)

-- what nodes complete in phases that are done
pub completed_all : (st : Setting) (past : List Event) (ss : List Stage) (events : List Event) → DoAll st past ss events → (n : ℕ) → n < st.nodes →
    completed n events ≡ flat_map (λ s. commands_in s n) ss
completed_all st past [] events is n lt = ap (completed n) is
completed_all st past (s ∷ ss) events (part, later, is, does, more) n lt =
    ap (completed n) is ∙ completed_two n part later
    ∙ (λ i. does.done n lt i ++ completed_all st (past ++ part) ss later more n lt i)
