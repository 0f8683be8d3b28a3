-- Changes one after another, and what a rule's own changes leave.
use Rattle.std.proofs.Common.{◌≡◌, ℕ, refl, Bool, true, false, cond, List, [], ◌∷◌, ◌++◌, map}
use Rattle.std.specs.Prelude.{◌||◌, Option, Some, None}
use Rattle.bmx_types.specs.declared.commands.Command.{Command}
use Rattle.bmx_types.specs.declared.addresses.Place.{Place}
use Rattle.bmx_types.specs.declared.addresses.Info.{Info}
use Rattle.bmx_types.specs.declared.numbers.Mode.TheVariants as mode
use Rattle.bmx_graph.specs.declared.answers.Answer.{Answer}
use Rattle.bmx_graph.specs.declared.answers.Answer.TheVariants as graph
use Rattle.bmx_graph.specs.Step.{answer_of, target_of, effect}
use Rattle.bmx_graph.specs.declared.effects.Effect.{Effect}
use Rattle.bmx_graph.specs.declared.effects.Effect.TheVariants as graph_effect
use Rattle.bmx_msg.specs.declared.letters.Msg.{Msg}
use Rattle.bmx_token.specs.Transitions.{Share, Note, Asks, Grants, Recalls, Returns, Transition, Operation, Serves, transition_of}
use Rattle.bmx_protocol.specs.declared.inputs.Input.{Input}
use Rattle.bmx_protocol.specs.declared.inputs.Input.TheVariants as input
use Rattle.bmx_protocol.specs.declared.inputs.NodeAnswer.{NodeAnswer}
use Rattle.bmx_protocol.specs.declared.inputs.NodeAnswer.TheVariants as answer
use Rattle.bmx_protocol.specs.Nodes.{Setting, NodeState, Known, seen_graph, share_of}
use Rattle.bmx_protocol.specs.Changes.{Change, Sets, Makes, Knows, Hears, Gives, Gets, Issues, Takes, after_change, after_changes}
use Rattle.bmx_protocol.specs.Rules.{Reaction, known_change, operation_answer, after_operation, operation_rule, About, Token, Fields, Making, Nothing, about, stored, graph_changes, answered, graph_rule, token_rule, knows, command_rule, copy_after, got_change, took, take_rule, infos, name_in, note_in}
use Rattle.bmx_protocol.specs.Strays.{is_bad_letter}
use Rattle.bmx_protocol.specs.Steps.{Told, rule}

-- changes of two lists, one after the other
pub after_append : (s : NodeState) (a b : List Change) → after_changes s (a ++ b) ≡ after_changes (after_changes s a) b
after_append s [] b = refl
after_append s (c ∷ a) b = after_append (after_change s c) a b

-- ## what a rule changes by itself

-- a change that isn't of what was issued or given
abbrev pub IsOwn : Change → Type 0
IsOwn (Sets register v) = Unit {0}
IsOwn Makes = Unit {0}
IsOwn (Knows name k) = Unit {0}
IsOwn (Hears from info) = Unit {0}
IsOwn (Gives name to seq) = ⊥
IsOwn (Gets name from seq) = Unit {0}
IsOwn (Issues to) = ⊥
IsOwn (Takes from) = Unit {0}

-- each change has a property
abbrev pub Each : (Change → Type 0) → List Change → Type 0
Each Has [] = Unit {0}
Each Has (c ∷ changes) = Has c × Each Has changes

pub each_append : (Has : Change → Type 0) (a b : List Change) → Each Has a → Each Has b → Each Has (a ++ b)
each_append Has [] b h k = k
each_append Has (c ∷ a) b h k = (h.0, each_append Has a b h.1 k)

-- what one change keeps, changes keep
pub kept_by_each : (P : NodeState → Type 0) (Has : Change → Type 0) → ((s : NodeState) (c : Change) → Has c → P s → P (after_change s c)) →
    (changes : List Change) → Each Has changes → (s : NodeState) → P s → P (after_changes s changes)
kept_by_each P Has step [] each s p = p
kept_by_each P Has step (c ∷ changes) each s p = kept_by_each P Has step changes each.1 (after_change s c) (step s c each.0 p)

abbrev OwnIn : Reaction → Type 0
OwnIn o = Each IsOwn o.changes

known_own : (name : ℕ) (k : Option Known) (fields : _) (h : Option Share) → Each IsOwn (known_change name k fields h)
known_own name None fields h = tt
known_own name (Some k) fields None = tt
known_own name (Some k) fields (Some h) = (tt, tt)

act_own : (me : ℕ) (s : NodeState) (lies : ℕ → Place) (a : Operation) (unknown : NodeAnswer) (name : ℕ) (k : Option Known) → OwnIn (operation_rule me s lies a unknown name k)
act_own me s lies a unknown name None = tt
act_own me s lies a unknown name (Some k) = by_transition (transition_of me a (share_of k))
  where
    by_transition : (t : Option Transition) → OwnIn (after_operation s lies name k (operation_answer me a (share_of k)) t)
    by_transition None = tt
    by_transition (Some t) = known_own name (Some k) k.copy t.after

effect_own : (me : ℕ) (s : NodeState) (e : Effect) → Each IsOwn (graph_changes me s e)
effect_own me s graph_effect.Nothing = tt
effect_own me s (graph_effect.Makes register bunch size) = (tt, (tt, (tt, tt)))
effect_own me s (graph_effect.Sets register v) = (tt, tt)
effect_own me s (graph_effect.Stores name index v) = by_known (s.known name)
  where
    by_known : (k : Option Known) → Each IsOwn (stored name k index v)
    by_known None = tt
    by_known (Some k) = (tt, tt)
effect_own me s (graph_effect.Holds name hold) = tt

answered_own : (changes : List Change) (a : Answer) → Each IsOwn changes → OwnIn (answered changes a)
answered_own changes graph.Nil h = h
answered_own changes (graph.Value v) h = h
answered_own changes graph.Yes h = h
answered_own changes graph.No h = h
answered_own changes graph.Wait h = tt
answered_own changes (graph.Refused why) h = tt

graph_own : (me : ℕ) (s : NodeState) (c : Command) → OwnIn (graph_rule me s c)
graph_own me s c = answered_own _ (answer_of (seen_graph me s) me c) (effect_own me s (effect (seen_graph me s) me c))

token_own : (me : ℕ) (s : NodeState) (lies : ℕ → Place) (a : Operation) (name : Option ℕ) → OwnIn (token_rule me s lies a name)
token_own me s lies a None = tt
token_own me s lies a (Some name) = act_own me s lies a _ name (s.known name)

either_own : (b : Bool) (o p : Reaction) → OwnIn o → OwnIn p → OwnIn (cond b o p)
either_own true o p h k = h
either_own false o p h k = k

command_own : (me : ℕ) (s : NodeState) (full : Bool) (lies : ℕ → Place) (c : Command) (what : About) → OwnIn (command_rule me s full lies c what)
command_own me s full lies c (Token a on) = token_own me s lies a (target_of (seen_graph me s) me on)
command_own me s full lies c (Fields on) = either_own (knows s (target_of (seen_graph me s) me on)) _ _ (graph_own me s c) tt
command_own me s full lies c Making = either_own full _ _ tt (graph_own me s c)
command_own me s full lies c Nothing = graph_own me s c

heard_own : (from : ℕ) (more : List Info) → Each IsOwn (map (Hears from) more)
heard_own from [] = tt
heard_own from (info ∷ more) = (tt, heard_own from more)

got_own : (from seq name : ℕ) (n : Note) → Each IsOwn (got_change from seq name n)
got_own from seq name (Asks m asker) = tt
got_own from seq name (Grants mode.Read) = tt
got_own from seq name (Grants mode.Write) = (tt, tt)
got_own from seq name Recalls = tt
got_own from seq name Returns = tt

take_own : (me : ℕ) (s : NodeState) (lies : ℕ → Place) (from seq : ℕ) (m : Msg) → OwnIn (take_rule me s lies from seq m)
take_own me s lies from seq m = by_transition (s.known (name_in m)) _
  where
    by_transition : (k : Option Known) (t : Option Transition) → OwnIn (took s lies from seq m k t)
    by_transition k None = tt
    by_transition k (Some t) =
        each_append IsOwn (map (Hears from) (infos m)) _ (heard_own from (infos m))
        (each_append IsOwn (known_change (name_in m) k (copy_after m k) t.after) _ (known_own (name_in m) k (copy_after m k) t.after)
        (each_append IsOwn (got_change from seq (name_in m) (note_in m)) (Takes from ∷ []) (got_own from seq (name_in m) (note_in m)) (tt, tt)))

-- a rule's own changes are of nothing that was issued or given
pub rule_own : (st : Setting) (me : ℕ) (s : NodeState) (t : Told) (i : Input) → OwnIn (rule st me s t i)
rule_own st me s t (input.Do c) = command_own me s t.full t.lies c (about c)
rule_own st me s t (input.Serve name) = act_own me s t.lies Serves answer.Idle name (s.known name)
rule_own st me s t (input.Take from l) =
    either_own (is_bad_letter st me s from l || t.clash) _ _ tt (take_own me s t.lies from l.seq l.msg)
