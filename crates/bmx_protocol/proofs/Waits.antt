-- An outcome that answers Wait changes only what is known of names.
use Rattle.std.proofs.Common.{◌≡◌, ℕ, refl, ap, sym, ◌∙◌, Bool, true, false, List, [], ◌∷◌, ◌++◌, cond, subst}
use Rattle.std.specs.Prelude.{Option, Some, None}
use Rattle.bmx_types.specs.declared.commands.Command.{Command}
use Rattle.bmx_types.specs.declared.addresses.Place.{Place}
use Rattle.bmx_graph.specs.declared.answers.Answer.{Answer}
use Rattle.bmx_graph.specs.declared.answers.Answer.TheVariants as graph
use Rattle.bmx_graph.specs.Step.{answer_of, target_of, effect}
use Rattle.bmx_token.specs.Transitions.{Share, Transition, Operation, Serves, transition_of}
use Rattle.bmx_protocol.specs.declared.inputs.Input.{Input}
use Rattle.bmx_protocol.specs.declared.inputs.Input.TheVariants as input
use Rattle.bmx_protocol.specs.declared.inputs.NodeAnswer.{NodeAnswer}
use Rattle.bmx_protocol.specs.declared.inputs.NodeAnswer.TheVariants as answer
use Rattle.bmx_protocol.specs.declared.inputs.Done.{Done}
use Rattle.bmx_protocol.specs.Nodes.{Setting, NodeState, Known, seen_graph, share_of}
use Rattle.bmx_protocol.specs.Places.{Places}
use Rattle.bmx_protocol.specs.Changes.{Change, after_changes, with_step}
use Rattle.bmx_protocol.specs.Rules.{Draft, Reaction, known_change, operation_answer, after_operation, operation_rule, About, Token, Fields, Making, Nothing, about, graph_changes, answered, graph_rule, token_rule, knows, command_rule, Reaction}
use Rattle.bmx_protocol.specs.Steps.{Node, Told, rule, letter_rule, numbered, closed, MovesTo}
use Rattle.bmx_protocol.specs.Laws.{WaitKeeps}
use Rattle.bmx_protocol.proofs.Refusals.{IsLetterAnswer, Took, Strayed, letter_answers}

-- the changes are of what is known alone
abbrev OnlyKnow : List Change → Type 0
OnlyKnow changes = (s : NodeState) → after_changes s changes ≡ record s { known = (after_changes s changes).known }

-- an outcome that waits changes only that
abbrev Waits : Reaction → Type 0
Waits o = o.answer ≡ answer.Wait → OnlyKnow o.changes

known_waits : (name : ℕ) (k : Option Known) (fields : _) (h : Option Share) → OnlyKnow (known_change name k fields h)
known_waits name None fields h s = refl
known_waits name (Some k) fields None s = refl
known_waits name (Some k) fields (Some h) s = refl

act_waits : (me : ℕ) (s : NodeState) (lies : ℕ → Place) (a : Operation) (unknown : NodeAnswer) (name : ℕ) (k : Option Known) → Waits (operation_rule me s lies a unknown name k)
act_waits me s lies a unknown name None h = λ _. refl
act_waits me s lies a unknown name (Some k) h = by_transition (transition_of me a (share_of k))
  where
    by_transition : (t : Option Transition) → OnlyKnow (after_operation s lies name k (operation_answer me a (share_of k)) t).changes
    by_transition None = λ _. refl
    by_transition (Some t) = known_waits name (Some k) k.copy t.after

answered_waits : (changes : List Change) (a : Answer) → Waits (answered changes a)
answered_waits changes graph.Nil h = absurd cc
answered_waits changes (graph.Value v) h = absurd cc
answered_waits changes graph.Yes h = absurd cc
answered_waits changes graph.No h = absurd cc
answered_waits changes graph.Wait h = λ _. refl
answered_waits changes (graph.Refused why) h = λ _. refl

graph_waits : (me : ℕ) (s : NodeState) (c : Command) → Waits (graph_rule me s c)
graph_waits me s c = answered_waits (graph_changes me s (effect (seen_graph me s) me c)) (answer_of (seen_graph me s) me c)

token_waits : (me : ℕ) (s : NodeState) (lies : ℕ → Place) (a : Operation) (name : Option ℕ) → Waits (token_rule me s lies a name)
token_waits me s lies a None h = λ _. refl
token_waits me s lies a (Some name) h = act_waits me s lies a _ name (s.known name) h

either_waits : (b : Bool) (o p : Reaction) → Waits o → Waits p → Waits (cond b o p)
either_waits true o p h k = h
either_waits false o p h k = k

command_waits : (me : ℕ) (s : NodeState) (full : Bool) (lies : ℕ → Place) (c : Command) (what : About) → Waits (command_rule me s full lies c what)
command_waits me s full lies c (Token a on) = token_waits me s lies a (target_of (seen_graph me s) me on)
command_waits me s full lies c (Fields on) = either_waits (knows s (target_of (seen_graph me s) me on)) _ _ (graph_waits me s c) (λ _ _. refl)
command_waits me s full lies c Making = either_waits full _ _ (λ _ _. refl) (graph_waits me s c)
command_waits me s full lies c Nothing = graph_waits me s c

letter_waits : (o : Reaction) → IsLetterAnswer o → Waits o
letter_waits o (Took nil) h = (let both : answer.Nil ≡ answer.Wait = sym nil ∙ h in absurd cc)
letter_waits o (Strayed is) h = (let both : answer.Stray ≡ answer.Wait = sym (ap (λ (r : Reaction). r.answer) is) ∙ h in absurd cc)

rule_waits : (st : Setting) (me : ℕ) (s : NodeState) (t : Told) (i : Input) → Waits (rule st me s t i)
rule_waits st me s t (input.Do c) = command_waits me s t.full t.lies c (about c)
rule_waits st me s t (input.Serve name) = act_waits me s t.lies Serves answer.Idle name (s.known name)
rule_waits st me s t (input.Take from l) = letter_waits _ (letter_answers st me s t from l)

-- the places of what waits
places_wait : (st : Setting) (me : ℕ) (n : Node) (t : Told) (i : Input) (places : Places) →
    (rule st me n.state t i).answer ≡ answer.Wait → MovesTo me n t i answer.Wait places → places ≡ n.places
places_wait st me n t (input.Do c) places h moved = moved
places_wait st me n t (input.Serve name) places h moved = moved
places_wait st me n t (input.Take from l) places h moved = absurd (no_wait (letter_rule st me n.state t from l) (letter_answers st me n.state t from l) h)
  where
    no_wait : (o : Reaction) → IsLetterAnswer o → o.answer ≡ answer.Wait → ⊥
    no_wait o (Took nil) h = (let both : answer.Nil ≡ answer.Wait = sym nil ∙ h in cc)
    no_wait o (Strayed is) h = (let both : answer.Stray ≡ answer.Wait = sym (ap (λ (r : Reaction). r.answer) is) ∙ h in cc)

-- no letter means no draft
none_numbered : (issued : ℕ → ℕ) (stamp : ℕ) (drafts : List Draft) → numbered issued stamp drafts ≡ [] → drafts ≡ []
none_numbered issued stamp [] h = refl
none_numbered issued stamp (d ∷ drafts) h = absurd cc

pub wait_keeps : WaitKeeps
wait_keeps st me stamp i n n' d step waits none same =
    let o : Reaction = rule st me n.state step.told i in
    let answers : o.answer ≡ answer.Wait = sym (ap (λ (x : Done). x.answer) step.outcome) ∙ waits in
    let drafts : o.drafts ≡ [] =
    none_numbered n.state.issued stamp o.drafts (sym (ap (λ (x : Done). x.letters) step.outcome) ∙ none) in
    let quiet : o ≡ record o { drafts = [] } = λ j. record o { drafts = drafts j } in
    let after : n'.state ≡ with_step (after_changes n.state o.changes) = step.state ∙ ap (closed stamp n.state) quiet ∙ closed_quiet stamp n.state o in
    let known : (after_changes n.state o.changes).known ≡ n.state.known = sym (ap (λ (s : NodeState). s.known) after) ∙ same in
    let kept : after_changes n.state o.changes ≡ n.state =
    rule_waits st me n.state step.told i answers n.state ∙ (λ j. record (n.state) { known = known j }) in
    let moved : MovesTo me n step.told i answer.Wait n'.places = subst (λ (a : NodeAnswer). MovesTo me n step.told i a n'.places) waits step.places in
    let places : n'.places ≡ n.places = places_wait st me n step.told i n'.places answers moved in
    (λ j. record { state = (after ∙ ap with_step kept) j; places = places j })
  where
    no_more : (changes : List Change) → changes ++ [] ≡ changes
    no_more [] = refl
    no_more (c ∷ changes) = ap (λ (l : List Change). c ∷ l) (no_more changes)

    closed_quiet : (stamp : ℕ) (s : NodeState) (o : Reaction) → closed stamp s (record o { drafts = [] }) ≡ with_step (after_changes s o.changes)
    closed_quiet stamp s o = ap (λ (l : List Change). with_step (after_changes s l)) (no_more o.changes)
