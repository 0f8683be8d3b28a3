-- A refused outcome changes nothing and issues nothing.
use Rattle.std.proofs.Common.{◌≡◌, ℕ, refl, ap, sym, ◌∙◌, Bool, true, false, [], cond, subst}
use Rattle.std.specs.Prelude.{◌||◌, Option, Some, None}
use Rattle.bmx_types.specs.declared.commands.Command.{Command}
use Rattle.bmx_types.specs.declared.addresses.Place.{Place}
use Rattle.bmx_graph.specs.declared.answers.Answer.{Answer}
use Rattle.bmx_graph.specs.declared.answers.Answer.TheVariants as graph
use Rattle.bmx_graph.specs.Step.{answer_of, target_of, effect}
use Rattle.bmx_msg.specs.declared.letters.Letter.{Letter}
use Rattle.bmx_msg.specs.declared.letters.Msg.{Msg}
use Rattle.bmx_token.specs.declared.parts.Part.{Part}
use Rattle.bmx_token.specs.declared.answers.Acquire.{Acquire}
use Rattle.bmx_token.specs.declared.answers.Acquire.TheVariants as acquire_is
use Rattle.bmx_token.specs.declared.answers.Release.{Release}
use Rattle.bmx_token.specs.declared.answers.Release.TheVariants as release_is
use Rattle.bmx_token.specs.declared.answers.Served.{Served}
use Rattle.bmx_token.specs.declared.answers.Served.TheVariants as served_is
use Rattle.bmx_types.specs.declared.numbers.Mode.{Mode}
use Rattle.bmx_token.specs.Tokens.{acquire, release, serve}
use Rattle.bmx_token.specs.Transitions.{Share, Transition, Operation, Acquires, Releases, Serves, transition_of, acquired, released, served, is_served}
use Rattle.bmx_protocol.specs.declared.inputs.Input.{Input}
use Rattle.bmx_protocol.specs.declared.inputs.Input.TheVariants as input
use Rattle.bmx_protocol.specs.declared.inputs.NodeAnswer.{NodeAnswer}
use Rattle.bmx_protocol.specs.declared.inputs.NodeAnswer.TheVariants as answer
use Rattle.bmx_protocol.specs.declared.inputs.Done.{Done}
use Rattle.bmx_protocol.specs.Nodes.{Setting, NodeState, Known, seen_graph, share_of}
use Rattle.bmx_protocol.specs.Places.{Places, with_all_learnt}
use Rattle.bmx_protocol.specs.Changes.{with_step}
use Rattle.bmx_protocol.specs.Rules.{Reaction, only, acquire_answer, release_answer, operation_answer, after_operation, operation_rule, About, Token, Fields, Making, Nothing, about, graph_changes, answered, graph_rule, token_rule, knows, command_rule, took, take_rule, infos}
use Rattle.bmx_protocol.specs.Strays.{is_bad_letter}
use Rattle.bmx_protocol.specs.Steps.{Node, Told, rule, letter_rule, done_of, closed, is_taken, is_nil, made_places, MovesTo}
use Rattle.bmx_protocol.specs.Laws.{IsRefusal, RefusalKeeps}

-- where the answer is a refusal there is nothing else
abbrev Keeps : Reaction → Type 0
Keeps o = IsRefusal o.answer → o ≡ only o.answer

-- what is done isn't refused
abbrev pub IsMet : Option Transition → NodeAnswer → Type 0
IsMet None a = Unit {0}
IsMet (Some t) a = IsRefusal a → ⊥

acquired_met : (me : ℕ) (m : Mode) (h : Share) (p : Part) (r : Acquire) → IsMet (acquired me m h p r) (acquire_answer r)
acquired_met me m h p acquire_is.Held = λ refuses. refuses
acquired_met me m h p (acquire_is.Asks parent) = λ refuses. refuses
acquired_met me m h p acquire_is.Waits = λ refuses. refuses
acquired_met me m h p acquire_is.Refused = tt

released_met : (h : Share) (p : Part) (r : Release) → IsMet (released h p r) (release_answer r)
released_met h p release_is.Free = λ refuses. refuses
released_met h p (release_is.Answers owner) = λ refuses. refuses
released_met h p release_is.Refused = tt

served_met : (h : Share) (p : Part) (r : Served) → IsMet (served h p r) (cond (is_served r) answer.Nil answer.Idle)
served_met h p served_is.Idle = tt
served_met h p served_is.Ready = λ refuses. refuses
served_met h p (served_is.Read asker) = λ refuses. refuses
served_met h p (served_is.Revokes nodes) = λ refuses. refuses
served_met h p (served_is.Moves to rest) = λ refuses. refuses

act_met : (me : ℕ) (a : Operation) (h : Share) → IsMet (transition_of me a h) (operation_answer me a h)
act_met me (Acquires m) h = acquired_met me m h (acquire me h.part m h.copy).0 (acquire me h.part m h.copy).1
act_met me Releases h = released_met h (release h.part).0 (release h.part).1
act_met me Serves h = served_met h (serve me h.part).0 (serve me h.part).1

acted_keeps : (s : NodeState) (lies : ℕ → Place) (name : ℕ) (k : Known) (a : NodeAnswer) (t : Option Transition) → IsMet t a → Keeps (after_operation s lies name k a t)
acted_keeps s lies name k a None met refuses = refl
acted_keeps s lies name k a (Some t) met refuses = absurd (met refuses)

act_keeps : (me : ℕ) (s : NodeState) (lies : ℕ → Place) (a : Operation) (unknown : NodeAnswer) (name : ℕ) (k : Option Known) → Keeps (operation_rule me s lies a unknown name k)
act_keeps me s lies a unknown name None refuses = refl
act_keeps me s lies a unknown name (Some k) refuses = acted_keeps s lies name k (operation_answer me a (share_of k)) (transition_of me a (share_of k)) (act_met me a (share_of k)) refuses

answered_keeps : (changes : _) (a : Answer) → Keeps (answered changes a)
answered_keeps changes graph.Nil refuses = absurd refuses
answered_keeps changes (graph.Value v) refuses = absurd refuses
answered_keeps changes graph.Yes refuses = absurd refuses
answered_keeps changes graph.No refuses = absurd refuses
answered_keeps changes graph.Wait refuses = absurd refuses
answered_keeps changes (graph.Refused why) refuses = refl

graph_keeps : (me : ℕ) (s : NodeState) (c : Command) → Keeps (graph_rule me s c)
graph_keeps me s c = answered_keeps (graph_changes me s (effect (seen_graph me s) me c)) (answer_of (seen_graph me s) me c)

token_keeps : (me : ℕ) (s : NodeState) (lies : ℕ → Place) (a : Operation) (name : Option ℕ) → Keeps (token_rule me s lies a name)
token_keeps me s lies a None refuses = refl
token_keeps me s lies a (Some name) refuses = act_keeps me s lies a _ name (s.known name) refuses

-- one of two outcomes, by a test
either_keeps : (b : Bool) (o p : Reaction) → Keeps o → Keeps p → Keeps (cond b o p)
either_keeps true o p h k = h
either_keeps false o p h k = k

command_keeps : (me : ℕ) (s : NodeState) (full : Bool) (lies : ℕ → Place) (c : Command) (what : About) → Keeps (command_rule me s full lies c what)
command_keeps me s full lies c (Token a on) = token_keeps me s lies a (target_of (seen_graph me s) me on)
command_keeps me s full lies c (Fields on) =
    either_keeps (knows s (target_of (seen_graph me s) me on)) _ _ (graph_keeps me s c) (λ _. refl)
command_keeps me s full lies c Making = either_keeps full _ _ (λ _. refl) (graph_keeps me s c)
command_keeps me s full lies c Nothing = graph_keeps me s c

-- a letter is taken or stray
pub data IsLetterAnswer : Reaction → Type 0 where
  Took : {o : Reaction} → o.answer ≡ answer.Nil → IsLetterAnswer o
  Strayed : {o : Reaction} → o ≡ only answer.Stray → IsLetterAnswer o

pub take_answers : (me : ℕ) (s : NodeState) (lies : ℕ → Place) (from seq : ℕ) (m : Msg) → IsLetterAnswer (take_rule me s lies from seq m)
take_answers me s lies from seq m = by_transition _ _
  where
    by_transition : (k : Option Known) (t : Option Transition) → IsLetterAnswer (took s lies from seq m k t)
    by_transition k None = Strayed refl
    by_transition k (Some t) = Took refl

pub letter_answers : (st : Setting) (me : ℕ) (s : NodeState) (t : Told) (from : ℕ) (l : Letter) → IsLetterAnswer (letter_rule st me s t from l)
letter_answers st me s t from l = by_test (is_bad_letter st me s from l || t.clash)
  where
    by_test : (bad : Bool) → IsLetterAnswer (cond bad (only answer.Stray) (take_rule me s t.lies from l.seq l.msg))
    by_test true = Strayed refl
    by_test false = take_answers me s t.lies from l.seq l.msg

letter_keeps : (o : Reaction) → IsLetterAnswer o → Keeps o
letter_keeps o (Took nil) refuses = absurd (subst IsRefusal nil refuses)
letter_keeps o (Strayed is) refuses = is ∙ ap (λ (r : Reaction). only r.answer) (sym is)

letter_strays : (o : Reaction) → IsLetterAnswer o → IsRefusal o.answer → is_taken o.answer ≡ false
letter_strays o (Took nil) refuses = absurd (subst IsRefusal nil refuses)
letter_strays o (Strayed is) refuses = ap (λ (r : Reaction). is_taken r.answer) is

rule_keeps : (st : Setting) (me : ℕ) (s : NodeState) (t : Told) (i : Input) → Keeps (rule st me s t i)
rule_keeps st me s t (input.Do c) = command_keeps me s t.full t.lies c (about c)
rule_keeps st me s t (input.Serve name) = act_keeps me s t.lies Serves answer.Idle name (s.known name)
rule_keeps st me s t (input.Take from l) = letter_keeps _ (letter_answers st me s t from l)

-- ## the places

not_nil : (a : NodeAnswer) → IsRefusal a → is_nil a ≡ false
not_nil answer.Nil h = absurd h
not_nil (answer.Value v) h = refl
not_nil answer.Yes h = refl
not_nil answer.No h = refl
not_nil answer.Wait h = refl
not_nil (answer.Refused why) h = refl
not_nil answer.Idle h = refl
not_nil answer.Stray h = refl

places_keep : (st : Setting) (me : ℕ) (n : Node) (t : Told) (i : Input) (places : Places) →
    let o : Reaction = rule st me n.state t i in
    IsRefusal o.answer → MovesTo me n t i o.answer places → places ≡ n.places
places_keep st me n t (input.Do c) places refuses moved =
    moved ∙ ap (λ (b : Bool). cond b (made_places me n c) n.places) (not_nil (rule st me n.state t (input.Do c)).answer refuses)
places_keep st me n t (input.Serve name) places refuses moved = moved
places_keep st me n t (input.Take from l) places refuses moved =
    let o : Reaction = letter_rule st me n.state t from l in
    moved ∙ ap (λ (b : Bool). cond b (with_all_learnt n.places (infos l.msg)) n.places) (letter_strays o (letter_answers st me n.state t from l) refuses)

-- ## the step

pub refusal_keeps : RefusalKeeps
refusal_keeps st me stamp i n n' d step refuses =
    let o : Reaction = rule st me n.state step.told i in
    let answered : d.answer ≡ o.answer = ap (λ (x : Done). x.answer) step.outcome in
    let refused : IsRefusal o.answer = subst IsRefusal answered refuses in
    let kept : o ≡ only o.answer = rule_keeps st me n.state step.told i refused in
    let letters : d.letters ≡ [] = ap (λ (x : Done). x.letters) step.outcome ∙ ap (λ (w : Reaction). (done_of stamp n.state w).letters) kept in
    let state : n'.state ≡ with_step n.state = step.state ∙ ap (closed stamp n.state) kept in
    let moved : MovesTo me n step.told i o.answer n'.places = subst (λ (a : NodeAnswer). MovesTo me n step.told i a n'.places) answered step.places in
    let places : n'.places ≡ n.places = places_keep st me n step.told i n'.places refused moved in
    (letters, λ i. record { state = state i; places = places i })
