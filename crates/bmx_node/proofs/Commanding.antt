-- Commands that touch no token come to what the graph makes of them.
use Rattle.bmx_node.proofs.Graphing.{graph_is}
use Rattle.bmx_node.proofs.Reactions.{reacts_silently}
use Rattle.std.proofs.Common.{◌≡◌, ℕ, [], refl, sym, ◌∙◌, ap, subst}
use Rattle.bmx_types.specs.declared.commands.Command.{Command}
use Rattle.bmx_graph.specs.State.{State}
use Rattle.bmx_graph.specs.Step.{effect, answer_of, effect_after}
use Rattle.bmx_graph.specs.declared.answers.Answer.{Answer}
use Rattle.bmx_graph.specs.declared.effects.Effect.{Effect}
use Rattle.bmx_protocol.specs.Nodes.{NodeState, seen_graph}
use Rattle.bmx_protocol.specs.Changes.{after_changes}
use Rattle.bmx_protocol.specs.Rules.{Reaction, graph_changes, answered, graph_rule}
use Rattle.bmx_node.specs.declared.holdings.Holdings.{Holdings}
use Rattle.bmx_node.specs.Seen.{state_of}
use Rattle.bmx_node.specs.Inside.Graphs.{graph_of}
use Rattle.bmx_node.specs.Inside.Keeping.{Keeps}
use Rattle.bmx_node.specs.Inside.Reacting.{Reacts, node_answer}
use Rattle.bmx_graph.specs.declared.answers.Answer.TheVariants as graph

-- by the graph's answer, with the effect that comes of it
answered_is : (me : ℕ) (s : NodeState) (c : Command) (a : Answer) →
    answered (graph_changes me s (effect (seen_graph me s) me c)) a
    ≡ record { changes = graph_changes me s (effect_after (seen_graph me s) me c a); drafts = []; answer = node_answer a }
answered_is me s c graph.Nil = refl
answered_is me s c (graph.Value v) = refl
answered_is me s c graph.Yes = refl
answered_is me s c graph.No = refl
answered_is me s c graph.Wait = refl
answered_is me s c (graph.Refused why) = refl

-- what was decided, and done
pub graph_reacts : (stamp : ℕ) (h : Holdings) (c : Command) (a : Answer) (e : Effect) (t : NodeState) → Keeps h →
    a ≡ answer_of (graph_of h) h.me c → e ≡ effect_after (graph_of h) h.me c a → t ≡ after_changes (state_of h) (graph_changes h.me (state_of h) e) →
    Reacts stamp (state_of h) (graph_rule h.me (state_of h) c) (record { answer = node_answer a; letters = [] }) t
graph_reacts stamp h c a e t keeps answer_is effect_is done =
    let s : NodeState = state_of h in
    let seen : graph_of h ≡ seen_graph h.me s = graph_is h keeps in
    let told : a ≡ answer_of (seen_graph h.me s) h.me c = answer_is ∙ ap (λ (g : State). answer_of g h.me c) seen in
    let effected : e ≡ effect_after (seen_graph h.me s) h.me c a = effect_is ∙ ap (λ (g : State). effect_after g h.me c a) seen in
    let rule : graph_rule h.me s c ≡ record { changes = graph_changes h.me s e; drafts = []; answer = node_answer a } =
    ap (answered (graph_changes h.me s (effect (seen_graph h.me s) h.me c))) (sym told)
    ∙ answered_is h.me s c a
    ∙ ap (λ (x : Effect). record { changes = graph_changes h.me s x; drafts = []; answer = node_answer a }) (sym effected) in
    subst (λ (r : Reaction). Reacts stamp s r (record { answer = node_answer a; letters = [] }) t) (sym rule)
    (reacts_silently stamp s t (graph_changes h.me s e) (node_answer a) done)
