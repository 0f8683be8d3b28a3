-- A step by any input leads to one node, and leaves it where it is refused; a history with collectors leads to one world
-- of nodes, and each prefix of a legal one is legal.
use Rattle.std.proofs.Common.{◌≡◌, ℕ, ◌+◌, refl, ap, sym, ◌∙◌, subst, Bool, false, cond, List, [], ◌∷◌, ◌++◌}
use Rattle.std.specs.List.{fold}
use Rattle.bmx_types.specs.Updates.{put}
use Rattle.bmx_protocol.specs.declared.inputs.Input.{Input}
use Rattle.bmx_protocol.specs.declared.inputs.Input.TheVariants as input
use Rattle.bmx_protocol.specs.declared.inputs.NodeAnswer.{NodeAnswer}
use Rattle.bmx_protocol.specs.declared.inputs.NodeAnswer.TheVariants as answer
use Rattle.bmx_protocol.specs.declared.inputs.Done.{Done}
use Rattle.bmx_protocol.specs.Nodes.{Setting, NodeState}
use Rattle.bmx_protocol.specs.Changes.{with_step}
use Rattle.bmx_protocol.specs.Rules.{Reaction}
use Rattle.bmx_protocol.specs.Steps.{Node, Told, IsStep, rule, letter_rule, is_nil, is_taken}
use Rattle.bmx_protocol.specs.Laws.{IsRefusal}
use Rattle.bmx_protocol.proofs.Refusals.{IsLetterAnswer, Took, Strayed, letter_answers, refusal_keeps}
use Rattle.bmx_protocol.proofs.Replayed.{step_is_determined}
use Rattle.bmx_collection.specs.Links.{with_pair, pairs_of_command, pairs_of_message, pairs_of, links_after}
use Rattle.bmx_collection.specs.Steps.{LinkedNode, unlinked, first_linked, CollectorInput, IsCollectorStep}
use Rattle.bmx_collection.specs.Histories.{Deed, Plain, Collector, LinkedEvent, IsDeed, ReplaysLinked}
use Rattle.bmx_collection.specs.Laws.{EachStepIsDetermined, EachRefusalKeeps, PrefixIsLegalLinked, LinkedReplayIsDetermined}
use Rattle.bmx_collection.proofs.Steps.{collector_step_is_determined, collector_refusal_keeps}

pub joined : (p r t : List LinkedEvent) → (p ++ r) ++ t ≡ p ++ (r ++ t)
joined [] r t = refl
joined (e ∷ p) r t = ap (λ (l : List LinkedEvent). e ∷ l) (joined p r t)

replays_prefix : (st : Setting) (nodes : ℕ → LinkedNode) (past rest : List LinkedEvent) (last : ℕ → LinkedNode) →
    ReplaysLinked st nodes (past ++ rest) last → (mid : ℕ → LinkedNode) × ReplaysLinked st nodes past mid
replays_prefix st nodes [] rest last h = (nodes, refl)
replays_prefix st nodes (e ∷ past) rest last h =
    let t : (mid : ℕ → LinkedNode) × ReplaysLinked st (put nodes e.node h.0) past mid =
    replays_prefix st (put nodes e.node h.0) past rest last h.2 in
    (t.0, (h.0, h.1, t.1))

pub prefix_is_legal_linked : PrefixIsLegalLinked
prefix_is_legal_linked st past rest legal = record {
  fits = λ p r e h. legal.fits p (r ++ rest) e (sym (joined p (e ∷ r) rest) ∙ ap (λ (l : List LinkedEvent). l ++ rest) h);
  steps = replays_prefix st (first_linked st) past rest legal.steps.0 legal.steps.1;
}

-- ## a step

pub each_step_is_determined : EachStepIsDetermined
each_step_is_determined st me stamp n n' m' (Plain i c) (Plain j d) same a b =
    let is : i ≡ j = cc in
    let step : IsStep st me (unlinked n) stamp i d (unlinked m') = subst (λ (x : Input). IsStep st me (unlinked n) stamp x d (unlinked m')) (sym is) b.step in
    let both : (c ≡ d) × (unlinked n' ≡ unlinked m') = step_is_determined.nodes st me stamp i (unlinked n) (unlinked n') (unlinked m') c d a.step step in
    let links : n'.links ≡ m'.links = a.links ∙ (λ k. links_after me n.state n.links (is k) (both.0 k).answer) ∙ sym b.links in
    (λ k. Plain (is k) (both.0 k), λ k. record { state = (ap (λ (x : Node). x.state) both.1) k; links = links k; places = (ap (λ (x : Node). x.places) both.1) k })
each_step_is_determined st me stamp n n' m' (Plain i c) (Collector j d) same a b = cc
each_step_is_determined st me stamp n n' m' (Collector i c) (Plain j d) same a b = cc
each_step_is_determined st me stamp n n' m' (Collector i c) (Collector j d) same a b =
    let is : i ≡ j = cc in
    let step : IsCollectorStep st me n stamp i d m' = subst (λ (x : CollectorInput). IsCollectorStep st me n stamp x d m') (sym is) b in
    let both : (c ≡ d) × (n' ≡ m') = collector_step_is_determined st me stamp i n n' m' c d a step in
    (λ k. Collector (is k) (both.0 k), both.1)

-- the step of an event leads to one node
pub one_node : (st : Setting) (me stamp : ℕ) (n n' m' : LinkedNode) (d : Deed) → IsDeed st me n stamp d n' → IsDeed st me n stamp d m' → n' ≡ m'
one_node st me stamp n n' m' d a b = (each_step_is_determined st me stamp n n' m' d d refl a b).1

not_nil : (a : NodeAnswer) → IsRefusal a → is_nil a ≡ false
not_nil answer.Nil h = absurd h
not_nil (answer.Value v) h = refl
not_nil answer.Yes h = refl
not_nil answer.No h = refl
not_nil answer.Wait h = refl
not_nil (answer.Refused why) h = refl
not_nil answer.Idle h = refl
not_nil answer.Stray h = refl

-- a letter that isn't taken is stray
not_taken : (a : NodeAnswer) (o : Reaction) → a ≡ o.answer → IsLetterAnswer o → IsRefusal a → is_taken a ≡ false
not_taken a o answered (Took nil) refuses = absurd (subst IsRefusal (answered ∙ nil) refuses)
not_taken a o answered (Strayed is) refuses = ap is_taken (answered ∙ ap (λ (r : Reaction). r.answer) is)

-- what is refused needs no pair
no_pairs : (st : Setting) (me : ℕ) (s : NodeState) (t : Told) (i : Input) (a : NodeAnswer) → a ≡ (rule st me s t i).answer → IsRefusal a → pairs_of me s i a ≡ []
no_pairs st me s t (input.Do c) a answered refuses = ap (λ (b : Bool). cond b (pairs_of_command me s c) []) (not_nil a refuses)
no_pairs st me s t (input.Serve name) a answered refuses = refl
no_pairs st me s t (input.Take from l) a answered refuses =
    ap (λ (b : Bool). cond b (pairs_of_message l.msg) []) (not_taken a (letter_rule st me s t from l) answered (letter_answers st me s t from l) refuses)

pub each_refusal_keeps : EachRefusalKeeps
each_refusal_keeps st me stamp n n' (Plain i d) step refuses =
    let kept : (d.letters ≡ []) × (unlinked n' ≡ record (unlinked n) { state = with_step n.state }) = refusal_keeps st me stamp i (unlinked n) (unlinked n') d step.step refuses in
    let none : pairs_of me n.state i d.answer ≡ [] = no_pairs st me n.state step.step.told i d.answer (ap (λ (x : Done). x.answer) step.step.outcome) refuses in
    let links : n'.links ≡ n.links = step.links ∙ ap (fold (with_pair (n.state.clock + 1)) n.links) none in
    (kept.0, λ k. record { state = (ap (λ (x : Node). x.state) kept.1) k; links = links k; places = (ap (λ (x : Node). x.places) kept.1) k })
each_refusal_keeps st me stamp n n' (Collector i d) step refuses = collector_refusal_keeps st me stamp i n n' d step refuses

-- ## histories

one_replay : (st : Setting) (events : List LinkedEvent) (start nodes others : ℕ → LinkedNode) →
    ReplaysLinked st start events nodes → ReplaysLinked st start events others → nodes ≡ others
one_replay st [] start nodes others f g = sym f ∙ g
one_replay st (e ∷ events) start nodes others f g =
    let same : f.0 ≡ g.0 = one_node st e.node e.stamp (start e.node) f.0 g.0 e.deed f.1 g.1 in
    one_replay st events (put start e.node g.0) nodes others
    (subst (λ (n : LinkedNode). ReplaysLinked st (put start e.node n) events nodes) same f.2) g.2

pub linked_replay_is_determined : LinkedReplayIsDetermined
linked_replay_is_determined st history nodes others f g = one_replay st history (first_linked st) nodes others f g
