-- A step makes one outcome and one node, and a history leads to one world.
use Rattle.std.proofs.Common.{◌≡◌, ℕ, refl, ap, sym, ◌∙◌, subst, List, [], ◌∷◌}
use Rattle.bmx_types.specs.Updates.{put}
use Rattle.bmx_protocol.specs.declared.inputs.Input.{Input}
use Rattle.bmx_protocol.specs.declared.inputs.Input.TheVariants as input
use Rattle.bmx_protocol.specs.declared.inputs.NodeAnswer.{NodeAnswer}
use Rattle.bmx_protocol.specs.declared.inputs.Done.{Done}
use Rattle.bmx_protocol.specs.declared.events.Event.{Event}
use Rattle.bmx_protocol.specs.Nodes.{Setting, NodeState}
use Rattle.bmx_protocol.specs.Places.{Places}
use Rattle.bmx_protocol.specs.Steps.{Node, Told, IsTold, rule, done_of, closed, MovesTo, IsStep, first_node}
use Rattle.bmx_protocol.specs.Histories.{Replays}
use Rattle.bmx_protocol.specs.Cases.{told_at}
use Rattle.bmx_protocol.specs.Laws.{ToldIsDetermined, StepIsDetermined, ReplayIsDetermined}

one_told : (st : Setting) (me : ℕ) (n : Node) (i : Input) (t u : Told) → IsTold st me n i t → IsTold st me n i u → t ≡ u
one_told st me n i t u a b = λ j. record {
  full = (a.full ∙ sym b.full) j;
  clash = (a.clash ∙ sym b.clash) j;
  lies = λ name. (a.lies name ∙ sym (b.lies name)) j;
}

pub told_is_determined : ToldIsDetermined
told_is_determined = record {
  some = λ st me n i. (told_at st me n i, record { full = refl; clash = refl; lies = λ name. refl });
  one = one_told;
}

same_rule : (st : Setting) (me : ℕ) (i : Input) (s u : NodeState) (t v : Told) → s ≡ u → t ≡ v → rule st me s t i ≡ rule st me u v i
same_rule st me i s u t v e f = ap (λ (x : NodeState). rule st me x t i) e ∙ ap (λ (x : Told). rule st me u x i) f

-- the places after an input are one
one_place : (me : ℕ) (n : Node) (t u : Told) (i : Input) (a b : NodeAnswer) (p q : Places) → a ≡ b → MovesTo me n t i a p → MovesTo me n u i b q → p ≡ q
one_place me n t u i a b p q e g h = by_input i (subst (λ (x : NodeAnswer). MovesTo me n t i x p) e g) h
  where
    by_input : (i : Input) → MovesTo me n t i b p → MovesTo me n u i b q → p ≡ q
    by_input (input.Do c) g h = g ∙ sym h
    by_input (input.Serve name) g h = g ∙ sym h
    by_input (input.Take from l) g h = g ∙ sym h

-- steps of nodes with one state, told the same
one_outcome : (st : Setting) (me stamp : ℕ) (i : Input) (n m n' m' : Node) (c d : Done) (a : IsStep st me n stamp i c n') (b : IsStep st me m stamp i d m') →
    n.state ≡ m.state → a.told ≡ b.told → (c ≡ d) × (n'.state ≡ m'.state)
one_outcome st me stamp i n m n' m' c d a b same told =
    let o : rule st me n.state a.told i ≡ rule st me m.state b.told i = same_rule st me i n.state m.state a.told b.told same told in (
      a.outcome ∙ (λ j. done_of stamp (same j) (o j)) ∙ sym b.outcome,
      a.state ∙ (λ j. closed stamp (same j) (o j)) ∙ sym b.state,
    )

one_node : (st : Setting) (me stamp : ℕ) (i : Input) (n n' m' : Node) (c d : Done) →
    IsStep st me n stamp i c n' → IsStep st me n stamp i d m' → (c ≡ d) × (n' ≡ m')
one_node st me stamp i n n' m' c d a b =
    let both : (c ≡ d) × (n'.state ≡ m'.state) =
    one_outcome st me stamp i n n n' m' c d a b (λ _. n.state) (one_told st me n i a.told b.told a.is_told b.is_told) in
    let places : n'.places ≡ m'.places =
    one_place me n a.told b.told i c.answer d.answer n'.places m'.places (ap (λ (x : Done). x.answer) both.0) a.places b.places in
    (both.0, λ j. record { state = both.1 j; places = places j })

pub step_is_determined : StepIsDetermined
step_is_determined = record { states = one_outcome; nodes = one_node }

one_replay : (st : Setting) (events : List Event) (start nodes others : ℕ → Node) →
    Replays st start events nodes → Replays st start events others → nodes ≡ others
one_replay st [] start nodes others f g = sym f ∙ g
one_replay st (e ∷ events) start nodes others f g =
    let same : f.0 ≡ g.0 = (one_node st e.node e.stamp e.input (start e.node) f.0 g.0 e.done e.done f.1 g.1).1 in
    one_replay st events (put start e.node g.0) nodes others
    (subst (λ (n : Node). Replays st (put start e.node n) events nodes) same f.2) g.2

pub replay_is_determined : ReplayIsDetermined
replay_is_determined st history nodes others f g = one_replay st history (first_node st) nodes others f g
