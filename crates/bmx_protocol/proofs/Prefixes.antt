-- Prefixes of legal histories.
use Rattle.std.proofs.Common.{◌≡◌, ℕ, refl, ap, sym, ◌∙◌, List, [], ◌∷◌, ◌++◌}
use Rattle.bmx_types.specs.Updates.{put}
use Rattle.bmx_protocol.specs.declared.events.Event.{Event}
use Rattle.bmx_protocol.specs.Nodes.{Setting}
use Rattle.bmx_protocol.specs.Steps.{Node, first_node}
use Rattle.bmx_protocol.specs.Histories.{Replays}
use Rattle.bmx_protocol.specs.Laws.{EmptyIsLegal, PrefixIsLegal, StampIsWithinPlace}

-- lists joined to the right
pub joined : (p r t : List Event) → (p ++ r) ++ t ≡ p ++ (r ++ t)
joined [] r t = refl
joined (e ∷ p) r t = ap (λ (l : List Event). e ∷ l) (joined p r t)

-- no list ends in an event and is empty
pub not_empty : (p r : List Event) (e : Event) → p ++ e ∷ r ≡ [] → ⊥
not_empty [] r e h = cc
not_empty (f ∷ p) r e h = cc

pub empty_is_legal : EmptyIsLegal
empty_is_legal st = record {
  fits = λ p r e h. absurd (not_empty p r e h);
  steps = (first_node st, refl);
}

replays_prefix : (st : Setting) (nodes : ℕ → Node) (past rest : List Event) (last : ℕ → Node) →
    Replays st nodes (past ++ rest) last → (mid : ℕ → Node) × Replays st nodes past mid
replays_prefix st nodes [] rest last h = (nodes, refl)
replays_prefix st nodes (e ∷ past) rest last h =
    let t : (mid : ℕ → Node) × Replays st (put nodes e.node h.0) past mid =
    replays_prefix st (put nodes e.node h.0) past rest last h.2 in
    (t.0, (h.0, h.1, t.1))

pub prefix_is_legal : PrefixIsLegal
prefix_is_legal st past rest legal = record {
  fits = λ p r e h. legal.fits p (r ++ rest) e (sym (joined p (e ∷ r) rest) ∙ ap (λ (l : List Event). l ++ rest) h);
  steps = replays_prefix st (first_node st) past rest legal.steps.0 legal.steps.1;
}

pub stamp_is_within_place : StampIsWithinPlace
stamp_is_within_place st past rest e legal = (legal.fits past rest e refl).early
