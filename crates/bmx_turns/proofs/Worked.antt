-- Two nodes that want to write one object, worked by hand: the run is stuck.
use Rattle.std.proofs.Common.{◌≡◌, ℕ, ◌<◌, arith, refl, ap, sym, ◌∙◌, subst, Bool, true, false, cond, zero, suc, List, [], ◌∷◌, ◌++◌}
use Rattle.std.specs.Prelude.{◌==◌, ◌&&◌, nat_lt, replicate, Option, Some, None, slice_index_or}
use Rattle.std.specs.Option.{option_map, option_map_or}
use Rattle.bmx_types.specs.declared.values.Val.TheVariants as val
use Rattle.bmx_types.specs.declared.openings.Birth.{Birth}
use Rattle.bmx_types.specs.Updates.{put}
use Rattle.bmx_types.specs.declared.commands.Command.TheVariants as command
use Rattle.bmx_token.specs.Transitions.{can_serve}
use Rattle.bmx_protocol.specs.declared.inputs.Input.{Input}
use Rattle.bmx_protocol.specs.declared.inputs.Input.TheVariants as input
use Rattle.bmx_protocol.specs.declared.inputs.NodeAnswer.{NodeAnswer}
use Rattle.bmx_protocol.specs.declared.inputs.NodeAnswer.TheVariants as answer
use Rattle.bmx_protocol.specs.declared.events.Event.{Event}
use Rattle.bmx_protocol.specs.Nodes.{Setting, Known, AreAll, first_known, birth_of, is_anchor, owned_birth, heard_birth}
use Rattle.bmx_protocol.specs.Steps.{Node, Told, IsStep, MovesTo, first_node}
use Rattle.bmx_protocol.specs.Histories.{Replays, AreAfter}
use Rattle.bmx_protocol.specs.Cases.{Do, Next, Move, mover, Play, input_of, told_at, places_after, with_input, play, played, one_bunch, anchor}
use Rattle.bmx_protocol.specs.Runs.Programs.{CanServe, BeginsStage}
use Rattle.bmx_protocol.proofs.Basics.{Two, Same, Apart, two, put_apart}
use Rattle.bmx_turns.specs.Cases.{crossing, waiting, CrossedWritersAreStuck}
use Rattle.bmx_turns.proofs.Completing.{begins_none, begins_one}

-- ## a played run leads to its nodes

-- a replay grows by a step
pub leads_one : (st : Setting) (start : ℕ → Node) (events : List Event) (e : Event) (mid : ℕ → Node) (n : Node) → Replays st start events mid →
    IsStep st e.node (mid e.node) e.stamp e.input e.done n → Replays st start (events ++ e ∷ []) (put mid e.node n)
leads_one st start [] e mid n h step =
    (n, subst (λ (f : ℕ → Node). IsStep st e.node (f e.node) e.stamp e.input e.done n) (sym h) step, λ i. put (h i) e.node n)
leads_one st start (f ∷ events) e mid n h step = (h.0, h.1, leads_one st (put start f.node h.0) events e mid n h.2 step)

moves : (me : ℕ) (n : Node) (t : Told) (i : Input) (a : NodeAnswer) → MovesTo me n t i a (places_after me n i a)
moves me n t (input.Do c) a = refl
moves me n t (input.Serve name) a = refl
moves me n t (input.Take from l) a = refl

one_leads : (st : Setting) (p : Play) (me : ℕ) (i : Input) → AreAfter st p.past p.nodes → AreAfter st (with_input st p me i).past (with_input st p me i).nodes
one_leads st p me i h =
    leads_one st (first_node st) p.past _ p.nodes _ h (record {
      told = told_at st me (p.nodes me) i;
      is_told = record { full = refl; clash = refl; lies = λ name. refl };
      outcome = refl;
      state = refl;
      places = moves me (p.nodes me) (told_at st me (p.nodes me) i) i _;
    })

play_leads : (st : Setting) (p : Play) (moves : List Move) → AreAfter st p.past p.nodes → AreAfter st (play st p moves).past (play st p moves).nodes
play_leads st p [] h = h
play_leads st p (m ∷ moves) h = play_leads st (with_input st p (mover m) (input_of p.past m)) moves (one_leads st p (mover m) (input_of p.past m) h)

pub played_leads : (st : Setting) (moves : List Move) → AreAfter st (played st moves).past (played st moves).nodes
played_leads st moves = play_leads st (record { nodes = first_node st; past = [] }) moves refl

-- ## the phase is begun

event_of : ℕ → Event
event_of k = slice_index_or waiting.past k (record { node = 0; stamp = 0; input = input.Serve 0; done = record { answer = answer.Idle; letters = [] } })

begins_crossing : BeginsStage crossing waiting.past
unfolding event_of
begins_crossing =
    begins_one crossing (event_of 0 ∷ event_of 1 ∷ []) (event_of 2)
    (begins_one crossing (event_of 0 ∷ []) (event_of 1) (begins_one crossing [] (event_of 0) (begins_none crossing) (λ c tried. tried)) (λ c tried. tried))
    (λ c tried. absurd cc)

-- ## nothing can be served

-- nothing is known but of the anchor
OnlyAnchor : (ℕ → Option Known) → Type 0
OnlyAnchor known = (name : ℕ) → (1 == name) ≡ false → known name ≡ None

put_only : (known : ℕ → Option Known) (k : Option Known) → OnlyAnchor known → OnlyAnchor (put known 1 k)
unfolding OnlyAnchor
put_only known k h name apart = put_apart known 1 name k apart ∙ h name apart

first_only : (n : ℕ) → OnlyAnchor (first_known (one_bunch 2) n)
unfolding OnlyAnchor
first_only n name apart = by_tests (n == 0) (nat_lt n 2 && is_anchor (one_bunch 2) name)
  where
    the_birth : Birth
    the_birth = record { name = 1; bunch = 0; fields = replicate 32 val.Null }

    none : birth_of (one_bunch 2) name ≡ None
    none = ap (λ (b : Bool). cond b (Some the_birth) None) apart

    by_tests : (a b : Bool) → cond a (option_map owned_birth (birth_of (one_bunch 2) name)) (cond b (option_map heard_birth (birth_of (one_bunch 2) name)) None) ≡ None
    by_tests true b = ap (option_map owned_birth) none
    by_tests false true = ap (option_map heard_birth) none
    by_tests false false = refl

-- node 0 knew the anchor anew twice, node 1 once
known_at_0 : OnlyAnchor (waiting.nodes 0).state.known
known_at_0 = put_only _ _ (put_only _ _ (first_only 0))

known_at_1 : OnlyAnchor (waiting.nodes 1).state.known
known_at_1 = put_only _ _ (first_only 1)

by_known : (n name : ℕ) (known : ℕ → Option Known) → OnlyAnchor known → (option_map_or (λ k. can_serve n k.part) (known 1) false ≡ true → ⊥) →
    option_map_or (λ k. can_serve n k.part) (known name) false ≡ true → ⊥
unfolding OnlyAnchor
by_known n name known only anchor_not serves = by_two (two 1 name)
  where
    by_two : Two 1 name → ⊥
    by_two (Same e) = anchor_not (subst (λ (x : ℕ). option_map_or (λ k. can_serve n k.part) (known x) false ≡ true) (sym e) serves)
    by_two (Apart h d) = (let both : false ≡ true = ap (λ (k : Option Known). option_map_or (λ (j : Known). can_serve n j.part) k false) (sym (only name h)) ∙ serves in cc)

serves_none : (n : ℕ) → n < 2 → (name : ℕ) → CanServe n (waiting.nodes n).state name → ⊥
serves_none zero lt name serves = by_known 0 name (waiting.nodes 0).state.known known_at_0 (λ h. (let both : false ≡ true = h in cc)) serves
serves_none (suc zero) lt name serves = by_known 1 name (waiting.nodes 1).state.known known_at_1 (λ h. (let both : false ≡ true = h in cc)) serves
serves_none (suc (suc n)) lt name serves = omega (arith, lt)

nothing_served : (n : ℕ) → n < 2 → AreAll (CanServe n (waiting.nodes n).state) []
nothing_served n lt = record {
  rising = λ k within. absurd (omega (arith, within));
  all = λ name. (λ c. absurd (omega (arith, c.1)), λ serves. absurd (serves_none n lt name serves));
}

-- ## the run is stuck

pub crossed_writers_are_stuck : CrossedWritersAreStuck
crossed_writers_are_stuck = record {
  past = [];
  part = waiting.past;
  cut = refl;
  before = [];
  stage = crossing;
  more = [];
  phases = refl;
  done = refl;
  begun = begins_crossing;
  nodes = waiting.nodes;
  lead = played_leads (one_bunch 2) (Do 0 (command.Write anchor) ∷ Do 1 (command.Write anchor) ∷ Next 1 0 ∷ []);
  names = λ n. [];
  served = nothing_served;
  none = refl;
  unfinished = record { node = 1; real = omega arith; short = omega arith };
}
