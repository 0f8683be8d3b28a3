-- Each event of a legal history may come next after those before it.
use Rattle.std.proofs.Common.{◌≡◌, ℕ, refl, ap, sym, subst, List, [], ◌∷◌, ◌++◌, length}
use Rattle.std.specs.Prelude.{Some, slice_get}
use Rattle.bmx_types.specs.Updates.{put}
use Rattle.bmx_msg.specs.declared.letters.Letter.{Letter}
use Rattle.bmx_protocol.specs.declared.inputs.Input.{Input}
use Rattle.bmx_protocol.specs.declared.inputs.Input.TheVariants as input
use Rattle.bmx_protocol.specs.declared.events.Event.{Event}
use Rattle.bmx_protocol.specs.Nodes.{Setting}
use Rattle.bmx_protocol.specs.Steps.{Node, first_node, IsStep}
use Rattle.bmx_protocol.specs.Histories.{issued, arrived, taken, IsNext, Fits, Replays}
use Rattle.bmx_protocol.proofs.Prefixes.{prefix_is_legal}
use Rattle.bmx_protocol.proofs.Replayed.{replay_is_determined}
use Rattle.bmx_store_laws.proofs.Channels.{slice_drop}
use Rattle.bmx_legal.specs.Growing.{TakesFirst}
use Rattle.bmx_legal.specs.Laws.{EachMayFollow}
use Rattle.bmx_legal.proofs.Growing.{taken_arrived}

-- an event of a replay is a step of the nodes that those before it lead to
pub record Stepped (st : Setting) (start : ℕ → Node) (past : List Event) (e : Event) : Type 0 where
  pub mid : ℕ → Node
  pub before : Replays st start past mid
  pub after : Node
  pub step : IsStep st e.node (mid e.node) e.stamp e.input e.done after

pub stepped : (st : Setting) (past rest : List Event) (e : Event) (start last : ℕ → Node) → Replays st start (past ++ e ∷ rest) last → Stepped st start past e
stepped st [] rest e start last h = record { mid = start; before = refl; after = h.0; step = h.1 }
stepped st (f ∷ past) rest e start last h =
    let s : Stepped st (put start f.node h.0) past e = stepped st past rest e (put start f.node h.0) last h.2 in
    record { mid = s.mid; before = (h.0, h.1, s.before); after = s.after; step = s.step }

-- the next letter is the first in flight
next_first : (past : List Event) (me : ℕ) (i : Input) → ((n m : ℕ) → taken n m past ≡ arrived n m past) → IsNext past me i → TakesFirst past me i
next_first past me (input.Do c) same next = tt
next_first past me (input.Serve name) same next = tt
next_first past me (input.Take from l) same next =
    ap (λ (letters : List Letter). slice_get letters 0)
    (slice_drop (issued from me past) (length (taken from me past)) l
    (subst (λ (k : List Letter). slice_get (issued from me past) (length k) ≡ Some l) (sym (same from me)) next))

pub each_may_follow : EachMayFollow
each_may_follow st past rest nodes stamps e opening legal after stamp =
    let fits : Fits st past e = legal.fits past rest e refl in
    let s : Stepped st (first_node st) past e = stepped st past rest e (first_node st) legal.steps.0 legal.steps.1 in
    let same : s.mid ≡ nodes = replay_is_determined st past s.mid nodes s.before after in (
      s.after,
      record {
        a_node = fits.a_node;
        an_input = fits.an_input;
        step = subst (λ (f : ℕ → Node). IsStep st e.node (f e.node) e.stamp e.input e.done s.after) same s.step;
        stamp = stamp;
        first = next_first past e.node e.input (λ n m. taken_arrived st past opening (prefix_is_legal st past (e ∷ rest) legal) n m) fits.next;
        again = fits.again;
      },
    )
