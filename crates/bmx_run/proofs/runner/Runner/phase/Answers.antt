use Rattle.std.proofs.Common.{refl, ◌≡◌, ◌-◌, ◌<◌, ◌∙◌, sym, ap, arith, length, List, ◌++◌}
use Rattle.bmx_protocol.specs.declared.events.Event.{Event}
use Rattle.bmx_run.specs.Inside.Running.{IsOpen, Turned}
use Rattle.bmx_run.specs.Inside.Picking.{Counts}
use Rattle.bmx_run.specs.Inside.Phases.{with_part}
use Rattle.bmx_run.proofs.Phasing.{IsOn, positive, not_done, done_there, stuck_there, spent_there, seen_may_go, on_still, longer, left}
use Rattle.bmx_run.proofs.runner.Runner.phase.Goals as goal

pub returns-then-is_done-clause-comes : goal.returns-then-is_done-clause-comes
returns-then-is_done-clause-comes c = λ p s.
    let r = c.loop-tries.self in
    let known = c.loop-tries.invariant.0 p s in
    let on : IsOn p r = known.0 in
    let counts : Counts (with_part p on.part) r c.enabled-enabled.result = c.enabled-enabled.ensures (with_part p on.part) on.is_at known.1 in
    let told = c.is_done.ensures (with_part p on.part) on.is_at s.ends counts in
    done_there p r c.clear.new.self on (told.0 c.if-is_done.true) c.clear.ensures.seats c.clear.ensures.rest

pub returns-then-enabled-eq0-clause-comes : goal.returns-then-enabled-eq0-clause-comes
returns-then-enabled-eq0-clause-comes c = λ p s.
    let r = c.loop-tries.self in
    let known = c.loop-tries.invariant.0 p s in
    let on : IsOn p r = known.0 in
    let counts : Counts (with_part p on.part) r c.enabled-enabled.result = c.enabled-enabled.ensures (with_part p on.part) on.is_at known.1 in
    let told = c.is_done.ensures (with_part p on.part) on.is_at s.ends counts in
    let goes : IsOpen (with_part p on.part) = not_done c.is_done.result told c.if-is_done.false in
    stuck_there p r c.enabled-enabled.result on counts goes c.if-enabled-eq0.true

pub returns-then-len-self-clause-comes : goal.returns-then-len-self-clause-comes
returns-then-len-self-clause-comes c = λ p s.
    let r = c.loop-tries.self in
    let count = c.enabled-enabled.result in
    let known = c.loop-tries.invariant.0 p s in
    let on : IsOn p r = known.0 in
    let counts : Counts (with_part p on.part) r count = c.enabled-enabled.ensures (with_part p on.part) on.is_at known.1 in
    let told = c.is_done.ensures (with_part p on.part) on.is_at s.ends counts in
    let goes : IsOpen (with_part p on.part) = not_done c.is_done.result told c.if-is_done.false in
    spent_there p r count on counts goes (positive count c.if-enabled-eq0.false) (sym r.history.ok.0 ∙ sym c.len.ensures ∙ c.if-len-self.true)

pub turn-requires-clause-may : goal.turn-requires-clause-may
turn-requires-clause-may c =
    let p = c.requires.0 in
    let s = c.requires.1 in
    let r = c.loop-tries.self in
    let known = c.loop-tries.invariant.0 p s in
    let room : length r.history.items ≡ r.budget → ⊥ = λ same. c.if-len-self.false (c.len.ensures ∙ r.history.ok.0 ∙ same) in (
      with_part p known.0.part,
      seen_may_go p c.args.quiet r c.enabled-enabled.result c.loop-tries.tries known s.ends c.enabled-enabled.ensures c.is_done.result c.is_done.ensures c.if-is_done.false c.if-enabled-eq0.false room,
    )

pub loop-tries-init : goal.loop-tries-init
loop-tries-init c = (λ p s. (record { part = p.part; is_at = s.is_at; draws = s.draws }, c.tries-tries.ensures.tries p s.is_at), refl, c.tries-tries.ensures.long)

pub look_again-requires-clause-at : goal.look_again-requires-clause-at
look_again-requires-clause-at c =
    let p = c.requires.0 in
    let s = c.requires.1 in
    let r = c.loop-tries.self in
    let known = c.loop-tries.invariant.0 p s in
    let room : length r.history.items ≡ r.budget → ⊥ = λ same. c.if-len-self.false (c.len.ensures ∙ r.history.ok.0 ∙ same) in
    let may = seen_may_go p c.args.quiet r c.enabled-enabled.result c.loop-tries.tries known s.ends c.enabled-enabled.ensures c.is_done.result c.is_done.ensures c.if-is_done.false c.if-enabled-eq0.false room in
    let turned : Turned (with_part p known.0.part) c.turn.new.self = (c.in-Ok.ensures.ok (with_part p known.0.part) may).0 in
    (with_part p known.0.part, turned.event, turned.is_at)

pub loop-tries-smaller : goal.loop-tries-smaller
loop-tries-smaller c =
    let p = c.requires.0 in
    let s = c.requires.1 in
    let r = c.loop-tries.self in
    let known = c.loop-tries.invariant.0 p s in
    let on : IsOn p r = known.0 in
    let room : length r.history.items ≡ r.budget → ⊥ = λ same. c.if-len-self.false (c.len.ensures ∙ r.history.ok.0 ∙ same) in
    let may = seen_may_go p c.args.quiet r c.enabled-enabled.result c.loop-tries.tries known s.ends c.enabled-enabled.ensures c.is_done.result c.is_done.ensures c.if-is_done.false c.if-enabled-eq0.false room in
    let more = longer p on.part r c.turn.new.self on.is_at (c.in-Ok.ensures.ok (with_part p on.part) may).0 in
    let had : length r.history.items ≡ length (p.past ++ on.part) = ap (λ (l : List Event). length l) on.is_at.whole.history in
    let less : c.turn.new.self.budget - length c.turn.new.self.history.items < r.budget - length r.history.items = omega (arith, more, had, may.room, c.turn.ensures.budget) in
    less

pub loop-tries-preserved : goal.loop-tries-preserved
loop-tries-preserved c = (
  λ p s.
      let r = c.loop-tries.self in
      let known = c.loop-tries.invariant.0 p s in
      let on : IsOn p r = known.0 in
      let room : length r.history.items ≡ r.budget → ⊥ = λ same. c.if-len-self.false (c.len.ensures ∙ r.history.ok.0 ∙ same) in
      let may = seen_may_go p c.args.quiet r c.enabled-enabled.result c.loop-tries.tries known s.ends c.enabled-enabled.ensures c.is_done.result c.is_done.ensures c.if-is_done.false c.if-enabled-eq0.false room in
      let done = c.in-Ok.ensures.ok (with_part p on.part) may in
      on_still p on.part c.turn.new.self c.look_again.new.tries done.0 done.1
      (c.look_again.ensures.tries (with_part p on.part) done.0.event r on.is_at known.1 done.0.is_at),
  c.turn.ensures.budget ∙ c.loop-tries.invariant.1,
  c.look_again.ensures.long,
)

pub returns-in-Err-clause-comes : goal.returns-in-Err-clause-comes
returns-in-Err-clause-comes c = λ p s.
    let r = c.loop-tries.self in
    let known = c.loop-tries.invariant.0 p s in
    let room : length r.history.items ≡ r.budget → ⊥ = λ same. c.if-len-self.false (c.len.ensures ∙ r.history.ok.0 ∙ same) in
    let may = seen_may_go p c.args.quiet r c.enabled-enabled.result c.loop-tries.tries known s.ends c.enabled-enabled.ensures c.is_done.result c.is_done.ensures c.if-is_done.false c.if-enabled-eq0.false room in
    left p known.0.part c.turn.new.self (c.in-Err.ensures.err (with_part p known.0.part) may)
