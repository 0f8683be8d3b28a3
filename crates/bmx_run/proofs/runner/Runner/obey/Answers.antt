use Rattle.std.proofs.Common.{refl, true, false}
use Rattle.bmx_protocol.specs.Runs.Programs.{stages}
use Rattle.bmx_run.proofs.Walking.{point_of, at_phase, at_quiet, obeys_phase, obeys_given, has_seat}
use Rattle.bmx_run.proofs.runner.Runner.obey.Goals as goal

pub give-requires : goal.give-requires
give-requires c = (let q = c.requires in has_seat q.0 c.args.line.now c.in-Do.node c.in-Do.command c.args.self.now q.1 c.in-Do.is)

pub phase-requires : goal.phase-requires
phase-requires c = (let q = c.requires in (point_of q.0 false (stages q.0.rest), at_phase q.0 c.args.line.now c.args.self.now q.1 c.in-Phase.is))

pub phase-requires-in-Quiet : goal.phase-requires-in-Quiet
phase-requires-in-Quiet c = (let q = c.requires in (point_of q.0 true (stages q.0.rest), at_quiet q.0 c.args.line.now c.args.self.now q.1 c.in-Quiet.is))

pub returns-in-Do-clause-obeys : goal.returns-in-Do-clause-obeys
returns-in-Do-clause-obeys c = λ w h.
    obeys_given w c.args.line.now (record { node = c.in-Do.node; line = c.args.line.now.number; command = c.in-Do.command }) c.give.result c.args.self.now c.give.new.self
    h c.in-Do.is refl c.give.ensures.given c.give.ensures.rest

pub returns-in-Phase-clause-obeys : goal.returns-in-Phase-clause-obeys
returns-in-Phase-clause-obeys c = λ w h.
    obeys_phase w false c.phase.result c.phase.new.self
    (c.phase.ensures.comes (point_of w false (stages w.rest)) (at_phase w c.args.line.now c.args.self.now h c.in-Phase.is))

pub returns-in-Quiet-clause-obeys : goal.returns-in-Quiet-clause-obeys
returns-in-Quiet-clause-obeys c = λ w h.
    obeys_phase w true c.phase-in-Quiet.result c.phase-in-Quiet.new.self
    (c.phase-in-Quiet.ensures.comes (point_of w true (stages w.rest)) (at_quiet w c.args.line.now c.args.self.now h c.in-Quiet.is))
