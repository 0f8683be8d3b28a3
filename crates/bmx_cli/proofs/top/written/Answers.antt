use Rattle.std.proofs.Common.{List, ℕ, subst, sym}
use Rattle.std.specs.Prelude.{OnOk, OnErr}
use Rattle.bmx_world.specs.declared.statuses.Status.{Status}
use Rattle.bmx_cli.specs.Top.{Device, Wrote, WrotePart}
use Rattle.bmx_cli.specs.Inside.Writing.{Ends}
use Rattle.bmx_cli.proofs.Writing.{ends_so}
use Rattle.bmx_cli.proofs.top.written.Goals as goal

pub returns-clause-status : goal.returns-clause-status
returns-clause-status g c =
    let run = c.args.run in
    let wrote = c.write_lines-wrote.result in
    let sink : Device = record {
      before = g.K.Sink.out c.args.sink.now;
      behind = g.K.Sink.out c.write_lines-wrote.new.sink;
      faults_before = g.K.Sink.faults c.args.sink.now;
      faults_behind = g.K.Sink.faults c.write_lines-wrote.new.sink;
    } in
    let all : OnOk wrote (Wrote sink run.text) = subst (λ (t : List ℕ). OnOk wrote (Wrote sink t)) c.as_bytes.ensures c.write_lines-wrote.ensures.ok in
    let part : OnErr wrote (WrotePart sink run.text) = subst (λ (t : List ℕ). OnErr wrote (WrotePart sink t)) c.as_bytes.ensures c.write_lines-wrote.ensures.err in
    subst (λ (s : Status). Ends run c.args.end sink s) (sym c.status_after-status.ensures)
    (ends_so run c.args.end wrote c.has_refusal.result sink all part c.write_lines-wrote.ensures.failed c.has_refusal.ensures)
