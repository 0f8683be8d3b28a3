use Rattle.std.proofs.Common.{◌≡◌, refl, ◌∙◌, subst, List}
use Rattle.std.specs.Prelude.{Contains}
use Rattle.bmx_memory.specs.Meaning.{MeansWhole}
use Rattle.bmx_node.specs.Stamped.{Stamped}
use Rattle.bmx_run.proofs.Finished.{run_of, run_few, run_shown}
use Rattle.bmx_run.proofs.runner.run_script.Goals as goal

pub returns-clause-run : goal.returns-clause-run
returns-clause-run c =
    let lines = c.args.script in
    let opened = c.in_ok-runner.ensures.opens in
    let shown : c.as_slice.result.now ≡ lines = c.as_slice.ensures ∙ c.lines.ensures.lines in
    run_of lines c.args.seed c.in_ok-runner.runner.budget c.run-end.result c.run-end.new.self _
    (run_shown c.as_slice.result.now lines c.args.seed c.in_ok-runner.runner.budget c.run-end.result c.in_ok-runner.runner c.run-end.new.self shown c.run-end.ensures.ends opened)
    refl c.from_vec.ensures c.from_vec-2.ensures c.from_string.ensures
    (subst (λ (l : List Stamped). (d : Stamped) → Contains l d → MeansWhole d.holdings.memory) c.as_slice-2.ensures.value c.look_at.ensures)

pub returns-clause-few : goal.returns-clause-few
returns-clause-few c =
    let lines = c.args.script in
    let opened = c.in_ok-runner.ensures.opens in
    let shown : c.as_slice.result.now ≡ lines = c.as_slice.ensures ∙ c.lines.ensures.lines in
    run_few lines c.args.seed c.in_ok-runner.runner.budget c.args.budget c.run-end.result c.run-end.new.self _
    (run_shown c.as_slice.result.now lines c.args.seed c.in_ok-runner.runner.budget c.run-end.result c.in_ok-runner.runner c.run-end.new.self shown c.run-end.ensures.ends opened)
    c.from_vec.ensures (c.run-end.ensures.budget ∙ c.in_ok-runner.ensures.budget)
