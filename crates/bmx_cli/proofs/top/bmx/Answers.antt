use Rattle.std.proofs.Common.{ℕ, List, Ok, Err, ap, sym, ◌∙◌, subst}
use Rattle.bmx_script.specs.Grammar.{IsReading}
use Rattle.bmx_script.specs.Reading.{ForBad}
use Rattle.bmx_script.specs.declared.scripts.ScriptError.TheVariants as errors
use Rattle.bmx_world.specs.declared.statuses.Status.TheVariants as status
use Rattle.bmx_cli.proofs.Writing.{nothing_written, refused_as, bad_explained, run_explained}
use Rattle.bmx_cli.proofs.top.bmx.Goals as goal

pub returns-in-Some-clause-explained : goal.returns-in-Some-clause-explained
returns-in-Some-clause-explained g c =
    refused_as _ (status.Usage c.in-Some.word) _ _ c.refused.ensures.0 c.refused.ensures.1
    (sym c.misfit.ensures ∙ c.in-Some.is, nothing_written (g.K.Sink.out c.args.sink.now))

pub returns-in-Err-Failed-clause-explained : goal.returns-in-Err-Failed-clause-explained
returns-in-Err-Failed-clause-explained g c =
    refused_as _ status.ReadFault _ _ c.refused-in-Err-Failed.ensures.0 c.refused-in-Err-Failed.ensures.1
    (sym c.misfit.ensures ∙ c.in_default.is, c.read_to_limit.ensures.failed (c.in-Err-Failed.is ∙ ap Err c.in-Err-Failed.field-0-is), nothing_written (g.K.Sink.out c.args.sink.now))

pub returns-in-Err-NoMemory-clause-explained : goal.returns-in-Err-NoMemory-clause-explained
returns-in-Err-NoMemory-clause-explained g c =
    refused_as _ status.NoMemory _ _ c.refused-in-Err-NoMemory.ensures.0 c.refused-in-Err-NoMemory.ensures.1
    (sym c.misfit.ensures ∙ c.in_default.is, nothing_written (g.K.Sink.out c.args.sink.now))

pub returns-in-Err-Bad-clause-explained : goal.returns-in-Err-Bad-clause-explained
returns-in-Err-Bad-clause-explained g c =
    let bad : ForBad (λ why. IsReading c.as_slice.result.now (Err why)) (errors.Bad c.in-Err-Bad.bad) =
    subst (ForBad (λ why. IsReading c.as_slice.result.now (Err why))) c.in-Err-Bad.field-0-is c.in-Err-Bad.ensures in
    let read : IsReading c.in-Ok.bytes.items (Err c.in-Err-Bad.bad) = subst (λ (bytes : List ℕ). IsReading bytes (Err c.in-Err-Bad.bad)) c.as_slice.ensures.value bad in
    bad_explained _ c.in-Ok.bytes.items c.in-Err-Bad.bad _ _ (c.refused-in-Err-Bad.ensures.0 ∙ ap status.BadScript c.in-Err-Bad.bad-is) c.refused-in-Err-Bad.ensures.1
    (sym c.misfit.ensures ∙ c.in_default.is) (record { first = c.in-Ok.ensures.bytes; rest = c.in-Ok.ensures.left }) read (nothing_written (g.K.Sink.out c.args.sink.now))

pub returns-in-Err-NoMemory-read_script-clause-explained : goal.returns-in-Err-NoMemory-read_script-clause-explained
returns-in-Err-NoMemory-read_script-clause-explained g c =
    refused_as _ status.NoMemory _ _ c.refused-in-Err-NoMemory-read_script.ensures.0 c.refused-in-Err-NoMemory-read_script.ensures.1
    (sym c.misfit.ensures ∙ c.in_default.is, nothing_written (g.K.Sink.out c.args.sink.now))

pub returns-in-Ok-run_script-clause-explained : goal.returns-in-Ok-run_script-clause-explained
returns-in-Ok-run_script-clause-explained g c =
    let ran = c.in-Ok-run_script in
    let read : IsReading c.in-Ok.bytes.items (Ok c.in-Ok-read_script.script) =
    subst (λ (bytes : List ℕ). IsReading bytes (Ok c.in-Ok-read_script.script)) c.as_slice.ensures.value c.in-Ok-read_script.ensures in
    run_explained _ c.in-Ok.bytes.items c.in-Ok-read_script.script ran.run' ran.end c.written.result.status c.written.result.run c.written.ensures.run
    (sym c.misfit.ensures ∙ c.in_default.is)
    (record { first = c.in-Ok.ensures.bytes; rest = c.in-Ok.ensures.left })
    read
    (record { run_of = ran.ensures.run; few = ran.ensures.few; ends = ran.ensures.end })
    c.written.ensures.status

pub returns-clause-explained : goal.returns-clause-explained
returns-clause-explained g c =
    refused_as _ status.NoMemory _ _ c.refused-in-Err.ensures.0 c.refused-in-Err.ensures.1
    (sym c.misfit.ensures ∙ c.in_default.is, nothing_written (g.K.Sink.out c.args.sink.now))
