-- A text that is written line by line, and how the end of a run explains the program's.
use Rattle.std.specs.Prelude.{OnOk, OnErr, IsErrOf, IfSome}
use Rattle.bmx_outside.specs.declared.sinks.SinkError.{SinkError}
use Rattle.bmx_outside.specs.declared.sinks.SinkError.TheVariants as fault
use Rattle.std.proofs.Common.{◌≡◌, ℕ, ◌+◌, ◌-◌, ◌≤◌, inl, inr, Bool, Result, true, false, List, [], ◌++◌, Option, Some, None, Ok, Err, length, take, drop, refl, ap, sym, ◌∙◌, subst, arith}
use Rattle.std.proofs.lemmas.List.{length-append, length-drop, take_all, take-append-le, append-nil}
use Rattle.std.proofs.Math.Seq.{take-append-add}
use Rattle.std.specs.Io.KnownBytes.{Appends}
use Rattle.std.proofs.KnownBytes.{Appends-trans}
use Rattle.bmx_outside.specs.Streams.{AppendsPart}
use Rattle.bmx_script.specs.declared.lines.Bad.{Bad}
use Rattle.bmx_script.specs.declared.lines.Line.{Line}
use Rattle.bmx_script.specs.Grammar.{IsReading}
use Rattle.bmx_script.proofs.Prefixes.{prefix_is_enough}
use Rattle.bmx_world.specs.declared.runs.Run.{Run}
use Rattle.bmx_world.specs.declared.runs.RunEnd.{RunEnd}
use Rattle.bmx_world.specs.declared.runs.RunEnd.TheVariants as end
use Rattle.bmx_world.specs.declared.statuses.Status.{Status}
use Rattle.bmx_world.specs.declared.statuses.Status.TheVariants as status
use Rattle.bmx_world.specs.Texts.{has_refusal}
use Rattle.bmx_world.specs.Runs.{IsRunOf, IsEnd}
use Rattle.bmx_cli.specs.Words.{misfit_in}
use Rattle.bmx_cli.specs.Top.{Call, Device, HadFault, Wrote, WrotePrefix, WrotePart, read_limit, Gave, seed, budget, IsRun, Explains}
use Rattle.bmx_cli.specs.Inside.Writing.{Ends, status_after}

-- what is behind the first so many bytes, cut to its own length
pub rest_is : (rest : List ℕ) (n : ℕ) → take (length rest - n) (drop n rest) ≡ drop n rest
rest_is rest n = take_all (length rest - n) (drop n rest) (omega (arith, length-drop n rest))

-- all before a piece was written, and a part of the piece: a part of the whole is
pub part_of : (a b c : Option (List ℕ)) (front piece rest : List ℕ) → Appends a b front → AppendsPart b c piece → AppendsPart a c (front ++ (piece ++ rest))
part_of a b c front piece rest first part =
    let same : take (length front + part.0) (front ++ (piece ++ rest)) ≡ front ++ take part.0 piece =
    take-append-add front (piece ++ rest) part.0 ∙ ap (λ t. front ++ t) (take-append-le part.0 piece rest (omega (arith, part.1))) in (
      length front + part.0,
      omega (arith, part.1, length-append front (piece ++ rest), length-append piece rest),
      subst (λ (t : List ℕ). Appends a c t) (sym same) (Appends-trans a b c _ _ first part.2),
    )

prefix_from_all : (sink : Device) (text : List ℕ) → Wrote sink text → WrotePrefix sink text
prefix_from_all sink text h = (length text, subst (λ (t : List ℕ). Wrote sink t) (sym (take_all (length text) text (omega arith))) h)

prefix_from_part : (sink : Device) (text : List ℕ) → WrotePart sink text → WrotePrefix sink text
prefix_from_part sink text h = (h.0, h.2)

pub nothing_written : (a : Option (List ℕ)) → Appends a a []
nothing_written None = tt
nothing_written (Some xs) = sym (append-nil xs)

-- what is read of a source's first bytes, up to the limit, and what is left of it
pub record Reads (source : Device) (bytes : List ℕ) : Type 0 where
  pub first : IfSome source.before (λ all. bytes ≡ take read_limit all)
  pub rest : IfSome source.before (λ all. source.behind ≡ Some (drop read_limit all))

read_whole : (before behind : Option (List ℕ)) (bytes : List ℕ) (script : Result (List Line) Bad)
    → IfSome before (λ all. bytes ≡ take read_limit all) → IfSome before (λ all. behind ≡ Some (drop read_limit all)) → IsReading bytes script
    → (b : List ℕ) × IfSome before (λ all. (b ≡ all) × (behind ≡ Some (drop read_limit all))) × IsReading b script
read_whole None behind bytes script first rest read = (bytes, tt, read)
read_whole (Some all) behind bytes script first rest read =
    (all, (refl, rest), (prefix_is_enough all script).0 (subst (λ (b : List ℕ). IsReading b script) first read))

-- it is read of all of them
gave_all : (c : Call) (bytes : List ℕ) (script : Result (List Line) Bad) → misfit_in c.words ≡ None → Reads c.source bytes → IsReading bytes script → Gave c script
gave_all c bytes script usage reads read = (usage, read_whole c.source.before c.source.behind bytes script reads.first reads.rest read)

-- how the end of a run explains the program's
pub explained : (c : Call) (run : Run) (e : RunEnd) (s : Status) → IsRun c run e → Ends run e c.sink s → Explains c s (Some run)
explained c run end.Ended status.Done made ends = (made, ends.0, ends.1)
explained c run end.Ended status.SomeRefused made ends = (made, ends.0, ends.1)
explained c run end.Ended status.WriteFault made ends = (made, ends.0, ends.1)
explained c run end.Stuck status.Stuck made ends = (made, ends)
explained c run end.Spent status.Spent made ends = (made, ends)
explained c run end.Ended status.NoMemory made ends = ((end.Ended, made), ends)
explained c run end.Stuck status.NoMemory made ends = ((end.Stuck, made), ends)
explained c run end.Spent status.NoMemory made ends = ((end.Spent, made), ends)
explained c run end.NoMemory status.NoMemory made ends = ((end.NoMemory, made), ends)
explained c run e s made ends = absurd ends

-- an answer with no run
pub refused_as : (c : Call) (s t : Status) (run : Option Run) → t ≡ s → run ≡ None → Explains c s None → Explains c t run
refused_as c s t run same none why =
    subst (λ (r : Option Run). Explains c t r) (sym none) (subst (λ (u : Status). Explains c u None) (sym same) why)

-- the answer to bytes that are no script
pub bad_explained : (c : Call) (bytes : List ℕ) (bad : Bad) (t : Status) (run : Option Run) → t ≡ status.BadScript bad → run ≡ None
    → misfit_in c.words ≡ None → Reads c.source bytes → IsReading bytes (Err bad) → Wrote c.sink [] → Explains c t run
bad_explained c bytes bad t run same none usage reads read wrote =
    refused_as c (status.BadScript bad) t run same none (gave_all c bytes (Err bad) usage reads read, wrote)

-- a run of a script that ended so, within the budget
pub record Ran (script : List Line) (run : Run) (e : RunEnd) : Type 0 where
  pub run_of : IsRunOf script seed run
  pub few : length run.history ≤ budget
  pub ends : IsEnd script budget run.history e

is_run : (c : Call) (script : List Line) (run : Run) (e : RunEnd) → Gave c (Ok script) → Ran script run e → IsRun c run e
is_run c script run e gave ran =
    let same : script ≡ run.script = sym ran.run_of.script in
    record {
      script = subst (λ (s : List Line). Gave c (Ok s)) same gave;
      run_of = subst (λ (s : List Line). IsRunOf s seed run) same ran.run_of;
      few = ran.few;
      ends = subst (λ (s : List Line). IsEnd s budget run.history e) same ran.ends;
    }

-- the answer to a script that was run
pub run_explained : (c : Call) (bytes : List ℕ) (script : List Line) (run : Run) (e : RunEnd) (t : Status) (answer : Option Run) → answer ≡ Some run
    → misfit_in c.words ≡ None → Reads c.source bytes → IsReading bytes (Ok script) → Ran script run e → Ends run e c.sink t → Explains c t answer
run_explained c bytes script run e t answer some usage reads read ran ends =
    subst (λ (r : Option Run). Explains c t r) (sym some)
    (explained c run e t (is_run c script run e (gave_all c bytes (Ok script) usage reads read) ran) ends)

-- how a run and its writing end
pub ends_so : (run : Run) (e : RunEnd) (wrote : Result (Unit {0}) SinkError) (refused : Bool) (sink : Device)
    → OnOk wrote (Wrote sink run.text) → OnErr wrote (WrotePart sink run.text) → (IsErrOf wrote fault.Failed → HadFault sink) → refused ≡ has_refusal run.history
    → Ends run e sink (status_after e wrote refused)
ends_so run end.NoMemory (Ok done) refused sink all part failed is = prefix_from_all sink run.text all
ends_so run end.NoMemory (Err why) refused sink all part failed is = prefix_from_part sink run.text part
ends_so run end.Ended (Err fault.NoMemory) refused sink all part failed is = prefix_from_part sink run.text part
ends_so run end.Stuck (Err fault.NoMemory) refused sink all part failed is = prefix_from_part sink run.text part
ends_so run end.Spent (Err fault.NoMemory) refused sink all part failed is = prefix_from_part sink run.text part
ends_so run end.Ended (Ok done) true sink all part failed is = (sym is, all)
ends_so run end.Ended (Ok done) false sink all part failed is = (sym is, all)
ends_so run end.Ended (Err fault.Failed) refused sink all part failed is = (failed refl, part)
ends_so run end.Stuck (Ok done) refused sink all part failed is = inl all
ends_so run end.Stuck (Err fault.Failed) refused sink all part failed is = inr (failed refl, part)
ends_so run end.Spent (Ok done) refused sink all part failed is = inl all
ends_so run end.Spent (Err fault.Failed) refused sink all part failed is = inr (failed refl, part)
