-- What a run that came to its end is.
use Rattle.std.proofs.Common.{◌≡◌, ℕ, ◌+◌, ◌<◌, ◌≤◌, arith, refl, ap, sym, ◌∙◌, subst, List, [], length, get_or, Option, Some}
use Rattle.std.specs.Prelude.{slice_get, string_bytes, Contains}
use Rattle.std.specs.Option.{option_map_or}
use Rattle.std.proofs.lemmas.Option.{slice_get_read}
use Rattle.bmx_script.specs.declared.lines.Line.{Line}
use Rattle.bmx_protocol.specs.declared.events.Event.{Event}
use Rattle.bmx_protocol.specs.Nodes.{Setting}
use Rattle.bmx_protocol.specs.Histories.{AreAfter, IsLegal}
use Rattle.bmx_protocol.specs.Runs.Programs.{stages, RunsInPart}
use Rattle.bmx_protocol.specs.Runs.Turns.{IsSerial}
use Rattle.bmx_protocol.specs.Steps.{first_node}
use Rattle.bmx_protocol.proofs.Basics.{Two, Same, Apart, two, some_same}
use Rattle.bmx_memory.specs.Meaning.{MeansWhole}
use Rattle.bmx_node.specs.Stamped.{Stamped}
use Rattle.bmx_node.specs.Seen.{node_of}
use Rattle.bmx_world.specs.declared.runs.Run.{Run}
use Rattle.bmx_world.specs.declared.runs.RunEnd.{RunEnd}
use Rattle.bmx_world.specs.Scripts.{body_of, setting_of_script}
use Rattle.bmx_world.specs.Texts.{text_of}
use Rattle.bmx_world.specs.Promises.{IsOneStore}
use Rattle.bmx_world.specs.Runs.{stamps_behind, IsRunOf}
use Rattle.bmx_world.proofs.Promised.{every_history_keeps_one_store}
use Rattle.bmx_run.specs.declared.runner.Runner.{Runner}
use Rattle.bmx_run.specs.Inside.Steps.{nodes_in}
use Rattle.bmx_run.specs.Inside.Running.{IsBetween}
use Rattle.bmx_run.specs.Inside.Phases.{IsRun}

-- it is a run of the script
pub run_of : (lines : List Line) (seed budget : ℕ) (e : RunEnd) (r : Runner) (run : Run) → IsRun lines seed budget e r →
    run.script ≡ lines → run.history ≡ r.history.items → run.nodes ≡ r.nodes.items → run.text ≡ string_bytes r.text →
    ((d : Stamped) → Contains r.nodes.items d → MeansWhole d.holdings.memory) → IsRunOf lines seed run
run_of lines seed budget e r run is script history nodes text mean = record {
  script = script;
  legal = subst (IsLegal st) (sym same) is.whole.leads.legal;
  serial = subst (IsSerial st seed (body_of lines)) (sym same) is.serial;
  follows = subst (RunsInPart st (body_of lines)) (sym same) is.follows;
  after = nodes_in st r.nodes.items;
  lead = subst (λ (l : List Event). AreAfter st l (nodes_in st r.nodes.items)) (sym same) is.whole.leads.reached;
  nodes = record {
    each = ap (λ (l : List Stamped). length l) nodes ∙ is.whole.nodes.each;
    same = λ n d got. sym (ap (λ (o : Option Stamped). option_map_or (λ (x : Stamped). node_of x.holdings) o (first_node st n)) (sym (ap (λ (l : List Stamped). slice_get l n) nodes) ∙ got));
    stamped = λ n d got. sym (ap (λ (o : Option Stamped). option_map_or (λ (x : Stamped). x.stamp) o 0) (sym (ap (λ (l : List Stamped). slice_get l n) nodes) ∙ got))
        ∙ ap (λ (f : ℕ → ℕ). f n) is.whole.stamped
        ∙ ap (λ (l : List Event). stamps_behind (λ _. 0) l n) (sym same);
    mean = λ d there. mean d (subst (λ (l : List Stamped). Contains l d) nodes there);
  };
  text = text ∙ is.whole.text ∙ ap (text_of lines) (sym same);
  store = subst (λ (l : List Event). IsOneStore st l (nodes_in st r.nodes.items)) (sym same)
      (every_history_keeps_one_store st is.history (nodes_in st r.nodes.items) is.whole.opens is.whole.leads.legal is.whole.leads.reached);
}
  where
    st : Setting
    st = setting_of_script lines

    same : run.history ≡ is.history
    same = history ∙ is.whole.history

-- it has no more events than it may have
pub run_few : (lines : List Line) (seed first budget : ℕ) (e : RunEnd) (r : Runner) (history : List Event) → IsRun lines seed first e r → history ≡ r.history.items → r.budget ≡ budget → length history ≤ budget
run_few lines seed first budget e r history is same kept =
    subst (λ (l : List Event). length l ≤ budget) (sym (same ∙ is.whole.history)) (subst (λ (k : ℕ). length is.history ≤ k) kept is.whole.few)

-- each node was looked at, up to one
pub mean_more : (nodes : List Stamped) (i : ℕ) (x : Stamped) → i < length nodes → x ≡ get_or nodes i x → MeansWhole x.holdings.memory →
    ((n : ℕ) (d : Stamped) → n < i → slice_get nodes n ≡ Some d → MeansWhole d.holdings.memory) →
    (n : ℕ) (d : Stamped) → n < i + 1 → slice_get nodes n ≡ Some d → MeansWhole d.holdings.memory
mean_more nodes i x lt is means before n d below got = by (two n i)
  where
    by : Two n i → MeansWhole d.holdings.memory
    by (Same e) =
        let same : x ≡ d = some_same (sym (slice_get_read nodes (length nodes) i x refl lt is) ∙ ap (slice_get nodes) (sym e) ∙ got) in
        subst (λ (y : Stamped). MeansWhole y.holdings.memory) same means
    by (Apart t q) = before n d (grind (arith, below, q)) got

-- the lines of a script as they are lent
pub run_shown : (shown lines : List Line) (seed budget : ℕ) (e : RunEnd) (r new : Runner) → shown ≡ lines →
    ((s : ℕ) → IsBetween shown s [] [] (stages (body_of shown)) r → IsRun shown s budget e new) → IsBetween lines seed [] [] (stages (body_of lines)) r → IsRun lines seed budget e new
run_shown shown lines seed budget e r new same runs b =
    subst (λ (l : List Line). IsRun l seed budget e new) same
    (runs seed (subst (λ (l : List Line). IsBetween l seed [] [] (stages (body_of l)) r) (sym same) b))
