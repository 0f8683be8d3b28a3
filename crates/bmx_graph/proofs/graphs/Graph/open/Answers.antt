use Rattle.std.proofs.Common.{◌≡◌, ℕ, ◌+◌, ◌<◌, ◌≤◌, max, refl, subst, sym, ap, ◌∙◌, length, take, slice_get, slice_index, Some, List, Vec, Global, cond, eqb, arith}
use Rattle.std.specs.Map.{lookup}
use Rattle.std.specs.HashMap.{get}
use Rattle.std.proofs.lemmas.List.{take_all}
use Rattle.std.proofs.lemmas.Option.{slice_get_read}
use Rattle.bmx_types.specs.declared.values.Val.{Val}
use Rattle.bmx_types.specs.declared.openings.Birth.{Birth}
use Rattle.bmx_types.specs.Openings.{AreBirths, bunches_of}
use Rattle.bmx_graph.specs.State.{born_as, opening_state}
use Rattle.bmx_graph.specs.Graphs.{same_name, same_hold, register_in}
use Rattle.bmx_graph.proofs.States.{state_of-from, register_in-null, first_counts-is}
use Rattle.bmx_graph.proofs.Births.{born-next, bunches_of-next}
use Rattle.bmx_graph.proofs.graphs.Graph.open.Goals as goal

pub loop-birth-preserved : goal.loop-birth-preserved
loop-birth-preserved c =
    let births = c.as_slice-birth-items.result.now in
    let i = c.loop-birth.birth-index in
    let b = c.birth-item.result in
    let there : i < length births = omega arith in
    let at : slice_get births i ≡ Some b = slice_get_read births (length births) i b refl there c.birth-item.is in
    record {
      objects = born-next (λ (v : Vec Val Global). v.items) (get same_name c.loop-birth.objects) (get same_name c.insert.new.self) births i b c.in_ok-fields.fields
          (subst AreBirths (sym c.as_slice-birth-items.ensures) c.args.opening.now.opened.born)
          at (c.in_ok-fields.ensures.items ∙ c.as_slice.ensures)
          c.loop-birth.invariant.objects c.in_ok-insert.ensures.updates.0;
      bunches =
          c.max-bunches.ensures ∙ ap (λ k. max k (c.get.result + 1)) c.loop-birth.invariant.bunches
          ∙ ap (λ k. max (bunches_of (take i births)) (k + 1)) c.get.ensures.value ∙ sym (bunches_of-next births i b at);
    }

pub returns-clause-state : goal.returns-clause-state
returns-clause-state c =
    let births = c.args.opening.now.births in
    let items = c.as_slice-birth-items.result.now in
    let over : length items ≤ c.loop-birth.birth-index = omega arith in
    let whole : take c.loop-birth.birth-index items ≡ births = take_all c.loop-birth.birth-index items over ∙ c.as_slice-birth-items.ensures in
    state_of-from _ (opening_state births)
    (λ q. c.loop-birth.invariant.objects q ∙ ap (λ (l : List Birth). born_as l q) whole)
    (λ n r. ap (λ (t : List Val). register_in t n r) c.null_registers.ensures ∙ register_in-null 128 n r)
    (λ n q. ap (lookup (same_hold (n, q))) c.new.ensures.empty)
    (λ n. ap (λ (l : List ℕ). slice_index l n) c.first_counts.ensures ∙ first_counts-is c.len.result 7 n ∙ ap (λ k. cond (eqb n 0) k 0) c.len.ensures)
