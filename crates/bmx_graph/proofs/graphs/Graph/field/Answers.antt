use Rattle.std.proofs.Common.{◌≡◌, ℕ, Option, List, Vec, Global, ap, ◌∙◌, option_and_then, slice_get}
use Rattle.std.specs.Option.{option_map}
use Rattle.bmx_types.specs.declared.values.Val.{Val}
use Rattle.bmx_graph.specs.Graphs.{state_of}
use Rattle.bmx_graph.proofs.States.{copied-get}
use Rattle.bmx_graph.proofs.graphs.Graph.field.Goals as goal

abbrev field_in : ℕ → Option (Vec Val Global) → Option Val
field_in i o = option_and_then (λ fields. slice_get fields i) (option_map (λ v. v.items) o)

pub returns-in_err-get : goal.returns-in_err-get
unfolding state_of
returns-in_err-get c = c.from_residual.ensures ∙ ap (field_in c.args.i) c.in_err-get.ensures.value

pub returns : goal.returns
unfolding state_of
returns c =
    let e = ap (field_in c.args.i) c.in_ok-get.ensures.value in
    let read : c.copied.result ≡ slice_get c.in_ok-get.field-0.now.items c.args.i =
    c.copied.ensures ∙ copied-get c.deref.result.now c.args.i c.get-2.result c.get-2.ensures.lookup.0 c.get-2.ensures.lookup.1 ∙ ap (λ (l : List Val). slice_get l c.args.i) c.deref.ensures.value in
    read ∙ e
