use Rattle.std.proofs.Common.{◌-◌, ℕ, refl, ap, sym, ◌∙◌}
use Rattle.std.specs.Prelude.{string_bytes, Some}
use Rattle.std.proofs.lemmas.List.{append-nil}
use Rattle.bmx_protocol.specs.Runs.Programs.{Order}
use Rattle.bmx_world.specs.Texts.{printed_of}
use Rattle.bmx_run.specs.declared.runner.Runner.{Runner}
use Rattle.bmx_run.proofs.Posted.{noted}
use Rattle.bmx_run.proofs.runner.Runner.note.Goals as goal

pub returns-in-Some : goal.returns-in-Some
returns-in-Some c =
    let r = c.args.self.now in
    let g = c.args.order in
    let rest = c.print.ensures.rest in
    noted r c.print.new.self g c.requires c.index.result.now _ c.from.result c.index_mut.result.now c.answered.new.self (Some c.in-Some.shown)
    c.index.ensures (ap (λ (k : ℕ). k - 1) (c.len.ensures ∙ r.history.ok.0)) c.index_mut.ensures.value (c.from.ensures ∙ c.get.ensures.value ∙ ap (λ (h : Order). h.node) c.order.view_is)
    c.answered.ensures (c.in-Some.ensures ∙ ap (λ (d : Order). printed_of d.command c.index.result.now.done.answer) c.order.view_is)
    (ap (λ (x : Runner). x.seats.items) rest) c.print.ensures.text
    (ap (λ (x : Runner). x.history) rest) (ap (λ (x : Runner). x.nodes) rest) (ap (λ (x : Runner). x.lanes) rest) (ap (λ (x : Runner). x.generator) rest) (ap (λ (x : Runner). x.budget) rest)

pub returns-in_default : goal.returns-in_default
returns-in_default c =
    let r = c.args.self.now in
    let g = c.args.order in
    noted r _ g c.requires c.index.result.now _ c.from.result c.index_mut.result.now c.answered.new.self _
    c.index.ensures (ap (λ (k : ℕ). k - 1) (c.len.ensures ∙ r.history.ok.0)) c.index_mut.ensures.value (c.from.ensures ∙ c.get.ensures.value ∙ ap (λ (h : Order). h.node) c.order.view_is)
    c.answered.ensures (sym c.in_default.is ∙ c.printed.ensures ∙ ap (λ (d : Order). printed_of d.command c.index.result.now.done.answer) c.order.view_is)
    refl (sym (append-nil (string_bytes r.text))) refl refl refl refl refl
