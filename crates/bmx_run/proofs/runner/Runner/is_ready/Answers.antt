use Rattle.std.proofs.Common.{◌∙◌, sym, arith, None, Some}
use Rattle.bmx_run.proofs.Choosing.{read_at, fits_here, ready_here}
use Rattle.bmx_run.proofs.runner.Runner.is_ready.Goals as goal

pub target-requires : goal.target-requires
target-requires c =
    let r = c.args.self.now in
    let n = c.args.node in
    let d = c.index-node.result.now in
    let at = c.requires.at in
    let there = read_at r.nodes.items c.from.result n d (omega (arith, c.from.ensures, c.get.ensures.value)) c.requires.node c.index-node.ensures in
    fits_here at.0 r n d c.args.command.now c.in-Some.on at.1 there at.2 (sym c.taken_by.ensures ∙ c.in-Some.is)

pub returns-in-Some-target : goal.returns-in-Some-target
returns-in-Some-target c =
    let r = c.args.self.now in
    let n = c.args.node in
    let d = c.index-node.result.now in
    let there = read_at r.nodes.items c.from.result n d (omega (arith, c.from.ensures, c.get.ensures.value)) c.requires.node c.index-node.ensures in
    λ p at. c.is_ready.ensures.known
    ∙ ready_here p r n d c.args.command.now c.in-Some.on (Some c.in-Some-target.name) at there (sym c.taken_by.ensures ∙ c.in-Some.is) (sym c.in-Some-target.is ∙ c.target.ensures)

pub returns-in-None : goal.returns-in-None
returns-in-None c =
    let r = c.args.self.now in
    let n = c.args.node in
    let d = c.index-node.result.now in
    let there = read_at r.nodes.items c.from.result n d (omega (arith, c.from.ensures, c.get.ensures.value)) c.requires.node c.index-node.ensures in
    λ p at. ready_here p r n d c.args.command.now c.in-Some.on None at there (sym c.taken_by.ensures ∙ c.in-Some.is) (sym c.in-None.is ∙ c.target.ensures)
