use Rattle.std.proofs.Common.{◌≤◌, ◌-◌, ◌∙◌, sym, arith, length}
use Rattle.bmx_run.proofs.Choosing.{read_at, chooses_serve, chooses_letter, none_past}
use Rattle.bmx_run.proofs.runner.Runner.serve_or_take.Goals as goal

pub returns-in-Some : goal.returns-in-Some
returns-in-Some c =
    let r = c.args.self.now in
    let n = c.args.node in
    let d = c.index-server.result.now in
    let there = read_at r.nodes.items c.from.result n d (omega (arith, c.from.ensures, c.get.ensures.value)) c.requires.node c.index-server.ensures in
    λ p at. chooses_serve p r n d c.in-Some.name c.args.place there (sym c.serves.ensures.name ∙ c.in-Some.is)

pub returns-in-None : goal.returns-in-None
returns-in-None c =
    let r = c.args.self.now in
    let n = c.args.node in
    let d = c.index-server.result.now in
    let there = read_at r.nodes.items c.from.result n d (omega (arith, c.from.ensures, c.get.ensures.value)) c.requires.node c.index-server.ensures in
    let past : length d.holdings.tokens.servable ≤ c.args.place = none_past d.holdings.tokens.servable c.args.place (sym c.serves.ensures.name ∙ c.in-None.is) in
    λ p at. chooses_letter p r n d c.args.place (c.args.place - c.serves_count.result) c.next_letter.result there
    (omega (arith, past, c.serves_count.ensures.count)) (c.next_letter.ensures p at)
