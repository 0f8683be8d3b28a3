use Rattle.std.proofs.Common.{◌≡◌, ◌∙◌, ap, arith}
use Rattle.std.specs.Prelude.{is_some}
use Rattle.bmx_run.proofs.Choosing.{read_at, one_if, byte_is, counted, serves_all}
use Rattle.bmx_run.proofs.runner.Runner.count.Goals as goal

pub returns-clause-count : goal.returns-clause-count
returns-clause-count c =
    let r = c.args.self.now in
    let n = c.args.node in
    let d = c.index.result.now in
    let there = read_at r.nodes.items c.from-number.result n d (omega (arith, c.from-number.ensures, c.get.ensures.value)) c.requires.node c.index.ensures in
    let tries : c.from-tries.result ≡ one_if c.args.may_try = c.from-tries.ensures ∙ byte_is c.args.may_try in
    λ p at may.
    let all = counted p r n d may.0 at there may.2 in
    let told : c.from-tries.result ≡ one_if (is_some may.0) = tries ∙ ap one_if may.1 in
    omega (arith, all, told, c.serves_count-serves.ensures.count, c.senders-letters.ensures)

pub returns-clause-served : goal.returns-clause-served
returns-clause-served c =
    let r = c.args.self.now in
    let n = c.args.node in
    let d = c.index.result.now in
    let there = read_at r.nodes.items c.from-number.result n d (omega (arith, c.from-number.ensures, c.get.ensures.value)) c.requires.node c.index.ensures in
    λ p at. serves_all p r n d at there c.serves_count-serves.ensures.all
