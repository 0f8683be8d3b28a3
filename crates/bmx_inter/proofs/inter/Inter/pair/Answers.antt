use Rattle.std.proofs.Common.{◌≡◌, ap, ◌∙◌}
use Rattle.bmx_inter.specs.Order.{find_one, with_one}
use Rattle.bmx_inter.specs.Inter.{Paired, stub_pair, scion_pair, stub_of, scion_of}
use Rattle.bmx_inter.proofs.Found.{find_one-put}
use Rattle.bmx_inter.proofs.inter.Inter.pair.Goals as goal

pub returns-clause-stub : goal.returns-clause-stub
returns-clause-stub c =
    let stub = stub_of c.args.source c.args.bunch c.args.target in
    let old = c.args.self.now.stubs in
    let new : c.put.new.self.list ≡ with_one stub_pair stub old = c.put.ensures.list ∙ ap (λ (v : Paired). with_one stub_pair stub v.stubs) c.self.view_is in
    ap (find_one stub_pair) new ∙ find_one-put stub_pair stub old

pub returns-clause-scion : goal.returns-clause-scion
returns-clause-scion c =
    let scion = scion_of c.args.source c.args.bunch c.args.target c.args.clock in
    let old = c.args.self.now.scions in
    let new : c.put-2.new.self.list ≡ with_one scion_pair scion old = c.put-2.ensures.list ∙ ap (λ (v : Paired). with_one scion_pair scion v.scions) c.self.view_is in
    ap (find_one scion_pair) new ∙ find_one-put scion_pair scion old
