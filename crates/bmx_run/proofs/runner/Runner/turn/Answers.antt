use Rattle.std.proofs.Common.{◌∙◌, length}
use Rattle.bmx_lanes.proofs.Sending.{OnOk-map}
use Rattle.bmx_run.specs.declared.actions.Action.TheVariants as choice
use Rattle.bmx_run.specs.Inside.Running.{history_of}
use Rattle.bmx_run.proofs.Phasing.{draws_next, turn_may}
use Rattle.bmx_run.proofs.runner.Runner.turn.Goals as goal

pub try_command-requires : goal.try_command-requires
try_command-requires c =
    let r = c.args.self.now in
    let count = c.args.enabled in
    let q = c.requires.may in
    let t = turn_may q.0 r c.args.tries.now count c.next_word-word.new.self c.next_word-word.result c.place_of.result c.pick.result (choice.Try c.in-Try.order) q.1 c.next_word-word.ensures c.place_of.ensures c.pick.ensures c.in-Try.is in
    (q.0, t.0, t.1)

pub returns-in-Try-clause-ok : goal.returns-in-Try-clause-ok
returns-in-Try-clause-ok c = λ p m.
    let r = c.args.self.now in
    let count = c.args.enabled in
    let t = turn_may p r c.args.tries.now count c.next_word-word.new.self c.next_word-word.result c.place_of.result c.pick.result (choice.Try c.in-Try.order) m c.next_word-word.ensures c.place_of.ensures c.pick.ensures c.in-Try.is in
    OnOk-map c.try_command.result
    (λ turned. (turned, c.try_command.ensures.generator ∙ draws_next p.seed (length (history_of p)) r.generator c.next_word-word.new.self c.next_word-word.result c.next_word-word.ensures m.draws))
    (c.try_command.ensures.ok p t.0 t.1)

pub returns-in-Try-clause-err : goal.returns-in-Try-clause-err
returns-in-Try-clause-err c = λ p m.
    let r = c.args.self.now in
    let count = c.args.enabled in
    let t = turn_may p r c.args.tries.now count c.next_word-word.new.self c.next_word-word.result c.place_of.result c.pick.result (choice.Try c.in-Try.order) m c.next_word-word.ensures c.place_of.ensures c.pick.ensures c.in-Try.is in
    c.try_command.ensures.err p t.0 t.1

pub serve-requires : goal.serve-requires
serve-requires c =
    let r = c.args.self.now in
    let count = c.args.enabled in
    let q = c.requires.may in
    let t = turn_may q.0 r c.args.tries.now count c.next_word-word.new.self c.next_word-word.result c.place_of.result c.pick.result (choice.Serve c.in-Serve.node c.in-Serve.name) q.1 c.next_word-word.ensures c.place_of.ensures c.pick.ensures c.in-Serve.is in
    (q.0, t.0)

pub returns-in-Serve-clause-ok : goal.returns-in-Serve-clause-ok
returns-in-Serve-clause-ok c = λ p m.
    let r = c.args.self.now in
    let count = c.args.enabled in
    let t = turn_may p r c.args.tries.now count c.next_word-word.new.self c.next_word-word.result c.place_of.result c.pick.result (choice.Serve c.in-Serve.node c.in-Serve.name) m c.next_word-word.ensures c.place_of.ensures c.pick.ensures c.in-Serve.is in
    OnOk-map c.serve.result
    (λ turned. (turned, c.serve.ensures.generator ∙ draws_next p.seed (length (history_of p)) r.generator c.next_word-word.new.self c.next_word-word.result c.next_word-word.ensures m.draws))
    (c.serve.ensures.ok p t.0)

pub returns-in-Serve-clause-err : goal.returns-in-Serve-clause-err
returns-in-Serve-clause-err c = λ p m.
    let r = c.args.self.now in
    let count = c.args.enabled in
    let t = turn_may p r c.args.tries.now count c.next_word-word.new.self c.next_word-word.result c.place_of.result c.pick.result (choice.Serve c.in-Serve.node c.in-Serve.name) m c.next_word-word.ensures c.place_of.ensures c.pick.ensures c.in-Serve.is in
    c.serve.ensures.err p t.0

pub take-requires : goal.take-requires
take-requires c =
    let r = c.args.self.now in
    let count = c.args.enabled in
    let q = c.requires.may in
    let t = turn_may q.0 r c.args.tries.now count c.next_word-word.new.self c.next_word-word.result c.place_of.result c.pick.result (choice.Take c.in-Take.node c.in-Take.from) q.1 c.next_word-word.ensures c.place_of.ensures c.pick.ensures c.in-Take.is in
    (q.0, t.0)

pub returns-in-Take-clause-ok : goal.returns-in-Take-clause-ok
returns-in-Take-clause-ok c = λ p m.
    let r = c.args.self.now in
    let count = c.args.enabled in
    let t = turn_may p r c.args.tries.now count c.next_word-word.new.self c.next_word-word.result c.place_of.result c.pick.result (choice.Take c.in-Take.node c.in-Take.from) m c.next_word-word.ensures c.place_of.ensures c.pick.ensures c.in-Take.is in
    OnOk-map c.take.result
    (λ turned. (turned, c.take.ensures.generator ∙ draws_next p.seed (length (history_of p)) r.generator c.next_word-word.new.self c.next_word-word.result c.next_word-word.ensures m.draws))
    (c.take.ensures.ok p t.0)

pub returns-in-Take-clause-err : goal.returns-in-Take-clause-err
returns-in-Take-clause-err c = λ p m.
    let r = c.args.self.now in
    let count = c.args.enabled in
    let t = turn_may p r c.args.tries.now count c.next_word-word.new.self c.next_word-word.result c.place_of.result c.pick.result (choice.Take c.in-Take.node c.in-Take.from) m c.next_word-word.ensures c.place_of.ensures c.pick.ensures c.in-Take.is in
    c.take.ensures.err p t.0
