use Rattle.std.proofs.Common.{[]}
use Rattle.bmx_node.proofs.Operating.{ready_does, ready_keeps, frame_tokens}
use Rattle.bmx_node.proofs.holdings.Holdings.make_ready.Goals as goal

pub returns-clause-does : goal.returns-clause-does
returns-clause-does c stamp =
    rw c.tell.ensures (ready_does stamp c.args.self.now c.args.name c.serve.new.self c.requires.keeps c.requires.there c.requires.service c.in_ok-_served.ensures.part)

pub returns-clause-keeps : goal.returns-clause-keeps
returns-clause-keeps c = ready_keeps c.args.self.now c.args.name c.serve.new.self c.requires.keeps c.requires.there c.in_ok-_served.ensures.part

pub returns-clause-frame : goal.returns-clause-frame
returns-clause-frame c = frame_tokens c.args.self.now c.serve.new.self c.args.self.now.mail
