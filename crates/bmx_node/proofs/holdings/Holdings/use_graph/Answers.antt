use Rattle.std.proofs.Common.{◌≡◌, ◌+◌, ◌<◌, ◌≤◌, ◌^◌, sym, subst}
use Rattle.std.specs.Prelude.{IfOk, OnErr, if◌then◌else◌}
use Rattle.bmx_protocol.specs.Rules.{do_rule}
use Rattle.bmx_protocol.specs.Steps.{made_places, is_nil}
use Rattle.bmx_memory.specs.Shown.{shown}
use Rattle.bmx_node.specs.declared.holdings.Holdings.{Holdings}
use Rattle.bmx_node.specs.Seen.{state_of, places_of, node_of, FitsCommand}
use Rattle.bmx_node.specs.Inside.Keeping.{Keeps, Frame}
use Rattle.bmx_node.specs.Inside.Reacting.{Reacts, lies_at, lacks_room}
use Rattle.bmx_node.proofs.holdings.Holdings.use_graph.Goals as goal

pub do_graph-requires-clause-keeps : goal.do_graph-requires-clause-keeps
do_graph-requires-clause-keeps c = subst Keeps (sym c.look.ensures) c.requires.keeps

pub do_graph-requires-clause-command : goal.do_graph-requires-clause-command
do_graph-requires-clause-command c = subst (λ (h : Holdings). FitsCommand h.store.bunches c.args.command.now) (sym c.look.ensures) c.requires.command

pub do_graph-requires-clause-clock : goal.do_graph-requires-clause-clock
do_graph-requires-clause-clock c = subst (λ (h : Holdings). h.clock < 2 ^ 55) (sym c.look.ensures) c.requires.clock

pub do_graph-requires-clause-few : goal.do_graph-requires-clause-few
do_graph-requires-clause-few c = subst (λ (h : Holdings). h.made ≤ h.clock + 320000) (sym c.look.ensures) c.requires.few

pub returns-clause-reacts : goal.returns-clause-reacts
returns-clause-reacts c stamp =
    subst (λ (h : Holdings). IfOk c.do_graph.result (λ done. Reacts stamp (state_of h) (do_rule h.me (state_of h) (lacks_room (shown h.memory) c.args.command.now) (lies_at h) c.args.command.now) done (state_of c.do_graph.new.self)))
    c.look.ensures (c.do_graph.ensures.reacts stamp)

pub returns-clause-places : goal.returns-clause-places
returns-clause-places c =
    subst (λ (h : Holdings). IfOk c.do_graph.result (λ done. places_of c.do_graph.new.self ≡ (if is_nil done.answer then made_places h.me (node_of h) c.args.command.now else places_of h)))
    c.look.ensures c.do_graph.ensures.places

pub returns-clause-err : goal.returns-clause-err
returns-clause-err c = subst (λ (h : Holdings). OnErr c.do_graph.result (node_of c.do_graph.new.self ≡ node_of h)) c.look.ensures c.do_graph.ensures.err

pub returns-clause-frame : goal.returns-clause-frame
returns-clause-frame c = subst (λ (h : Holdings). Frame h c.do_graph.new.self) c.look.ensures c.do_graph.ensures.frame
