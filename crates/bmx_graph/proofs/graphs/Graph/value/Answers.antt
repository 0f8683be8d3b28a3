use Rattle.std.proofs.Common.{◌+◌, ◌*◌, ◌<◌, length, arith}
use Rattle.bmx_graph.specs.Graphs.{state_of}
use Rattle.bmx_graph.proofs.States.{register_in-there}
use Rattle.bmx_graph.proofs.graphs.Graph.value.Goals as goal

pub returns : goal.returns
unfolding state_of
returns c =
    let g = c.args.self.now in
    let there : 16 * c.args.node + c.args.register < length g.registers = omega arith in
    rw c.register_place.ensures.place (register_in-there g.registers c.args.node c.args.register _ c.requires there)
