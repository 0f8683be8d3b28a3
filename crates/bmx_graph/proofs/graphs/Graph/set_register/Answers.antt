use Rattle.std.proofs.Common.{refl, ◌+◌, ◌*◌, ◌<◌, length, slice_set, arith}
use Rattle.bmx_graph.specs.Graphs.{state_of}
use Rattle.bmx_graph.proofs.States.{state_of-from, register_in-set}
use Rattle.bmx_graph.proofs.graphs.Graph.set_register.Goals as goal

pub returns-clause-state : goal.returns-clause-state
unfolding state_of
returns-clause-state c =
    let g = c.args.self.now in
    let at = 16 * c.args.node + c.args.register in
    let there : at < length g.registers = omega arith in
    rw c.register_place.ensures.place (
    state_of-from (record g { registers = slice_set g.registers at c.args.value }) _ (λ q. refl)
    (register_in-set g.registers c.args.node c.args.register c.args.value c.requires there) (λ n q. refl) (λ n. refl)
    )
