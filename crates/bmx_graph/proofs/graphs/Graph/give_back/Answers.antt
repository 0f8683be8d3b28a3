use Rattle.std.proofs.Common.{refl, ◌∙◌}
use Rattle.std.specs.HashMap.{get}
use Rattle.bmx_graph.specs.Graphs.{state_of, same_hold}
use Rattle.bmx_graph.proofs.States.{state_of-from, held_put}
use Rattle.bmx_graph.proofs.graphs.Graph.give_back.Goals as goal

pub returns-clause-state : goal.returns-clause-state
unfolding state_of
returns-clause-state c =
    let g = c.args.self.now in
    state_of-from (record g { held = c.remove.new.self }) _ (λ q. refl) (λ n r. refl)
    (λ m q. c.remove.ensures.updates.0 (m, q) ∙ held_put (λ n x. get same_hold g.held (n, x)) _ _ _ m q) (λ n. refl)
