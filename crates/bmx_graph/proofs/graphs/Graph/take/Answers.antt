use Rattle.std.proofs.Common.{refl, ap, ◌∙◌}
use Rattle.std.specs.Map.{lookup}
use Rattle.std.specs.HashMap.{get}
use Rattle.bmx_graph.specs.Graphs.{state_of, same_hold}
use Rattle.bmx_graph.proofs.States.{state_of-from, held_put, OnErr-from}
use Rattle.bmx_graph.proofs.graphs.Graph.take.Goals as goal

pub returns-in_err-insert-clause-err : goal.returns-in_err-insert-clause-err
unfolding state_of
returns-in_err-insert-clause-err c =
    OnErr-from _ (
    state_of-from (record c.args.self.now { held = c.insert.new.self }) (state_of c.args.self.now) (λ q. refl) (λ n r. refl)
    (λ m q. ap (lookup (same_hold (m, q))) c.in_err-insert.ensures.err) (λ n. refl)
    )

pub returns-clause-ok : goal.returns-clause-ok
unfolding state_of
returns-clause-ok c =
    let g = c.args.self.now in
    state_of-from (record g { held = c.insert.new.self }) _ (λ q. refl) (λ n r. refl)
    (λ m q. c.in_ok-insert.ensures.updates.0 (m, q) ∙ held_put (λ n x. get same_hold g.held (n, x)) _ _ _ m q) (λ n. refl)
