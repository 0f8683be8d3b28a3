use Rattle.std.proofs.Common.{subst, sym}
use Rattle.bmx_script.specs.declared.knowledge.Knowledge.{Knowledge}
use Rattle.bmx_script.proofs.Heads.{HasCounts, counts_of}
use Rattle.bmx_script.proofs.scripts.Script.bunches.Goals as goal

pub returns-clause-range : goal.returns-clause-range
returns-clause-range c =
    let counts : HasCounts c.self.inside.known = subst (λ (k : Knowledge). HasCounts k) (sym c.self.invariant.1) (counts_of c.self.inside.lines c.self.invariant.0) in
    (counts.a_bunch, counts.few_bunches)
