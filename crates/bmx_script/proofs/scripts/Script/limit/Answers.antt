use Rattle.std.proofs.Common.{◌<◌, ◌≤◌, ◌≡◌, ℕ, rules, subst, sym}
use Rattle.bmx_script.specs.Grammar.{limit_of, known_after_all, nothing_known}
use Rattle.bmx_script.proofs.Heads.{HasCounts, counts_of}
use Rattle.bmx_script.proofs.scripts.Script.limit.Goals as goal

pub returns-clause-range : goal.returns-clause-range
returns-clause-range c =
    let counts : HasCounts (known_after_all nothing_known c.self.inside.lines) = counts_of c.self.inside.lines c.self.invariant.0 in
    let is : c.unwrap_or.result ≡ limit_of c.self.inside.lines = search rules in
    subst (λ (n : ℕ). (0 < n) × (n ≤ 65535)) (sym is) (counts.a_segment, counts.few_segments)
