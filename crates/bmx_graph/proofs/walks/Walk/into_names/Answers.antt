use Rattle.std.proofs.Common.{◌≡◌, ◌↔◌, ℕ, List, Contains, Ok, subst, sym, ◌∙◌}
use Rattle.std.proofs.lemmas.Iterator.{items_from_collect}
use Rattle.std.proofs.lemmas.Iterator.Consumers.{YieldsList-from_rest}
use Rattle.bmx_graph.proofs.Finding.{rises}
use Rattle.bmx_graph.proofs.walks.Walk.into_names.Goals as goal

listed : (c : goal.After-drop-self-2) → c.from_vec.result ≡ c.args.self.seen.keys
listed c =
    c.from_vec.ensures ∙ items_from_collect {E = Unit {0}} (Ok c.in_ok-collect.field-0) c.in_ok-collect.ensures.ran (YieldsList-from_rest c.args.self.seen.keys c.into_iter.ensures.into_iter_gives.0)

pub returns-clause-rising : goal.returns-clause-rising
returns-clause-rising c = rises c.args.self.seen c.from_vec.result c.into_iter.ensures.into_iter_gives.4 (listed c)

pub returns-clause-same : goal.returns-clause-same
returns-clause-same c = subst (λ (xs : List ℕ). (x : ℕ) → Contains xs x ↔ Contains c.args.self.found.items x) (sym (listed c)) c.requires
