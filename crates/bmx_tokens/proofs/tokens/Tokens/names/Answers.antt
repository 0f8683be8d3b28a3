use Rattle.std.proofs.Common.{◌↔◌, ℕ, Contains, IsSome, Ok, sym, subst}
use Rattle.std.specs.List.Sorted.{IsStrictlyIncreasing}
use Rattle.std.specs.Map.{keys_of}
use Rattle.std.proofs.lemmas.Iterator.{items_from_collect}
use Rattle.std.proofs.lemmas.Iterator.Consumers.{YieldsList-at, YieldsList-from_copied, YieldsList-from_rest}
use Rattle.bmx_tokens.specs.Tables.{part_of}
use Rattle.bmx_tokens.proofs.Names.{sorted_names_rise, names_are_all}
use Rattle.bmx_tokens.proofs.tokens.Tokens.names.Goals as goal

pub returns-clause-rises : goal.returns-clause-rises
returns-clause-rises c = subst IsStrictlyIncreasing (sym c.from_vec.ensures) (sorted_names_rise c.self.inside.parts.entries c.in_ok-names.names.items c.sort_unstable.new.self.items
    (items_from_collect {E = Unit {0}} (Ok c.in_ok-names.names) c.in_ok-names.ensures.ran (YieldsList-from_copied (YieldsList-at c.copied.ensures.source (YieldsList-from_rest (keys_of c.self.inside.parts.entries) c.keys.ensures.rest))))
    c.keys.ensures.unique c.sort_unstable.ensures.permutation c.sort_unstable.ensures.sorted)

pub returns-clause-exact : goal.returns-clause-exact
returns-clause-exact c =
    let all : (x : ℕ) → Contains c.sort_unstable.new.self.items x ↔ IsSome (part_of c.args.self.now x) = subst (λ t. (x : ℕ) → Contains c.sort_unstable.new.self.items x ↔ IsSome (part_of t x)) c.self.view_is
    (names_are_all c.self.inside.parts.entries c.in_ok-names.names.items c.sort_unstable.new.self.items
    (items_from_collect {E = Unit {0}} (Ok c.in_ok-names.names) c.in_ok-names.ensures.ran (YieldsList-from_copied (YieldsList-at c.copied.ensures.source (YieldsList-from_rest (keys_of c.self.inside.parts.entries) c.keys.ensures.rest)))) c.sort_unstable.ensures.permutation) in
    subst (λ l. (x : ℕ) → Contains l x ↔ IsSome (part_of c.args.self.now x)) (sym c.from_vec.ensures) all
