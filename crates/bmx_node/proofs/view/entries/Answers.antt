use Rattle.std.proofs.Common.{◌≡◌, ◌↔◌, ℕ, List, Contains, IsSome, ap, sym, subst, ◌∙◌, refl}
use Rattle.std.specs.List.Sorted.{IsStrictlyIncreasing}
use Rattle.bmx_memory.specs.Shown.{shown}
use Rattle.bmx_tokens.specs.Tables.{part_of}
use Rattle.bmx_node.proofs.Viewing.{IfOk-from, entries_rise, entries_exact}
use Rattle.bmx_node.proofs.view.entries.Goals as goal

pub returns-clause-rising : goal.returns-clause-rising
returns-clause-rising c =
    let part = part_of c.args.tokens.now in
    let names = c.as_slice.result.now in
    let all : (x : ℕ) → Contains names x ↔ IsSome (part x) = subst (λ (l : List ℕ). (x : ℕ) → Contains l x ↔ IsSome (part x)) (sym c.as_slice.ensures) c.in_ok-names.ensures.exact in
    IfOk-from c.entries_of.result (λ entries are. entries_rise (shown c.args.memory.now).object part c.requires names all entries (subst IsStrictlyIncreasing (sym c.as_slice.ensures) c.in_ok-names.ensures.rises) are) c.entries_of.ensures

pub returns-clause-exact : goal.returns-clause-exact
returns-clause-exact c =
    let part = part_of c.args.tokens.now in
    let names = c.as_slice.result.now in
    let all : (x : ℕ) → Contains names x ↔ IsSome (part x) = subst (λ (l : List ℕ). (x : ℕ) → Contains l x ↔ IsSome (part x)) (sym c.as_slice.ensures) c.in_ok-names.ensures.exact in
    IfOk-from c.entries_of.result (λ entries are. entries_exact (shown c.args.memory.now).object part c.requires names all entries are) c.entries_of.ensures
