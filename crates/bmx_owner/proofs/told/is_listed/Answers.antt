use Rattle.std.proofs.Common.{◌==◌, sym, subst, ap, ◌∙◌, rules}
use Rattle.std.specs.List.{list_any}
use Rattle.std.specs.List.Sorted.{IsStrictlyIncreasing}
use Rattle.std.proofs.lemmas.Fn.{always_returns_same}
use Rattle.bmx_owner.proofs.Places.{is_listed-searched}
use Rattle.bmx_owner.proofs.told.is_listed.Goals as goal

pub returns : goal.returns
returns c =
    let names = c.args.names.now in
    let found = c.binary_search_by_key.ensures.position (λ x. x) (always_returns_same _ _ _ (λ a r f k. search rules)) in
    let listed = is_listed-searched c.as_slice.result.now c.word.result c.binary_search_by_key.result (subst IsStrictlyIncreasing (sym c.as_slice.ensures) c.requires) found in
    c.is_ok.ensures.value ∙ listed
    ∙ ap (λ xs. list_any (λ x. x == c.word.result) xs) c.as_slice.ensures
    ∙ ap (λ n. list_any (λ x. x == n) names) c.word.ensures.value
