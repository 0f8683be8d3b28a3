use Rattle.std.proofs.Common.{ℕ, List, insert, if◌then◌else◌, sym, subst, ap, ◌∙◌, rules, ◌≡◌}
use Rattle.std.specs.List.Sorted.{IsStrictlyIncreasing}
use Rattle.std.proofs.lemmas.Fn.{always_returns_same}
use Rattle.std.proofs.lemmas.Bool.{false≢true}
use Rattle.bmx_token.proofs.Order.{nodes_with-increases}
use Rattle.bmx_token.specs.Nodes.{nodes_with as names_with, nodes_without as names_without}
use Rattle.bmx_tokens.specs.Inside.Rooms.{Listed}
use Rattle.bmx_tokens.proofs.Rising.{IsPlace, found_place, found_at, fits_at, with-new, with-old, without-at, without-elsewhere}
use Rattle.bmx_tokens.proofs.servable.Servable.put.Goals as goal

pub invariant_of-self-then-is_listed : goal.invariant_of-self-then-is_listed
invariant_of-self-then-is_listed c =
    let xs : List ℕ = c.self.inside.names.items in
    let place = found_place c.deref.result.now c.word-word.result c.binary_search_by_key.result (subst IsStrictlyIncreasing (sym c.deref.ensures.value) c.self.invariant) (c.binary_search_by_key.ensures.position (λ x. x) (always_returns_same _ _ _ (λ a r f k. search rules))) in
    let fits = fits_at xs c.args.name c.binary_search_by_key.result c.in-Err.i (rw (c.deref.ensures.value, c.word-word.ensures.value) at place) c.in-Err.is in
    let ok = sym c.is_ok-inserted.ensures.value ∙ c.if-prove.false in
    let put = c.insert.ensures.items ∙ ap (λ b. if b then insert xs c.in-Err.i c.args.name else xs) ok in
    subst IsStrictlyIncreasing (with-new c.args.name xs c.in-Err.i fits.0 fits.1 fits.2 ∙ sym put) (nodes_with-increases c.args.name xs c.self.invariant)

pub returns-in-Ok-clause-gone : goal.returns-in-Ok-clause-gone
returns-in-Ok-clause-gone c =
    let xs : List ℕ = c.self.inside.names.items in
    let place = found_place c.deref.result.now c.word-word.result c.binary_search_by_key.result (subst IsStrictlyIncreasing (sym c.deref.ensures.value) c.self.invariant) (c.binary_search_by_key.ensures.position (λ x. x) (always_returns_same _ _ _ (λ a r f k. search rules))) in
    let found = found_at xs c.args.name c.binary_search_by_key.result c.in-Ok.i (rw (c.deref.ensures.value, c.word-word.ensures.value) at place) c.in-Ok.is in
    λ off. c.remove.ensures.items ∙ sym (without-at c.args.name xs c.in-Ok.i c.self.invariant found.0 found.1) ∙ ap (λ (l : Listed). names_without c.args.name l.names) c.self.view_is

pub returns-else-not-is_listed-clause-listed : goal.returns-else-not-is_listed-clause-listed
returns-else-not-is_listed-clause-listed c =
    let xs : List ℕ = c.self.inside.names.items in
    let place = found_place c.deref.result.now c.word-word.result c.binary_search_by_key.result (subst IsStrictlyIncreasing (sym c.deref.ensures.value) c.self.invariant) (c.binary_search_by_key.ensures.position (λ x. x) (always_returns_same _ _ _ (λ a r f k. search rules))) in
    let found = found_at xs c.args.name c.binary_search_by_key.result c.in-Ok.i (rw (c.deref.ensures.value, c.word-word.ensures.value) at place) c.in-Ok.is in
    λ on. subst (λ (l : Listed). l.names ≡ names_with c.args.name l.names) c.self.view_is (sym (with-old c.args.name xs c.in-Ok.i c.self.invariant found.0 found.1))

pub returns-in-Err-clause-listed : goal.returns-in-Err-clause-listed
returns-in-Err-clause-listed c =
    let xs : List ℕ = c.self.inside.names.items in
    let place = found_place c.deref.result.now c.word-word.result c.binary_search_by_key.result (subst IsStrictlyIncreasing (sym c.deref.ensures.value) c.self.invariant) (c.binary_search_by_key.ensures.position (λ x. x) (always_returns_same _ _ _ (λ a r f k. search rules))) in
    let fits = fits_at xs c.args.name c.binary_search_by_key.result c.in-Err.i (rw (c.deref.ensures.value, c.word-word.ensures.value) at place) c.in-Err.is in
    let ok = sym c.is_ok-inserted.ensures.value ∙ c.if-prove.false in
    let put = c.insert.ensures.items ∙ ap (λ b. if b then insert xs c.in-Err.i c.args.name else xs) ok in
    λ on. put ∙ sym (with-new c.args.name xs c.in-Err.i fits.0 fits.1 fits.2) ∙ ap (λ (l : Listed). names_with c.args.name l.names) c.self.view_is

pub returns-else-is_listed-clause-gone : goal.returns-else-is_listed-clause-gone
returns-else-is_listed-clause-gone c =
    let xs : List ℕ = c.self.inside.names.items in
    let place = found_place c.deref.result.now c.word-word.result c.binary_search_by_key.result (subst IsStrictlyIncreasing (sym c.deref.ensures.value) c.self.invariant) (c.binary_search_by_key.ensures.position (λ x. x) (always_returns_same _ _ _ (λ a r f k. search rules))) in
    let fits = fits_at xs c.args.name c.binary_search_by_key.result c.in-Err.i (rw (c.deref.ensures.value, c.word-word.ensures.value) at place) c.in-Err.is in
    λ off. subst (λ (l : Listed). l.names ≡ names_without c.args.name l.names) c.self.view_is (sym (without-elsewhere c.args.name xs c.in-Err.i fits.1 fits.2))
