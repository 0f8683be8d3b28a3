-- Which nodes keep a node from a token.
use Rattle.std.proofs.Common.{◌≡◌, ℕ, ◌<◌, Bool, true, false, not, ◌&&◌, eqb, get_or, is_some, refl, ap, ◌∙◌, zero-add, lit<}
use Rattle.std.specs.List.{list_any}
use Rattle.std.proofs.lemmas.Bool.{or_from}
use Rattle.std.proofs.lemmas.List.Folds.{list_any_at}
use Rattle.std.proofs.lemmas.List.FromFn.{get_or-range_with_len}
use Rattle.bmx_types.specs.declared.numbers.Mode.{Mode}
use Rattle.bmx_types.specs.declared.numbers.Mode.TheVariants as mode
use Rattle.bmx_graph.specs.State.{State}
use Rattle.bmx_graph.specs.Step.{all_nodes, is_writer}
use Rattle.bmx_graph.specs.Inside.Parts.{excludes, is_excluded}

any_node-none : (p : ℕ → Bool) → ((m : ℕ) → m < 8 → p m ≡ false) → list_any p all_nodes ≡ false
any_node-none p h =
    or_from _ _ (h 0 (lit< tt)) (or_from _ _ (h 1 (lit< tt)) (or_from _ _ (h 2 (lit< tt)) (or_from _ _ (h 3 (lit< tt))
    (or_from _ _ (h 4 (lit< tt)) (or_from _ _ (h 5 (lit< tt)) (or_from _ _ (h 6 (lit< tt)) (or_from _ _ (h 7 (lit< tt)) refl)))))))

any_node-some : (p : ℕ → Bool) (m : ℕ) → m < 8 → p m ≡ true → list_any p all_nodes ≡ true
any_node-some p m small h =
    let at : get_or all_nodes m 0 ≡ m = get_or-range_with_len 0 8 m 0 small ∙ zero-add m in
    list_any_at p all_nodes m 0 small (ap p at ∙ h)

-- no node below 8 stands in the way
pub is_excluded-none : (wanted : Mode) (s : State) (n name : ℕ) → ((m : ℕ) → m < 8 → (not (eqb m n) && excludes wanted (s.held m name)) ≡ false) → is_excluded wanted s n name ≡ false
is_excluded-none mode.Read s n name h = any_node-none _ h
is_excluded-none mode.Write s n name h = any_node-none _ h

-- a node that stands in the way
pub is_excluded-some : (wanted : Mode) (s : State) (n name m : ℕ) → m < 8 → (not (eqb m n) && excludes wanted (s.held m name)) ≡ true → is_excluded wanted s n name ≡ true
is_excluded-some mode.Read s n name m small h = any_node-some (λ k. not (eqb k n) && is_writer (s.held k name)) m small h
is_excluded-some mode.Write s n name m small h = any_node-some (λ k. not (eqb k n) && is_some (s.held k name)) m small h
