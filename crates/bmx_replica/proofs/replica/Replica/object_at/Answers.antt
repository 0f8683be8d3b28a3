use Rattle.std.proofs.Common.{◌≡◌, ℕ, Some, None, sym, ap, ◌∙◌, subst}
use Rattle.std.specs.Option.{option_map}
use Rattle.std.proofs.lemmas.Option.{none-some, same_Some}
use Rattle.bmx_segment.specs.Stores.{header_at}
use Rattle.bmx_segment.specs.declared.headers.Header.{Header}
use Rattle.bmx_replica.specs.Chains.{Means, name_at}
use Rattle.bmx_replica.specs.Replicas.{Holding, entry_of}
use Rattle.bmx_replica.specs.contracts.replica.Replica.{the_view}
use Rattle.bmx_replica.proofs.Chained.{name_at-means, name_at-from}
use Rattle.bmx_replica.proofs.Finding.{none_any, means_of, none_of}
use Rattle.bmx_replica.proofs.replica.Replica.object_at.Goals as goal

pub returns-in_err-header-clause-none : goal.returns-in_err-header-clause-none
returns-in_err-header-clause-none c =
    let r : Holding = the_view c.self.inside in
    let at : c.in_ok-address.address ≡ c.args.w = c.in_ok-address.ensures.value in
    let none : name_at r.heap.blocks c.args.w ≡ None = ap (option_map (λ (h : Header). h.name)) (ap (header_at r.heap.blocks) (sym at) ∙ sym c.in_err-header.ensures.value) in
    none_any c.from_residual-in_err-header.result _ (rw (← c.self.view_is) (λ name m. absurd (none-some name (sym none ∙ name_at-means r.slots r.heap.blocks c.self.invariant.1 c.args.w name m.ends))))

pub returns-in_default : goal.returns-in_default
returns-in_default c =
    let r : Holding = the_view c.self.inside in
    let h : Header = c.in_ok-header.header in
    let at : c.in_ok-address.address ≡ c.args.w = c.in_ok-address.ensures.value in
    let there : header_at r.heap.blocks c.args.w ≡ Some h = ap (header_at r.heap.blocks) (sym at) ∙ sym c.in_ok-header.ensures.value in
    let named : name_at r.heap.blocks c.args.w ≡ Some h.name = name_at-from r.heap.blocks c.args.w h there in
    let N : Holding → Type 0 = λ x. name_at x.heap.blocks c.args.w ≡ Some h.name in
    let now : N c.args.self.now = subst N c.self.view_is named in
    let M : Holding → Type 0 = λ x. (name : ℕ) → Means x.heap.blocks c.args.w name → h.name ≡ name in
    let only : M c.args.self.now = subst M c.self.view_is (λ name m. same_Some h.name name (sym named ∙ name_at-means r.slots r.heap.blocks c.self.invariant.1 c.args.w name m.ends)) in
    record {
      stands = c.object.ensures.stands;
      means = means_of c.object.result h.name (name_at c.args.self.now.heap.blocks c.args.w) now c.object.ensures.named;
      none = none_of c.object.result (entry_of c.args.self.now h.name) _ c.object.ensures.some (λ none name m. ap (entry_of c.args.self.now) (sym (only name m)) ∙ none);
      replica = rw (← c.self.view_is) c.self.invariant.1;
    }
