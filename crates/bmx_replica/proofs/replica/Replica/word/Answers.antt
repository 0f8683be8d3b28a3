use Rattle.std.proofs.Common.{List, ◌≡◌, ℕ, Some, unwrap_or, subst, sym, ap, ◌∙◌}
use Rattle.bmx_types.specs.declared.values.Val.TheVariants as val
use Rattle.bmx_types.specs.declared.values.Val.{Val}
use Rattle.bmx_types.specs.Words.{IsAddress}
use Rattle.bmx_segment.specs.Blocks.{Block}
use Rattle.bmx_segment.specs.declared.headers.Header.{Header}
use Rattle.bmx_segment.specs.declared.headers.Kind.TheVariants.{Ref}
use Rattle.bmx_replica.specs.Chains.{here, name_at, Ends, EndsLive, Reaches}
use Rattle.bmx_replica.specs.Replicas.{ReachesTarget}
use Rattle.bmx_replica.specs.contracts.replica.Replica.{the_view}
use Rattle.bmx_replica.proofs.Standing.{found_at}
use Rattle.bmx_replica.specs.Inside.Replicas.{IsFound}
use Rattle.bmx_replica.specs.declared.directory.Slot.{Slot}
use Rattle.bmx_replica.proofs.Chained.{is_end-live, name_at-from}
use Rattle.bmx_replica.proofs.replica.Replica.word.Goals as goal

-- the address of a name's object reaches the name
reaches : (blocks : List Block) (slots : List (ℕ × Slot)) (name : ℕ) (s : Slot) (h : Header) (w : ℕ) → IsFound slots blocks name s h → IsAddress w → w ≡ s.address → Reaches blocks w name
reaches blocks slots name s h w f address is =
    let R : ℕ → Type 0 = λ a. IsAddress a → Reaches blocks a name in
    let here : IsAddress s.address → Reaches blocks s.address name = λ at.
    let end : Ends blocks s.address = record { at = s.address; header = h; leads = here f.there (is_end-live h.state f.live) } in
    let live : EndsLive blocks s.address name = record { end = end; named = f.named; live = f.live } in
    record { address = at; ends = ∣ live ∣₁ } in
    subst R (sym is) here address

pub returns-in-Some-clause-reach : goal.returns-in-Some-clause-reach
returns-in-Some-clause-reach c =
    let r = the_view c.self.inside in
    let f = found_at r.slots r.heap.blocks c.in-Ref.name c.in-Some.slot c.self.invariant.1 (sym c.in-Some.ensures) in
    let at : Reaches r.heap.blocks c.word.result c.in-Ref.name =
    reaches r.heap.blocks r.slots c.in-Ref.name c.in-Some.slot f.0 c.word.result f.1 c.word.ensures.address c.word.ensures.value in
    rw (← c.self.view_is) (subst (λ (v : Val). ReachesTarget r v (record { kind = Ref; word = c.word.result })) (sym c.in-Ref.is) at)

pub returns-in-Some-clause-holds : goal.returns-in-Some-clause-holds
returns-in-Some-clause-holds c =
    let r = the_view c.self.inside in
    let f = found_at r.slots r.heap.blocks c.in-Ref.name c.in-Some.slot c.self.invariant.1 (sym c.in-Some.ensures) in
    let is : name_at r.heap.blocks c.word.result ≡ Some c.in-Ref.name = ap (name_at r.heap.blocks) c.word.ensures.value ∙ name_at-from r.heap.blocks c.in-Some.slot.address f.0 f.1.there ∙ ap Some f.1.named in
    rw (← c.self.view_is) (ap (λ o. val.Ref (unwrap_or o 0)) is ∙ sym c.in-Ref.is)
