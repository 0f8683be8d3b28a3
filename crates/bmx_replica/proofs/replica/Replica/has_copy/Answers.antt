use Rattle.std.proofs.Common.{◌≡◌, Bool, true, false, IsSome, Some, None, Option, sym, subst, refl}
use Rattle.std.specs.Prelude.{IsTrue, if◌then◌else◌}
use Rattle.std.proofs.lemmas.Bool.{false≢true}
use Rattle.bmx_replica.specs.contracts.replica.Replica.{the_view}
use Rattle.bmx_replica.specs.Replicas.{Holding, copy_of}
use Rattle.bmx_replica.proofs.Standing.{found_at}
use Rattle.bmx_replica.proofs.Fielded.{copy_of-found}
use Rattle.bmx_replica.proofs.replica.Replica.has_copy.Goals as goal

there : {A : Type 0} (b : Bool) (x : A) (o : Option A) → o ≡ (if b then Some x else None) → (IsTrue b → IsSome o) × (IsSome o → IsTrue b)
there true x o is = (λ t. subst IsSome (sym is) refl, λ t. refl)
there false x o is = (λ t. absurd (false≢true t), λ t. absurd (false≢true (subst IsSome is t)))

pub returns-in-Some : goal.returns-in-Some
returns-in-Some c =
    let r : Holding = the_view c.self.inside in
    let f = found_at r.slots r.heap.blocks c.args.name c.in-Some.slot c.self.invariant.1 (sym c.in-Some.ensures) in
    rw (← c.self.view_is) (there c.in-Some.slot.has_copy _ (copy_of r c.args.name) (copy_of-found r c.args.name c.in-Some.slot f.0 f.1))
