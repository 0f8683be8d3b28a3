use Rattle.std.proofs.Common.{◌≡◌, ℕ, Some, sym, subst}
use Rattle.bmx_segment.specs.declared.headers.Header.{Header}
use Rattle.bmx_replica.specs.declared.directory.Slot.{Slot}
use Rattle.bmx_replica.specs.Replicas.{Holding, field_of}
use Rattle.bmx_replica.proofs.Standing.{IsFound-named}
use Rattle.bmx_replica.proofs.Fielded.{field_of-none, field_of-past}
use Rattle.bmx_replica.proofs.replica.Replica.field.Goals as goal
use Rattle.bmx_replica.proofs.replica.Replica.field.Goals.{then-not-found-via-then-not-found, then-not-found-via-else-not-found+then-i-found}

pub returns-then-not-found : goal.returns-then-not-found
returns-then-not-found c =
    let r : Holding = c.args.self.now in
    let s : Slot = c.in-Some.found.slot in
    let h : Header = c.in-Some.found.header in
    let f = c.in-Some.ensures.found in
    elim c.then-not-found.branch [
      | then-not-found-via-then-not-found w ↦ sym (field_of-none r c.args.name s h f c.args.i w.if-not-found.true)
      | then-not-found-via-else-not-found+then-i-found w ↦ sym (field_of-past r c.args.name s h f c.args.i w.if-i-found.true)
    ]

pub field_in-requires-clause-found : goal.field_in-requires-clause-found
field_in-requires-clause-found c = IsFound-named c.args.self.now.slots c.args.self.now.heap.blocks c.args.name c.in-Some.found.slot c.in-Some.found.header c.in-Some.ensures.found

pub field_in-requires-clause-copy : goal.field_in-requires-clause-copy
field_in-requires-clause-copy c = c.if-not-found.false

pub returns : goal.returns
returns c =
    let P = λ (n : ℕ). Some c.field_in.result ≡ field_of c.args.self.now n c.args.i in
    subst P c.in-Some.ensures.found.named (sym c.field_in.ensures)
