use Rattle.std.proofs.Common.{◌≡◌, ℕ, Some, subst}
use Rattle.bmx_replica.specs.Replicas.{field_of}
use Rattle.bmx_replica.proofs.Standing.{IsFound-named}
use Rattle.bmx_replica.proofs.Fielded.{field_of-there}
use Rattle.bmx_replica.proofs.replica.Replica.read_field.Goals as goal

pub field_in-requires : goal.field_in-requires
field_in-requires c =
    let f = c.in-Some.ensures.found in
    let p = field_of-there c.args.self.now c.args.name c.in-Some.found.slot c.in-Some.found.header f c.args.i c.requires in
    record {
      found = IsFound-named c.args.self.now.slots c.args.self.now.heap.blocks c.args.name c.in-Some.found.slot c.in-Some.found.header f;
      copy = p.0;
      field = p.1;
      few = c.in-Some.ensures.few;
      replica = c.in-Some.ensures.replica;
    }

pub returns : goal.returns
returns c =
    let P = λ (n : ℕ). field_of c.args.self.now n c.args.i ≡ Some c.field_in.result in
    subst P c.in-Some.ensures.found.named c.field_in.ensures
