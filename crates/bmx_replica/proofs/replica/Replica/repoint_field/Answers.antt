use Rattle.bmx_replica.proofs.Repointing.{Repoints-field, current_here}
use Rattle.bmx_replica.proofs.replica.Replica.repoint_field.Goals as goal

pub returns-clause-done : goal.returns-clause-done
returns-clause-done c =
    let w = c.put_field.ensures in
    Repoints-field c.args.self.now c.put_field.new.self c.args.name c.args.i c.read_field-value.result c.read_field-value.ensures w.writes w.others w.fields

pub returns-clause-current : goal.returns-clause-current
returns-clause-current c =
    let w = c.put_field.ensures in
    current_here c.args.self.now c.put_field.new.self c.args.name c.args.i c.read_field-value.result c.read_field-value.ensures w.writes w.others w.fields
