use Rattle.bmx_segment.specs.Headers.{kind_number}
use Rattle.bmx_segment.proofs.FieldKinds.{kind_of-with_kind, kind_number-lt}
use Rattle.bmx_segment.proofs.Fields.{with_kind-lt}
use Rattle.bmx_segment.proofs.headers.kinds_of_fields.Goals as goal

pub returns-clause-read : goal.returns-clause-read
returns-clause-read c = λ kinds i kind j. kind_of-with_kind kinds i (kind_number kind) (kind_number-lt kind) j

pub returns-clause-few : goal.returns-clause-few
returns-clause-few c = λ kinds i kind size within few. with_kind-lt kinds i (kind_number kind) size few within (kind_number-lt kind)
