use Rattle.std.proofs.Common.{◌*◌, arith}
use Rattle.std.proofs.lemmas.Nat.{one_shl}
use Rattle.bmx_segment.proofs.Fields.{with_kind-lt}
use Rattle.bmx_segment.proofs.headers.Kind.put.Goals as goal

pub overflow_mul-result : goal.overflow_mul-result
overflow_mul-result c =
    let small = c.number-number.ensures.bound in
    let unit = one_shl (2 * c.args.field) 64 (omega arith) in
    let all = with_kind-lt c.args.kinds c.args.field c.number-number.result 32 (omega arith) c.requires small in
    rw unit (omega (arith, all))

pub overflow_add-result : goal.overflow_add-result
overflow_add-result c =
    let small = c.number-number.ensures.bound in
    let unit = one_shl (2 * c.args.field) 64 (omega arith) in
    let all = with_kind-lt c.args.kinds c.args.field c.number-number.result 32 (omega arith) c.requires small in
    rw unit (omega (arith, all))

pub returns : goal.returns
returns c =
    let unit = one_shl (2 * c.args.field) 64 (omega arith) in
    rw (unit, c.number-number.ensures.value)
