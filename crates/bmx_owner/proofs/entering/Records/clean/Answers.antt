use Rattle.std.proofs.Common.{◌≡◌, ◌+◌, not, filter, count_by, vec_len, vec_capacity, sym, subst, ap, ◌∙◌, rules, arith, length}
use Rattle.std.proofs.lemmas.Fn.{filter_same}
use Rattle.bmx_owner.specs.declared.entering.Record.{Record}
use Rattle.bmx_owner.specs.Records.{Entering, is_stale, cleaned}
use Rattle.bmx_owner.specs.Inside.Named.{AreShelved}
use Rattle.bmx_owner.proofs.Found.{length-cleaned}
use Rattle.bmx_owner.proofs.Named.{Kept-cleaned}
use Rattle.bmx_owner.proofs.entering.Records.clean.Goals as goal
use Rattle.bmx_owner.proofs.entering.Records.clean.Goals.{then-walk, else-walk}

pub returns-clause-list : goal.returns-clause-list
returns-clause-list c =
    let items = c.self.inside.records.items in
    let listed = c.args.listed.now in
    elim c.if-walk.branch [
      | then-walk w ↦ rw w.self-inside-is (
          filter_same _ (λ (r : Record). not (is_stale c.args.bunch c.args.from c.args.sent c.args.got listed r)) _ (λ x b f' k. search rules) _ _ w.retain.ensures.filtered
          ∙ ap (λ (v : Entering). cleaned v.list c.args.bunch c.args.from c.args.sent c.args.got listed) c.self.view_is)
      | else-walk w ↦ rw w.self-inside-is (
          sym (subst (λ xs. filter (λ (r : Record). not (is_stale c.args.bunch c.args.from c.args.sent c.args.got listed r)) xs ≡ xs) c.as_slice.ensures.value (c.walk.ensures.none w.if-walk.false))
          ∙ ap (λ (v : Entering). cleaned v.list c.args.bunch c.args.from c.args.sent c.args.got listed) c.self.view_is)
    ]

pub invariant_of-self : goal.invariant_of-self
invariant_of-self c =
    let items = c.self.inside.records.items in
    let listed = c.args.listed.now in
    let room = c.self.inside.room in
    let long : vec_len c.self.inside.records ≡ length items = omega (arith, c.self.inside.records.ok.0) in
    let walked : AreShelved (cleaned items c.args.bunch c.args.from c.args.sent c.args.got listed) (room + count_by (is_stale c.args.bunch c.args.from c.args.sent c.args.got listed) items) c.walk.new.names =
    subst (λ xs. AreShelved (cleaned xs c.args.bunch c.args.from c.args.sent c.args.got listed) (room + count_by (is_stale c.args.bunch c.args.from c.args.sent c.args.got listed) xs) c.walk.new.names) c.as_slice.ensures.value
    (c.walk.ensures.names room (subst (λ xs. AreShelved xs room c.self.inside.names) (sym c.as_slice.ensures.value) c.self.invariant.shelved)) in
    elim c.if-walk.branch [
      | then-walk w ↦ rw w.self-inside-is (
          let left = filter_same _ (λ (r : Record). not (is_stale c.args.bunch c.args.from c.args.sent c.args.got listed r)) _ (λ x b f' k. search rules) _ _ w.retain.ensures.filtered in
          let after : c.len.result ≡ vec_len w.retain.new.self = rw w.self-inside-is at c.len.ensures in
          let left_long : vec_len w.retain.new.self ≡ length w.retain.new.self.items = omega (arith, w.retain.new.self.ok.0) in
          Kept-cleaned c.args.bunch c.args.from c.args.sent c.args.got listed items w.retain.new.self.items (vec_len c.self.inside.records) (vec_capacity c.self.inside.records) room (vec_len w.retain.new.self) (vec_capacity w.retain.new.self) c.len-before.result c.len.result c.self.inside.names c.walk.new.names c.self.invariant long left_long (search rules) c.len-before.ensures after left walked)
      | else-walk w ↦ rw w.self-inside-is (
          let left = sym (subst (λ xs. filter (λ (r : Record). not (is_stale c.args.bunch c.args.from c.args.sent c.args.got listed r)) xs ≡ xs) c.as_slice.ensures.value (c.walk.ensures.none w.if-walk.false)) in
          let after : c.len.result ≡ vec_len c.self.inside.records = rw w.self-inside-is at c.len.ensures in
          Kept-cleaned c.args.bunch c.args.from c.args.sent c.args.got listed items items (vec_len c.self.inside.records) (vec_capacity c.self.inside.records) room (vec_len c.self.inside.records) (vec_capacity c.self.inside.records) c.len-before.result c.len.result c.self.inside.names c.walk.new.names c.self.invariant long long (omega arith) c.len-before.ensures after left walked)
    ]

pub returns-clause-count : goal.returns-clause-count
returns-clause-count c =
    let e = ap length (returns-clause-list c) in
    let all = length-cleaned c.args.self.now.list c.args.bunch c.args.from c.args.sent c.args.got c.args.listed.now in
    let same = ap (λ (v : Entering). length v.list) c.self.view_is in
    omega (arith, e, all, same, c.self.inside.records.ok.0, c.if-walk.self-inside.records.ok.0, c.len.ensures, c.len-before.ensures)
