use Rattle.std.proofs.Common.{◌≡◌, ◌<◌, ◌≤◌, ◌==◌, true, false, length, get_or, nat_lt, sym, subst, ap, ◌∙◌, rules}
use Rattle.std.specs.List.Sorted.{IsPartitionPoint, IsPartitionedBy}
use Rattle.std.proofs.lemmas.List.Sorted.{IsPartitionPoint-from_clause}
use Rattle.bmx_owner.specs.declared.entering.Record.{Record}
use Rattle.bmx_owner.specs.Records.{Entering, has_record}
use Rattle.bmx_owner.proofs.Places.{named_below-partitioned, has_record-at, has_record-none}
use Rattle.bmx_owner.proofs.entering.Records.has.Goals as goal

pub returns-in-Some : goal.returns-in-Some
returns-in-Some c =
    let word = c.word-word.result in
    let i = c.partition_point-i.result in
    let items = c.self.inside.records.items in
    let p = λ (r : Record). nat_lt r.name word in
    let point = IsPartitionPoint-from_clause p _ _ c.partition_point-i.ensures.partitioned (subst (IsPartitionedBy p) (sym c.deref.ensures.value) (named_below-partitioned items word c.self.invariant.order)) (λ a r q k. search rules) in
    let at = subst (λ xs. IsPartitionPoint (λ y. p y ≡ true) (λ y. p y ≡ false) xs i) c.deref.ensures.value point in
    let read = subst (λ xs. c.in-Some.record.now ≡ get_or xs i c.in-Some.record.now) c.deref-2.ensures.value c.in-Some.ensures.lookup.1 in
    let within = subst (λ xs. i < length xs) c.deref-2.ensures.value c.in-Some.ensures.lookup.3.0 in
    let has : (c.in-Some.record.now.name == word) ≡ has_record c.args.self.now.list c.args.name =
    has_record-at items word i c.in-Some.record.now c.self.invariant.order at within read
    ∙ ap (λ (v : Entering). has_record v.list word) c.self.view_is
    ∙ ap (has_record c.args.self.now.list) c.word-word.ensures.value in
    ap (λ n. n == word) c.word.ensures.value ∙ has

pub returns-in-None : goal.returns-in-None
returns-in-None c =
    let word = c.word-word.result in
    let i = c.partition_point-i.result in
    let items = c.self.inside.records.items in
    let p = λ (r : Record). nat_lt r.name word in
    let point = IsPartitionPoint-from_clause p _ _ c.partition_point-i.ensures.partitioned (subst (IsPartitionedBy p) (sym c.deref.ensures.value) (named_below-partitioned items word c.self.invariant.order)) (λ a r q k. search rules) in
    let at = subst (λ xs. IsPartitionPoint (λ y. p y ≡ true) (λ y. p y ≡ false) xs i) c.deref.ensures.value point in
    let past = subst (λ xs. length xs ≤ i) c.deref-2.ensures.value c.in-None.ensures.lookup.3 in
    sym (has_record-none items word i at past)
    ∙ ap (λ (v : Entering). has_record v.list word) c.self.view_is
    ∙ ap (has_record c.args.self.now.list) c.word-word.ensures.value
