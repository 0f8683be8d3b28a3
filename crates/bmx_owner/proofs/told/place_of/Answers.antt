use Rattle.std.proofs.Common.{◌≡◌, ◌≤◌, false, length, is_some, ltb-false, sym, subst, ap, ◌∙◌, arith, rules}
use Rattle.std.proofs.lemmas.List.{get_or_default}
use Rattle.std.proofs.lemmas.List.Sorted.{IsPartitionPoint-from_clause}
use Rattle.bmx_owner.specs.Records.{is_ahead, is_of}
use Rattle.bmx_owner.proofs.Places.{is_ahead-partitioned, StandsAt-from_point, FitsAt-from_point}
use Rattle.bmx_owner.proofs.told.place_of.Goals as goal

pub returns-in-Some : goal.returns-in-Some
returns-in-Some c =
    let i = c.partition_point-i.result in
    let xs = c.args.records.now in
    let point = IsPartitionPoint-from_clause (is_ahead c.args.name c.args.node) _ _ c.partition_point-i.ensures.partitioned (is_ahead-partitioned xs c.args.name c.args.node c.requires) (λ a r q k. search rules) in
    StandsAt-from_point xs c.args.name c.args.node i c.in-Some.record.now c.requires point c.in-Some.ensures.lookup.3.0 c.in-Some.ensures.lookup.1 (sym c.is_of.ensures ∙ c.if-is_of.true)

pub returns-in_default : goal.returns-in_default
returns-in_default c =
    let i = c.partition_point-i.result in
    let xs = c.args.records.now in
    let point = IsPartitionPoint-from_clause (is_ahead c.args.name c.args.node) _ _ c.partition_point-i.ensures.partitioned (is_ahead-partitioned xs c.args.name c.args.node c.requires) (λ a r q k. search rules) in
    FitsAt-from_point xs c.args.name c.args.node i c.requires point c.partition_point-i.ensures.bound
    (λ d within. subst (λ x. is_of c.args.name c.args.node x ≡ false) (c.in-Some.ensures.lookup.1 ∙ get_or_default xs i c.in-Some.record.now d within) (sym c.is_of.ensures ∙ c.if-is_of.false))

pub returns-in_default-2 : goal.returns-in_default-2
returns-in_default-2 c =
    let i = c.partition_point-i.result in
    let xs = c.args.records.now in
    let point = IsPartitionPoint-from_clause (is_ahead c.args.name c.args.node) _ _ c.partition_point-i.ensures.partitioned (is_ahead-partitioned xs c.args.name c.args.node c.requires) (λ a r q k. search rules) in
    let past : length xs ≤ i = ltb-false i (length xs) (sym c.get.ensures.lookup.0 ∙ ap is_some c.in_default.is) in
    FitsAt-from_point xs c.args.name c.args.node i c.requires point c.partition_point-i.ensures.bound (λ d within. absurd (omega arith))
