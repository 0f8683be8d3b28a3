use Rattle.std.proofs.Common.{◌≡◌, ℕ, Some, sym, ap, subst, ◌∙◌}
use Rattle.bmx_types.specs.declared.values.Val.{Val}
use Rattle.bmx_types.specs.declared.values.Val.TheVariants as val
use Rattle.bmx_msg.specs.declared.letters.Field.TheVariants.{Ref}
use Rattle.bmx_protocol.specs.Nodes.{field_of}
use Rattle.bmx_protocol.specs.Rules.{told_field}
use Rattle.bmx_memory.specs.Contents.{Contents, value_at}
use Rattle.bmx_memory.specs.Shown.{HasEntry, shown, info_of}
use Rattle.bmx_memory.specs.contracts.memory.Memory.{the_view}
use Rattle.bmx_memory.proofs.Shows.{target_shown, info_shown}
use Rattle.bmx_memory.proofs.Told.{info_told, target_is}
use Rattle.bmx_memory.proofs.memory.Memory.told.Goals as goal

pub object_of-requires-clause-target : goal.object_of-requires-clause-target
object_of-requires-clause-target c =
    let m : Contents = the_view c.self.inside in
    let has : HasEntry (shown m) (value_at m.replica c.args.word) = subst (λ (n : Contents). HasEntry (shown n) (value_at n.replica c.args.word)) (sym c.self.view_is) c.requires.known in
    target_shown m (value_at m.replica c.args.word) has

pub returns-in-Some : goal.returns-in-Some
returns-in-Some c = λ s lies sees.
    let m : Contents = the_view c.self.inside in
    let name : ℕ = c.in-Some.object.header.name in
    let is : value_at m.replica c.args.word ≡ val.Ref name = target_is (value_at m.replica c.args.word) name (sym c.in-Some.ensures.named) in
    let told : info_of (shown m) name ≡ Some c.info_at.result = sym (info_shown m name) ∙ c.info_at.ensures in
    sym (ap Ref (info_told (shown c.args.self.now) s lies name c.info_at.result sees (subst (λ (n : Contents). info_of (shown n) name ≡ Some c.info_at.result) c.self.view_is told)))
    ∙ sym (ap (λ (v : Val). told_field s lies (field_of v)) (subst (λ (n : Contents). value_at n.replica c.args.word ≡ val.Ref name) c.self.view_is is))
