use Rattle.std.proofs.Common.{◌∷◌, [], refl, subst, sym}
use Rattle.bmx_types.specs.declared.values.Val.{Val}
use Rattle.bmx_graph.specs.Inside.Walks.{GoesTo}
use Rattle.bmx_graph.specs.declared.walks.Walk.{Walk}
use Rattle.bmx_graph.proofs.Finding.{GoesTo-new, GoesTo-known}
use Rattle.bmx_graph.proofs.walks.Walk.find.Goals as goal

pub returns-in_ok-push : goal.returns-in_ok-push
returns-in_ok-push c =
    let v = c.args.self.now in
    let w : Walk = record { found = c.push.new.self; seen = c.insert.new.self } in
    subst (λ (x : Val). GoesTo (x ∷ []) v w) (sym c.in-Ref.is)
    (GoesTo-new v w c.in-Ref.name c.requires c.in_ok-insert.ensures.updates.0 c.in_ok-push.ensures.items)

pub returns-else-branch : goal.returns-else-branch
returns-else-branch c =
    let v = c.args.self.now in
    let w : Walk = record { found = v.found; seen = c.insert.new.self } in
    let at = c.in_ok-insert.ensures in
    subst (λ (x : Val). GoesTo (x ∷ []) v w) (sym c.in-Ref.is)
    (GoesTo-known v w c.in-Ref.name c.in_ok-insert.field-0 c.requires c.if-branch.false at.added at.unchanged refl)
