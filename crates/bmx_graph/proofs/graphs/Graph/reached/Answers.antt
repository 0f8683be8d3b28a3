use Rattle.std.proofs.Common.{◌≡◌, ℕ, ◌+◌, ◌↔◌, List, [], ◌∷◌, Contains, None, slice_get, subst, sym, ◌∙◌, arith}
use Rattle.std.proofs.lemmas.Option.{slice_get_within}
use Rattle.std.proofs.lemmas.Result.{IfOk-weaker}
use Rattle.bmx_types.specs.declared.values.Val.{Val}
use Rattle.bmx_types.specs.declared.values.Val.TheVariants as val
use Rattle.bmx_graph.specs.State.{fields_of}
use Rattle.bmx_graph.specs.Graphs.{state_of, bunches_in}
use Rattle.bmx_graph.specs.declared.walks.Walk.{Walk}
use Rattle.bmx_graph.specs.Inside.Walks.{GoesTo}
use Rattle.bmx_graph.specs.Reached.{IsReached}
use Rattle.bmx_graph.proofs.Finding.{GoesTo-none}
use Rattle.bmx_graph.proofs.Reaching.{IsReaching, reaching-registers, reaching-anchor, reaching-fields, reaching-end, fields-there, fields-none}
use Rattle.bmx_graph.proofs.graphs.Graph.reached.Goals as goal
use Rattle.bmx_graph.proofs.graphs.Graph.reached.Goals.{in-Some-get+in_ok-find_all-2, in_default-get}

pub loop-bunch-init : goal.loop-bunch-init
loop-bunch-init c = reaching-registers c.args.self.now c.new-walk.result c.find_all.new.self (omega arith) c.new-walk.ensures.empty c.in_ok-find_all.ensures

pub loop-bunch-preserved : goal.loop-bunch-preserved
loop-bunch-preserved c =
    let b = c.loop-bunch.bunch in
    let v = c.loop-bunch.walk in
    let w = c.find.new.self in
    let to = subst (λ x. GoesTo (val.Ref x ∷ []) v w) c.anchor.ensures c.in_ok-find.ensures in
    reaching-anchor c.args.self.now b v w (omega arith) c.loop-bunch.invariant to

pub overflow_add-next : goal.overflow_add-next
overflow_add-next c =
    let v = c.loop-name.walk in
    let within = slice_get_within v.found.items c.loop-name.next c.in-Some.name (sym c.in-Some.ensures) in
    omega (arith, within, v.found.ok.0)

pub loop-name-preserved : goal.loop-name-preserved
loop-name-preserved c =
    let g = c.args.self.now in
    let v = c.loop-name.walk in
    let x = c.in-Some.name in
    let on : (w : Walk) → GoesTo (fields_of (state_of g) x) v w → IsReaching g g.bunches (c.loop-name.next + 1) w = λ w. reaching-fields g g.bunches c.loop-name.next x v w (sym c.in-Some.ensures) c.loop-name.invariant in
    elim c.match-get-2.branch [
      | in-Some-get+in_ok-find_all-2 w ↦
          let u = w.find_all-in-Some-get.new.self in
          let fields = w.as_slice.ensures.value ∙ sym (fields-there g x w.in-Some-get.fields.now w.in-Some-get.ensures.value) in
          subst (IsReaching g g.bunches (c.loop-name.next + 1)) (sym w.walk-is) (on u (subst (λ (values : List Val). GoesTo values v u) fields w.in_ok-find_all-2.ensures))
      | in_default-get w ↦
          subst (IsReaching g g.bunches (c.loop-name.next + 1)) (sym w.walk-is) (on v (subst (λ (values : List Val). GoesTo values v v) (sym (fields-none g x w.in_default-get.ensures.value)) (GoesTo-none v c.loop-name.invariant.walk)))
    ]

pub returns-clause-reached : goal.returns-clause-reached
returns-clause-reached c =
    let g = c.args.self.now in
    let v = c.loop-name.walk in
    let over : slice_get v.found.items c.loop-name.next ≡ None = sym c.in_default.ensures in
    let all = reaching-end g c.loop-name.next v (omega arith) over c.loop-name.invariant in
    IfOk-weaker c.into_names.result (λ names. (x : ℕ) → Contains names x ↔ Contains v.found.items x) (λ names. (x : ℕ) → Contains names x ↔ IsReached 8 (bunches_in g) (state_of g) x)
    (λ names same x. (λ h. (all x).0 ((same x).0 h), λ h. (same x).1 ((all x).1 h))) c.into_names.ensures.same
