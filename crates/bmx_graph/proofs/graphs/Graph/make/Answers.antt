use Rattle.std.proofs.Common.{◌≡◌, ◌+◌, ◌<◌, refl, ap, ◌∙◌, length, slice_set, Some, Vec, Global, replicate, rules, arith}
use Rattle.std.specs.Option.{option_map}
use Rattle.std.specs.Map.{lookup}
use Rattle.std.specs.HashMap.{get}
use Rattle.std.proofs.lemmas.Option.{MatchOption-at_some}
use Rattle.bmx_types.specs.Words.{name_word}
use Rattle.bmx_types.specs.declared.values.Val.{Val}
use Rattle.bmx_types.specs.declared.values.Val.TheVariants as val
use Rattle.bmx_graph.specs.State.{State}
use Rattle.bmx_types.specs.Updates.{put}
use Rattle.bmx_graph.specs.Step.{with_register, next_name}
use Rattle.bmx_graph.specs.Graphs.{state_of, same_name}
use Rattle.bmx_graph.proofs.States.{state_of-from, objects-put, get_or-set_put, with_new-from, OnErr-from}
use Rattle.bmx_graph.proofs.graphs.Graph.make.Goals as goal

pub returns-in_err-insert-clause-err : goal.returns-in_err-insert-clause-err
unfolding state_of
returns-in_err-insert-clause-err c =
    OnErr-from _ (
    state_of-from (record c.args.self.now { objects = c.insert.new.self }) (state_of c.args.self.now)
    (λ q. ap (λ es. option_map (λ (v : Vec Val Global). v.items) (lookup (same_name q) es)) c.in_err-insert.ensures.err) (λ n r. refl) (λ m q. refl) (λ n. refl)
    )

pub returns-clause-ok : goal.returns-clause-ok
unfolding state_of
returns-clause-ok c =
    let g = c.args.self.now in
    let s = state_of g in
    let n = c.args.node in
    let place = c.get.result in
    let count = c.made-count.result + 1 in
    let name = c.unwrap-name.result in
    let fields = c.in_ok-fields.fields in
    let items = λ (v : Vec Val Global). v.items in
    let there : place < length g.made = omega arith in
    let counted : count ≡ s.made n + 1 = ap (λ k. k + 1) c.made-count.ensures in
    let named : name ≡ next_name s n = MatchOption-at_some _ _ name c.unwrap-name.ensures c.new.ensures.value ∙ ap (name_word n) counted in
    let blank : fields.items ≡ replicate c.args.size val.Null = c.in_ok-fields.ensures.items_if_clones_equal (λ y h. search rules) in
    let changed = state_of-from (record g { objects = c.insert.new.self; made = slice_set g.made place count })
    (record { object = put s.object name (Some fields.items); register = s.register; held = s.held; made = put s.made place count })
    (objects-put items (get same_name g.objects) (get same_name c.insert.new.self) name fields c.in_ok-insert.ensures.updates.0)
    (λ m r. refl) (λ m q. refl) (λ m. get_or-set_put g.made place count 0 m there) in
    c.set_register.ensures.state ∙ ap (λ (t : State). with_register t n c.args.register (val.Ref name)) changed
    ∙ with_new-from s n c.args.register c.args.size place name count fields.items c.get.ensures.value named counted blank
