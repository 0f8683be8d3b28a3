use Rattle.std.proofs.Common.{◌≡◌, IsSome, Option, Some, List, [], Vec, Global, slice_set, unwrap_or, refl, subst, sym, ap, ◌∙◌, arith}
use Rattle.std.specs.Vec.{with_item}
use Rattle.std.specs.Option.{option_map, option_copied_mut}
use Rattle.std.specs.HashMap.{get}
use Rattle.bmx_types.specs.declared.values.Val.{Val}
use Rattle.bmx_types.specs.Updates.{put}
use Rattle.bmx_graph.specs.Graphs.{state_of, same_name}
use Rattle.bmx_graph.proofs.States.{state_of-from, objects-put, fields-found, field-within, copied-found}
use Rattle.bmx_graph.proofs.graphs.Graph.set_field.Goals as goal

pub unwrap-fields-requires : goal.unwrap-fields-requires
unfolding state_of
unwrap-fields-requires c =
    let g = c.args.self.now in
    copied-found _ _ c.get_mut.ensures.value (fields-found (λ (v : Vec Val Global). v.items) (get same_name g.objects c.args.name) c.args.index c.requires)

pub index_mut-requires : goal.index_mut-requires
unfolding state_of
index_mut-requires c =
    let objects = c.args.self.now.objects in
    let v = c.unwrap-fields.result.now in
    let had : Some v ≡ get same_name objects c.args.name = ap option_copied_mut (sym c.unwrap-fields.ensures) ∙ c.get_mut.ensures.value in
    let within = field-within (λ (x : Vec Val Global). x.items) (get same_name objects c.args.name) v c.args.index had c.requires in
    omega (arith, within, v.ok.0)

pub returns-clause-state : goal.returns-clause-state
unfolding state_of
returns-clause-state c =
    let g = c.args.self.now in
    let v = c.unwrap-fields.result.now in
    let w = with_item v c.args.index c.args.value in
    let had : Some v ≡ get same_name g.objects c.args.name = ap option_copied_mut (sym c.unwrap-fields.ensures) ∙ c.get_mut.ensures.value in
    let there : IsSome (get same_name g.objects c.args.name) = subst IsSome had refl in
    let fields = ap (λ (o : Option (Vec Val Global)). unwrap_or (option_map (λ x. x.items) o) []) had in
    let h = (c.get_mut.follows.holds w).3 there in
    state_of-from (record g { objects = c.get_mut.follows.lender w }) _
    (λ q. objects-put (λ (x : Vec Val Global). x.items) (get same_name g.objects) (get same_name (c.get_mut.follows.lender w)) c.args.name w h.0 q
    ∙ ap (λ (l : List Val). put (λ k. option_map (λ (x : Vec Val Global). x.items) (get same_name g.objects k)) c.args.name (Some (slice_set l c.args.index c.args.value)) q) fields)
    (λ n r. refl) (λ n q. refl) (λ n. refl)
