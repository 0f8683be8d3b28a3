use Rattle.std.proofs.Common.{◌≡◌, ℕ, ◌++◌, [], ◌∷◌, List, Some, None, take, map, sym, ap, subst, ◌∙◌, arith}
use Rattle.std.specs.Option.{option_map}
use Rattle.std.proofs.lemmas.List.{map-append}
use Rattle.bmx_types.specs.declared.addresses.Info.{Info}
use Rattle.bmx_types.specs.declared.values.Val.{Val}
use Rattle.bmx_msg.specs.declared.letters.Field.{Field}
use Rattle.bmx_replica.specs.Replicas.{entry_of, info_in}
use Rattle.bmx_protocol.specs.declared.views.ViewField.{ViewField}
use Rattle.bmx_protocol.specs.Nodes.{field_of}
use Rattle.bmx_protocol.specs.Rules.{told_field}
use Rattle.bmx_memory.specs.Contents.{Contents, value_at}
use Rattle.bmx_memory.specs.Shown.{shown, Shown, info_of, value_of}
use Rattle.bmx_memory.specs.contracts.memory.Memory.{the_view}
use Rattle.bmx_memory.proofs.Shows.{info_shown}
use Rattle.bmx_memory.proofs.Told.{copied, fields_told, one_more, no_more, not_copied, all_copied}
use Rattle.bmx_memory.proofs.memory.Memory.fields.Goals as goal

pub returns-in_default : goal.returns-in_default
returns-in_default c = λ s lies sees.
    let m : Shown = shown c.args.self.now in
    c.new.ensures
    ∙ sym (ap (map (told_field s lies)) (not_copied m c.args.name c.in_default.ensures.none))
    ∙ sym (fields_told m s lies c.args.name sees)

pub returns-in_default-word_of : goal.returns-in_default-word_of
returns-in_default-word_of c = λ s lies sees.
    let m : Shown = shown c.args.self.now in
    let named = ap (λ (n : ℕ). value_of m n c.loop-i.i) c.in-Some.ensures.some.1 in
    let past : value_of m c.args.name c.loop-i.i ≡ None = sym named ∙ sym c.word_of.ensures.value ∙ ap (option_map (value_at c.args.self.now.replica)) c.in_default-word_of.is in
    c.from_vec.ensures
    ∙ c.loop-i.invariant s lies sees
    ∙ ap (map (told_field s lies)) (no_more m c.args.name c.loop-i.i past)
    ∙ sym (fields_told m s lies c.args.name sees)

pub loop-i-preserved : goal.loop-i-preserved
loop-i-preserved c = λ s lies sees.
    let m : Shown = shown c.args.self.now in
    let named = ap (λ (n : ℕ). value_of m n c.loop-i.i) c.in-Some.ensures.some.1 in
    let so_far : List ViewField = take c.loop-i.i (copied m c.args.name) in
    let value : Val = value_at c.args.self.now.replica c.in-Some-word_of.word in
    let got : value_of m c.args.name c.loop-i.i ≡ Some value = sym named ∙ sym c.word_of.ensures.value ∙ ap (option_map (value_at c.args.self.now.replica)) c.in-Some-word_of.is in
    c.in_ok-push.ensures.items
    ∙ ap (λ (l : List Field). l ++ c.told.result ∷ []) (c.loop-i.invariant s lies sees)
    ∙ ap (λ (f : Field). map (told_field s lies) so_far ++ f ∷ []) (c.told.ensures s lies sees)
    ∙ sym (map-append (told_field s lies) so_far (field_of value ∷ []))
    ∙ sym (ap (map (told_field s lies)) (one_more m c.args.name c.loop-i.i value got))

pub returns : goal.returns
returns c = λ s lies sees.
    let r : Contents = the_view c.self.inside in
    let m : Shown = shown c.args.self.now in
    let name : ℕ = c.args.name in
    let i : Info = c.info_at-info.result in
    let known = subst (λ (n : ℕ). option_map (info_in n) (entry_of r.replica n) ≡ Some i) c.in-Some.ensures.some.1 c.info_at-info.ensures in
    let told : info_of (shown r) name ≡ Some i = sym (info_shown r name) ∙ known in
    let all : take i.size (copied (shown r) name) ≡ copied (shown r) name = all_copied r name i c.self.invariant.0.sound.replica told in
    let here : take i.size (copied m name) ≡ copied m name = subst (λ (x : Contents). take i.size (copied (shown x) name) ≡ copied (shown x) name) c.self.view_is all in
    let past : c.loop-i.i ≡ i.size = omega (arith, c.loop-i-test.false, c.loop-i.auto.i-end) in
    c.from_vec-2.ensures
    ∙ c.loop-i.invariant s lies sees
    ∙ ap (λ (n : ℕ). map (told_field s lies) (take n (copied m name))) past
    ∙ ap (map (told_field s lies)) here
    ∙ sym (fields_told m s lies name sees)
