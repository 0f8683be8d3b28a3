use Rattle.std.proofs.Common.{◌≡◌, ◌∷◌, [], ℕ, Bool, true, false, not, Option, Some, None, sym, subst, ap, refl, ◌∙◌}
use Rattle.std.specs.Option.{option_eq}
use Rattle.std.proofs.lemmas.Bool.{eqb-true}
use Rattle.bmx_types.specs.contracts.numbers.BunchNoPartialEq.TheImpl.{eq-value}
use Rattle.bmx_types.specs.declared.values.Val.{Val}
use Rattle.bmx_image.specs.declared.images.ImageField.TheVariants as field
use Rattle.bmx_image.specs.Inside.Mentions.{Goes}
use Rattle.bmx_image.proofs.Mentioning.{goes_reference}
use Rattle.bmx_image.proofs.gathering.Mentions.field.Goals as goal

false_from_not : (b : Bool) → not b ≡ false → b ≡ true
false_from_not true h = refl
false_from_not false h = absurd cc

same : (a b : Option ℕ) → option_eq eq-value.it a b ≡ true → a ≡ b
same None None h = refl
same None (Some y) h = absurd cc
same (Some x) None h = absurd cc
same (Some x) (Some y) h = ap Some (eqb-true x y h)

pub returns-in_ok-mention-in-Ref : goal.returns-in_ok-mention-in-Ref
returns-in_ok-mention-in-Ref g c =
    let old = c.args.self.now in
    let ne = c.ne.ensures in
    let iff = c.if-ne.false in
    let bu = c.bunch.ensures in
    let near : g.G.Fields.bunches c.args.graph.now c.in-Ref.name ≡ old.home = sym bu ∙ same c.bunch.result old.home (false_from_not _ (sym ne ∙ iff)) in
    subst (λ (v : Val). Goes (g.G.Fields.bunches c.args.graph.now) (v ∷ []) (field.Ref c.in_ok-mention-in-Ref.field-0 ∷ []) old c.mention.new.self) (sym c.in-Ref.is)
    (goes_reference (g.G.Fields.bunches c.args.graph.now) old c.mention.new.self c.in-Ref.name c.in_ok-mention-in-Ref.field-0 c.requires.some near c.in_ok-mention-in-Ref.ensures)
