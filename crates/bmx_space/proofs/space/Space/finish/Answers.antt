use Rattle.std.proofs.Common.{◌≡◌, ℕ, Option, Some, sym, ap, ◌∙◌, subst}
use Rattle.bmx_space.specs.Spaces.{Reserved, IsOwn}
use Rattle.bmx_space.proofs.space.Space.finish.Goals as goal

pub open_last-requires : goal.open_last-requires
open_last-requires c =
    let s = c.args.self.now in
    let number = c.in-Some-used.number in
    let used : s.used ≡ Some number = sym (ap (λ (v : Reserved). v.used) c.self.view_is) ∙ c.in-Some-used.is in
    let bunch : s.bunch ≡ Some c.in-Some.bunch = sym (ap (λ (v : Reserved). v.bunch) c.self.view_is) ∙ c.in-Some.is in
    subst (λ (b : Option ℕ). IsOwn c.args.segments.now b number) bunch (c.requires.used number used)
