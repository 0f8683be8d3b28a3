use Rattle.std.proofs.Common.{◌≡◌, ℕ, sym, subst}
use Rattle.bmx_segment.specs.Heaps.{PlacesIn}
use Rattle.bmx_space.specs.Spaces.{Reserved, IsReady, next_number, after_next}
use Rattle.bmx_space.proofs.Handing.{IsReady-next}
use Rattle.bmx_space.proofs.space.Space.next.Goals as goal

pub returns-clause-ready : goal.returns-clause-ready
returns-clause-ready c =
    let s = c.args.self.now in
    let h = c.args.segments.now in
    let new = c.hand_out.new.self in
    let number = c.next_number-number.result in
    let is : number ≡ next_number s h c.args.size = c.next_number-number.ensures in
    let placed = subst (λ (k : ℕ). PlacesIn h new k c.args.size c.hand_out.result) is c.hand_out.ensures.placed in
    subst (λ (v : Reserved). IsReady (after_next v number c.args.size) new) (sym c.self.view_is)
    (subst (λ (k : ℕ). IsReady (after_next s k c.args.size) new) (sym is)
    (IsReady-next s h c.args.size c.requires.few c.requires.ready c.requires.words new c.hand_out.result placed))
