-- Headers that keep their sizes stay apart.
use Rattle.std.proofs.Common.{◌≡◌, ℕ, List, [], Some, refl, sym, ap, ◌∙◌, inl, inr}
use Rattle.std.proofs.lemmas.Bool.{cases_eq}
use Rattle.std.proofs.lemmas.Option.{none-some, same_Some}
use Rattle.bmx_segment.specs.Headers.{with_kind_at}
use Rattle.bmx_segment.specs.Blocks.{Block}
use Rattle.bmx_segment.specs.Stores.{header_at, Sets, AreApart, Writes}
use Rattle.bmx_segment.specs.declared.headers.Header.{Header}
use Rattle.bmx_segment.specs.declared.headers.State.{State}
use Rattle.bmx_replica.proofs.Chained.{map_some}
use Rattle.bmx_replica.proofs.Laid.{AreApart-kept, sets_there, sets_other}

-- where there is none
pub AreApart-none : AreApart []
AreApart-none = λ a b x y ex ey lt. absurd (none-some x ex)

-- where a field is written
pub AreApart-written : (old new : List Block) (a i kind w : ℕ) → AreApart old → Writes old new a i kind w → AreApart new
AreApart-written old new a i kind w apart writes =
    AreApart-kept old new apart (λ b x e.
    elim (cases_eq b a) [
      | inl at ↦
          let was = map_some (λ (h : Header). record h { state = with_kind_at h.state i kind }) (header_at old a) x (sym writes.header ∙ ap (header_at new) (sym at) ∙ e) in
          (was.0, ap (header_at old) at ∙ was.1, ap (λ (h : Header). h.size) was.2)
      | inr off ↦ (x, sym (writes.headers b off) ∙ e, refl)
    ])

-- where a header has another state
pub AreApart-set : (old new : List Block) (a : ℕ) (h : Header) (s : State) → AreApart old → header_at old a ≡ Some h → Sets old new a (record h { state = s }) → AreApart new
AreApart-set old new a h s apart there sets =
    AreApart-kept old new apart (λ b x e.
    elim (cases_eq b a) [
      | inl at ↦
          let is : record h { state = s } ≡ x = same_Some _ x (sym (sets_there old new a (record h { state = s }) sets) ∙ ap (header_at new) (sym at) ∙ e) in
          (h, ap (header_at old) at ∙ there, ap (λ (z : Header). z.size) is)
      | inr off ↦ (x, sym (sets_other old new a (record h { state = s }) b sets off) ∙ e, refl)
    ])
