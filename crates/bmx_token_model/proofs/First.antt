-- What holds where a store opens.
use Rattle.std.proofs.Common.{◌≢◌, ℕ, sym, subst}
use Rattle.std.specs.Prelude.{Option, Some, None}
use Rattle.bmx_token.specs.Transitions.{Share, made_share, heard_share}
use Rattle.bmx_token_model.specs.Machine.{Object, IsFirst, Absent, Born, IsFirstElsewhere, Unknown, Heard, IsUntouched}
use Rattle.bmx_token_model.proofs.Tallies.{Cases, Same, Apart, cases}

pub untouched : (o : Object) → IsFirst o → IsUntouched o
untouched o (Absent u holds) = u
untouched o (Born u born) = u

-- of what each node has: nothing, at node 0 an object that it owns, and elsewhere one that it heard of
pub first_holds : (P : ℕ → Option Share → Type 0) → ((n : ℕ) → P n None) → P 0 (Some made_share) → ((n : ℕ) → n ≢ 0 → P n (Some (heard_share 0))) →
    (o : Object) → IsFirst o → (n : ℕ) → P n (o.holds n)
first_holds P none made heard o (Absent u holds) n = subst (P n) (sym (holds n)) (none n)
first_holds P none made heard o (Born u born) n = by_case (cases n 0)
  where
    by_case : Cases n 0 → P n (o.holds n)
    by_case (Same e t) = subst (λ (z : ℕ). P z (o.holds z)) (sym e) (subst (P 0) (sym born.owner) made)
    by_case (Apart e t) = elsewhere (born.others n e)
      where
        elsewhere : IsFirstElsewhere (o.holds n) → P n (o.holds n)
        elsewhere (Unknown f) = subst (P n) (sym f) (none n)
        elsewhere (Heard f) = subst (P n) (sym f) (heard n e)
