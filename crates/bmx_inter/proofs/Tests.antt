-- What goes of a bunch, as a collection and a table say it.
use Rattle.std.proofs.Common.{◌≡◌, ℕ, Bool, true, false, not, ◌&&◌, ◌||◌, nat_le, ◌==◌, List, refl}
use Rattle.std.proofs.Math.Path.{fun_ext}
use Rattle.bmx_types.specs.declared.names.Pair.{Pair}
use Rattle.bmx_inter.specs.declared.inter.Stub.{Stub}
use Rattle.bmx_inter.specs.declared.inter.Scion.{Scion}
use Rattle.bmx_inter.specs.Order.{is_listed}
use Rattle.bmx_inter.specs.Inter.{scion_pair, is_kept, is_stale}
use Rattle.bmx_inter.specs.Inside.Sides.{is_ended_in}

kept_is : (e k : Bool) → not (e && not k) ≡ (not e || k)
kept_is true true = refl
kept_is true false = refl
kept_is false k = refl

stale_is : (e l g : Bool) → (e && (l && g)) ≡ ((e && l) && g)
stale_is true l g = refl
stale_is false l g = refl

pub stays-is_kept : (bunch : ℕ) (kept : ℕ → Bool) (held : ℕ → ℕ → Bool) → ◌≡◌ {A = Stub → Bool} (λ (s : Stub). not (is_ended_in (λ (x : Stub). x.bunch) bunch (λ (x : Stub). not (kept x.source && held x.source x.target)) s)) (λ (s : Stub). is_kept bunch kept held s)
stays-is_kept bunch kept held = fun_ext (λ (s : Stub). kept_is (s.bunch == bunch) (kept s.source && held s.source s.target))

pub ended-is_stale : (bunch clock : ℕ) (listed : List Pair) → ◌≡◌ {A = Scion → Bool} (λ (s : Scion). is_ended_in (λ (x : Scion). x.bunch) bunch (λ (x : Scion). nat_le x.clock clock && not (is_listed listed (scion_pair x))) s) (λ (s : Scion). is_stale bunch clock listed s)
ended-is_stale bunch clock listed = fun_ext (λ (s : Scion). stale_is (s.bunch == bunch) (nat_le s.clock clock) (not (is_listed listed (scion_pair s))))
