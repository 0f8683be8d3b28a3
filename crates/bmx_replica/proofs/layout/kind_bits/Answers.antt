use Rattle.std.proofs.Common.{◌≡◌, ℕ, ◌*◌, ◌%◌, ◌^◌, ◌≤◌, ◌<◌, ap, ◌∙◌, arith}
use Rattle.std.proofs.Math.Nat.{mul-le-mul}
use Rattle.bmx_segment.proofs.Starts.{pow_le}
use Rattle.bmx_replica.proofs.layout.kind_bits.Goals as goal

whole : (n p : ℕ) → n < 4 → p ≤ 2 ^ 62 → n * p % 2 ^ 64 ≡ n * p
whole n p small low =
    let most = mul-le-mul {n₁ = n} {m₁ = p} {n₂ = 3} {m₂ = 2 ^ 62} (omega arith) low in
    omega arith

pub returns : goal.returns
returns c =
    let low : 2 ^ (2 * c.args.i) ≤ 2 ^ 62 = pow_le (2 * c.args.i) 62 (omega arith) in
    whole c.number.result (2 ^ (2 * c.args.i)) c.number.ensures.bound low ∙ ap (λ (n : ℕ). n * 2 ^ (2 * c.args.i)) c.number.ensures.value
