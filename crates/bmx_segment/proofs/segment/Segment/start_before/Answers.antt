use Rattle.std.proofs.Common.{◌≡◌, ℕ, ◌+◌, ◌-◌, ◌*◌, ◌^◌, ◌<◌, true, false, sym, ap, ◌∙◌, arith}
use Rattle.std.specs.Prelude.{◌==◌}
use Rattle.std.specs.Int.{bit_at}
use Rattle.std.proofs.lemmas.Bool.{false≢true}
use Rattle.std.proofs.lemmas.Nat.{pow-add}
use Rattle.std.proofs.lemmas.Nat.Bits.{bit_at-zero, bit_at_above}
use Rattle.bmx_segment.specs.Blocks.{is_start}
use Rattle.bmx_segment.proofs.Starts.{bit_at-highest, below_pow}
use Rattle.bmx_segment.proofs.segment.Segment.start_before.Goals as goal

pub returns-in-Some-clause-some : goal.returns-in-Some-clause-some
returns-in-Some-clause-some c =
    let i : ℕ = c.args.index in
    let starts = c.args.self.now.starts in
    let bits : ℕ = c.starts_before.result in
    let last : ℕ = c.in-Some.last in
    let says = c.starts_before.ensures.bits in
    let low = c.in-Some.ensures.power_le in
    let high = c.in-Some.ensures.next_power_gt in
    let near : last < i - (i - 64) = below_pow bits last (i - (i - 64)) low c.starts_before.ensures.few in
    let from : c.saturating_sub.result ≡ i - 64 = c.saturating_sub.ensures in
    let next : bits < 2 ^ (last + 1) = let p : 2 ^ (last + 1) ≡ 2 ^ last * 2 = pow-add 2 last 1 in omega arith in
    let there : is_start starts (i - 64 + last) ≡ true = says last (omega arith) ∙ ap (λ m. m == 1) (bit_at-highest bits last low high) in (
      omega arith,
      ap (λ n. is_start starts (n + last)) from ∙ there,
      λ j above below begins.
          let back : i - 64 + (j - (i - 64)) ≡ j = omega arith in
          let none : bit_at bits (j - (i - 64)) ≡ 0 = bit_at_above bits (last + 1) (j - (i - 64)) next (omega arith) in
          let is : is_start starts j ≡ false = ap (is_start starts) (sym back) ∙ (says (j - (i - 64)) (omega arith) ∙ ap (λ m. m == 1) none) in
          false≢true (sym is ∙ begins),
    )

pub returns-in-None-clause-none : goal.returns-in-None-clause-none
returns-in-None-clause-none c = λ j near before begins.
    let i : ℕ = c.args.index in
    let starts = c.args.self.now.starts in
    let says = c.starts_before.ensures.bits in
    let back : i - 64 + (j - (i - 64)) ≡ j = omega arith in
    let none : bit_at c.starts_before.result (j - (i - 64)) ≡ 0 = ap (λ n. bit_at n (j - (i - 64))) c.in-None.ensures.none ∙ bit_at-zero (j - (i - 64)) in
    let is : is_start starts j ≡ false = ap (is_start starts) (sym back) ∙ (says (j - (i - 64)) (omega arith) ∙ ap (λ m. m == 1) none) in
    false≢true (sym is ∙ begins)
