use Rattle.std.proofs.Common.{◌≡◌, ◌+◌, ◌*◌, ◌^◌, ◌<◌, ◌≤◌, length, get_or, Some, ltb, sym, ap, ◌∙◌, arith, take_all}
use Rattle.std.specs.Char.{digit_value}
use Rattle.std.specs.Str.Parse.{digits_value}
use Rattle.std.proofs.lemmas.Bool.{lt-ltb, le-ltb}
use Rattle.std.proofs.lemmas.Int.Digits.{digits_value_more}
use Rattle.std.proofs.lemmas.Str.Parse.{digits_value-take-le}
use Rattle.bmx_numerals.specs.Numerals.{number_in}
use Rattle.bmx_numerals.proofs.NumeralLemmas.{number_in_from}
use Rattle.bmx_numerals.proofs.WordLemmas.{range_from, ok_from}
use Rattle.bmx_numerals.proofs.reading.value_of.Goals as goal

pub returns-in_default : goal.returns-in_default
returns-in_default c =
    let within : c.loop-byte.byte-index < length c.args.word.now = omega arith in
    let so_far = digits_value_more 10 c.args.word.now c.loop-byte.byte-index within in
    let step = ap (λ n. n * 10 + digit_value (get_or c.args.word.now c.loop-byte.byte-index 0)) c.loop-byte.invariant.0 in
    let whole = digits_value-take-le 10 c.args.word.now (c.loop-byte.byte-index + 1) (omega arith) in
    let large : 2 ^ 64 ≤ digits_value 10 c.args.word.now = omega (arith, so_far, step, whole, c.in_default.ensures) in
    range_from (λ n. ltb n (2 ^ 64)) (number_in c.args.word.now) (digits_value 10 c.args.word.now) (number_in_from c.args.word.now c.requires) (le-ltb (digits_value 10 c.args.word.now) (2 ^ 64) large)

pub loop-byte-preserved : goal.loop-byte-preserved
loop-byte-preserved c =
    let within : c.loop-byte.byte-index < length c.args.word.now = omega arith in
    let so_far = digits_value_more 10 c.args.word.now c.loop-byte.byte-index within in
    let step = ap (λ n. n * 10 + digit_value (get_or c.args.word.now c.loop-byte.byte-index 0)) c.loop-byte.invariant.0 in
    (c.in-Some.ensures.1 ∙ step ∙ sym so_far, omega (arith, c.in-Some.ensures.0, c.in-Some.ensures.1))

pub returns : goal.returns
returns c =
    let value : c.loop-byte.number ≡ digits_value 10 c.args.word.now = c.loop-byte.invariant.0 ∙ ap (digits_value 10) (take_all c.loop-byte.byte-index c.args.word.now (omega arith)) in
    ok_from (λ n. ltb n (2 ^ 64)) (number_in c.args.word.now) c.loop-byte.number (number_in_from c.args.word.now c.requires ∙ ap (λ n. Some n) (sym value)) (lt-ltb c.loop-byte.number (2 ^ 64) c.loop-byte.invariant.1)
