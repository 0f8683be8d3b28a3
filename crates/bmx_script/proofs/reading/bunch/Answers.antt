use Rattle.std.proofs.Common.{◌<◌, length, arith, sym}
use Rattle.std.proofs.lemmas.Bool.{false≢true}
use Rattle.bmx_script.specs.Grammar.{same_word}
use Rattle.bmx_script.proofs.Words.{position_below}
use Rattle.bmx_script.proofs.reading.bunch.Goals as goal

pub overflow_cast-place : goal.overflow_cast-place
overflow_cast-place c =
    let below : c.in-Some.place < length c.args.known.now.bunches = position_below (same_word c.args.word.now) c.args.known.now.bunches c.in-Some.place (sym c.in-Some.ensures) in
    omega (arith, c.requires.few_bunches)

pub returns-in-None-new : goal.returns-in-None-new
returns-in-None-new c =
    let below : c.in-Some.place < length c.args.known.now.bunches = position_below (same_word c.args.word.now) c.args.known.now.bunches c.in-Some.place (sym c.in-Some.ensures) in
    let fits : c.in-Some.place < 16 = omega (arith, c.requires.few_bunches) in
    absurd (false≢true (c.in-None-new.ensures.some.1 fits))
