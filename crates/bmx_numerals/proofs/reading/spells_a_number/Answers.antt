use Rattle.std.proofs.Common.{◌≡◌, ◌≢◌, ◌<◌, length, get_or, sym, ◌∙◌, arith, rules, tests}
use Rattle.std.proofs.lemmas.Iterator.{YieldsList-from_slice}
use Rattle.std.proofs.lemmas.Iterator.Search.{all_from_yields_List}
use Rattle.std.specs.List.{list_all}
use Rattle.bmx_numerals.specs.Numerals.{is_digit}
use Rattle.bmx_numerals.proofs.NumeralLemmas.{is_numeral_longer}
use Rattle.bmx_numerals.proofs.reading.spells_a_number.Goals as goal

pub returns-then-first-ne48 : goal.returns-then-first-ne48
returns-then-first-ne48 c =
    let all : c.all.result ≡ list_all is_digit c.args.word.now = all_from_yields_List is_digit _ _ c.all.result c.all.ensures.ran (YieldsList-from_slice c.args.word.now cc) (λ x b q k. search (rules, tests)) in
    let longer : 1 < length c.args.word.now = omega arith in
    let other : get_or c.args.word.now 0 0 ≢ 48 = search (rules, tests) in
    all ∙ sym (is_numeral_longer c.args.word.now longer other)
