use Rattle.std.proofs.Common.{◌+◌, ◌∷◌, ap, sym, ◌∙◌, length, take, List, ℕ, arith}
use Rattle.bmx_script.specs.Grammar.{lines_of}
use Rattle.bmx_script.proofs.LineFeeds.{lines_of-cut, lines_of-uncut, rest_from}
use Rattle.std.proofs.Math.Seq.{drop-length}
use Rattle.bmx_script.proofs.scripts.first_line.Goals as goal

pub returns-in-Some-clause-lines : goal.returns-in-Some-clause-lines
returns-in-Some-clause-lines c =
    let found = c.in-Some.ensures.found in
    lines_of-cut c.args.bytes.now c.in-Some.at (sym found)
    ∙ ap (λ (r : List ℕ). take c.in-Some.at c.args.bytes.now ∷ lines_of r) (sym (rest_from (c.in-Some.at + 1) c.args.bytes.now))

pub returns-in-None-clause-lines : goal.returns-in-None-clause-lines
returns-in-None-clause-lines c =
    lines_of-uncut c.args.bytes.now (omega arith) (sym c.in-None.ensures.found)
    ∙ ap (λ (r : List ℕ). c.args.bytes.now ∷ lines_of r) (sym (rest_from (length c.args.bytes.now) c.args.bytes.now ∙ drop-length c.args.bytes.now))
