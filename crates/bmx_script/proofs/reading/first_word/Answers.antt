use Rattle.std.proofs.Common.{◌+◌, ◌∷◌, ap, sym, ◌∙◌, take, List, ℕ}
use Rattle.std.specs.List.{slice_split}
use Rattle.bmx_script.specs.Inside.Parsing.{is_space}
use Rattle.bmx_script.proofs.LineFeeds.{rest_from}
use Rattle.bmx_script.proofs.Words.{split_at, split_uncut}
use Rattle.bmx_script.proofs.reading.first_word.Goals as goal

pub returns-in-Some-clause-some : goal.returns-in-Some-clause-some
returns-in-Some-clause-some c =
    split_at c.args.text.now c.in-Some.at (sym c.in-Some.ensures.found)
    ∙ ap (λ (r : List ℕ). take c.in-Some.at c.args.text.now ∷ slice_split is_space r) (sym (rest_from (c.in-Some.at + 1) c.args.text.now))

pub returns-in-None-clause-none : goal.returns-in-None-clause-none
returns-in-None-clause-none c = split_uncut 0 c.args.text.now (sym c.in-None.ensures.found)
