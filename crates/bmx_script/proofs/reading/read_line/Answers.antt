use Rattle.std.proofs.Common.{◌≡◌, ◌∷◌, ap, sym, ◌∙◌}
use Rattle.std.specs.List.{slice_split}
use Rattle.bmx_script.specs.Inside.Parsing.{is_space, placed_line, line_of}
use Rattle.bmx_script.proofs.Spaces.{by_verb}
use Rattle.bmx_script.proofs.reading.read_line.Goals as goal

pub returns : goal.returns
returns c =
    let words : slice_split is_space c.args.text.now ≡ c.in-Some.first.now ∷ c.in-Some-first_verb.second.now ∷ slice_split is_space c.in-Some-first_verb.rest.now =
    c.in-Some.ensures.some ∙ ap (λ ws. c.in-Some.first.now ∷ ws) c.in-Some-first_verb.ensures.some in
    c.node_line.ensures ∙ ap (λ d. placed_line c.args.known.now c.in-Some.first.now d) c.command.ensures
    ∙ by_verb c.args.known.now c.in-Some.first.now c.in-Some-first_verb.second.now c.in-Some-first_verb.rest.now
    ∙ ap (λ ws. line_of c.args.known.now ws) (sym words)
