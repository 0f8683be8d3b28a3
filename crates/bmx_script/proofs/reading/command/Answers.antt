use Rattle.std.proofs.Common.{◌≡◌, ◌∷◌, ap, sym, ◌∙◌}
use Rattle.std.specs.List.{slice_split}
use Rattle.bmx_script.specs.Inside.Parsing.{is_space, read_command}
use Rattle.bmx_script.proofs.Spaces.{by_three}
use Rattle.bmx_script.proofs.reading.command.Goals as goal

pub returns-in-Some-first_word : goal.returns-in-Some-first_word
returns-in-Some-first_word c =
    let words : slice_split is_space c.args.text.now ≡ c.in-Some.a.now ∷ c.in-Some-first_word.b.now ∷ slice_split is_space c.in-Some-first_word.c.now =
    c.in-Some.ensures.some ∙ ap (λ ws. c.in-Some.a.now ∷ ws) c.in-Some-first_word.ensures.some in
    c.command_of_three.ensures ∙ by_three c.args.known.now c.args.verb.now c.in-Some.a.now c.in-Some-first_word.b.now c.in-Some-first_word.c.now
    ∙ ap (λ ws. read_command c.args.known.now c.args.verb.now ws) (sym words)
