use Rattle.bmx_script.proofs.Words.{bunch_word_utf8}
use Rattle.bmx_script.proofs.reading.text_of.Goals as goal

pub unreachable-requires : goal.unreachable-requires
unreachable-requires c = c.in-Err.ensures.cases.0 (bunch_word_utf8 c.args.word.now c.requires)
