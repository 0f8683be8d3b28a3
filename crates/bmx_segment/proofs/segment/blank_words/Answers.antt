use Rattle.std.proofs.Common.{rules}
use Rattle.bmx_segment.specs.Blocks.{blank_words}
use Rattle.bmx_segment.proofs.segment.blank_words.Goals as goal

pub returns : goal.returns
unfolding blank_words
returns c = search rules
