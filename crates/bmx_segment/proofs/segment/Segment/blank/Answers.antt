use Rattle.bmx_segment.proofs.Fields.{IsBlock-blank, live-blank}
use Rattle.bmx_segment.proofs.segment.Segment.blank.Goals as goal

pub invariant_of-result : goal.invariant_of-result
invariant_of-result c =
    rw c.in_ok-blank_words.ensures (record {
      block = IsBlock-blank c.args.home c.args.number c.requires.home c.requires.some c.requires.few;
      counted = live-blank c.args.home c.args.number;
    })
