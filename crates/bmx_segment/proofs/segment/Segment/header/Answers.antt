use Rattle.std.proofs.Common.{◌≡◌, true, Some, sym, ap, ◌∙◌}
use Rattle.bmx_segment.specs.Blocks.{Block}
use Rattle.bmx_segment.specs.contracts.segment.Segment.{the_view}
use Rattle.bmx_segment.proofs.Standing.{stands, CanStand-begins}
use Rattle.bmx_segment.specs.Blocks.{is_start, header_in}
use Rattle.bmx_segment.proofs.segment.Segment.header.Goals as goal

pub from_words-requires : goal.from_words-requires
from_words-requires c =
    let begins : is_start c.self.inside.starts c.args.index ≡ true =
    sym (rw (← c.self.view_is, c.if-not-begins.false) at c.begins.ensures.value) in
    rw c.as_slice-words.ensures.value (c.self.invariant.block.headers c.args.index begins)

pub returns-clause-stands : goal.returns-clause-stands
returns-clause-stands c =
    let b : Block = the_view c.self.inside in
    let begins : is_start c.self.inside.starts c.args.index ≡ true =
    sym (rw (← c.self.view_is, c.if-not-begins.false) at c.begins.ensures.value) in
    let e : header_in b c.args.index ≡ Some c.from_words.result = stands b c.args.index begins ∙ ap Some (sym (rw c.as_slice-words.ensures.value at c.from_words.ensures)) in
    rw (← c.self.view_is) (CanStand-begins b c.args.index c.from_words.result c.self.invariant.block e)
