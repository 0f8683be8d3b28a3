use Rattle.std.proofs.Common.{◌<◌, subst, sym, ◌∙◌}
use Rattle.bmx_segment.specs.Headers.{IsLive, kind_number}
use Rattle.bmx_segment.specs.Blocks.{Block, HasField, header_in}
use Rattle.bmx_segment.specs.contracts.segment.Segment.{the_view}
use Rattle.bmx_segment.proofs.Fields.{header_with, IsBlock-with_field}
use Rattle.bmx_segment.proofs.Filling.{live-with_field}
use Rattle.bmx_segment.proofs.segment.Segment.set_field.Goals as goal

pub invariant_of-self : goal.invariant_of-self
invariant_of-self c =
    let b : Block = the_view c.self.inside in
    let P : Block → Type 0 = λ x. HasField x c.args.index c.args.field in
    let has : P b = subst P (sym c.self.view_is) c.requires.field in
    let found = header_with (header_in b c.args.index) (λ h. IsLive h.state × (c.args.field < h.size)) has in
    rw (c.put.ensures, c.as_slice-words.ensures.value) (record {
      block = IsBlock-with_field b c.args.index c.args.field (kind_number c.args.kind) c.args.word c.self.invariant.block found.0 found.1 found.2.0 found.2.1;
      counted = c.self.invariant.counted ∙ sym (live-with_field b c.args.index c.args.field (kind_number c.args.kind) c.args.word c.self.invariant.block found.0 found.1 found.2.0 found.2.1);
    })
