use Rattle.std.proofs.Common.{◌≡◌, true, length, take, sym, ap, ◌∙◌, arith}
use Rattle.std.proofs.lemmas.List.{length-take}
use Rattle.std.specs.Prelude.{slice_index}
use Rattle.bmx_segment.specs.Headers.{size_in}
use Rattle.bmx_segment.specs.Blocks.{Block, is_start}
use Rattle.bmx_segment.specs.contracts.segment.Segment.{the_view}
use Rattle.bmx_segment.proofs.Filling.{IsBlock-filled, live-filled}
use Rattle.bmx_segment.proofs.segment.Segment.fill.Goals as goal

pub invariant_of-self : goal.invariant_of-self
invariant_of-self c =
    let b : Block = the_view c.self.inside in
    let i = c.args.index in
    let n = c.args.size in
    let ws = c.args.words.now in
    let block = c.self.invariant.block in
    let begins : is_start b.starts i ≡ true = ap (λ (x : Block). is_start x.starts i) c.self.view_is ∙ c.requires.begins in
    let size : size_in (slice_index b.words i) ≡ n = ap (λ (x : Block). size_in (slice_index x.words i)) c.self.view_is ∙ c.requires.size in
    let long : length (take n ws) ≡ n = let l = length-take n ws in let e = c.requires.enough in omega arith in
    rw (c.write_words.ensures, long) (record {
      block = IsBlock-filled b i n ws block begins size c.requires.enough;
      counted = c.self.invariant.counted ∙ sym (live-filled b i n ws block begins size c.requires.enough);
    })
