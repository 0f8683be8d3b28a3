use Rattle.std.proofs.Common.{◌≡◌, ◌+◌, ◌-◌, sym, ap, ◌∙◌, arith}
use Rattle.bmx_segment.specs.Headers.{IsHeader}
use Rattle.bmx_segment.specs.Blocks.{CanStand, Block, header_in, live_at, live_in, with_header}
use Rattle.bmx_segment.specs.contracts.segment.Segment.{the_view}
use Rattle.bmx_segment.proofs.Standing.{IsBlock-with_header}
use Rattle.bmx_segment.proofs.Filling.{live-with_header, live_in-among, live_in-le}
use Rattle.bmx_segment.proofs.segment.Segment.set_header.Goals as goal

pub overflow_sub-self : goal.overflow_sub-self
overflow_sub-self c =
    let b : Block = the_view c.self.inside in
    let was : c.live_at-was.result ≡ live_at (header_in b c.args.index) = c.live_at-was.ensures ∙ ap (λ (x : Block). live_at (header_in x c.args.index)) (sym c.self.view_is) in
    let among = live_in-among b c.args.index c.self.invariant.block c.requires.bound in
    omega (arith, c.self.invariant.counted)

pub overflow_add-self : goal.overflow_add-self
overflow_add-self c =
    let b : Block = the_view c.self.inside in
    let few = live_in-le b c.self.invariant.block in
    let one = c.live.ensures.one in
    omega (arith, c.self.invariant.counted)

pub invariant_of-self : goal.invariant_of-self
invariant_of-self c =
    let b : Block = the_view c.self.inside in
    let h = c.args.header.now in
    let can : CanStand b c.args.index h.name h.size = rw c.self.view_is c.requires.free in
    let ok : IsHeader h = record {
      few = c.requires.few;
      a_bunch = c.mark.ensures.bunch;
      named = rw c.word.ensures.value at c.word.ensures.name;
      leads = c.third-third.ensures.leads;
    } in
    let block = c.self.invariant.block in
    let was : c.live_at-was.result ≡ live_at (header_in b c.args.index) = c.live_at-was.ensures ∙ ap (λ (x : Block). live_at (header_in x c.args.index)) (sym c.self.view_is) in
    let among = live_in-among b c.args.index block c.requires.bound in
    let changed = live-with_header b c.args.index h block can ok c.requires.bound in
    let now = c.live.ensures.value in
    let count : c.self.inside.live - c.live_at-was.result + c.live.result ≡ live_in (with_header b c.args.index h) = omega (arith, c.self.invariant.counted) in
    rw (c.mark.ensures.value, c.word.ensures.value, c.third-third.ensures.value, c.fourth-fourth.ensures, c.held_moves-held.ensures, c.as_slice-words.ensures.value) (record {
      block = IsBlock-with_header b c.args.index h block can ok;
      counted = count;
    })
