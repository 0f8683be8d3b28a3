use Rattle.std.proofs.Common.{◌∙◌}
use Rattle.bmx_segment.specs.Stores.{segment_key}
use Rattle.bmx_segment.proofs.Stored.{is_there}
use Rattle.bmx_segment.proofs.store.Store.is_mapped.Goals as goal

pub returns : goal.returns
returns c = c.is_some.ensures ∙ is_there c.place_of.result c.args.self.now.blocks (segment_key c.args.home c.args.number) c.place_of.ensures.some c.place_of.ensures.none
