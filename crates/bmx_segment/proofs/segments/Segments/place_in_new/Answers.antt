use Rattle.bmx_segment.proofs.Heaping.{PlacesInNew-from}
use Rattle.bmx_segment.proofs.segments.Segments.place_in_new.Goals as goal

pub returns-clause-ok : goal.returns-clause-ok
returns-clause-ok c =
    PlacesInNew-from c.args.self.now c.make.new.self c.make_current.new.self c.hand_out.new.self c.args.bunch c.made-number.result c.args.size c.hand_out.result
    c.in_ok-make.ensures.ok c.made-number.ensures.value c.make_current.ensures c.hand_out.ensures.placed
