use Rattle.std.proofs.Common.{refl, sym}
use Rattle.bmx_node.specs.Seen.{state_of}
use Rattle.bmx_node.proofs.holdings.Holdings.is_bad.Goals as goal

pub returns : goal.returns
unfolding state_of
returns c st suits = c.is_bad_letter.ensures st (state_of c.args.self.now) (record { nodes = suits.nodes; bunches = suits.bunches; made = refl }) (sym c.taken.ensures)
