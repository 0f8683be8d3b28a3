-- What a store opens with, as the rules of nodes have it.
use Rattle.bmx_types.specs.declared.openings.Opening.{Opening}
use Rattle.bmx_protocol.specs.Nodes.{Setting}

-- what an opening is of
abbrev pub setting_of : Opening → Setting
setting_of o = record { nodes = o.nodes; limit = o.limit; births = o.births }
