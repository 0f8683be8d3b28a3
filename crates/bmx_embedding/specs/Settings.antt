-- What the store opens with.
use Rattle.std.specs.Prelude.{List, [], ◌∷◌, replicate}
use Rattle.bmx_types.specs.declared.values.Val.TheVariants as val
use Rattle.bmx_types.specs.declared.openings.Birth.{Birth}
use Rattle.bmx_protocol.specs.Nodes.{Setting}

-- the anchor of the one bunch, the first object that node 0 makes: 32 null fields
abbrev pub the_anchor : Birth
the_anchor = record { name = 1; bunch = 0; fields = replicate 32 val.Null }

-- two nodes, each with four segments at most, and the anchor
abbrev pub the_setting : Setting
the_setting = record { nodes = 2; limit = 4; births = the_anchor ∷ [] }
