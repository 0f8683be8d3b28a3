-- The records that a store opens with.
use Rattle.std.specs.Prelude.{ℕ, ◌+◌, ◌-◌, ◌==◌, ◌&&◌, nat_lt, nat_le, if◌then◌else◌, Option, Some, None}
use Rattle.bmx_owner.specs.declared.entering.Record.{Record}
use Rattle.bmx_owner.specs.Records.{blank}

-- a record of the anchor of a bunch from each node below a number, but from node 0
abbrev pub with_anchor : (ℕ → ℕ → Option Record) → ℕ → ℕ → ℕ → ℕ → Option Record
with_anchor entering nodes bunch name node =
    if name == bunch + 1 && (nat_lt 0 node && nat_lt node nodes) then Some (blank name bunch node) else entering name node

-- the same of all bunches below a number, and no other record
abbrev pub anchors_entering : ℕ → ℕ → ℕ → ℕ → Option Record
anchors_entering nodes bunches name node =
    if nat_lt 0 node && nat_lt node nodes && (nat_lt 0 name && nat_le name bunches) then Some (blank name (name - 1) node) else None
