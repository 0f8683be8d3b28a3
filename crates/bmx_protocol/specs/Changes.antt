-- What a step changes in a node's state, one change after another: those that a rule says, those of the letters
-- that are issued, and nothing else but the count of steps.
use Rattle.std.specs.Prelude.{ℕ, ◌+◌, if◌then◌else◌, List, Option, Some, None, is_some, unwrap_or}
use Rattle.std.specs.Option.{option_map_or}
use Rattle.std.specs.List.{fold}
use Rattle.bmx_types.specs.declared.values.Val.{Val}
use Rattle.bmx_types.specs.declared.addresses.Info.{Info}
use Rattle.bmx_token.specs.Tokens.{child_part}
use Rattle.bmx_types.specs.Updates.{put, put_at}
use Rattle.bmx_owner.specs.declared.entering.Record.{Record}
use Rattle.bmx_owner.specs.Records.{blank, sent_by, got_by}
use Rattle.bmx_protocol.specs.Nodes.{NodeState, Known}

-- one change of a node's state
pub data Change : Type 0 where
  -- a register holds the value
  Sets : (register : ℕ) (v : Val) → Change
  -- one name more was made
  Makes : Change
  -- this is known of the object of a name
  Knows : (name : ℕ) (k : Known) → Change
  -- a node told of an object: it is heard of, unless it is known
  Hears : (from : ℕ) (info : Info) → Change
  -- letter number seq to a node gave it a name
  Gives : (name to seq : ℕ) → Change
  -- letter number seq from a node handed the object of a name over
  Gets : (name from seq : ℕ) → Change
  -- one letter more was issued to a node
  Issues : (to : ℕ) → Change
  -- one letter more was taken from a node
  Takes : (from : ℕ) → Change

-- an object that a node hears of: it has no copy, and asks the sender
abbrev pub heard_of : ℕ → Info → Known
heard_of from info = record { bunch = info.bunch; size = info.size; copy = None; part = child_part from }

-- what is known once an object from a node was heard of: what was known stays
abbrev pub heard : ℕ → (ℕ → Option Known) → Info → ℕ → Option Known
heard from known info = if is_some (known info.name) then known else put known info.name (Some (heard_of from info))

-- the record of a name and a node, or a blank one of the object's bunch
abbrev pub record_of : NodeState → ℕ → ℕ → Record
record_of s name node =
    unwrap_or (s.entering name node) (blank name (option_map_or (λ k. k.bunch) (s.known name) 0) node)

-- the state after a change
abbrev pub after_change : NodeState → Change → NodeState
after_change s (Sets register v) = record s { register = put s.register register v }
after_change s Makes = record s { made = s.made + 1 }
after_change s (Knows name k) = record s { known = put s.known name (Some k) }
after_change s (Hears from info) = record s { known = heard from s.known info }
after_change s (Gives name to seq) = record s { entering = put_at s.entering name to (Some (sent_by seq (record_of s name to))) }
after_change s (Gets name from seq) = record s { entering = put_at s.entering name from (Some (got_by seq (record_of s name from))) }
after_change s (Issues to) = record s { issued = put s.issued to (s.issued to + 1) }
after_change s (Takes from) = record s { taken = put s.taken from (s.taken from + 1) }

-- the state after changes, one after another
abbrev pub after_changes : NodeState → List Change → NodeState
after_changes s changes = fold after_change s changes

-- the state with one step more counted
abbrev pub with_step : NodeState → NodeState
with_step s = record s { clock = s.clock + 1 }
