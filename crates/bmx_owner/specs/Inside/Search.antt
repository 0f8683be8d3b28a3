-- Where a search for a key, a name and a node, ends.
use Rattle.std.specs.Prelude.{◌≡◌, ℕ, suc, ◌<◌, ◌≤◌, List, Some, None, length, take, drop, filter, slice_index_or}
use Rattle.bmx_owner.specs.declared.entering.Record.{Record}
use Rattle.bmx_owner.specs.Records.{is_ahead, is_behind, find_record}

-- the record of the key stands at place i, after all that stand before the key
pub record StandsAt (records : List Record) (name node i : ℕ) : Type 0 where
  pub within : i < length records
  pub found : (d : Record) → find_record records name node ≡ Some (slice_index_or records i d)
  pub ahead : take i records ≡ filter (is_ahead name node) records
  pub behind : drop (suc i) records ≡ filter (is_behind name node) records

-- there is none, and it would stand at place i
pub record FitsAt (records : List Record) (name node i : ℕ) : Type 0 where
  pub within : i ≤ length records
  pub none : find_record records name node ≡ None
  pub ahead : take i records ≡ filter (is_ahead name node) records
  pub behind : drop i records ≡ filter (is_behind name node) records
