-- What a memory has: objects in a replica, and registers as words.
use Rattle.std.specs.Prelude.{ℕ, List, slice_get}
use Rattle.std.specs.Option.{option_map_or}
use Rattle.bmx_types.specs.declared.values.Val.{Val}
use Rattle.bmx_types.specs.declared.values.Val.TheVariants as val
use Rattle.bmx_segment.specs.Headers.{kind_number}
use Rattle.bmx_replica.specs.declared.words.Word.{Word}
use Rattle.bmx_replica.specs.Replicas.{Holding, value_in}

-- what contracts see of a memory
pub record Contents : Type 0 where
  pub replica : Holding
  pub registers : List Word

-- how many Infos can be learnt without memory
abbrev pub room_of : Contents → ℕ
room_of m = m.replica.spare

-- what a word is the word of
abbrev pub value_at : Holding → Word → Val
value_at r w = value_in r.heap.blocks (kind_number w.kind) w.word

-- what a register holds; there are 16
abbrev pub register_of : Contents → ℕ → Val
register_of m register = option_map_or (value_at m.replica) (slice_get m.registers register) val.Null
