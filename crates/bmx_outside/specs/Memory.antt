-- What contracts see of sources and sinks in memory.
use Rattle.std.specs.Prelude.{◌≡◌, ℕ, ◌+◌, ◌-◌, ◌^◌, ◌<◌, min, List, [], ◌∷◌, length, Contains, refl}
use Rattle.bmx_outside.specs.Faults.{one_more}

-- which calls are to fail, by their numbers from 1; how many calls were made, and how many of them failed
pub record Plan : Type 0 where
  pub fails : List ℕ
  pub calls : ℕ
  pub faults : ℕ

-- the number of the next call; it stands still at the end of its type
abbrev pub next_call : Plan → ℕ
next_call plan = one_more plan.calls

-- the next call is to fail; none is from the number 2 ^ 64 - 1 on
abbrev pub IsNextToFail : Plan → Type 0
IsNextToFail plan = (next_call plan < 2 ^ 64 - 1) × Contains plan.fails (next_call plan)

-- the plan after a call that failed
abbrev pub after_fault : Plan → Plan
after_fault plan = record { fails = plan.fails; calls = next_call plan; faults = plan.faults + 1 }

-- the plan after a call that did not fail
abbrev pub after_success : Plan → Plan
after_success plan = record { fails = plan.fails; calls = next_call plan; faults = plan.faults }

-- a source in memory: the bytes still to be read, and the most that one read gives
pub record Input : Type 0 where
  pub left : List ℕ
  pub most : ℕ

-- how many bytes a read into a buffer of that length gives
abbrev pub given_count : Input → ℕ → ℕ
given_count input room = min input.most (min room (length input.left))

-- a source in memory with a plan of its faults
pub record FaultyInput : Type 0 where
  pub input : Input
  pub plan : Plan

-- a sink in memory: what was written, and the most that one write takes
pub record Output : Type 0 where
  pub out : List ℕ
  pub most : ℕ

-- how many bytes of a piece of that length a write takes
abbrev pub taken_count : Output → ℕ → ℕ
taken_count output offered = min output.most offered

-- a sink in memory with a plan of its faults
pub record FaultyOutput : Type 0 where
  pub output : Output
  pub plan : Plan

-- five bytes left, at most two for each read: a large buffer gets two
two_of_five : given_count (record { left = 1 ∷ 2 ∷ 3 ∷ 4 ∷ 5 ∷ []; most = 2 }) 100 ≡ 2
two_of_five = refl

-- at the end of the input it gets none
none_at_end : given_count (record { left = []; most = 2 }) 100 ≡ 0
none_at_end = refl
