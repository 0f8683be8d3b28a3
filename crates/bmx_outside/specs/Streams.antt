-- What is left of the bytes of a source, and what is written to a sink, where a call failed. Bytes
-- that are told are `Some`; of those that aren't these facts claim nothing.
use Rattle.std.specs.Prelude.{ℕ, ◌≤◌, ◌<◌, List, Option, length, take}
use Rattle.std.specs.Io.KnownBytes.{Consumes, Appends}

-- at most so many bytes were read, from the start of what was left, and are lost
abbrev pub LosesAtMost : Option (List ℕ) → Option (List ℕ) → ℕ → Type 0
LosesAtMost old new most = (lost : List ℕ) × Consumes old new lost × (length lost ≤ most)

-- a part of the text was written, from its start, but not all of it
abbrev pub AppendsPart : Option (List ℕ) → Option (List ℕ) → List ℕ → Type 0
AppendsPart old new text = (n : ℕ) × (n < length text) × Appends old new (take n text)
