-- What a view shows of one name.
use Rattle.std.specs.Prelude.{ℕ, Option, None, Some}
use Rattle.std.specs.Option.{option_map, option_and_then}
use Rattle.bmx_token.specs.declared.parts.Part.{Part}
use Rattle.bmx_memory.specs.Shown.{Object, known_as}
use Rattle.bmx_protocol.specs.declared.views.Entry.{Entry}
use Rattle.bmx_protocol.specs.Nodes.{entry_of}

-- the entry of a name that has both an object and a token
abbrev pub entry_with : (ℕ → Option Object) → (ℕ → Option Part) → ℕ → Option Entry
entry_with object part name = option_and_then (λ p. option_map (λ o. entry_of name (known_as p o)) (object name)) (part name)
