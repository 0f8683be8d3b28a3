-- When the fields that a letter tells can be a copy.
use Rattle.std.specs.Prelude.{◌≡◌, ℕ, List, length, All, IsSomeAnd}
use Rattle.bmx_msg.specs.declared.letters.Field.{Field}
use Rattle.bmx_protocol.specs.Nodes.{value_in}
use Rattle.bmx_protocol.specs.Rules.{heard_field}
use Rattle.bmx_memory.specs.Shown.{Shown, HasEntry}

-- the fields of a letter can be a name's copy: there are as many as the object has, and each refers to a name
-- with an entry, if to any
pub record FitsFields (m : Shown) (name : ℕ) (fields : List Field) : Type 0 where
  pub size : IsSomeAnd (m.object name) (λ o. length fields ≡ o.size)
  pub known : All (λ f. HasEntry m (value_in (heard_field f))) fields
