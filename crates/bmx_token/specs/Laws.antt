-- What holds of every part that the calls make.
use Rattle.std.specs.Prelude.{ℕ, Bool}
use Rattle.bmx_types.specs.declared.numbers.Mode.{Mode}
use Rattle.bmx_token.specs.declared.parts.Part.{Part}
use Rattle.bmx_token.specs.Tokens.{IsInOrder, owner_part, child_part, acquire, release, serve, request, granted, inval, ack}

-- each call keeps the readers, and who is waited for, in rising order, each once
pub record KeepsOrder : Type 0 where
  pub of_owner : IsInOrder owner_part
  pub of_child : (parent : ℕ) → IsInOrder (child_part parent)
  pub by_acquire : (me : ℕ) (p : Part) (mode : Mode) (copy : Bool) → IsInOrder p → IsInOrder (acquire me p mode copy).0
  pub by_release : (p : Part) → IsInOrder p → IsInOrder (release p).0
  pub by_serve : (me : ℕ) (p : Part) → IsInOrder p → IsInOrder (serve me p).0
  pub by_request : (me : ℕ) (p : Part) (asker : ℕ) (mode : Mode) → IsInOrder p → IsInOrder (request me p asker mode).0
  pub by_granted : (p : Part) (from : ℕ) (mode : Mode) → IsInOrder p → IsInOrder (granted p from mode).0
  pub by_inval : (p : Part) (from : ℕ) (copy : Bool) → IsInOrder p → IsInOrder (inval p from copy).0
  pub by_ack : (p : Part) (from : ℕ) → IsInOrder p → IsInOrder (ack p from).0
