-- What an acknowledgement that isn't stray leaves.
use Rattle.std.proofs.Common.{◌≡◌, ℕ, List, refl, true}
use Rattle.std.specs.Prelude.{◌==◌}
use Rattle.std.specs.List.{list_any}
use Rattle.bmx_token.specs.declared.parts.Role.TheVariants.{Owner}
use Rattle.bmx_token.specs.declared.parts.Part.{Part}
use Rattle.bmx_token.specs.Nodes.{nodes_without}
use Rattle.bmx_token.specs.Tokens.{ack}

pub ack-taken : (p : Part) (from : ℕ) (readers waiting : List ℕ) → p.role ≡ Owner → list_any (λ node. node == from) p.waiting ≡ true →
    readers ≡ nodes_without from p.readers → waiting ≡ nodes_without from p.waiting →
    record p { readers = readers; waiting = waiting } ≡ (ack p from).0
ack-taken p from readers waiting owner waited less fewer = rw (owner, waited, less, fewer) refl
