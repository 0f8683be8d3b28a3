-- Messages that are posted one after another.
use Rattle.std.specs.Prelude.{ℕ, Bool, true, false, List, map}
use Rattle.bmx_token.specs.declared.parts.Ask.{Ask}
use Rattle.bmx_token.specs.declared.answers.Service.{Service}
use Rattle.bmx_protocol.specs.Rules.{Draft}
use Rattle.bmx_node.specs.Inside.Reacting.{request_msg}
use Rattle.bmx_msg.specs.declared.letters.Msg.TheVariants as msg
use Rattle.bmx_token.specs.declared.answers.Service.TheVariants as service

-- the messages that recall copies
abbrev pub recalls : ℕ → List ℕ → List Draft
recalls name nodes = map (λ node. record { to = node; msg = msg.Inval name }) nodes

-- the messages that hand requests on
abbrev pub requests : ℕ → ℕ → List Ask → List Draft
requests to name asks = map (λ (a : Ask). record { to = to; msg = request_msg name a.asker a.mode }) asks

-- a read would be granted, or ownership would move
abbrev pub is_read : Service → Bool
is_read service.Idle = false
is_read service.Ready = false
is_read (service.Read asker) = true
is_read service.Revokes = false
is_read (service.Moves to) = false

abbrev pub is_move : Service → Bool
is_move service.Idle = false
is_move service.Ready = false
is_move (service.Read asker) = false
is_move service.Revokes = false
is_move (service.Moves to) = true
