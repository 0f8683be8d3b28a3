use Rattle.std.proofs.Common.{◌≡◌, ◌+◌, ◌≤◌, length, take, None}
use Rattle.bmx_token.specs.Tokens.{owner_part}
use Rattle.bmx_tokens.specs.Tables.{part_of}
use Rattle.bmx_protocol.proofs.Births.{learns}
use Rattle.bmx_node.proofs.others.owner_tokens.Given as goal

-- the births so far have tokens
abbrev pub invariant-loop-birth : goal.invariant-loop-birth
invariant-loop-birth l = record {
  parts : part_of l.tokens ≡ learns (λ b. owner_part) (λ x. None) (take l.birth-index l.births);
  me : l.tokens.me ≡ l.initial.tokens.me;
  room : length l.births ≤ l.tokens.spare + l.birth-index;
}
