use Rattle.std.proofs.Common.{◌≡◌, ◌+◌, ◌≤◌, length, take, None}
use Rattle.bmx_token.specs.Tokens.{child_part}
use Rattle.bmx_tokens.specs.Tables.{part_of}
use Rattle.bmx_protocol.proofs.Births.{learns}
use Rattle.bmx_node.proofs.others.heard_tokens.Given as goal

-- the births so far have tokens
abbrev pub invariant-loop-birth : goal.invariant-loop-birth
invariant-loop-birth l = record {
  parts : part_of l.tokens ≡ learns (λ b. child_part 0) (λ x. None) (take l.birth-index l.anchors);
  me : l.tokens.me ≡ l.initial.tokens.me;
  room : length l.anchors ≤ l.tokens.spare + l.birth-index;
}
