use Rattle.std.proofs.Common.{◌≡◌, [], map, replicate}
use Rattle.bmx_lanes.proofs.inbox.Inbox.new.Given as goal

abbrev pub invariant-loop : goal.invariant-loop
invariant-loop g l = map (λ q. q.items) l.queues.items ≡ replicate l.counter []
