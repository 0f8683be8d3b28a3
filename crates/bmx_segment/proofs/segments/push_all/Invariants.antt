use Rattle.std.proofs.Common.{◌≡◌, ◌+◌, ◌-◌, ◌≤◌, ◌++◌, replicate, vec_len}
use Rattle.std.specs.Vec.{vec_capacity}
use Rattle.bmx_segment.proofs.segments.push_all.Given as goal

abbrev pub invariant-loop : goal.invariant-loop
invariant-loop l =
    (l.own.items ≡ l.initial.own.items ++ replicate l.counter (record { bunch = l.bunch; handed = 0 }))
    × (vec_len l.own + (l.more - l.counter) ≤ vec_capacity l.own)
