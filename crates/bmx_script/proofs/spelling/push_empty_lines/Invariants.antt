use Rattle.std.proofs.Common.{◌≡◌, ◌-◌, ◌≤◌, ◌++◌, replicate, string_bytes}
use Rattle.bmx_script.proofs.spelling.push_empty_lines.Given as goal

abbrev pub invariant-loop-number : goal.invariant-loop-number
invariant-loop-number l = record {
  text : string_bytes l.text ≡ string_bytes l.fn.text ++ replicate (l._number - l.from) 10;
  within : l._number - l.from ≤ l.to - l.from;
}
