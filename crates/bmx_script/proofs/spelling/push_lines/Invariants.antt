use Rattle.std.proofs.Common.{◌≡◌, ◌-◌, ◌<◌, ◌++◌, drop, string_bytes}
use Rattle.bmx_script.specs.Spelling.{printed}
use Rattle.bmx_script.specs.Grammar.{AreNumbered}
use Rattle.bmx_script.proofs.spelling.push_lines.Given as goal

abbrev pub invariant-loop-line : goal.invariant-loop-line
invariant-loop-line l = record {
  text : string_bytes l.text ++ printed l.bunches l.number (drop l.line-index l.lines) ≡ string_bytes l.fn.text ++ printed l.bunches 1 l.lines;
  numbers : AreNumbered (l.number - 1) 20001 (drop l.line-index l.lines);
  some : 0 < l.number;
}
