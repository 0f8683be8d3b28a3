use Rattle.std.proofs.Common.{◌≡◌, ◌+◌, [], take, max}
use Rattle.bmx_mark.specs.Marks.{names_in}
use Rattle.bmx_mark.proofs.mark.Mark.begin.Given as goal

abbrev pub invariant-loop-i : goal.invariant-loop-i
invariant-loop-i g l = record {
  grey : names_in l.self.grey ≡ take l.i (g.E.Edges.roots l.edges l.bunch);
  scanned : l.self.scanned ≡ [];
  spare : l.self.spare + l.i ≡ max l.fn.self.spare l.roots;
}
