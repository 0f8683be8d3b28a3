use Rattle.std.proofs.Common.{ℕ, ◌+◌, List, ◌++◌, take, drop, slice_index_or, sym, ap, ◌∙◌}
use Rattle.bmx_mark.specs.Marks.{Marking, names_in, next_grey}
use Rattle.bmx_mark.proofs.Kept.{cut, next_linked, IsMark-scanned, same_marking}
use Rattle.bmx_mark.proofs.mark.Mark.scan_next.Goals as goal

pub move_to-requires-clause-linked : goal.move_to-requires-clause-linked
move_to-requires-clause-linked c =
    let m = c.self.inside in
    next_linked m.lists m.keys.entries _ m.scanned m.spare (c.in-Some.name.now, c.in-Some.key.now) c.self.invariant (sym c.in-Some.ensures.entry)

pub invariant_of-self : goal.invariant_of-self
invariant_of-self c =
    let m = c.self.inside in
    IsMark-scanned m.lists c.move_to.new.self m.keys.entries _ m.scanned m.spare (c.in-Some.name.now, c.in-Some.key.now) c.self.invariant (sym c.in-Some.ensures.entry) c.move_to.ensures.lists c.move_to.ensures.live c.move_to.ensures.spare

pub returns-clause-value : goal.returns-clause-value
returns-clause-value c =
    let m = c.self.inside in
    let parts = cut m.keys.entries m.scanned (c.in-Some.name.now, c.in-Some.key.now) (sym c.in-Some.ensures.entry) in
    sym (ap (λ (l : List (ℕ × ℕ)). slice_index_or (names_in l) 0 0) parts.0) ∙ ap next_grey c.self.view_is

pub returns-clause-marking : goal.returns-clause-marking
returns-clause-marking c =
    let m = c.self.inside in
    let n = m.scanned in
    let es = m.keys.entries in
    let parts = cut es n (c.in-Some.name.now, c.in-Some.key.now) (sym c.in-Some.ensures.entry) in
    same_marking (drop (n + 1) es) (drop 1 (drop n es)) (take (n + 1) es) (take n es ++ take 1 (drop n es)) m.spare
    (sym (ap (drop 1) parts.0)) (parts.1 ∙ sym (ap (λ (l : List (ℕ × ℕ)). take n es ++ take 1 l) parts.0))
    ∙ ap (λ (v : Marking). record v { grey = drop 1 v.grey; scanned = v.scanned ++ take 1 v.grey }) c.self.view_is
