use Rattle.std.proofs.Common.{◌≡◌, ◌+◌, ◌<◌, true, false, not, [], ◌++◌, length, drop, take, slice_get, filter, count_by, Some, is_some, sym, ap, ◌∙◌, arith, inl, inr}
use Rattle.std.proofs.lemmas.Bool.{cases_eq}
use Rattle.std.proofs.lemmas.List.{append-nil}
use Rattle.bmx_shelves.specs.Shelves.{on_shelf}
use Rattle.bmx_shelves.proofs.Walks.{front_none, none_left, front_split, kept_ended, count_ended, kept_stays, count_stays, front_some, front_shorter, back_again}
use Rattle.bmx_shelves.proofs.walk.end_items.Goals as goal

pub walk-preserved-then-ends : goal.walk-preserved-then-ends
walk-preserved-then-ends g c =
    let ends = g.J.Judge.is_ended c.args.judge.now in
    let shelf = c.args.shelf in
    let aside = c.args.aside in
    let old = c.walk.shelves.shelves in
    let new = c.drop_front.new.self.shelves in
    let left = on_shelf old shelf in
    let before = c.walk.invariant in
    let hit : ends c.in-Some.item ≡ true = sym c.ends.ensures ∙ c.if-ends.true in
    let rest : on_shelf new shelf ≡ drop 1 left = c.drop_front.ensures.shelf in
    let seen : on_shelf new aside ≡ on_shelf old aside = c.drop_front.ensures.others aside (λ e. c.requires.apart (sym e)) in
    let fewer : count_by ends left ≡ count_by ends (drop 1 left) + 1 = count_ended ends left c.in-Some.item c.in-Some.ensures hit in
    let now : count_by ends (on_shelf new shelf) ≡ count_by ends (drop 1 left) = ap (count_by ends) rest in
    let roomier : c.drop_front.new.self.spare ≡ c.walk.shelves.spare + 1 = c.drop_front.ensures.spare in
    let had = before.room in
    record {
      many = c.drop_front.ensures.count ∙ before.many;
      others = λ m not_here not_seen. c.drop_front.ensures.others m not_here ∙ before.others m not_here not_seen;
      kept = ap (λ xs. xs ++ filter (λ x. not (ends x)) (on_shelf new shelf)) seen
          ∙ ap (λ xs. on_shelf old aside ++ filter (λ x. not (ends x)) xs) rest
          ∙ kept_ended ends left c.in-Some.item c.in-Some.ensures (on_shelf old aside) hit
          ∙ before.kept;
      room = omega (arith, fewer, now, roomier, had);
      none = λ e. cc;
      roomier = let had_room = before.roomier in omega (arith, roomier, had_room);
      some = λ _. let had_room = before.roomier in omega (arith, roomier, had_room);
    }

pub walk-preserved : goal.walk-preserved
walk-preserved g c =
    let ends = g.J.Judge.is_ended c.args.judge.now in
    let shelf = c.args.shelf in
    let aside = c.args.aside in
    let old = c.walk.shelves.shelves in
    let new = c.move_front.new.self.shelves in
    let left = on_shelf old shelf in
    let before = c.walk.invariant in
    let miss : ends c.in-Some.item ≡ false = sym c.ends.ensures ∙ c.if-ends.false in
    let rest : on_shelf new shelf ≡ drop 1 left = c.move_front.ensures.from in
    let seen : on_shelf new aside ≡ on_shelf old aside ++ take 1 left = c.move_front.ensures.to in
    let same : count_by ends left ≡ count_by ends (drop 1 left) = count_stays ends left c.in-Some.item c.in-Some.ensures miss in
    let now : count_by ends (on_shelf new shelf) ≡ count_by ends (drop 1 left) = ap (count_by ends) rest in
    let room : c.move_front.new.self.spare ≡ c.walk.shelves.spare = c.move_front.ensures.spare in
    let had = before.room in
    record {
      many = c.move_front.ensures.count ∙ before.many;
      others = λ m not_here not_seen. c.move_front.ensures.others m not_here not_seen ∙ before.others m not_here not_seen;
      kept = ap (λ xs. xs ++ filter (λ x. not (ends x)) (on_shelf new shelf)) seen
          ∙ ap (λ xs. (on_shelf old aside ++ take 1 left) ++ filter (λ x. not (ends x)) xs) rest
          ∙ kept_stays ends left c.in-Some.item c.in-Some.ensures (on_shelf old aside) miss
          ∙ before.kept;
      room = omega (arith, same, now, room, had);
      none = λ e. now ∙ sym same ∙ before.none e;
      roomier = let had_room = before.roomier in omega (arith, room, had_room);
      some = λ e. let had_room = before.some e in omega (arith, room, had_room);
    }

pub returns-clause-shelf : goal.returns-clause-shelf
returns-clause-shelf g c =
    let ends = g.J.Judge.is_ended c.args.judge.now in
    let shelf = c.args.shelf in
    let aside = c.args.aside in
    let walked = c.walk.shelves.shelves in
    let back = c.back.shelves.shelves in
    let left : on_shelf walked shelf ≡ [] = front_none (on_shelf walked shelf) (sym c.in_default.is ∙ c.front.ensures) in
    let seen : on_shelf back aside ≡ [] = none_left (on_shelf back aside) (ap is_some (sym c.front-in-back.ensures) ∙ sym c.is_some.ensures ∙ c.back-test.false) in
    let kept : on_shelf walked aside ≡ filter (λ x. not (ends x)) (on_shelf c.args.shelves.now.shelves shelf) =
    sym (append-nil (on_shelf walked aside)) ∙ ap (λ xs. on_shelf walked aside ++ filter (λ x. not (ends x)) xs) (sym left) ∙ c.walk.invariant.kept in
    sym (append-nil (on_shelf back shelf))
    ∙ ap (λ xs. on_shelf back shelf ++ xs) (sym seen)
    ∙ c.back.invariant.all
    ∙ ap (λ xs. xs ++ on_shelf walked aside) left
    ∙ kept

pub returns-clause-others : goal.returns-clause-others
returns-clause-others g c = λ m not_here.
    let aside = c.args.aside in
    let back = c.back.shelves.shelves in
    let seen : on_shelf back aside ≡ [] = none_left (on_shelf back aside) (ap is_some (sym c.front-in-back.ensures) ∙ sym c.is_some.ensures ∙ c.back-test.false) in
    elim (cases_eq m aside) [
      | inl e ↦ ap (on_shelf back) e ∙ seen ∙ sym c.requires.empty ∙ ap (on_shelf c.args.shelves.now.shelves) (sym e)
      | inr ne ↦ c.back.invariant.others m not_here ne ∙ c.walk.invariant.others m not_here ne
    ]

pub returns-clause-spare : goal.returns-clause-spare
returns-clause-spare g c =
    let ends = g.J.Judge.is_ended c.args.judge.now in
    let walked = c.walk.shelves.shelves in
    let left : on_shelf walked c.args.shelf ≡ [] = front_none (on_shelf walked c.args.shelf) (sym c.in_default.is ∙ c.front.ensures) in
    let none : count_by ends (on_shelf walked c.args.shelf) ≡ 0 = ap (count_by ends) left in
    let all = c.walk.invariant.room in
    let same = c.back.invariant.room in
    omega (arith, none, all, same)

pub returns-clause-none : goal.returns-clause-none
returns-clause-none g c = λ h.
    let ends = g.J.Judge.is_ended c.args.judge.now in
    let walked = c.walk.shelves.shelves in
    let left : on_shelf walked c.args.shelf ≡ [] = front_none (on_shelf walked c.args.shelf) (sym c.in_default.is ∙ c.front.ensures) in
    sym (c.walk.invariant.none h) ∙ ap (count_by ends) left

pub returns-clause-some : goal.returns-clause-some
returns-clause-some g c = λ h.
    let more = c.walk.invariant.some h in
    let same = c.back.invariant.room in
    let all = returns-clause-spare g c in
    omega (arith, more, same, all)
