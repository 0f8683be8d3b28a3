use Rattle.std.proofs.Common.{◌≡◌, ℕ, ◌-◌, ◌<◌, false, List, [], ◌∷◌, ◌++◌, take, drop, sym, ap, ◌∙◌, subst, arith, rules, IsOk}
use Rattle.std.proofs.lemmas.List.{take-append-le, drop-append-le}
use Rattle.std.specs.FinSet as set
use Rattle.indexmap.specs.IndexMap.{spare}
use Rattle.indexmap.proofs.CallerLemmas.{insert_entry-new}
use Rattle.bmx_ilist.specs.Sequences.{is_in_list, pushed}
use Rattle.bmx_ilist.proofs.Keys.{clash}
use Rattle.bmx_ilist.proofs.Calls.{inserted_lives}
use Rattle.bmx_mark.specs.Marks.{Marking, names_in, has_name, is_marked}
use Rattle.bmx_mark.specs.Inside.Marks.{IsMark}
use Rattle.bmx_mark.proofs.Named.{same_name, found, marked-is, not_found}
use Rattle.bmx_mark.proofs.Kept.{IsMark-greyed}
use Rattle.bmx_mark.proofs.Reaching.{IsBetween-greyed}
use Rattle.bmx_mark.proofs.mark.Mark.grey.Goals as goal

pub returns-then-contains_key-clause-new : goal.returns-then-contains_key-clause-new
returns-then-contains_key-clause-new c =
    let m = c.self.inside in
    let was : c.contains_key.result ≡ is_marked c.args.self.now c.args.name = c.contains_key.ensures ∙ marked-is c.args.self.now m.keys.entries m.scanned m.spare c.args.name c.self.view_is in
    λ h. clash (is_marked c.args.self.now c.args.name) (sym was ∙ c.if-contains_key.true) h

pub add_reserved-key-requires : goal.add_reserved-key-requires
add_reserved-key-requires c =
    let m = c.self.inside in
    let was : c.contains_key.result ≡ is_marked c.args.self.now c.args.name = c.contains_key.ensures ∙ marked-is c.args.self.now m.keys.entries m.scanned m.spare c.args.name c.self.view_is in
    let some : 0 < c.args.self.now.spare = c.requires (sym was ∙ c.if-contains_key.false) in
    omega (arith, some, ap (λ (v : Marking). v.spare) c.self.view_is, c.self.invariant.keys_room)

pub push_back-requires-clause-live : goal.push_back-requires-clause-live
push_back-requires-clause-live c = ap (λ s. set.contains s c.add_reserved-key.result) c.add_reserved-key.ensures.live ∙ inserted_lives c.self.inside.lists.live c.add_reserved-key.result

pub unreachable-requires : goal.unreachable-requires
unreachable-requires c =
    let m = c.self.inside in
    let was : c.contains_key.result ≡ is_marked c.args.self.now c.args.name = c.contains_key.ensures ∙ marked-is c.args.self.now m.keys.entries m.scanned m.spare c.args.name c.self.view_is in
    let some : 0 < c.args.self.now.spare = c.requires (sym was ∙ c.if-contains_key.false) in
    let room : 0 < spare c.self.inside.keys = omega (arith, some, ap (λ (v : Marking). v.spare) c.self.view_is, c.self.invariant.names_room) in
    let ok : IsOk c.insert.result = c.insert.ensures.succeeds room in
    search rules

pub overflow_sub-self : goal.overflow_sub-self
overflow_sub-self c =
    let m = c.self.inside in
    let was : c.contains_key.result ≡ is_marked c.args.self.now c.args.name = c.contains_key.ensures ∙ marked-is c.args.self.now m.keys.entries m.scanned m.spare c.args.name c.self.view_is in
    let some : 0 < c.args.self.now.spare = c.requires (sym was ∙ c.if-contains_key.false) in
    omega (arith, some, ap (λ (v : Marking). v.spare) c.self.view_is)

pub invariant_of-self : goal.invariant_of-self
invariant_of-self c =
    let m = c.self.inside in
    let es = m.keys.entries in
    let key = c.add_reserved-key.result in
    let absent : has_name (names_in es) c.args.name ≡ false = sym (c.contains_key.ensures ∙ found es c.args.name) ∙ c.if-contains_key.false in
    let entries : c.insert.new.self.entries ≡ es ++ (c.args.name, key) ∷ [] = c.in-Ok.ensures.entries ∙ insert_entry-new same_name m.keys c.args.name key (not_found es c.args.name absent) in
    subst (λ (l : List (ℕ × ℕ)). IsMark c.push_back.new.self l (spare c.insert.new.self) m.scanned (m.spare - 1)) (sym entries)
    (IsMark-greyed m.lists c.push_back.new.self es (spare m.keys) (spare c.insert.new.self) m.scanned m.spare c.args.name key c.self.invariant
    (c.push_back.ensures.lists ∙ ap (pushed 0 key) c.add_reserved-key.ensures.lists)
    (c.push_back.ensures.live ∙ c.add_reserved-key.ensures.live)
    (ap (λ l. is_in_list l key) (sym c.add_reserved-key.ensures.lists) ∙ c.add_reserved-key.ensures.loose)
    absent
    (omega (arith, c.push_back.ensures.spare, c.add_reserved-key.ensures.spare))
    c.insert.ensures.spare)

pub returns-clause-marked : goal.returns-clause-marked
returns-clause-marked c =
    let m = c.self.inside in
    let was : c.contains_key.result ≡ is_marked c.args.self.now c.args.name = c.contains_key.ensures ∙ marked-is c.args.self.now m.keys.entries m.scanned m.spare c.args.name c.self.view_is in
    λ h. clash (is_marked c.args.self.now c.args.name) h (sym was ∙ c.if-contains_key.false)

pub returns-clause-new : goal.returns-clause-new
returns-clause-new c =
    let m = c.self.inside in
    let es = m.keys.entries in
    let n = m.scanned in
    let key = c.add_reserved-key.result in
    let e : ℕ × ℕ = (c.args.name, key) in
    let absent : has_name (names_in es) c.args.name ≡ false = sym (c.contains_key.ensures ∙ found es c.args.name) ∙ c.if-contains_key.false in
    let entries : c.insert.new.self.entries ≡ es ++ e ∷ [] = c.in-Ok.ensures.entries ∙ insert_entry-new same_name m.keys c.args.name key (not_found es c.args.name absent) in
    λ h.
    let some : 0 < c.args.self.now.spare = c.requires h in
    record {
      key = key;
      grey = ap (drop n) entries ∙ drop-append-le n es (e ∷ []) c.self.invariant.within ∙ ap (λ (v : Marking). v.grey ++ e ∷ []) c.self.view_is;
      scanned = ap (take n) entries ∙ take-append-le n es (e ∷ []) c.self.invariant.within ∙ ap (λ (v : Marking). v.scanned) c.self.view_is;
      spare = omega (arith, some, ap (λ (v : Marking). v.spare) c.self.view_is);
    }

pub returns-clause-between : goal.returns-clause-between
returns-clause-between c =
    let m = c.self.inside in
    let was : c.contains_key.result ≡ is_marked c.args.self.now c.args.name = c.contains_key.ensures ∙ marked-is c.args.self.now m.keys.entries m.scanned m.spare c.args.name c.self.view_is in
    λ roots target r b. IsBetween-greyed roots target c.args.self.now _ c.args.name (returns-clause-new c (sym was ∙ c.if-contains_key.false)) r b
