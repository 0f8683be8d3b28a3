use Rattle.std.proofs.Common.{◌≡◌, ◌+◌, ◌-◌, ◌<◌, ◌≤◌, true, insert, is_ok, vec_len, vec_capacity, sym, subst, ◌∙◌, arith, rules}
use Rattle.std.proofs.lemmas.Bool.{cond-true}
use Rattle.bmx_owner.specs.declared.entering.Record.{Record}
use Rattle.bmx_owner.specs.Records.{Entering, IsInOrder}
use Rattle.bmx_owner.specs.Inside.Search.{FitsAt}
use Rattle.bmx_owner.specs.Inside.Named.{AreShelved, HasOneMore}
use Rattle.bmx_owner.proofs.Places.{with_record-inserted}
use Rattle.bmx_owner.proofs.Found.{IsInOrder-with_record}
use Rattle.bmx_owner.proofs.Named.{HasOneMore-inserted}
use Rattle.bmx_owner.proofs.entering.Records.insert.Goals as goal

pub note-requires : goal.note-requires
note-requires c =
    let some : 0 < c.self.inside.room = rw (← c.self.view_is) at c.requires.room in
    (c.self.inside.records.items, c.self.inside.room, some, c.self.invariant.shelved)

pub invariant_of-self : goal.invariant_of-self
invariant_of-self c =
    let old = c.self.inside.records in
    let items = old.items in
    let entry : Record = c.args.entry in
    let at = subst (λ (v : Entering). FitsAt v.list entry.name entry.from c.args.i) (sym c.self.view_is) c.requires.fits in
    let ok : is_ok c.insert.result ≡ true = search rules in
    let now : c.insert.new.self.items ≡ insert items c.args.i entry = c.insert.ensures.items ∙ cond-true (is_ok c.insert.result) (insert items c.args.i entry) items ok in
    let len : vec_len c.insert.new.self ≡ vec_len old + 1 = c.insert.ensures.len ∙ cond-true (is_ok c.insert.result) (vec_len old + 1) (vec_len old) ok in
    let some : 0 < c.self.inside.room = rw (← c.self.view_is) at c.requires.room in
    let fits : vec_len old + c.self.inside.room ≤ vec_capacity old = c.self.invariant.fits in
    let capacity : vec_capacity old ≤ vec_capacity c.insert.new.self = c.insert.ensures.capacity in
    let again : c.self.inside.room ≡ c.self.inside.room - 1 + 1 = omega (arith, some) in
    record {
      order = subst IsInOrder (sym (now ∙ with_record-inserted items entry c.args.i at)) (IsInOrder-with_record entry items c.self.invariant.order);
      fits = omega (arith, len, some, fits, capacity);
      shelved = c.note.ensures items c.insert.new.self.items (c.self.inside.room - 1)
          (subst (λ k. AreShelved items k c.self.inside.names) again c.self.invariant.shelved)
          (subst (HasOneMore entry items) (sym now) (HasOneMore-inserted items c.args.i entry));
    }
