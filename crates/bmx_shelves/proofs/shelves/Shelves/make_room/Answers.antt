use Rattle.std.proofs.Common.{◌≡◌, ◌+◌, ◌≤◌, length, sym, ap, ◌∙◌, arith}
use Rattle.std.specs.FinSet as set
use Rattle.indexmap.specs.IndexMap.{spare}
use Rattle.bmx_ilist.specs.Sequences.{is_in_list, pushed, keys_of}
use Rattle.bmx_ilist.proofs.Calls.{inserted_lives}
use Rattle.bmx_shelves.specs.Inside.Keyed.{found}
use Rattle.bmx_shelves.proofs.Calls.{reserves}
use Rattle.bmx_shelves.proofs.shelves.Shelves.make_room.Goals as goal

pub push_back-requires-clause-live : goal.push_back-requires-clause-live
push_back-requires-clause-live g c =
    ap (λ s. set.contains s c.add_reserved-key.result) c.add_reserved-key.ensures.live
    ∙ inserted_lives c.loop-made.self-inside.lists.live c.add_reserved-key.result

pub loop-made-preserved : goal.loop-made-preserved
loop-made-preserved g c =
    let before = c.loop-made.invariant in
    let key = c.add_reserved-key.result in
    let count = c.loop-made.self-inside.count in
    let lists = c.loop-made.self-inside.lists.lists in
    let same = c.add_reserved-key.ensures.lists in
    let new = c.push_back.new.self.lists in
    let done = reserves (found c.loop-made.self-inside.items.entries) (found c.put.new.items.entries) lists new count key before.sound (ap (λ l. is_in_list l key) (sym same) ∙ c.add_reserved-key.ensures.loose) (c.push_back.ensures.lists ∙ ap (pushed count key) same) c.put.ensures.here c.put.ensures.others in
    let one_more : length (keys_of new count) ≡ length (keys_of lists count) + 1 = done.spare in
    let had : length (keys_of lists count) ≡ c.args.self.now.spare + c.loop-made._made = before.reserve in
    let free : c.args.more ≤ c.loop-made._made + c.loop-made.self-inside.lists.spare = before.free in
    let used : c.add_reserved-key.new.self.spare + 1 ≡ c.loop-made.self-inside.lists.spare = c.add_reserved-key.ensures.spare in
    let kept : c.push_back.new.self.spare ≡ c.add_reserved-key.new.self.spare = c.push_back.ensures.spare in
    let room : c.args.more ≤ c.loop-made._made + spare c.loop-made.self-inside.items = before.room in
    let put : spare c.loop-made.self-inside.items ≤ spare c.put.new.items + 1 = c.put.ensures.spare in
    record {
      sound = done.sound;
      count = before.count;
      items = λ m. done.items m ∙ before.items m;
      reserve = omega (arith, one_more, had);
      free = omega (arith, free, used, kept);
      room = omega (arith, room, put);
    }
