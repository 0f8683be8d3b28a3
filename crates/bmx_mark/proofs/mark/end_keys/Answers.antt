use Rattle.std.proofs.Common.{◌≡◌, ℕ, ◌<◌, List, length, sym, ap, ◌∙◌, subst, arith}
use Rattle.std.specs.FinSet as set
use Rattle.bmx_ilist.specs.Sequences.{keys_of, is_in_list, unlinked}
use Rattle.bmx_ilist.proofs.Steps.{unlinked_loose}
use Rattle.bmx_ilist.proofs.Calls.{length-unlinked}
use Rattle.bmx_mark.proofs.Kept.{shorter, emptied_stays}
use Rattle.bmx_mark.proofs.Listed.{AreListed-ended}
use Rattle.bmx_mark.proofs.mark.end_keys.Goals as goal

pub remove-requires-clause-loose : goal.remove-requires-clause-loose
remove-requires-clause-loose c = ap (λ l. is_in_list l c.in-Some.key) c.unlink.ensures.lists ∙ unlinked_loose c.in-Some.key c.loop-key.lists.lists

pub loop-key-smaller : goal.loop-key-smaller
loop-key-smaller c =
    let k = c.in-Some.key in
    let now : c.remove.new.self.lists ≡ unlinked k c.loop-key.lists.lists = c.remove.ensures.lists ∙ c.unlink.ensures.lists in
    subst (λ (l : List (List ℕ)). length (keys_of l c.args.list) < length (keys_of c.loop-key.lists.lists c.args.list)) (sym now)
    (shorter c.loop-key.lists.lists c.args.list k (sym c.in-Some.ensures.value))

pub loop-key-preserved : goal.loop-key-preserved
loop-key-preserved c =
    let k = c.in-Some.key in
    let was = c.loop-key.lists in
    let now : c.remove.new.self.lists ≡ unlinked k was.lists = c.remove.ensures.lists ∙ c.unlink.ensures.lists in
    record {
      others = λ other none. ap (λ l. keys_of l other) now ∙ emptied_stays was.lists other k (c.loop-key.invariant.others other none);
      len = ap length now ∙ length-unlinked k was.lists ∙ c.loop-key.invariant.len;
      spare = omega (arith, c.remove.ensures.spare, c.unlink.ensures.spare, c.loop-key.invariant.spare);
      listed = λ before. AreListed-ended was c.remove.new.self k (c.loop-key.invariant.listed before) now (c.remove.ensures.live ∙ ap (λ l. set.remove l k) c.unlink.ensures.live);
    }
