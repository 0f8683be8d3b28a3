use Rattle.std.proofs.Common.{◌<◌, length, sym, ap, ◌∙◌, subst}
use Rattle.std.specs.FinSet as set
use Rattle.bmx_ilist.specs.Sequences.{is_in_list}
use Rattle.bmx_ilist.proofs.Calls.{inserted_lives, pushed_in, pushed_stays}
use Rattle.bmx_ilist.proofs.lists.tests.add_last.Goals as goal

pub push_back-requires-clause-live : goal.push_back-requires-clause-live
push_back-requires-clause-live c = ap (λ s. set.contains s c.in_ok-key.key) c.in_ok-key.ensures.live ∙ inserted_lives c.args.lists.now.live c.in_ok-key.key

pub returns-clause-linked : goal.returns-clause-linked
returns-clause-linked c =
    ap (λ l. is_in_list l c.in_ok-key.key) c.push_back.ensures.lists
    ∙ pushed_in c.args.list c.in_ok-key.key c.add.new.self.lists (subst (λ l. c.args.list < length l) (sym c.in_ok-key.ensures.lists) c.requires)

pub returns-clause-rest : goal.returns-clause-rest
returns-clause-rest c =
    λ q h. ap (λ l. is_in_list l q) c.push_back.ensures.lists
    ∙ pushed_stays c.args.list c.in_ok-key.key q c.add.new.self.lists (ap (λ l. is_in_list l q) c.in_ok-key.ensures.lists ∙ h)
