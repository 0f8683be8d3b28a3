use Rattle.bmx_legal.proofs.Follows.{each_may_follow}
use Rattle.bmx_legal.proofs.laws.each_may_follow.Goals as goal

pub returns : goal.returns
returns c = each_may_follow
