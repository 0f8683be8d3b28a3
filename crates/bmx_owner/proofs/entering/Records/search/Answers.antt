use Rattle.std.proofs.Common.{MatchResult, sym, subst}
use Rattle.bmx_owner.specs.Records.{IsInOrder}
use Rattle.bmx_owner.specs.Inside.Search.{StandsAt, FitsAt}
use Rattle.bmx_owner.proofs.entering.Records.search.Goals as goal

pub place_of-requires : goal.place_of-requires
place_of-requires c = subst IsInOrder (sym c.as_slice.ensures.value) c.self.invariant.order

pub returns : goal.returns
returns c =
    rw (← c.self.view_is) (subst (λ xs. MatchResult c.place_of.result (StandsAt xs c.args.name c.args.node) (FitsAt xs c.args.name c.args.node)) c.as_slice.ensures.value c.place_of.ensures)
