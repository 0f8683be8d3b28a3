use Rattle.std.proofs.Common.{ℕ, get_or, replicate, subst}
use Rattle.bmx_segment.specs.Stores.{Lays}
use Rattle.bmx_segment.specs.declared.headers.Header.{Header}
use Rattle.bmx_replica.specs.Layouts.{blank_header}
use Rattle.bmx_replica.proofs.Laid.{Lays-words}
use Rattle.bmx_replica.proofs.Changing.{get_or-same}
use Rattle.bmx_replica.proofs.replica.add_object.Goals as goal

pub returns-clause-laid : goal.returns-clause-laid
returns-clause-laid c =
    let zeros : ℕ → ℕ = λ i. get_or (replicate 32 0) i 0 in
    Lays-words c.args.segments.now.blocks c.lay.new.self.blocks c.args.info.now.place.address (blank_header c.args.info.now) zeros (λ i. 0) (λ i small. get_or-same 32 i 0)
    (let L : Header → Type 0 = λ x. Lays c.args.segments.now.blocks c.lay.new.self.blocks c.args.info.now.place.address x zeros in subst L c.blank_header.ensures c.in_ok-lay.ensures.laid)
