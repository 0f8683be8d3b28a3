use Rattle.std.proofs.Common.{◌≡◌, ℕ, ◌+◌, None, Some, sym, subst, arith}
use Rattle.bmx_segment.specs.Heaps.{made_of, Makes}
use Rattle.bmx_space.specs.Spaces.{IsReady, segments_for}
use Rattle.bmx_space.proofs.Handing.{IsReady-reserved}
use Rattle.bmx_space.proofs.space.Space.reserve.Goals as goal

pub returns-clause-ready : goal.returns-clause-ready
returns-clause-ready c =
    let old = c.args.segments.now in
    let new = c.open.new.self in
    let more = c.div_ceil-more.result in
    let words = c.args.words in
    let bunch = c.args.bunch in
    let first : c.in_ok-next.next ≡ made_of old + 1 = c.in_ok-next.ensures.ok.0 in
    let many : more ≡ segments_for words = omega (arith, c.div_ceil-more.ensures) in
    let makes : Makes old new bunch (segments_for words) = subst (λ (k : ℕ). Makes old new bunch k) many c.in_ok-next.ensures.ok.1 in
    let all : IsReady (record { bunch = Some bunch; next = made_of old + 1; end = made_of old + 1 + segments_for words; used = None; words = words }) new = IsReady-reserved old new bunch words makes in
    subst (λ (k : ℕ). IsReady (record { bunch = Some bunch; next = k; end = k + more; used = None; words = words }) new) (sym first)
    (subst (λ (k : ℕ). IsReady (record { bunch = Some bunch; next = made_of old + 1; end = made_of old + 1 + k; used = None; words = words }) new) (sym many) all)
