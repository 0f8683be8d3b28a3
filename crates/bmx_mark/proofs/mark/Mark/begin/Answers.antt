use Rattle.std.proofs.Common.{◌≡◌, ℕ, ◌+◌, ◌<◌, ◌≤◌, ◌||◌, false, length, take, suc, get_or, slice_get, Some, None, List, [], ◌∷◌, ◌++◌, sym, ap, ◌∙◌, arith}
use Rattle.std.proofs.Math.Seq.{take-suc}
use Rattle.std.proofs.lemmas.Option.{slice_get-get_or, slice_get_within, get_or_from_slice_get}
use Rattle.bmx_mark.specs.Marks.{names_in, has_name, is_marked}
use Rattle.bmx_mark.proofs.Named.{names-append}
use Rattle.bmx_mark.proofs.Reaching.{IsBetween-begun, root_new, take_all}
use Rattle.bmx_mark.proofs.mark.Mark.begin.Goals as goal

pub unreachable-requires : goal.unreachable-requires
unreachable-requires g c =
    let roots = g.E.Edges.roots c.args.edges.now c.args.bunch in
    let within : c.loop-i.i < length roots = omega (arith, c.in_ok-roots.ensures.ok) in
    let both : None ≡ Some (get_or roots c.loop-i.i 0) = sym c.in_default.is ∙ c.root.ensures.value ∙ slice_get-get_or roots c.loop-i.i 0 within in
    absurd (cc)

pub loop-i-preserved : goal.loop-i-preserved
loop-i-preserved g c =
    let roots = g.E.Edges.roots c.args.edges.now c.args.bunch in
    let i = c.loop-i.i in
    let r = c.in-Some.root in
    let at : slice_get roots i ≡ Some r = sym c.in-Some.ensures.value in
    let m = c.loop-i.self in
    let marked : is_marked m r ≡ false =
    ap (λ (l : List (ℕ × ℕ)). has_name (names_in l) r || has_name (names_in m.grey) r) c.loop-i.invariant.scanned
    ∙ ap (λ l. has_name l r) c.loop-i.invariant.grey ∙ root_new roots i r c.root.ensures.rising at in
    let n = c.grey.ensures.new marked in
    record {
      grey =
          ap names_in n.grey ∙ names-append m.grey ((r, n.key) ∷ []) ∙ ap (λ l. l ++ r ∷ []) c.loop-i.invariant.grey
          ∙ sym (taken_more roots i r at);
      scanned = n.scanned ∙ c.loop-i.invariant.scanned;
      spare = omega (arith, n.spare, c.loop-i.invariant.spare);
    }
  where
    taken_more : (roots : List ℕ) (i r : ℕ) → slice_get roots i ≡ Some r → take (i + 1) roots ≡ take i roots ++ r ∷ []
    taken_more roots i r at =
        let next : i + 1 ≡ suc i = omega arith in
        ap (λ j. take j roots) next ∙ take-suc roots i 0 (slice_get_within roots i r at) ∙ ap (λ x. take i roots ++ x ∷ []) (get_or_from_slice_get roots i r 0 at)

pub returns-clause-between : goal.returns-clause-between
returns-clause-between g c =
    let roots = g.E.Edges.roots c.args.edges.now c.args.bunch in
    let all : length roots ≤ c.loop-i.i = omega (arith, c.in_ok-roots.ensures.ok) in
    IsBetween-begun roots (g.E.Edges.target_of c.args.edges.now) c.loop-i.self (c.loop-i.invariant.grey ∙ take_all roots c.loop-i.i all) c.loop-i.invariant.scanned
