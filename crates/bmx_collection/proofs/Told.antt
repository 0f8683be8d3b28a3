-- What a collector's step is told is one.
use Rattle.std.proofs.Common.{◌≡◌, ℕ, List, sym, ◌∙◌, subst}
use Rattle.bmx_owner.specs.declared.entering.Record.{Record}
use Rattle.bmx_owner.proofs.Found.{same_records}
use Rattle.bmx_protocol.specs.Nodes.{AreAll}
use Rattle.bmx_collection.specs.Steps.{LinkedNode, CollectorInput, Collect, Sweep, MakeTable, TakeTable, CollectorTold, IsCollectorTold, IsToldRecords, IsToKeep, IsToFit, IsToGo, IsToList, IsToDrop}
use Rattle.bmx_collection.proofs.Rising.{same_lists}

told_records : (n : LinkedNode) (i : CollectorInput) (xs ys : List Record) → IsToldRecords n i xs → IsToldRecords n i ys → xs ≡ ys
told_records n (Collect bunch) xs ys a b = a ∙ sym b
told_records n Sweep xs ys a b = a ∙ sym b
told_records n (MakeTable bunch to) xs ys a b = a ∙ sym b
told_records n (TakeTable table) xs ys a b = same_records xs ys a.in_order b.in_order (λ name node. a.all name node ∙ sym (b.all name node))

pub one_told : (me : ℕ) (n : LinkedNode) (i : CollectorInput) (t u : CollectorTold) → IsCollectorTold me n i t → IsCollectorTold me n i u → t ≡ u
one_told me n i t u a b =
    let kept : t.kept ≡ u.kept = same_lists (IsToKeep n i) t.kept u.kept a.kept b.kept in
    let owned : t.owned ≡ u.owned = same_lists (IsToFit n i) t.owned u.owned a.owned b.owned in
    let gone : t.gone ≡ u.gone = same_lists (IsToGo n u.kept i) t.gone u.gone (subst (λ kept. AreAll (IsToGo n kept i) t.gone) kept a.gone) b.gone in
    let children : t.children ≡ u.children = same_lists (IsToList n i) t.children u.children a.children b.children in
    let records : t.records ≡ u.records = told_records n i t.records u.records a.records b.records in
    let dropped : t.dropped ≡ u.dropped = same_lists (IsToDrop me n i) t.dropped u.dropped a.dropped b.dropped in
    λ j. record { kept = kept j; owned = owned j; gone = gone j; children = children j; records = records j; dropped = dropped j }
