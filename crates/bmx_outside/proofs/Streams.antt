-- Told bytes over several reads and writes.
use Rattle.std.proofs.Common.{◌≡◌, ℕ, ◌+◌, ◌-◌, ◌≤◌, List, Option, ◌++◌, ◌∙◌, length, take, drop, sym, ap, arith, length-append, length-take, length-drop}
use Rattle.std.proofs.Math.Nat.{add-sub_cancel_left}
use Rattle.std.proofs.Math.Seq.{take-add, take-append_seam}
use Rattle.std.proofs.lemmas.List.{take-append-drop, drop-drop}
use Rattle.std.proofs.KnownBytes.{Appends-trans, Consumes-trans}
use Rattle.std.specs.Io.KnownBytes.{Appends, Consumes}

-- a prefix of a text is written, and then some of the rest: a longer prefix of the text is
pub Appends-take_add : (a b c : Option (List ℕ)) (text : List ℕ) (at k : ℕ) → Appends a b (take at text) → Appends b c (take k (drop at text)) → Appends a c (take (at + k) text)
Appends-take_add a b c text at k first second =
    rw take-add (Appends-trans a b c _ _ first second)

-- some bytes were read, and then the start of a piece: both together were
pub Consumes-both : (a b c : Option (List ℕ)) (bytes piece : List ℕ) (k limit : ℕ) → Consumes a b bytes → Consumes b c (take k piece) → length bytes + k ≤ limit
    → (all : List ℕ) × Consumes a c all × (length all ≤ limit)
Consumes-both a b c bytes piece k limit first second fits =
    (bytes ++ take k piece, Consumes-trans a b c _ _ first second, omega (arith, length-append bytes (take k piece), length-take k piece))

-- a part of the items is copied to the start of a buffer: what was left is that prefix and then the rest
pub Consumes-copied : (items copied rest left : List ℕ) (at count : ℕ) → left ≡ drop at items → copied ≡ take ((at + count) - at) (drop at items) → at + count ≤ length items
    → left ≡ take count (copied ++ rest) ++ drop (at + count) items
Consumes-copied items copied rest left at count is_left is_copied fits =
    let same : copied ≡ take count (drop at items) = is_copied ∙ ap (λ n. take n (drop at items)) (add-sub_cancel_left at count) in
    let long : length copied ≡ count = omega (arith, ap length same, length-take count (drop at items), length-drop at items) in
    let front : take count (copied ++ rest) ≡ copied = ap (λ n. take n (copied ++ rest)) (sym long) ∙ take-append_seam copied rest in
    cc (take-append-drop count (drop at items), drop-drop count at items)
