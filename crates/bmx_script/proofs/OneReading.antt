-- Bytes have one reading: each line comes to one verdict.
use Rattle.std.proofs.Common.{◌≡◌, ℕ, ◌+◌, cond, List, [], ◌∷◌, ◌++◌, length, Result, Err, refl, ap, sym, ◌∙◌, subst, arith, Ok}
use Rattle.bmx_numerals.specs.declared.words.Misfit.{Misfit}
use Rattle.bmx_numerals.specs.declared.words.Misfit.TheVariants.{Form, Range}
use Rattle.bmx_script.specs.declared.knowledge.Knowledge.{Knowledge}
use Rattle.bmx_script.specs.declared.lines.Line.{Line}
use Rattle.bmx_script.specs.declared.lines.LineKind.{LineKind}
use Rattle.bmx_script.specs.declared.lines.Bad.{Bad}
use Rattle.bmx_script.specs.declared.lines.BadCause.{BadCause}
use Rattle.bmx_script.specs.declared.lines.BadCause.TheVariants as cause
use Rattle.bmx_script.specs.Inside.Verdicts.{Verdict}
use Rattle.bmx_script.specs.Inside.Verdicts as verdict
use Rattle.bmx_script.specs.Grammar.{nothing_known, known_after, is_long, is_skipped, lines_of, HasForm, IsGood, IsBad, is_far, has_no_form, is_out_of_range, Reads}
use Rattle.bmx_script.specs.Inside.Distinct.{AreDistinct}
use Rattle.bmx_script.specs.Laws.{ReadingIsDetermined}
use Rattle.bmx_script.specs.Inside.Parsing.{read_line}
use Rattle.bmx_script.specs.Inside.Reader.{verdict_of, IsVerdict}
use Rattle.bmx_script.proofs.Opened.{GoesOn, IsOpened, opened, IsEnded, Whole, Early, ended}
use Rattle.bmx_script.proofs.Exact.{Tells, exact, good_is_read}
use Rattle.bmx_script.proofs.Sound.{distinct_after}

-- the verdict that the reader comes to
abbrev judged : Knowledge → ℕ → ℕ → List ℕ → Verdict
judged k number end text = cond (is_long number end) (verdict.Wrong cause.Long) (cond (is_skipped number text) verdict.Skipped (verdict_of (read_line k text)))

has_form : (k : Knowledge) (what : LineKind) (text : List ℕ) → IsGood k what text → HasForm k text
has_form k what text g = (k.bunches, what, g.form)

no_form : (k : Knowledge) (text : List ℕ) (f : Result LineKind Misfit) → Tells k text f → ¬ HasForm k text → f ≡ Err Form
no_form k text (Err Form) tells none = refl
no_form k text (Err Range) tells none = absurd (none tells.0)
no_form k text (Ok what) tells none = absurd (none (has_form k what text tells))

out_of_range : (k : Knowledge) (text : List ℕ) (f : Result LineKind Misfit) → Tells k text f → HasForm k text → ((what : LineKind) → ¬ IsGood k what text) → f ≡ Err Range
out_of_range k text (Err Form) tells form none = absurd (tells form)
out_of_range k text (Err Range) tells form none = refl
out_of_range k text (Ok what) tells form none = absurd (none what tells)

bad_is_judged : (k : Knowledge) (number end : ℕ) (text : List ℕ) (why : BadCause) → AreDistinct k.bunches → IsBad k number end text why → verdict.Wrong why ≡ judged k number end text
bad_is_judged k number end text cause.Long distinct (is_far far) = rw far refl
bad_is_judged k number end text cause.Form distinct (has_no_form near here none) = rw (near, here) (sym (ap verdict_of (no_form k text (read_line k text) (exact k text distinct) none)))
bad_is_judged k number end text cause.Range distinct (is_out_of_range near here form none) = rw (near, here) (sym (ap verdict_of (out_of_range k text (read_line k text) (exact k text distinct) form none)))
bad_is_judged k number end text cause.End distinct x = elim x [ ]

is_judged : (k : Knowledge) (number end : ℕ) (text : List ℕ) (v : Verdict) → AreDistinct k.bunches → IsVerdict k number end text v → v ≡ judged k number end text
is_judged k number end text verdict.Skipped distinct h = rw (h.0, h.1) refl
is_judged k number end text (verdict.Is what) distinct h = rw (h.0, h.1) (sym (ap verdict_of (good_is_read k what text distinct h.2)))
is_judged k number end text (verdict.Wrong why) distinct h = bad_is_judged k number end text why distinct h

-- the same answer behind the same verdict
goes_on : (k : Knowledge) (lines : List Line) (number end : ℕ) (text : List ℕ) (texts : List (List ℕ)) (a b : Result (List Line) Bad)
    → ((j : Knowledge) (ls : List Line) (n s : ℕ) → AreDistinct j.bunches → Reads j ls n s texts a → Reads j ls n s texts b → a ≡ b)
    → AreDistinct k.bunches → (v : Verdict) → IsVerdict k number end text v → GoesOn k lines number end texts a v → GoesOn k lines number end texts b v → a ≡ b
goes_on k lines number end text texts a b then distinct verdict.Skipped h p q = then k lines (number + 1) end distinct p q
goes_on k lines number end text texts a b then distinct (verdict.Is what) h p q =
    then (known_after k what) (lines ++ record { number = number; what = what } ∷ []) (number + 1) end (distinct_after k what distinct h.2.range) p q
goes_on k lines number end text texts a b then distinct (verdict.Wrong why) h p q = p ∙ sym q

one_end : (k : Knowledge) (lines : List Line) (number : ℕ) (a b : Result (List Line) Bad) → IsEnded k lines number a → IsEnded k lines number b → a ≡ b
one_end k lines number a b (Whole h p) (Whole g q) = p ∙ sym q
one_end k lines number a b (Whole h p) (Early g q) = absurd (omega arith)
one_end k lines number a b (Early h p) (Whole g q) = absurd (omega arith)
one_end k lines number a b (Early h p) (Early g q) = p ∙ sym q

one_answer : (texts : List (List ℕ)) (a b : Result (List Line) Bad) (k : Knowledge) (lines : List Line) (number start : ℕ) → AreDistinct k.bunches
    → Reads k lines number start texts a → Reads k lines number start texts b → a ≡ b
one_answer [] a b k lines number start distinct p q = one_end k lines number a b (ended k lines number start a p) (ended k lines number start b q)
one_answer (text ∷ texts) a b k lines number start distinct p q =
    let end : ℕ = start + (length text + 1) in
    let first : IsOpened k lines number start text texts a = opened k lines number start text texts a p in
    let second : IsOpened k lines number start text texts b = opened k lines number start text texts b q in
    let same : second.verdict ≡ first.verdict = is_judged k number end text second.verdict distinct second.is ∙ sym (is_judged k number end text first.verdict distinct first.is) in
    goes_on k lines number end text texts a b (λ j ls n s d x y. one_answer texts a b j ls n s d x y) distinct first.verdict first.is first.on
    (subst (λ (v : Verdict). GoesOn k lines number end texts b v) same second.on)

pub reading_is_determined : ReadingIsDetermined
reading_is_determined bytes a b p q = one_answer (lines_of bytes) a b nothing_known [] 1 0 (λ x y h below. absurd (omega arith)) p q
