-- Reading on over one line, by what it comes to.
use Rattle.std.proofs.Common.{◌≡◌, ℕ, ◌+◌, ◌<◌, ◌≤◌, List, [], ◌∷◌, ◌++◌, length, Result, Ok, Err, refl, sym, subst}
use Rattle.bmx_script.specs.declared.knowledge.Knowledge.{Knowledge}
use Rattle.bmx_script.specs.declared.lines.Line.{Line}
use Rattle.bmx_script.specs.declared.lines.LineKind.{LineKind}
use Rattle.bmx_script.specs.declared.lines.Bad.{Bad}
use Rattle.bmx_script.specs.declared.lines.BadCause.{BadCause}
use Rattle.bmx_script.specs.declared.lines.BadCause.TheVariants as cause
use Rattle.bmx_script.specs.Inside.Verdicts.{Verdict}
use Rattle.bmx_script.specs.Inside.Verdicts as verdict
use Rattle.bmx_script.specs.Grammar.{known_after, Reads, ends, ends_early, skips, takes, stops}
use Rattle.bmx_script.specs.Inside.Reader.{IsVerdict}

-- one of three, by what a line comes to
abbrev pub ByVerdict : Verdict → Type 0 → (LineKind → Type 0) → (BadCause → Type 0) → Type 0
ByVerdict verdict.Skipped Skip Line Stop = Skip
ByVerdict (verdict.Is what) Skip Line Stop = Line what
ByVerdict (verdict.Wrong cause) Skip Line Stop = Stop cause

-- what reading comes to behind a line
abbrev pub GoesOn : Knowledge → List Line → ℕ → ℕ → List (List ℕ) → Result (List Line) Bad → Verdict → Type 0
GoesOn k lines number end texts answer v = ByVerdict v
    (Reads k lines (number + 1) end texts answer)
    (λ what. Reads (known_after k what) (lines ++ record { number = number; what = what } ∷ []) (number + 1) end texts answer)
    (λ why. answer ≡ Err (record { line = number; cause = why }))

-- what is known of the first line of texts that were read
pub record IsOpened (k : Knowledge) (lines : List Line) (number start : ℕ) (text : List ℕ) (texts : List (List ℕ)) (answer : Result (List Line) Bad) : Type 0 where
  pub verdict : Verdict
  pub is : IsVerdict k number (start + (length text + 1)) text verdict
  pub on : GoesOn k lines number (start + (length text + 1)) texts answer verdict

pub opened : (k : Knowledge) (lines : List Line) (number start : ℕ) (text : List ℕ) (texts : List (List ℕ)) (answer : Result (List Line) Bad)
    → Reads k lines number start (text ∷ texts) answer → IsOpened k lines number start text texts answer
opened k lines number start text texts answer (skips near skipped on) = record { verdict = verdict.Skipped; is = (near, skipped); on = on }
opened k lines number start text texts answer (takes what near not_skipped good on) = record { verdict = verdict.Is what; is = (near, not_skipped, good); on = on }
opened k lines number start text texts answer (stops why bad) = record { verdict = verdict.Wrong why; is = bad; on = refl }

pub closed : (k : Knowledge) (lines : List Line) (number start : ℕ) (text : List ℕ) (texts : List (List ℕ)) (answer : Result (List Line) Bad) (v : Verdict)
    → IsVerdict k number (start + (length text + 1)) text v → GoesOn k lines number (start + (length text + 1)) texts answer v → Reads k lines number start (text ∷ texts) answer
closed k lines number start text texts answer verdict.Skipped is on = skips is.0 is.1 on
closed k lines number start text texts answer (verdict.Is what) is on = takes what is.0 is.1 is.2 on
closed k lines number start text texts answer (verdict.Wrong why) is on =
    subst (λ (a : Result (List Line) Bad). Reads k lines number start (text ∷ texts) a) (sym on) (stops why is)

-- what no line is left of
pub data IsEnded (k : Knowledge) (lines : List Line) (number : ℕ) (answer : Result (List Line) Bad) : Type 0 where
  Whole : 3 ≤ k.section → answer ≡ Ok lines → IsEnded k lines number answer
  Early : k.section < 3 → answer ≡ Err (record { line = number; cause = cause.End }) → IsEnded k lines number answer

pub ended : (k : Knowledge) (lines : List Line) (number start : ℕ) (answer : Result (List Line) Bad) → Reads k lines number start [] answer → IsEnded k lines number answer
ended k lines number start answer (ends whole) = Whole whole refl
ended k lines number start answer (ends_early early) = Early early refl
