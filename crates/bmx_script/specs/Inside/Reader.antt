-- The state of the reader between two lines, and what reading on from it comes to: for private functions and proofs.
use Rattle.std.specs.Prelude.{◌≡◌, ℕ, ◌+◌, ◌-◌, ◌^◌, ◌<◌, ◌≤◌, List, [], ◌∷◌, ◌++◌, length, true, false, Result, Ok, Err}
use Rattle.bmx_numerals.specs.declared.words.Misfit.{Misfit}
use Rattle.bmx_numerals.specs.declared.words.Misfit.TheVariants.{Form, Range}
use Rattle.bmx_script.specs.declared.lines.LineKind.{LineKind}
use Rattle.bmx_script.specs.declared.lines.BadCause.TheVariants as cause
use Rattle.bmx_script.specs.declared.lines.BadCause.{BadCause}
use Rattle.bmx_script.specs.Inside.Verdicts.{Verdict}
use Rattle.bmx_script.specs.Inside.Verdicts as verdict
use Rattle.bmx_script.specs.declared.knowledge.Knowledge.{Knowledge}
use Rattle.bmx_script.specs.declared.lines.Line.{Line}
use Rattle.bmx_script.specs.declared.lines.Bad.{Bad}
use Rattle.bmx_script.specs.declared.scripts.Reader.{Reader}
use Rattle.bmx_script.specs.Spelling.{spelling}
use Rattle.bmx_script.specs.Grammar.{is_long, is_skipped, IsGood, IsBad, Reads, AreInOrder, AreNumbered, first_number, nothing_known, known_after, known_after_all}
use Rattle.bmx_script.specs.Inside.Distinct.{AreDistinct}

-- there are at most 8 nodes and 16 bunches
pub record HasRoom (k : Knowledge) : Type 0 where
  pub few_nodes : k.nodes ≤ 8
  pub few_bunches : length k.bunches ≤ 16

-- what reading the texts from here comes to
abbrev pub ReadsOn : Reader → List (List ℕ) → Result (List Line) Bad → Type 0
ReadsOn r texts answer = Reads r.known r.lines r.number r.start texts answer

-- how many bytes there are up to the line feed of a line that begins here
abbrev pub end_of : Reader → List ℕ → ℕ
end_of r text = r.start + (length text + 1)

-- what a line comes to, by its number, the number of bytes to its line feed, and its text
abbrev pub IsVerdict : Knowledge → ℕ → ℕ → List ℕ → Verdict → Type 0
IsVerdict k number end text verdict.Skipped = (is_long number end ≡ false) × (is_skipped number text ≡ true)
IsVerdict k number end text (verdict.Is what) = (is_long number end ≡ false) × (is_skipped number text ≡ false) × IsGood k what text
IsVerdict k number end text (verdict.Wrong why) = IsBad k number end text why

-- with a line more
abbrev pub noted : Reader → LineKind → Reader
noted r what = record {
  known = known_after r.known what;
  lines = r.lines ++ record { number = r.number; what = what } ∷ [];
  number = r.number;
  start = r.start;
}

-- what is wrong with a line of which no word is read, or one outside its range
abbrev pub cause_of : Misfit → BadCause
cause_of Form = cause.Form
cause_of Range = cause.Range

-- what a line comes to that is neither too far behind nor skipped
abbrev pub verdict_of : Result LineKind Misfit → Verdict
verdict_of (Err why) = verdict.Wrong (cause_of why)
verdict_of (Ok what) = verdict.Is what

-- how many bytes lines print from a line number on to another, by what is known before each
abbrev pub print_length : Knowledge → ℕ → List Line → ℕ → ℕ
print_length k number [] next = next - number
print_length k number (l ∷ ls) next =
    l.number - number + (length (spelling k.bunches l.what) + 1) + print_length (known_after k l.what) (l.number + 1) ls next

-- the lines so far are in order, what is known is what they say, and they print to no more bytes than
-- were read
pub record IsSound (r : Reader) : Type 0 where
  pub order : AreInOrder nothing_known r.lines
  pub known : r.known ≡ known_after_all nothing_known r.lines
  pub distinct : AreDistinct r.known.bunches
  pub room : HasRoom r.known
  pub some : length r.lines < r.number
  pub few : r.number ≤ 20001
  pub short : r.start ≤ 2 ^ 20
  pub first : first_number r.number r.lines ≡ 1
  pub numbers : AreNumbered 0 r.number r.lines
  pub printed : print_length nothing_known 1 r.lines r.number ≤ r.start
