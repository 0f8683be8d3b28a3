-- Which bytes are a script, and which line is the first bad one, with its cause.
use Rattle.std.specs.Prelude.{◌≡◌, ℕ, ◌+◌, ◌^◌, ◌<◌, ◌≤◌, ◌==◌, nat_lt, nat_le, Bool, true, false, not, ◌&&◌, ◌||◌, if◌then◌else◌, List, [], ◌∷◌, ◌++◌, length, Option, Some, None, is_none, Result, Ok, Err, IsTrue, refl}
use Rattle.std.specs.List.{list_any, list_all, onto_first}
use Rattle.std.specs.Str.{bytes_eq}
use Rattle.bmx_types.specs.Integers.{is_i64}
use Rattle.bmx_types.specs.declared.commands.Operand.{Operand}
use Rattle.bmx_types.specs.declared.commands.Operand.TheVariants as operand
use Rattle.bmx_types.specs.declared.commands.Command.{Command}
use Rattle.bmx_types.specs.declared.commands.Command.TheVariants as command
use Rattle.bmx_script.specs.declared.lines.Line.{Line}
use Rattle.bmx_script.specs.declared.lines.LineKind.{LineKind}
use Rattle.bmx_script.specs.declared.lines.LineKind.TheVariants as line
use Rattle.bmx_script.specs.declared.lines.Bad.{Bad}
use Rattle.bmx_script.specs.declared.lines.BadCause.{BadCause}
use Rattle.bmx_script.specs.declared.lines.BadCause.TheVariants as cause
use Rattle.bmx_script.specs.declared.knowledge.Knowledge.{Knowledge}
use Rattle.bmx_numerals.specs.Numerals.{is_digit}
use Rattle.bmx_script.specs.Bytes.{line_feed, hash, underscore, letter_a, letter_z}
use Rattle.bmx_script.specs.Spelling.{word_of, spelling, printed}

-- a byte from one to another
abbrev pub is_within : ℕ → ℕ → ℕ → Bool
is_within low high c = nat_le low c && nat_le c high

-- a lower-case letter, by its byte
abbrev pub is_letter : ℕ → Bool
is_letter c = is_within letter_a letter_z c

-- a lower-case letter, a digit or `_`
abbrev pub is_word_byte : ℕ → Bool
is_word_byte c = is_letter c || (is_digit c || (c == underscore))

abbrev pub begins_with_letter : List ℕ → Bool
begins_with_letter [] = false
begins_with_letter (c ∷ cs) = is_letter c

-- a bunch word: 1 to 16 letters, digits and `_`, beginning with a letter
abbrev pub is_bunch_word : List ℕ → Bool
is_bunch_word word = begins_with_letter word && (list_all is_word_byte word && nat_le (length word) 16)

-- two words are the same
abbrev pub same_word : List ℕ → List ℕ → Bool
same_word = bytes_eq

-- before the first line
abbrev pub nothing_known : Knowledge
nothing_known = record { section = 0; nodes = 0; bunches = []; limit = None }

-- in which section of a script a line stands, from 1
abbrev pub section_of : LineKind → ℕ
section_of line.Version = 1
section_of (line.Nodes count) = 2
section_of (line.Bunch word file) = 3
section_of (line.Segments limit) = 4
section_of (line.Table from to number fate) = 4
section_of (line.TablesLose every) = 4
section_of (line.Save bunch file) = 4
section_of line.Phase = 5
section_of line.Quiet = 5
section_of (line.Do node c) = 5
section_of (line.Collect node bunch) = 5
section_of (line.Sweep node) = 5
section_of line.Settle = 6

-- what is known behind a line
abbrev pub known_after : Knowledge → LineKind → Knowledge
known_after k (line.Nodes count) = record { section = 2; nodes = count; bunches = k.bunches; limit = k.limit }
known_after k (line.Bunch word file) = record { section = 3; nodes = k.nodes; bunches = k.bunches ++ word ∷ []; limit = k.limit }
known_after k (line.Segments limit) = record { section = 4; nodes = k.nodes; bunches = k.bunches; limit = Some limit }
known_after k what = record { section = section_of what; nodes = k.nodes; bunches = k.bunches; limit = k.limit }

-- a line of that section may stand behind one of this section: the version, the nodes and one bunch
-- in a row, then plan lines, then body lines, and the end once
abbrev pub may_follow : ℕ → ℕ → Bool
may_follow before section =
    (nat_lt before section && nat_le section (if nat_lt before 3 then before + 1 else 6))
    || ((before == section) && ((before == 4) || (before == 5)))

a_phase_behind_a_phase : may_follow (section_of line.Quiet) (section_of line.Phase) ≡ true
a_phase_behind_a_phase = refl

no_limit_behind_a_phase : may_follow (section_of line.Phase) (section_of (line.Segments 2)) ≡ false
no_limit_behind_a_phase = refl

-- a source: a register or an anchor
abbrev pub is_source : Operand → Bool
is_source (operand.Register r) = true
is_source (operand.Anchor b) = true
is_source (operand.Int k) = false
is_source operand.Null = false

-- what a command is on is a source
abbrev pub is_built_command : Command → Bool
is_built_command (command.New register bunch size) = true
is_built_command (command.Copy register value) = true
is_built_command (command.Drop register) = true
is_built_command (command.Read on) = is_source on
is_built_command (command.Write on) = is_source on
is_built_command (command.Done on) = is_source on
is_built_command (command.Set on index value) = is_source on
is_built_command (command.Add on index by) = is_source on
is_built_command (command.Get register on index) = is_source on
is_built_command (command.Show on index) = is_source on
is_built_command (command.Same left right) = true

abbrev pub is_no_file : Option (List ℕ) → Bool
is_no_file None = true
is_no_file (Some file) = false

-- the lines that a script may have so far
abbrev pub is_built : LineKind → Bool
is_built line.Version = true
is_built (line.Nodes count) = true
is_built (line.Bunch word file) = is_no_file file && is_bunch_word word
is_built (line.Segments limit) = true
is_built line.Phase = true
is_built line.Quiet = true
is_built (line.Do node c) = is_built_command c
is_built what = false

-- the bunch that an operand names
abbrev pub named_by : Operand → List ℕ
named_by (operand.Register r) = []
named_by (operand.Anchor b) = b ∷ []
named_by (operand.Int k) = []
named_by operand.Null = []

-- the bunches that a command names
abbrev pub named_in : Command → List ℕ
named_in (command.New register bunch size) = bunch ∷ []
named_in (command.Copy register value) = named_by value
named_in (command.Drop register) = []
named_in (command.Read on) = named_by on
named_in (command.Write on) = named_by on
named_in (command.Done on) = named_by on
named_in (command.Set on index value) = named_by on ++ named_by value
named_in (command.Add on index by) = named_by on
named_in (command.Get register on index) = named_by on
named_in (command.Show on index) = named_by on
named_in (command.Same left right) = named_by left ++ named_by right

-- the bunches that a line names, but for the one that it declares
abbrev pub named_on : LineKind → List ℕ
named_on (line.Do node c) = named_in c
named_on (line.Collect node bunch) = bunch ∷ []
named_on (line.Save bunch file) = bunch ∷ []
named_on what = []

-- a number in its range: registers, indexes, bunches that are known, integers of 64 bits
abbrev pub fits_operand : ℕ → Operand → Bool
fits_operand bunches (operand.Register r) = nat_lt r 16
fits_operand bunches (operand.Anchor b) = nat_lt b bunches
fits_operand bunches (operand.Int k) = is_i64 k
fits_operand bunches operand.Null = true

abbrev pub fits_command : ℕ → Command → Bool
fits_command bunches (command.New register bunch size) = nat_lt register 16 && (nat_lt bunch bunches && nat_le size 32)
fits_command bunches (command.Copy register value) = nat_lt register 16 && fits_operand bunches value
fits_command bunches (command.Drop register) = nat_lt register 16
fits_command bunches (command.Read on) = fits_operand bunches on
fits_command bunches (command.Write on) = fits_operand bunches on
fits_command bunches (command.Done on) = fits_operand bunches on
fits_command bunches (command.Set on index value) = fits_operand bunches on && (nat_lt index 256 && fits_operand bunches value)
fits_command bunches (command.Add on index by) = fits_operand bunches on && (nat_lt index 256 && is_i64 by)
fits_command bunches (command.Get register on index) = nat_lt register 16 && (fits_operand bunches on && nat_lt index 256)
fits_command bunches (command.Show on index) = fits_operand bunches on && nat_lt index 256
fits_command bunches (command.Same left right) = fits_operand bunches left && fits_operand bunches right

-- a line's numbers are in their ranges, its words are known or new as they have to be, and it isn't said
-- twice how many segments there are
abbrev pub in_range : Knowledge → LineKind → Bool
in_range k line.Version = true
in_range k (line.Nodes count) = is_within 1 8 count
in_range k (line.Bunch word file) = not (list_any (same_word word) k.bunches) && nat_lt (length k.bunches) 16
in_range k (line.Segments limit) = is_within 1 65535 limit && is_none k.limit
in_range k (line.Table from to number fate) = nat_lt from k.nodes && (nat_lt to k.nodes && (is_within 1 1000000 number && is_within 1 20000 fate.phase))
in_range k (line.TablesLose every) = is_within 2 1000 every
in_range k (line.Save bunch file) = nat_lt bunch (length k.bunches)
in_range k line.Phase = true
in_range k line.Quiet = true
in_range k (line.Do node c) = nat_lt node k.nodes && fits_command (length k.bunches) c
in_range k (line.Collect node bunch) = nat_lt node k.nodes && nat_lt bunch (length k.bunches)
in_range k (line.Sweep node) = nat_lt node k.nodes
in_range k line.Settle = true

an_eighth_node : in_range nothing_known (line.Nodes 8) ≡ true
an_eighth_node = refl

no_ninth_node : in_range nothing_known (line.Nodes 9) ≡ false
no_ninth_node = refl

-- the text is the spelling of a line that may stand here, with these words for the bunches
pub record IsSpelled (k : Knowledge) (bunches : List (List ℕ)) (what : LineKind) (text : List ℕ) : Type 0 where
  pub stands : IsTrue (may_follow k.section (section_of what))
  pub built : IsTrue (is_built what)
  pub words : IsTrue (list_all (λ b. is_bunch_word (word_of bunches b)) (named_on what))
  pub spelled : spelling bunches what ≡ text

-- some line that may stand here is spelled so, whatever the bunches are called
abbrev pub HasForm : Knowledge → List ℕ → Type 0
HasForm k text = (bunches : List (List ℕ)) × (what : LineKind) × IsSpelled k bunches what text

-- the text is this line, with the bunches that are known, and all is in range
pub record IsGood (k : Knowledge) (what : LineKind) (text : List ℕ) : Type 0 where
  pub form : IsSpelled k k.bunches what text
  pub range : IsTrue (in_range k what)

-- a line past the 20,000th, or one whose line feed, were it there, is past the first 2 ^ 20 bytes
abbrev pub is_long : ℕ → ℕ → Bool
is_long number end = nat_lt 20000 number || nat_lt (2 ^ 20) end

-- an empty text or a comment
abbrev pub is_comment : List ℕ → Bool
is_comment [] = true
is_comment (c ∷ cs) = c == hash

-- a line that is skipped, which the first is never
abbrev pub is_skipped : ℕ → List ℕ → Bool
is_skipped number text = nat_lt 1 number && is_comment text

-- why a line is bad, by its number, the number of bytes to its line feed, and its text
pub data IsBad (k : Knowledge) (number end : ℕ) (text : List ℕ) : BadCause → Type 0 where
  is_far : is_long number end ≡ true → IsBad k number end text cause.Long
  has_no_form : is_long number end ≡ false → is_skipped number text ≡ false → ¬ HasForm k text → IsBad k number end text cause.Form
  is_out_of_range : is_long number end ≡ false → is_skipped number text ≡ false → HasForm k text → ((what : LineKind) → ¬ IsGood k what text) → IsBad k number end text cause.Range

-- the lines of a text: each ends with a line feed, the last may end with the text
abbrev pub lines_of : List ℕ → List (List ℕ)
lines_of [] = []
lines_of (c ∷ cs) = if c == line_feed then [] ∷ lines_of cs else onto_first c (lines_of cs)

-- what reading comes to, from what is known, the lines so far, the number of the next line and the bytes
-- before it: all lines, or the first bad line and its cause
pub data Reads : Knowledge → List Line → ℕ → ℕ → List (List ℕ) → Result (List Line) Bad → Type 0 where
  -- the last line was read
  ends : {k : Knowledge} {lines : List Line} {number start : ℕ} → 3 ≤ k.section → Reads k lines number start [] (Ok lines)
  -- a script that ends before its first bunch ends too early
  ends_early : {k : Knowledge} {lines : List Line} {number start : ℕ} → k.section < 3 → Reads k lines number start [] (Err (record { line = number; cause = cause.End }))
  -- an empty line or a comment
  skips : {k : Knowledge} {lines : List Line} {number start : ℕ} {text : List ℕ} {texts : List (List ℕ)} {answer : Result (List Line) Bad} →
      is_long number (start + (length text + 1)) ≡ false → is_skipped number text ≡ true →
      Reads k lines (number + 1) (start + (length text + 1)) texts answer → Reads k lines number start (text ∷ texts) answer
  -- a good line
  takes : {k : Knowledge} {lines : List Line} {number start : ℕ} {text : List ℕ} {texts : List (List ℕ)} {answer : Result (List Line) Bad} (what : LineKind) →
      is_long number (start + (length text + 1)) ≡ false → is_skipped number text ≡ false → IsGood k what text →
      Reads (known_after k what) (lines ++ record { number = number; what = what } ∷ []) (number + 1) (start + (length text + 1)) texts answer →
      Reads k lines number start (text ∷ texts) answer
  -- a bad line
  stops : {k : Knowledge} {lines : List Line} {number start : ℕ} {text : List ℕ} {texts : List (List ℕ)} (why : BadCause) →
      IsBad k number (start + (length text + 1)) text why → Reads k lines number start (text ∷ texts) (Err (record { line = number; cause = why }))

-- the bytes are read as these lines, or have this first bad line
abbrev pub IsReading : List ℕ → Result (List Line) Bad → Type 0
IsReading bytes answer = Reads nothing_known [] 1 0 (lines_of bytes) answer

-- what is known behind lines
abbrev pub known_after_all : Knowledge → List Line → Knowledge
known_after_all k [] = k
known_after_all k (l ∷ ls) = known_after_all (known_after k l.what) ls

-- lines that may stand behind one another, with all in range
abbrev pub AreInOrder : Knowledge → List Line → Type 0
AreInOrder k [] = Unit {0}
AreInOrder k (l ∷ ls) =
    IsTrue (may_follow k.section (section_of l.what)) × IsTrue (is_built l.what) × IsTrue (in_range k l.what)
    × AreInOrder (known_after k l.what) ls

-- the words of the bunches of a script, by number
abbrev pub bunches_of : List Line → List (List ℕ)
bunches_of lines = (known_after_all nothing_known lines).bunches

-- the printed script: its lines at their own numbers, with the words of its bunches
abbrev pub script_text : List Line → List ℕ
script_text lines = printed (bunches_of lines) 1 lines

-- the numbers of lines rise, and are above one number and below another
abbrev pub AreNumbered : ℕ → ℕ → List Line → Type 0
AreNumbered above below [] = above < below
AreNumbered above below (l ∷ ls) = (above < l.number) × AreNumbered l.number below ls

-- the number of the first line, or of the next where there is none
abbrev pub first_number : ℕ → List Line → ℕ
first_number next [] = next
first_number next (l ∷ ls) = l.number

-- the lines of a script: they have their head, are in order, stand at rising numbers from 1 to 20,000,
-- and print to 2 ^ 20 bytes at most
pub record AreScript (lines : List Line) : Type 0 where
  pub order : AreInOrder nothing_known lines
  pub head : IsTrue (nat_le 3 (known_after_all nothing_known lines).section)
  pub few : length lines ≤ 20000
  pub first : first_number 1 lines ≡ 1
  pub numbers : AreNumbered 0 20001 lines
  pub short : length (script_text lines) ≤ 2 ^ 20

-- how many nodes a script has
abbrev pub nodes_of : List Line → ℕ
nodes_of lines = (known_after_all nothing_known lines).nodes

-- how many segments a node may make: 4,096 unless a line says another number
abbrev pub limit_in : Option ℕ → ℕ
limit_in None = 4096
limit_in (Some limit) = limit

abbrev pub limit_of : List Line → ℕ
limit_of lines = limit_in (known_after_all nothing_known lines).limit
