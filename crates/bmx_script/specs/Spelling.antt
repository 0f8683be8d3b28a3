-- What each line of a script spells, and what lines print. A line is words with one space between two of them. Numbers and
-- words are any here, also those out of range: which lines a script may have, Grammar says.
use Rattle.std.specs.Prelude.{◌≡◌, ℕ, ◌+◌, ◌-◌, ◌==◌, if◌then◌else◌, List, [], ◌∷◌, ◌++◌, replicate, slice_index_or, Option, Some, None, codes, refl}
use Rattle.std.specs.List.{join_with_byte}
use Rattle.bmx_types.specs.declared.commands.Operand.{Operand}
use Rattle.bmx_types.specs.declared.commands.Operand.TheVariants as operand
use Rattle.bmx_types.specs.declared.commands.Command.{Command}
use Rattle.bmx_types.specs.declared.commands.Command.TheVariants as command
use Rattle.bmx_script.specs.declared.lines.Fate.{Fate}
use Rattle.bmx_script.specs.declared.lines.Line.{Line}
use Rattle.bmx_script.specs.declared.lines.LineKind.{LineKind}
use Rattle.bmx_script.specs.declared.lines.LineKind.TheVariants as line
use Rattle.bmx_numerals.specs.Numerals.{numeral, signed_numeral}
use Rattle.bmx_script.specs.Bytes.{space, line_feed, letter_r, at_sign}

-- the word of a bunch, by its number among the bunches of the script
abbrev pub word_of : List (List ℕ) → ℕ → List ℕ
word_of bunches b = slice_index_or bunches b []

-- a register: `r` and its number
abbrev pub register_word : ℕ → List ℕ
register_word r = letter_r ∷ numeral r

-- an operand; an anchor is `@` and the word of its bunch
abbrev pub operand_word : List (List ℕ) → Operand → List ℕ
operand_word bunches (operand.Register r) = register_word r
operand_word bunches (operand.Anchor b) = at_sign ∷ word_of bunches b
operand_word bunches (operand.Int k) = signed_numeral k
operand_word bunches operand.Null = codes "null"

-- what a command does
abbrev pub verb_word : Command → List ℕ
verb_word (command.New register bunch size) = codes "new"
verb_word (command.Copy register value) = codes "copy"
verb_word (command.Drop register) = codes "drop"
verb_word (command.Read on) = codes "read"
verb_word (command.Write on) = codes "write"
verb_word (command.Done on) = codes "done"
verb_word (command.Set on index value) = codes "set"
verb_word (command.Add on index by) = codes "add"
verb_word (command.Get register on index) = codes "get"
verb_word (command.Show on index) = codes "show"
verb_word (command.Same left right) = codes "same"

-- what it does that to
abbrev pub operand_words : List (List ℕ) → Command → List (List ℕ)
operand_words bunches (command.New register bunch size) = register_word register ∷ word_of bunches bunch ∷ numeral size ∷ []
operand_words bunches (command.Copy register value) = register_word register ∷ operand_word bunches value ∷ []
operand_words bunches (command.Drop register) = register_word register ∷ []
operand_words bunches (command.Read on) = operand_word bunches on ∷ []
operand_words bunches (command.Write on) = operand_word bunches on ∷ []
operand_words bunches (command.Done on) = operand_word bunches on ∷ []
operand_words bunches (command.Set on index value) = operand_word bunches on ∷ numeral index ∷ operand_word bunches value ∷ []
operand_words bunches (command.Add on index by) = operand_word bunches on ∷ numeral index ∷ signed_numeral by ∷ []
operand_words bunches (command.Get register on index) = register_word register ∷ operand_word bunches on ∷ numeral index ∷ []
operand_words bunches (command.Show on index) = operand_word bunches on ∷ numeral index ∷ []
operand_words bunches (command.Same left right) = operand_word bunches left ∷ operand_word bunches right ∷ []

-- a command without its node
abbrev pub command_words : List (List ℕ) → Command → List (List ℕ)
command_words bunches c = verb_word c ∷ operand_words bunches c

-- where a bunch is loaded from
abbrev pub from_words : Option (List ℕ) → List (List ℕ)
from_words None = []
from_words (Some file) = codes "from" ∷ file ∷ []

-- how often a table is taken, or from which phase on
abbrev pub fate_words : Fate → List (List ℕ)
fate_words fate =
    if fate.times == 0 then codes "lose" ∷ []
    else (if fate.times == 1 then codes "after" ∷ numeral fate.phase ∷ []
    else (if fate.times == 2 then codes "twice" ∷ [] else codes "thrice" ∷ []))

-- the words of a line
abbrev pub line_words : List (List ℕ) → LineKind → List (List ℕ)
line_words bunches line.Version = codes "bmx" ∷ codes "1" ∷ []
line_words bunches (line.Nodes count) = codes "nodes" ∷ numeral count ∷ []
line_words bunches (line.Bunch word file) = codes "bunch" ∷ word ∷ from_words file
line_words bunches (line.Segments limit) = codes "segments" ∷ numeral limit ∷ []
line_words bunches (line.Table from to number fate) = codes "table" ∷ numeral from ∷ numeral to ∷ numeral number ∷ fate_words fate
line_words bunches (line.TablesLose every) = codes "tables" ∷ codes "lose" ∷ codes "every" ∷ numeral every ∷ []
line_words bunches (line.Save bunch file) = codes "save" ∷ word_of bunches bunch ∷ file ∷ []
line_words bunches line.Phase = codes "phase" ∷ []
line_words bunches line.Quiet = codes "quiet" ∷ []
line_words bunches (line.Do node command) = numeral node ∷ command_words bunches command
line_words bunches (line.Collect node bunch) = numeral node ∷ codes "collect" ∷ word_of bunches bunch ∷ []
line_words bunches (line.Sweep node) = numeral node ∷ codes "sweep" ∷ []
line_words bunches line.Settle = codes "settle" ∷ []

-- words, each behind a space
abbrev pub spaced : List (List ℕ) → List ℕ
spaced [] = []
spaced (w ∷ ws) = space ∷ (w ++ spaced ws)

-- the bytes of a line, without its line feed
abbrev pub spelling : List (List ℕ) → LineKind → List ℕ
spelling bunches what = join_with_byte space (line_words bunches what)

a_value_by_its_anchor : spelling (codes "main" ∷ []) (line.Do 0 (command.Set (operand.Register 5) 31 (operand.Anchor 0))) ≡ codes "0 set r5 31 @main"
a_value_by_its_anchor = refl

the_end_of_a_phase : spelling [] line.Quiet ≡ codes "quiet"
the_end_of_a_phase = refl

a_table_of_a_late_phase : spelling [] (line.Table 1 0 2 (record { times = 1; phase = 8 })) ≡ codes "table 1 0 2 after 8"
a_table_of_a_late_phase = refl

-- lines from a line number on, each at its own number and with a line feed behind it;
-- what was skipped between them is empty lines
abbrev pub printed : List (List ℕ) → ℕ → List Line → List ℕ
printed bunches number [] = []
printed bunches number (l ∷ ls) =
    replicate (l.number - number) line_feed ++ (spelling bunches l.what ++ line_feed ∷ printed bunches (l.number + 1) ls)

a_line_at_three : printed [] 2 (record { number = 3; what = line.Nodes 1 } ∷ []) ≡ 10 ∷ codes "nodes 1" ++ 10 ∷ []
a_line_at_three = refl
