-- How a line is read, word by word: what the reader computes. That this is what Grammar says of
-- spellings is proved in proofs/Exact.
use Rattle.std.specs.Prelude.{ℕ, ◌==◌, nat_lt, not, ◌&&◌, ◌||◌, if◌then◌else◌, List, [], ◌∷◌, length, Option, Some, None, codes, Bool, false, Result, Ok, Err}
use Rattle.std.specs.List.{list_any, position_from, slice_split}
use Rattle.bmx_types.specs.declared.commands.Operand.{Operand}
use Rattle.bmx_types.specs.declared.commands.Operand.TheVariants as operand
use Rattle.bmx_types.specs.declared.commands.Command.{Command}
use Rattle.bmx_types.specs.declared.commands.Command.TheVariants as command
use Rattle.bmx_numerals.specs.declared.words.Misfit.{Misfit}
use Rattle.bmx_numerals.specs.declared.words.Misfit.TheVariants.{Form, Range}
use Rattle.bmx_numerals.specs.Words.{read_below, read_within, read_integer, read_both}
use Rattle.bmx_script.specs.declared.lines.LineKind.{LineKind}
use Rattle.bmx_script.specs.declared.lines.LineKind.TheVariants as line
use Rattle.bmx_script.specs.declared.knowledge.Knowledge.{Knowledge}
use Rattle.bmx_script.specs.declared.knowledge.Section.{Section}
use Rattle.bmx_script.specs.declared.knowledge.Section.TheVariants as section
use Rattle.bmx_script.specs.Bytes.{space, letter_r, at_sign}
use Rattle.bmx_script.specs.Grammar.{may_follow, is_bunch_word, same_word}

-- the number of a section of a script, from 1
abbrev pub number_of : Section → ℕ
number_of section.Version = 1
number_of section.Nodes = 2
number_of section.Bunches = 3
number_of section.Plan = 4
number_of section.Body = 5
number_of section.End = 6

-- what stands between two words
abbrev pub is_space : ℕ → Bool
is_space c = c == space

-- the same reading of another value
abbrev pub map_read : {A B : Type 0} → (A → B) → Result A Misfit → Result B Misfit
map_read f (Err why) = Err why
map_read f (Ok x) = Ok (f x)

-- a register's number: behind an `r`
abbrev pub read_register : List ℕ → Result ℕ Misfit
read_register [] = Err Form
read_register (c ∷ word) = if c == letter_r then read_below 16 word else Err Form

-- the number of a bunch, by its word
abbrev pub found_bunch : Option ℕ → Result ℕ Misfit
found_bunch None = Err Range
found_bunch (Some b) = Ok b

abbrev pub read_bunch : Knowledge → List ℕ → Result ℕ Misfit
read_bunch k word = if is_bunch_word word then found_bunch (position_from (same_word word) 0 k.bunches) else Err Form

-- a source: a register, or `@` and a bunch word, for the anchor of that bunch
abbrev pub read_source : Knowledge → List ℕ → Result Operand Misfit
read_source k [] = Err Form
read_source k (c ∷ word) =
    if c == at_sign then map_read (λ b. operand.Anchor b) (read_bunch k word)
    else map_read (λ r. operand.Register r) (read_register (c ∷ word))

-- a word that begins as a source does
abbrev pub begins_as_source : List ℕ → Bool
begins_as_source [] = false
begins_as_source (c ∷ word) = (c == at_sign) || (c == letter_r)

-- a value: `null`, a source or an integer
abbrev pub read_value : Knowledge → List ℕ → Result Operand Misfit
read_value k word =
    if same_word word (codes "null") then Ok operand.Null
    else (if begins_as_source word then read_source k word
    else map_read (λ z. operand.Int z) (read_integer word))

-- a field of an object: a source and an index
abbrev pub read_place : Knowledge → List ℕ → List ℕ → Result (Operand × ℕ) Misfit
read_place k on index = read_both (read_source k on) (read_below 256 index)

-- a command by its verb and the words behind it
abbrev pub of_one : Knowledge → List ℕ → List ℕ → Result Command Misfit
of_one k verb a =
    if same_word verb (codes "drop") then map_read (λ r. command.Drop r) (read_register a)
    else (if same_word verb (codes "read") then map_read (λ o. command.Read o) (read_source k a)
    else (if same_word verb (codes "write") then map_read (λ o. command.Write o) (read_source k a)
    else (if same_word verb (codes "done") then map_read (λ o. command.Done o) (read_source k a)
    else Err Form)))

abbrev pub of_two : Knowledge → List ℕ → List ℕ → List ℕ → Result Command Misfit
of_two k verb a b =
    if same_word verb (codes "copy") then map_read (λ p. command.Copy p.0 p.1) (read_both (read_register a) (read_value k b))
    else (if same_word verb (codes "show") then map_read (λ p. command.Show p.0 p.1) (read_place k a b)
    else (if same_word verb (codes "same") then map_read (λ p. command.Same p.0 p.1) (read_both (read_value k a) (read_value k b))
    else Err Form))

abbrev pub of_three : Knowledge → List ℕ → List ℕ → List ℕ → List ℕ → Result Command Misfit
of_three k verb a b c =
    if same_word verb (codes "new") then map_read (λ p. command.New p.0.0 p.0.1 p.1) (read_both (read_both (read_register a) (read_bunch k b)) (read_below 33 c))
    else (if same_word verb (codes "set") then map_read (λ p. command.Set p.0.0 p.0.1 p.1) (read_both (read_place k a b) (read_value k c))
    else (if same_word verb (codes "add") then map_read (λ p. command.Add p.0.0 p.0.1 p.1) (read_both (read_place k a b) (read_integer c))
    else (if same_word verb (codes "get") then map_read (λ p. command.Get p.0 p.1.0 p.1.1) (read_both (read_register a) (read_place k b c))
    else Err Form)))

abbrev pub read_command : Knowledge → List ℕ → List (List ℕ) → Result Command Misfit
read_command k verb [] = Err Form
read_command k verb (a ∷ []) = of_one k verb a
read_command k verb (a ∷ b ∷ []) = of_two k verb a b
read_command k verb (a ∷ b ∷ c ∷ []) = of_three k verb a b c
read_command k verb (a ∷ b ∷ c ∷ d ∷ more) = Err Form

-- a line of a node: its number, a verb and the words behind it
abbrev pub node_line : Knowledge → List ℕ → List ℕ → List (List ℕ) → Result LineKind Misfit
node_line k node verb operands = map_read (λ p. line.Do p.0 p.1) (read_both (read_below k.nodes node) (read_command k verb operands))

-- a line of a node in its place, by its command
abbrev pub placed_line : Knowledge → List ℕ → Result Command Misfit → Result LineKind Misfit
placed_line k node c = if may_follow k.section 5 then map_read (λ p. line.Do p.0 p.1) (read_both (read_below k.nodes node) c) else Err Form

-- the version
abbrev pub read_version : List ℕ → Result LineKind Misfit
read_version word = if same_word word (codes "1") then Ok line.Version else Err Form

-- how many nodes there are
abbrev pub read_nodes : List ℕ → Result LineKind Misfit
read_nodes word = map_read (λ n. line.Nodes n) (read_within 1 8 word)

-- how many segments a node may make is said once
abbrev pub first_limit : Option ℕ → Result (Unit {0}) Misfit
first_limit None = Ok tt
first_limit (Some limit) = Err Range

abbrev pub read_segments : Knowledge → List ℕ → Result LineKind Misfit
read_segments k word = map_read (λ p. line.Segments p.0) (read_both (read_within 1 65535 word) (first_limit k.limit))

-- a line of a key and a number, in its place
abbrev pub setting_line : Knowledge → List ℕ → List ℕ → Result LineKind Misfit
setting_line k key word =
    if same_word key (codes "bmx") && may_follow k.section 1 then read_version word
    else (if same_word key (codes "nodes") && may_follow k.section 2 then read_nodes word
    else (if same_word key (codes "segments") && may_follow k.section 4 then read_segments k word
    else Err Form))

-- a bunch with a word of its own
abbrev pub declared_bunch : Knowledge → List ℕ → Result LineKind Misfit
declared_bunch k word =
    if list_any (same_word word) k.bunches || not (nat_lt (length k.bunches) 16) then Err Range else Ok (line.Bunch word None)

-- a line of two words
abbrev pub head_line : Knowledge → List ℕ → List ℕ → Result LineKind Misfit
head_line k key word =
    if same_word key (codes "bunch") && may_follow k.section 3 && is_bunch_word word then declared_bunch k word
    else setting_line k key word

-- a line of one word, the end of a phase, in its place
abbrev pub phase_line : Knowledge → List ℕ → Result LineKind Misfit
phase_line k word =
    if same_word word (codes "phase") && may_follow k.section 5 then Ok line.Phase
    else (if same_word word (codes "quiet") && may_follow k.section 5 then Ok line.Quiet
    else Err Form)

-- a line, by its words
abbrev pub line_of : Knowledge → List (List ℕ) → Result LineKind Misfit
line_of k [] = Err Form
line_of k (a ∷ []) = phase_line k a
line_of k (a ∷ b ∷ []) = head_line k a b
line_of k (a ∷ b ∷ c ∷ words) = if may_follow k.section 5 then node_line k a b (c ∷ words) else Err Form

-- a line: its words are what lies between its spaces
abbrev pub read_line : Knowledge → List ℕ → Result LineKind Misfit
read_line k text = line_of k (slice_split is_space text)
