-- What a script is to nodes: the body that they run, and the store that it opens.
use Rattle.std.specs.Prelude.{◌≡◌, ℕ, zero, suc, pos, List, [], ◌∷◌, ◌++◌, length, map, replicate, filter_map, codes, Option, Some, None, refl}
use Rattle.bmx_types.specs.Words.{anchor_of}
use Rattle.bmx_types.specs.declared.values.Val.TheVariants as val
use Rattle.bmx_types.specs.declared.openings.Birth.{Birth}
use Rattle.bmx_types.specs.declared.commands.Operand.TheVariants as operand
use Rattle.bmx_types.specs.declared.commands.Command.TheVariants as command
use Rattle.bmx_script.specs.declared.lines.Line.{Line}
use Rattle.bmx_script.specs.declared.lines.LineKind.{LineKind}
use Rattle.bmx_script.specs.declared.lines.LineKind.TheVariants as line
use Rattle.bmx_script.specs.Grammar.{bunches_of, nodes_of, limit_of}
use Rattle.bmx_protocol.specs.Nodes.{Setting}
use Rattle.bmx_protocol.specs.Runs.Programs.{Body, Gives, Phase, Quiet}

-- ## the body

-- a line of a body, where the line of the script is one
abbrev pub body_line : ℕ → LineKind → Option Body
body_line number (line.Do node c) = Some (Gives node number c)
body_line number line.Phase = Some Phase
body_line number line.Quiet = Some Quiet
body_line number what = None

-- the body of a script: its commands with the numbers of their lines, and the ends of its phases
abbrev pub body_of : List Line → List Body
body_of lines = filter_map (λ l. body_line l.number l.what) lines

-- ## the store

-- how many fields an anchor has
abbrev pub anchor_size : ℕ
anchor_size = 32

-- the anchor of a bunch: an object of null fields
abbrev pub anchor_birth : ℕ → Birth
anchor_birth bunch = record { name = anchor_of bunch; bunch = bunch; fields = replicate anchor_size val.Null }

-- the anchors of the first so many bunches
abbrev pub anchors : ℕ → List Birth
anchors zero = []
anchors (suc bunch) = anchors bunch ++ anchor_birth bunch ∷ []

-- what a script's store opens with: an anchor for each bunch
abbrev pub births_of : List Line → List Birth
births_of lines = anchors (length (bunches_of lines))

-- the store that a script opens
abbrev pub setting_of_script : List Line → Setting
setting_of_script lines = record { nodes = nodes_of lines; limit = limit_of lines; births = births_of lines }

-- ## a script worked by hand

abbrev line_at : ℕ → LineKind → Line
line_at number what = record { number = number; what = what }

-- two bunches, and a phase between two commands; line 5 is empty
abbrev pub two_bunches : List Line
two_bunches =
    line_at 1 line.Version
    ∷ line_at 2 (line.Nodes 2)
    ∷ line_at 3 (line.Bunch (codes "main") None)
    ∷ line_at 4 (line.Bunch (codes "rest") None)
    ∷ line_at 6 (line.Do 0 (command.New 0 1 4))
    ∷ line_at 7 line.Phase
    ∷ line_at 8 (line.Do 1 (command.Copy 0 (operand.Int (pos 5))))
    ∷ []

its_body : body_of two_bunches ≡ Gives 0 6 (command.New 0 1 4) ∷ Phase ∷ Gives 1 8 (command.Copy 0 (operand.Int (pos 5))) ∷ []
its_body = refl

its_nodes : (setting_of_script two_bunches).nodes ≡ 2
its_nodes = refl

its_limit : (setting_of_script two_bunches).limit ≡ 4096
its_limit = refl

the_names_of_its_births : map (λ b. b.name) (births_of two_bunches) ≡ 1 ∷ 2 ∷ []
the_names_of_its_births = refl

the_bunches_of_its_births : map (λ b. b.bunch) (births_of two_bunches) ≡ 0 ∷ 1 ∷ []
the_bunches_of_its_births = refl

how_wide_they_are : map (λ b. length b.fields) (births_of two_bunches) ≡ 32 ∷ 32 ∷ []
how_wide_they_are = refl
