-- A walk forwards through a body, with the commands of its phase so far.
use Rattle.std.specs.Prelude.{List, [], ◌∷◌, ◌++◌}
use Rattle.bmx_protocol.specs.Runs.Programs.{Order, Stage}

-- commands in front of those of the first phase
abbrev pub onto : List Order → List Stage → List Stage
onto commands [] = []
onto commands (s ∷ more) = record s { commands = commands ++ s.commands } ∷ more
