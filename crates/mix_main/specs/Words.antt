-- The words of the commands.
use Rattle.std.specs.Prelude.{ℕ, List, [], ◌∷◌, Result, Ok, Err, if◌then◌else◌, codes, bytes_eq}
use Rattle.mix_main.specs.declared.command.Command.{Command}
use Rattle.mix_main.specs.declared.command.Command.TheVariants.{Help, Compile}
use Rattle.mix_main.specs.declared.command.WordsError.{WordsError}
use Rattle.mix_main.specs.declared.command.WordsError.TheVariants.{Refused}

-- the environment of a command
abbrev pub dev : List ℕ
dev = codes "dev"

-- no word may follow
abbrev pub alone : Command → List (List ℕ) → Result Command WordsError
alone asked [] = Ok asked
alone asked (word ∷ more) = Err (Refused 1)

-- the command; or the place, from 0, of the first word with which no command's words begin, or the number of words
-- where some are wanting
abbrev pub command_of : List (List ℕ) → Result Command WordsError
command_of [] = Err (Refused 0)
command_of (word ∷ more) =
    if bytes_eq word (codes "help") then alone Help more
    else if bytes_eq word (codes "deps.compile") then alone (Compile dev) more
    else Err (Refused 0)
