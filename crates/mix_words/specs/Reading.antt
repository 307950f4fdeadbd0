-- What reading the words answers.
use Rattle.std.specs.Prelude.{ℕ, List, Result, Ok, Err}
use Rattle.mx_base.specs.Blame.{Blame}
use Rattle.mx_base.specs.Blame.Blame.{Input, Memory}
use Rattle.reading.specs.Refusal.{IsRefusedAt}
use Rattle.mix_words.specs.declared.command.Command.{Command}
use Rattle.mix_words.specs.declared.error.Stop.{Stop}
use Rattle.mix_words.specs.declared.error.Stop.TheVariants as stop
use Rattle.mix_words.specs.declared.verb.Verb.{Verb}
use Rattle.mix_words.specs.declared.error.WordsError.{WordsError}
use Rattle.mix_words.specs.declared.error.WordsError.TheVariants.{Refused, OutOfMemory}
use Rattle.mix_words.specs.Meaning.{Asks, IsMeant, Means}

abbrev pub blame_of : WordsError → Blame
blame_of (Refused at) = Input
blame_of OutOfMemory = Memory

-- the command that the words mean; or the place, from 0, of the first word with which no command's words begin, or the
-- number of words where some are wanting
abbrev pub IsReading : List (List ℕ) → Result Command WordsError → Type 0
IsReading words (Ok command) = Means words command
IsReading words (Err (Refused at)) = IsRefusedAt IsMeant words at
IsReading words (Err OutOfMemory) = ⊥

-- the words are something behind a command's name
abbrev pub IsAsked : Verb → List (List ℕ) → Type 0
IsAsked verb words = (command : Command) × Asks verb words command

-- the same of the words behind a command's name, with places from there
abbrev pub IsBehind : Verb → List (List ℕ) → Result Command WordsError → Type 0
IsBehind verb words (Ok command) = Asks verb words command
IsBehind verb words (Err (Refused at)) = IsRefusedAt (IsAsked verb) words at
IsBehind verb words (Err OutOfMemory) = ⊥

-- what stops a reader at a place
abbrev pub refused_at : Stop → ℕ → WordsError
refused_at stop.Refused at = Refused at
refused_at stop.OutOfMemory at = OutOfMemory
