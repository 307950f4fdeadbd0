-- Whom the refusal of words blames.
use Rattle.mx_base.specs.Blame.{Blame}
use Rattle.mx_base.specs.Blame.Blame.{Input, Memory}
use Rattle.mix_main.specs.declared.command.WordsError.{WordsError}
use Rattle.mix_main.specs.declared.command.WordsError.TheVariants.{Refused, OutOfMemory}

abbrev pub blame_of : WordsError → Blame
blame_of (Refused at) = Input
blame_of OutOfMemory = Memory
