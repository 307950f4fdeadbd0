-- Whom a refusal of a name blames.
use Rattle.std.specs.Prelude.{Bool, true, false}
use Rattle.mx_base.specs.Blame.{Blame}
use Rattle.mx_base.specs.Blame.Blame.{Input, Memory}
use Rattle.mx_base.specs.declared.name.NameError.{NameError}
use Rattle.mx_base.specs.declared.name.NameError.TheVariants.{Empty, TooLong, BadByte, OutOfMemory}

abbrev pub is_memory : NameError → Bool
is_memory Empty = false
is_memory TooLong = false
is_memory (BadByte at) = false
is_memory OutOfMemory = true

abbrev pub blame_of : NameError → Blame
blame_of OutOfMemory = Memory
blame_of error = Input
