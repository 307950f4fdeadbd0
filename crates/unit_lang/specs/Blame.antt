-- Whom an error of the reader blames.
use Rattle.mx_base.specs.Blame.{Blame}
use Rattle.mx_base.specs.Blame.Blame.{Input, Memory}
use Rattle.unit_lang.specs.declared.error.UnitCause.{UnitCause}
use Rattle.unit_lang.specs.declared.error.UnitCause.TheVariants.{OutOfMemory}
use Rattle.unit_lang.specs.declared.error.UnitError.{UnitError}

abbrev pub cause_blame : UnitCause → Blame
cause_blame OutOfMemory = Memory
cause_blame cause = Input

abbrev pub blame_of : UnitError → Blame
blame_of error = cause_blame error.cause
