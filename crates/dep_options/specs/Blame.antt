-- Whom a refusal of declarations blames.
use Rattle.std.specs.Prelude.{◌≡◌, Option, Some, None, Result, Ok, Err}
use Rattle.mx_base.specs.Blame.{Blame}
use Rattle.mx_base.specs.Blame.Blame.{Input, Memory}
use Rattle.dep_options.specs.declared.error.OptionCause.{OptionCause}
use Rattle.dep_options.specs.declared.error.OptionCause.TheVariants.{OutOfMemory}
use Rattle.dep_options.specs.declared.error.OptionError.{OptionError}

abbrev pub cause_blame : OptionCause → Blame
cause_blame OutOfMemory = Memory
cause_blame cause = Input

abbrev pub blame_of : OptionError → Blame
blame_of error = cause_blame error.cause

-- the fault is told, and there is none at Ok
abbrev pub Finds : {X : Type 0} → Option OptionCause → Result X OptionCause → Type 0
Finds fault (Ok x) = fault ≡ None
Finds fault (Err cause) = fault ≡ Some cause
