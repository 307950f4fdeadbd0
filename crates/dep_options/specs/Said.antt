-- How it is said why declarations are refused.
use Rattle.std.specs.Prelude.{ℕ, List, ◌++◌, codes, decimal}
use Rattle.mx_base.specs.Said.{with_name}
use Rattle.dep_options.specs.declared.error.OptionError.{OptionError}
use Rattle.dep_options.specs.declared.error.OptionCause.{OptionCause}
use Rattle.dep_options.specs.declared.error.OptionCause.TheVariants.{Shape, BadRequirement, UnknownOption, UnsupportedSource, BadValue, NoSource, OutOfMemory}

-- a cause is said by its name, with that of the option
abbrev pub cause_said : OptionCause → List ℕ
cause_said Shape = codes "Shape"
cause_said BadRequirement = codes "BadRequirement"
cause_said (UnknownOption name) = with_name (codes "UnknownOption") name
cause_said (UnsupportedSource name) = with_name (codes "UnsupportedSource") name
cause_said (BadValue name) = with_name (codes "BadValue") name
cause_said NoSource = codes "NoSource"
cause_said OutOfMemory = codes "OutOfMemory"

-- which declaration is refused, and why
abbrev pub options_said : OptionError → List ℕ
options_said error = codes "dependency " ++ decimal error.index ++ codes ": " ++ cause_said error.cause
