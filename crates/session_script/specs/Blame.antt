-- Whom a refusal of a script blames.
use Rattle.mx_base.specs.Blame.{Blame}
use Rattle.mx_base.specs.Blame.Blame.{Input, Memory}
use Rattle.session_script.specs.declared.error.ScriptError.{ScriptError}
use Rattle.session_script.specs.declared.error.ScriptError.TheVariants.{OutOfMemory}

abbrev pub script_blame : ScriptError → Blame
script_blame OutOfMemory = Memory
script_blame error = Input
