-- What the refusal of a script's text becomes.
use Rattle.std.specs.Prelude.{if◌then◌else◌}
use Rattle.elixir_terms.specs.declared.error.TermError.{TermError}
use Rattle.term_tokens.specs.Refused.{is_memory}
use Rattle.session_script.specs.declared.error.ScriptError.{ScriptError}
use Rattle.session_script.specs.declared.error.ScriptError.TheVariants.{Term, OutOfMemory}

abbrev pub term_refused : TermError → ScriptError
term_refused error = if is_memory error.cause then OutOfMemory else Term error
