-- What the refusal of a lock's text becomes.
use Rattle.std.specs.Prelude.{if◌then◌else◌}
use Rattle.elixir_terms.specs.declared.error.TermError.{TermError}
use Rattle.term_tokens.specs.Refused.{is_memory}
use Rattle.mix_lock.specs.declared.error.LockError.{LockError}
use Rattle.mix_lock.specs.declared.error.LockError.TheVariants.{Term, OutOfMemory}

abbrev pub term_refused : TermError → LockError
term_refused error = if is_memory error.cause then OutOfMemory else Term error
