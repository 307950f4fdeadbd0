-- How it is said why a lock is refused.
use Rattle.std.specs.Prelude.{ℕ, List, codes}
use Rattle.elixir_terms.specs.Said.{term_said}
use Rattle.mix_lock.specs.declared.error.LockError.{LockError}
use Rattle.mix_lock.specs.declared.error.LockError.TheVariants.{Term, Shape, OutOfMemory}

abbrev pub lock_said : LockError → List ℕ
lock_said (Term error) = term_said error
lock_said (Shape name) = codes "shape"
lock_said OutOfMemory = codes "out of memory"
