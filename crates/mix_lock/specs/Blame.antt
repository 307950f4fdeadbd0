-- Whom a refusal of a lock blames.
use Rattle.mx_base.specs.Blame.{Blame}
use Rattle.mx_base.specs.Blame.Blame.{Input, Memory}
use Rattle.mix_lock.specs.declared.error.LockError.{LockError}
use Rattle.mix_lock.specs.declared.error.LockError.TheVariants.{OutOfMemory}

abbrev pub lock_blame : LockError → Blame
lock_blame OutOfMemory = Memory
lock_blame error = Input
