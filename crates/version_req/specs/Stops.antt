-- Why reading a requirement ends early.
use Rattle.std.specs.Prelude.{◌≡◌, ℕ, Result, Err}
use Rattle.version_req.specs.declared.parse.Fault.{Fault}
use Rattle.version_req.specs.declared.parse.Fault.TheVariants.{Stuck, OutOfMemory}
use Rattle.version_req.specs.Condition.{Alternatives}

-- the machine is stuck with so many bytes left, or memory is wanting
abbrev pub StopsAs : Result Alternatives ℕ → Fault → Type 0
StopsAs run (Stuck at) = run ≡ Err at.left
StopsAs run OutOfMemory = Unit {0}
