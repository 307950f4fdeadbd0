use Rattle.std.proofs.Common.{◌≡◌, ◌++◌, drop}
use Rattle.hex_registry.specs.Reach.{starts_of}
use Rattle.hex_registry.proofs.reach.starts_of.Given as goal

abbrev pub invariant-loop-want : goal.invariant-loop-want
invariant-loop-want l = l.starts.items ++ starts_of l.pick (drop l.want-index l.wants) ≡ starts_of l.pick l.wants
