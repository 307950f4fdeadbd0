use Rattle.std.proofs.Common.{◌≡◌}
use Rattle.tree_host.proofs.walk.files_below.Given as goal

abbrev pub invariant-loop : goal.invariant-loop
invariant-loop g l = l.walk ≡ record { dir = l.dir; scope = l.fn.scope }
