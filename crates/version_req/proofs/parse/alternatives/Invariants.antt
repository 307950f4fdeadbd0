use Rattle.std.proofs.Common.{◌≡◌, length}
use Rattle.version_req.specs.Machine.{Lead, empty, run}
use Rattle.version_req.proofs.parse.alternatives.Given as goal

abbrev pub invariant-comparisons : goal.invariant-comparisons
invariant-comparisons l = run l.text Lead empty ≡ run l.rest Lead (record { done = l.done; group = l.group })

abbrev pub decreases-comparisons : goal.decreases-comparisons
decreases-comparisons l = length l.rest
