use Rattle.std.proofs.Common.{◌≡◌, drop}
use Rattle.staleness.specs.Matching.{same_apps}
use Rattle.staleness.proofs.matching.same_apps.Given as goal

abbrev pub invariant-loop-at : goal.invariant-loop-at
invariant-loop-at l = same_apps (drop l.at l.needs) (drop l.at l.apps) ≡ same_apps l.needs l.apps
