use Rattle.std.proofs.Common.{◌≡◌, drop}
use Rattle.staleness.specs.Matching.{same_rows}
use Rattle.staleness.proofs.matching.same_rows.Given as goal

abbrev pub invariant-loop-at : goal.invariant-loop-at
invariant-loop-at l = same_rows (drop l.at l.rows) (drop l.at l.others) ≡ same_rows l.rows l.others
