use Rattle.std.proofs.Common.{◌≡◌, take}
use Rattle.converger.specs.Reach.{is_wanted, winners_among}
use Rattle.converger.proofs.reach.starts_of.Given as goal

abbrev pub invariant-loop-row : goal.invariant-loop-row
invariant-loop-row l = l.starts.items ≡ winners_among l.rows.rows (is_wanted l.env l.target) (take l.row-index l.rows.rows)
