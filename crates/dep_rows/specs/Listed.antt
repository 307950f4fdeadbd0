-- Rows with the places of their winners.
use Rattle.std.specs.Prelude.{ℕ, ◌≤◌, List, length}
use Rattle.dep_rows.specs.declared.row.Row.{Row}
use Rattle.dep_rows.specs.Rows.{AreWellFormed, most_rows}

-- rows, and the places of their winners
pub record Listed : Type 0 where
  pub rows : List Row
  pub winners : List ℕ

-- they are well formed, and within the limit
pub record IsWithinLimit (listed : Listed) : Type 0 where
  pub well_formed : AreWellFormed listed.rows listed.winners
  pub few : length listed.rows ≤ most_rows
