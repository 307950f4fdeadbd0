-- What is said of divergences.
use Rattle.std.specs.Prelude.{◌≡◌, ℕ, List, Option, Some, option_and_then, slice_get}
use Rattle.std.specs.List.{AllZip}
use Rattle.dep_rows.specs.declared.row.Row.{Row}
use Rattle.converger.specs.declared.divergence.Divergence.{Divergence}
use Rattle.converger.specs.declared.divergence.Rule.{Rule}
use Rattle.build_plan.specs.declared.error.DivergedLine.{DivergedLine}
use Rattle.build_plan.specs.Needs.{app_of}

-- the app that declares a row, none where the root does
abbrev pub declarer : List Row → Row → Option (List ℕ)
declarer rows row = option_and_then (app_of rows) row.by

abbrev pub line_of : List Row → Rule → Row → Row → DivergedLine
line_of rows rule winner other = record { rule = rule; app = winner.app; winner_by = declarer rows winner; winner_index = winner.index; other_by = declarer rows other; other_index = other.index }

-- what is said of a divergence: where its two declarations stand
pub record IsLine (rows : List Row) (divergence : Divergence) (line : DivergedLine) : Type 0 where
  pub winner : Row
  pub other : Row
  pub wins : slice_get rows divergence.winner ≡ Some winner
  pub stands : slice_get rows divergence.other ≡ Some other
  pub says : line ≡ line_of rows divergence.rule winner other

-- one line for each divergence, in their order
abbrev pub AreLines : List Row → List Divergence → List DivergedLine → Type 0
AreLines rows divergences lines = AllZip (IsLine rows) divergences lines
