-- Which apps an environment reaches for a target.
use Rattle.std.specs.Prelude.{◌≡◌, ℕ, ◌<◌, Bool, true, false, ◌&&◌, is_none, nat_eq, List, length, map, filter, filter_map, Option, Some, None, bytes_eq}
use Rattle.std.specs.List.{All, AllPairs, Contains, list_any, range_with_len}
use Rattle.dep_options.specs.declared.decl.Decl.{Decl}
use Rattle.dep_order.specs.Reach.{IsReachedFrom}
use Rattle.dep_rows.specs.declared.row.Row.{Row}
use Rattle.dep_rows.specs.Rows.{IsWinner, winner_of}

-- whether a list of environments or of targets has the name: where there is no list, each one
abbrev pub admits : Option (List (List ℕ)) → List ℕ → Bool
admits None name = true
admits (Some names) name = list_any (bytes_eq name) names

-- whether a declaration is for the environment and for the target
abbrev pub is_for : List ℕ → List ℕ → Decl → Bool
is_for env target decl = admits decl.only env && admits decl.targets target

-- whether the row stands in the root and is for both
abbrev pub is_wanted : List ℕ → List ℕ → Row → Bool
is_wanted env target row = is_none row.by && is_for env target row.decl

-- whether this is the place of the row that declares another one
abbrev pub is_declarer : ℕ → Option ℕ → Bool
is_declarer place None = false
is_declarer place (Some by) = nat_eq place by

-- whether the row is a required one that is for the target, and that the row at this place declares
abbrev pub is_asked_by : List ℕ → ℕ → Row → Bool
is_asked_by target place row = row.required && (admits row.decl.targets target && is_declarer place row.by)

-- the winners of the apps of those of these rows that pass the test
abbrev pub winners_among : List Row → (Row → Bool) → List Row → List ℕ
winners_among rows test part = filter_map (λ row. winner_of rows row.app) (filter test part)

-- the winners that the root brings in
unfoldable pub starts_of : List Row → List ℕ → List ℕ → List ℕ
starts_of rows env target = winners_among rows (is_wanted env target) rows

-- for each place the winners that the row there brings in by required rows that are for the target
unfoldable pub links_of : List Row → List ℕ → List (List ℕ)
links_of rows target = map (λ place. winners_among rows (is_asked_by target place) rows) (range_with_len 0 (length rows))

-- the app is reached in the environment for the target: its winner is one that the root brings in by a row that is for both,
-- or one that a winner that is reached brings in by a required row that is for the target
pub record IsReached (rows : List Row) (env target app : List ℕ) : Type 0 where
  pub winner : ℕ
  pub wins : winner_of rows app ≡ Some winner
  pub reached : IsReachedFrom (links_of rows target) (starts_of rows env target) winner

-- the places of all winners that are reached, in order
pub record AreReached (rows : List Row) (env target : List ℕ) (places : List ℕ) : Type 0 where
  pub in_order : AllPairs (λ earlier later. earlier < later) places
  pub only : All (λ place. (row : Row) × IsWinner rows place row × IsReached rows env target row.app) places
  pub all : (place : ℕ) (row : Row) → IsWinner rows place row → IsReached rows env target row.app → Contains places place
