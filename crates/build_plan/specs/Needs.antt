-- What the apps that are reached need directly, for a target.
use Rattle.std.specs.Prelude.{ℕ, Bool, false, ◌&&◌, List, map, filter, filter_map, position, Option, Some, None, option_map, option_and_then, slice_get, nat_eq}
use Rattle.converger.specs.Reach.{admits}
use Rattle.dep_rows.specs.declared.row.Row.{Row}
use Rattle.dep_rows.specs.Rows.{winner_of}

-- the row is a child of the winner at this place
abbrev pub is_child_at : ℕ → Option ℕ → Bool
is_child_at place None = false
is_child_at place (Some by) = nat_eq place by

-- the row is such a child, by a declaration that is for the target
abbrev pub is_needed_by : List ℕ → ℕ → Row → Bool
is_needed_by target place row = admits row.decl.targets target && is_child_at place row.by

-- the app of the row at a place
abbrev pub app_of : List Row → ℕ → Option (List ℕ)
app_of rows place = option_map (λ row. row.app) (slice_get rows place)

-- which of these winners is the app's, from 0
abbrev pub node_of : List Row → List ℕ → List ℕ → Option ℕ
node_of rows places app = option_and_then (λ winner. position (nat_eq winner) places) (winner_of rows app)

-- the nodes of the apps of these rows that are children of the winner at a place for the target, and have a winner among these
abbrev pub needs_from : List Row → List ℕ → List ℕ → List Row → ℕ → List ℕ
needs_from rows target places part place = filter_map (λ row. node_of rows places row.app) (filter (is_needed_by target place) part)

-- what the winner at a place needs directly: the apps among its children for the target, optional or not, that have a winner
-- among these
abbrev pub direct_needs : List Row → List ℕ → List ℕ → ℕ → List ℕ
direct_needs rows target places place = needs_from rows target places rows place

-- the graph of these winners
abbrev pub graph_of : List Row → List ℕ → List ℕ → List (List ℕ)
graph_of rows target places = map (direct_needs rows target places) places

-- the apps of these winners' places in the graph
abbrev pub apps_of : List Row → List ℕ → List ℕ → List (List ℕ)
apps_of rows places nodes = filter_map (λ node. option_and_then (app_of rows) (slice_get places node)) nodes
