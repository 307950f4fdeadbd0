-- Graphs of needs: for each place, from 0 on, the list of the places that it needs directly.
use Rattle.std.specs.Prelude.{ℕ, ◌<◌, List, [], length}
use Rattle.std.specs.List.{All, slice_index_or}

-- what a place needs directly, and nothing past the end
abbrev pub needs_of : List (List ℕ) → ℕ → List ℕ
needs_of graph place = slice_index_or graph place []

-- each need is a place of the graph
abbrev pub NeedsAreWithin : List (List ℕ) → Type 0
NeedsAreWithin graph = All (λ needs. All (λ need. need < length graph) needs) graph
