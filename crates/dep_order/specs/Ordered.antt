-- A graph with its order.
use Rattle.std.specs.Prelude.{ℕ, List}

pub record OrderedGraph : Type 0 where
  pub graph : List (List ℕ)
  pub order : List ℕ
