-- An environment and a target.
use Rattle.std.specs.Prelude.{ℕ, List}

pub record Chosen : Type 0 where
  pub env : List ℕ
  pub target : List ℕ
