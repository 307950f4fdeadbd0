-- What a search for the preferred pick answers.
use Rattle.std.specs.Prelude.{◌≡◌, ℕ, ◌<◌, ◌≤◌, ◌+◌, List, [], ◌∷◌, ◌++◌, length, Option, Some, Result, Ok, Err}
use Rattle.std.specs.List.{Contains}
use Rattle.mx_base.specs.Blame.{Blame}
use Rattle.mx_base.specs.Blame.Blame.{Input, Memory}
use Rattle.hex_registry.specs.Picks.{Picked}
use Rattle.hex_registry.specs.declared.shelf.Shelf.{Shelf}
use Rattle.hex_registry.specs.declared.wants.Wants.{Wants}
use Rattle.hex_pick.specs.declared.error.PickError.{PickError}
use Rattle.hex_pick.specs.declared.error.PickError.TheVariants.{NoPick, TooManyNodes, OutOfMemory}
use Rattle.hex_pick.specs.Problem.{AreTried, Problem, children, next_needed, problem_of}
use Rattle.hex_pick.specs.Tree.{AreNodes, IsBest, IsValidFor}

abbrev pub blame_of : PickError → Blame
blame_of OutOfMemory = Memory
blame_of error = Input

-- the nodes of the whole tree
abbrev pub AreAllNodes : Problem → List (List Picked) → Type 0
AreAllNodes problem nodes = AreNodes problem (children problem []) nodes

-- a package is needed and undecided, and none of its candidates goes
pub record IsDeadEnd (problem : Problem) (pick : List Picked) (name : List ℕ) : Type 0 where
  pub next : next_needed problem pick ≡ Some name
  pub childless : children problem pick ≡ []

-- the first of them that is a dead end is one at this package
pub record IsFirstDeadEnd (problem : Problem) (nodes : List (List Picked)) (name : List ℕ) : Type 0 where
  pub before : List (List Picked)
  pub node : List Picked
  pub after : List (List Picked)
  pub is : nodes ≡ before ++ node ∷ after
  pub dead : IsDeadEnd problem node name
  pub first : (other : List Picked) (at : List ℕ) → Contains before other → IsDeadEnd problem other at → ⊥

-- so many nodes at most come before the pick, which is the first valid one
pub record ComesWithin (problem : Problem) (limit : ℕ) (pick : List Picked) : Type 0 where
  pub nodes : List (List Picked)
  pub all : AreAllNodes problem nodes
  pub before : List (List Picked)
  pub after : List (List Picked)
  pub is : [] ∷ nodes ≡ before ++ pick ∷ after
  -- the empty pick, which is no node, may stand among those before it
  pub few : length before ≤ limit + 1
  pub first : (other : List Picked) → Contains before other → IsValidFor problem other → ⊥

-- no pick is valid, and so many nodes at most make the tree
pub record HasNoPick (problem : Problem) (limit : ℕ) (name : List ℕ) : Type 0 where
  pub none_valid : (pick : List Picked) → IsValidFor problem pick → ⊥
  pub nodes : List (List Picked)
  pub all : AreAllNodes problem nodes
  pub few : length nodes ≤ limit
  pub dead_end : IsFirstDeadEnd problem ([] ∷ nodes) name

-- more nodes come before a valid pick, or before the end of the tree
pub record PassesLimit (problem : Problem) (limit : ℕ) : Type 0 where
  pub before : List (List Picked)
  pub after : List (List Picked)
  pub all : AreAllNodes problem (before ++ after)
  pub many : limit < length before
  pub first : (other : List Picked) → Contains ([] ∷ before) other → IsValidFor problem other → ⊥

pub data IsOutcome (problem : Problem) (limit : ℕ) : Result (List Picked) PickError → Type 0 where
  picked : {pick : List Picked} → IsBest problem pick → ComesWithin problem limit pick → IsOutcome problem limit (Ok pick)
  no_pick : {name : List ℕ} → HasNoPick problem limit name → IsOutcome problem limit (Err (NoPick name))
  too_many : PassesLimit problem limit → IsOutcome problem limit (Err TooManyNodes)

-- what is picked for the wants, within so many nodes
abbrev pub SaysPick : List Shelf → Wants → ℕ → Result (List Picked) PickError → Type 0
SaysPick shelves wants limit answer = (candidates : List ℕ → List ℕ) → AreTried shelves wants candidates
    → IsOutcome (problem_of shelves wants candidates) limit answer
