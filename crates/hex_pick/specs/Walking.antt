-- What the moves of a search do.
use Rattle.std.specs.Prelude.{◌≡◌, ℕ, ◌<◌, ◌≤◌, ◌+◌, List, ◌∷◌, map, reverse, length, Option, Some, None, slice_index, if◌then◌else◌, IsTrue, IsFalse}
use Rattle.std.specs.List.{All}
use Rattle.hex_registry.specs.Missing.{least_with, missing_names}
use Rattle.hex_registry.specs.Picks.{Picked, has_package, with_picked}
use Rattle.hex_registry.specs.declared.shelf.Shelf.{Shelf}
use Rattle.hex_registry.specs.declared.wants.Wants.{Wants}
use Rattle.hex_pick.specs.declared.walk.Step.{Step}
use Rattle.hex_pick.specs.declared.walk.Walk.{Walk}
use Rattle.hex_pick.specs.Fitting.{fits}
use Rattle.hex_pick.specs.Outcome.{HasNoPick}
use Rattle.hex_pick.specs.Problem.{AreTried, Problem, next_needed, problem_of}
use Rattle.hex_pick.specs.Standing.{Frame, Position, StandsAt}

-- a package that is picked already stays
abbrev pub adding : List Picked → Picked → List Picked
adding pick picked = if has_package pick picked.0 then pick else with_picked pick picked

-- the step after the candidate at a place
abbrev pub stepped : Step → ℕ → Step
stepped step at = record step { next = at + 1 }

abbrev pub fits_candidate : List Shelf → Wants → List Picked → Step → ℕ → Type 0
fits_candidate shelves wants pick step at = IsTrue (fits shelves wants pick (step.name, slice_index step.candidates.items at))

-- the first candidate from the next one on that fits
pub record FirstFit (shelves : List Shelf) (wants : Wants) (pick : List Picked) (step : Step) (at : ℕ) : Type 0 where
  pub from : step.next ≤ at
  pub within : at < length step.candidates.items
  pub fit : IsTrue (fits shelves wants pick (step.name, slice_index step.candidates.items at))
  pub before : (k : ℕ) → step.next ≤ k → k < at → IsFalse (fits shelves wants pick (step.name, slice_index step.candidates.items k))

abbrev pub NoFit : List Shelf → Wants → List Picked → Step → Type 0
NoFit shelves wants pick step = (k : ℕ) → step.next ≤ k → k < length step.candidates.items → IsFalse
    (fits shelves wants pick (step.name, slice_index step.candidates.items k))

-- the first candidate that fits, or none
abbrev pub SaysFit : List Shelf → Wants → List Picked → Step → Option ℕ → Type 0
SaysFit shelves wants pick step None = NoFit shelves wants pick step
SaysFit shelves wants pick step (Some at) = FirstFit shelves wants pick step at

abbrev pub frame_of : Step → Frame
frame_of step = record { name = step.name; next = step.next }

abbrev pub position_of : Walk → ℕ → Position
position_of walk from = record { pick = walk.pick; frames = map frame_of (reverse walk.steps.items); from = from; count = walk.count; dead = walk.dead }

-- the steps have the candidates of their packages
abbrev pub AreSteps : (List ℕ → List ℕ) → List Step → Type 0
AreSteps candidates steps = All (λ step. step.candidates.items ≡ candidates step.name) steps

-- the walk stands at a node whose children are tried by the step
pub record StandsBy (problem : Problem) (walk : Walk) (step : Step) : Type 0 where
  pub stands : StandsAt problem (position_of walk step.next)
  pub next : next_needed problem walk.pick ≡ Some step.name
  pub tried : step.candidates.items ≡ problem.candidates step.name
  pub steps : AreSteps problem.candidates walk.steps.items

-- the walk has just come to a node
pub record HasCome (problem : Problem) (walk : Walk) : Type 0 where
  pub stands : StandsAt problem (position_of walk 0)
  pub steps : AreSteps problem.candidates walk.steps.items

abbrev pub Stands : List Shelf → Wants → Walk → Step → Type 0
Stands shelves wants walk step = (candidates : List ℕ → List ℕ) → AreTried shelves wants candidates → StandsBy (problem_of shelves wants candidates) walk step

abbrev pub ComesTo : List Shelf → Wants → Walk → Type 0
ComesTo shelves wants walk = (candidates : List ℕ → List ℕ) → AreTried shelves wants candidates → HasCome (problem_of shelves wants candidates) walk

-- one node further, or at the end of the tree
abbrev pub WentOn : List Shelf → Wants → Walk → Walk → Option (List ℕ) → Type 0
WentOn shelves wants old new None = (new.count ≡ old.count + 1) × ComesTo shelves wants new
WentOn shelves wants old new (Some name) = (candidates : List ℕ → List ℕ) → AreTried shelves wants candidates → (limit : ℕ) → old.count ≤ limit
    → HasNoPick (problem_of shelves wants candidates) limit name
