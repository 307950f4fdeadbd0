-- Where a search stands in the tree of picks.
use Rattle.std.specs.Prelude.{◌≡◌, ℕ, suc, true, drop, ◌+◌, ◌<◌, List, [], ◌∷◌, ◌++◌, map, reverse, length, Option, Some, None, slice_get}
use Rattle.std.specs.List.{All, Contains}
use Rattle.hex_registry.specs.Picks.{Picked, with_picked}
use Rattle.hex_pick.specs.Problem.{Problem, agrees, decided_by, next_needed}
use Rattle.hex_pick.specs.Tree.{AreNodes}
use Rattle.hex_pick.specs.Outcome.{AreAllNodes, IsDeadEnd, IsFirstDeadEnd}

-- a decision on the way: its package, and how many of its candidates were tried
pub record Frame : Type 0 where
  pub name : List ℕ
  pub next : ℕ

-- the decisions by candidates from a place on
abbrev pub decided_from : Problem → List Picked → List ℕ → ℕ → List (List Picked)
decided_from problem pick name from = decided_by problem pick name (drop from (problem.candidates name))

-- the decisions that led to these picks, the last one first, and the picks that are left beside the way
pub data Stacked (problem : Problem) : List Picked → List Frame → List (List Picked) → Type 0 where
  start : Stacked problem [] [] []
  on : {pick : List Picked} {frames : List Frame} {later : List (List Picked)} → (name : List ℕ) (at place : ℕ) → next_needed problem pick ≡ Some name
      → slice_get (problem.candidates name) at ≡ Some place → agrees problem (with_picked pick (name, place)) ≡ true → Stacked problem pick frames later
      → Stacked problem (with_picked pick (name, place)) (record { name = name; next = suc at } ∷ frames) (decided_from problem pick name (suc at) ++ later)

abbrev pub left_at : Problem → List Picked → ℕ → Option (List ℕ) → List (List Picked)
left_at problem pick from None = []
left_at problem pick from (Some name) = decided_from problem pick name from

-- the children that are left from a place on
abbrev pub left : Problem → List Picked → ℕ → List (List Picked)
left problem pick from = left_at problem pick from (next_needed problem pick)

-- the first dead end of these, if there is one
abbrev pub FirstDeadEnd : Problem → List (List Picked) → Option (List ℕ) → Type 0
FirstDeadEnd problem nodes None = (other : List Picked) (at : List ℕ) → Contains nodes other → IsDeadEnd problem other at → ⊥
FirstDeadEnd problem nodes (Some name) = IsFirstDeadEnd problem nodes name

-- the picks were just come to, or the first of their children were tried
pub data Phase (problem : Problem) (pick : List Picked) (seen : List (List Picked)) : List (List Picked) → ℕ → Option (List ℕ) → Type 0 where
  fresh : {earlier : List (List Picked)} {dead : Option (List ℕ)} → seen ≡ earlier ++ pick ∷ [] → Phase problem pick seen earlier 0 dead
  again : {from : ℕ} {first : List ℕ} → (name : List ℕ) → next_needed problem pick ≡ Some name → Phase problem pick seen seen from (Some first)

-- where the search is: the picks, the decisions that led to them with the last one first, the candidate to be tried next, and how many nodes were met
pub record Position : Type 0 where
  pub pick : List Picked
  pub frames : List Frame
  pub from : ℕ
  pub count : ℕ
  pub dead : Option (List ℕ)

pub record StandsAt (problem : Problem) (position : Position) : Type 0 where
  pub later : List (List Picked)
  pub seen : List (List Picked)
  pub earlier : List (List Picked)
  pub stacked : Stacked problem position.pick position.frames later
  -- whatever are the nodes of what is left, those seen and these are all
  pub nodes : (rest : List (List Picked)) → AreNodes problem (left problem position.pick position.from ++ later) rest → AreAllNodes problem (seen ++ rest)
  pub counted : length seen ≡ position.count
  pub phase : Phase problem position.pick ([] ∷ seen) earlier position.from position.dead
  pub unfinished : (node : List Picked) → Contains earlier node → (name : List ℕ) × (next_needed problem node ≡ Some name)
  pub dead_end : FirstDeadEnd problem earlier position.dead
