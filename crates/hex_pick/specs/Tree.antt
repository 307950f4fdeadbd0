-- The tree of picks, and which of two picks is preferred. Nothing here speaks of a search.
use Rattle.std.specs.Prelude.{◌≡◌, ℕ, ◌<◌, List, [], ◌∷◌, ◌++◌, Option, Some, slice_get, ◌⊎◌}
use Rattle.std.specs.List.{Contains}
use Rattle.hex_registry.specs.Picks.{Picked}
use Rattle.hex_registry.specs.Valid.{IsValid}
use Rattle.hex_pick.specs.Problem.{Problem, children, next_needed}

-- the nodes of the trees that stand on these picks: each of them, and then those below it
pub data AreNodes (problem : Problem) : List (List Picked) → List (List Picked) → Type 0 where
  none : AreNodes problem [] []
  next : {node : List Picked} {roots below more : List (List Picked)} → AreNodes problem (children problem node) below → AreNodes problem roots more
      → AreNodes problem (node ∷ roots) (node ∷ (below ++ more))

-- a way down the tree, which stays, or goes on at a child
pub data Leads (problem : Problem) : List Picked → List Picked → Type 0 where
  stays : {pick : List Picked} → Leads problem pick pick
  goes : {pick child end : List Picked} → Contains (children problem pick) child → Leads problem child end → Leads problem pick end

-- the ways to both part at a package, of which the one takes an earlier candidate than the other
pub record IsPreferred (problem : Problem) (one other : List Picked) : Type 0 where
  pub parting : List Picked
  pub name : List ℕ
  pub place : ℕ
  pub other_place : ℕ
  pub early : ℕ
  pub late : ℕ
  pub reached : Leads problem [] parting
  pub next : next_needed problem parting ≡ Some name
  pub to_one : Leads problem parting one
  pub to_other : Leads problem parting other
  pub takes : Contains one (name, place)
  pub other_takes : Contains other (name, other_place)
  pub tried : slice_get (problem.candidates name) early ≡ Some place
  pub other_tried : slice_get (problem.candidates name) late ≡ Some other_place
  pub earlier : early < late

abbrev pub IsValidFor : Problem → List Picked → Type 0
IsValidFor problem pick = IsValid problem.shelves problem.wants pick

-- a valid pick that is preferred to every other
pub record IsBest (problem : Problem) (pick : List Picked) : Type 0 where
  pub valid : IsValidFor problem pick
  pub preferred : (other : List Picked) → IsValidFor problem other → (other ≡ pick) ⊎ IsPreferred problem pick other
