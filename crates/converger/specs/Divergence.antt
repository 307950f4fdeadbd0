-- When two declarations of an app can't live together.
use Rattle.std.specs.Prelude.{◌≡◌, ◌≢◌, ℕ, ◌<◌, ◌⊎◌, Bool, true, false, ◌&&◌, is_none, is_some, List, Option, Some, None, option_map, map, IsTrue, IsFalse, slice_get}
use Rattle.std.specs.List.{All, AllPairs, Contains}
use Rattle.semver.specs.Identifiers.{parts_of}
use Rattle.semver.specs.Parse.{Parts}
use Rattle.semver.specs.declared.Version.{Version}
use Rattle.version_req.specs.Condition.{Alternatives}
use Rattle.version_req.specs.Meaning.{sat}
use Rattle.dep_options.specs.declared.decl.DepSource.{DepSource}
use Rattle.dep_options.specs.declared.decl.DepSource.TheVariants.{Hex, Path}
use Rattle.dep_rows.specs.declared.row.Row.{Row}
use Rattle.dep_rows.specs.Rows.{IsWinner}
use Rattle.converger.specs.declared.divergence.Divergence.{Divergence}
use Rattle.converger.specs.declared.divergence.Rule.{Rule}
use Rattle.converger.specs.declared.divergence.Rule.TheVariants.{V1, V2, V3, V4}
use Rattle.converger.specs.Reach.{admits, is_for, IsReached}

-- a row is ignored where the winner of its app stands in the root with `override` and the row stands outside it
abbrev pub is_ignored : Row → Row → Bool
is_ignored winner row = (is_none winner.by && winner.decl.override_) && is_some row.by

-- whether a dependency is a folder of the project
abbrev pub is_path : DepSource → Bool
is_path (Hex name) = false
is_path (Path dir) = true

-- the numbers and texts of versions, as far as they are known
abbrev pub parts_in : List (Option Version) → List (Option Parts)
parts_in versions = map (option_map parts_of) versions

-- the version of the winner at a place, where it has one: versions stand in the winners' order
abbrev pub HasVersion : {V : Type 0} → List ℕ → List (Option V) → ℕ → Option V → Type 0
HasVersion winners versions place version = (k : ℕ) × (slice_get winners k ≡ Some place) × (slice_get versions k ≡ Some version)

-- a row and the winner of its app
pub record IsUnder (rows : List Row) (place : ℕ) (winner : Row) (other : ℕ) (row : Row) : Type 0 where
  pub wins : IsWinner rows place winner
  pub stands : slice_get rows other ≡ Some row
  pub app : winner.app ≡ row.app

-- the rules by which a row can't live together with the winner of its app
pub data Diverges (rows : List Row) (winners : List ℕ) (versions : List (Option Parts)) : Rule → ℕ → ℕ → Type 0 where
  -- it comes from elsewhere
  source : {place other : ℕ} (winner row : Row) → IsUnder rows place winner other row → other ≢ place → IsFalse (is_ignored winner row)
      → row.decl.source ≢ winner.decl.source → Diverges rows winners versions V1 place other
  -- it is compiled otherwise
  compiled : {place other : ℕ} (winner row : Row) → IsUnder rows place winner other row → other ≢ place → IsFalse (is_ignored winner row)
      → (row.decl.app_file ≢ winner.decl.app_file) ⊎ ((row.decl.env ≢ winner.decl.env) ⊎ (row.decl.compile ≢ winner.decl.compile))
      → Diverges rows winners versions V2 place other
  -- it asks for another version. It may be the winner itself; pre-releases are taken of a folder alone
  version : {place other : ℕ} (winner row : Row) (version : Parts) (requirement : Alternatives) → IsUnder rows place winner other row → IsFalse (is_ignored winner row)
      → HasVersion winners versions place (Some version) → row.decl.requirement ≡ Some requirement
      → IsFalse (sat requirement version (is_path winner.decl.source)) → Diverges rows winners versions V3 place other
  -- it is reached in an environment or for a target that the winner, in the root, isn't for
  build : {place other : ℕ} (by : ℕ) (winner row parent : Row) (env target : List ℕ) → IsUnder rows place winner other row
      → winner.by ≡ None → IsFalse (is_for env target winner.decl) → IsTrue row.required → IsTrue (admits row.decl.targets target)
      → row.by ≡ Some by → slice_get rows by ≡ Some parent → IsReached rows env target parent.app → Diverges rows winners versions V4 place other

-- the order of the rules
abbrev pub rank : Rule → ℕ
rank V1 = 1
rank V2 = 2
rank V3 = 3
rank V4 = 4

-- all divergences, by row and then by rule
pub record AreDivergences (rows : List Row) (winners : List ℕ) (versions : List (Option Parts)) (list : List Divergence) : Type 0 where
  pub in_order : AllPairs (λ earlier later. (earlier.other < later.other) ⊎ ((earlier.other ≡ later.other) × (rank earlier.rule < rank later.rule))) list
  pub only : All (λ d. Diverges rows winners versions d.rule d.winner d.other) list
  pub all : (rule : Rule) (place other : ℕ) → Diverges rows winners versions rule place other
      → Contains list (record { rule = rule; winner = place; other = other })

-- the first winner that has no version, and its app
pub record IsWithoutVersion (rows : List Row) (winners : List ℕ) (versions : List (Option Version)) (app : List ℕ) : Type 0 where
  pub k : ℕ
  pub place : ℕ
  pub row : Row
  pub wins : slice_get winners k ≡ Some place
  pub stands : slice_get rows place ≡ Some row
  pub named : row.app ≡ app
  pub without : slice_get versions k ≡ Some None
  pub first : (earlier : ℕ) → earlier < k → slice_get versions earlier ≡ Some None → ⊥
