-- What is answered of rows and their versions.
use Rattle.std.specs.Prelude.{ℕ, ◌<◌, List, length, Option, IsSome}
use Rattle.std.specs.List.{All}
use Rattle.semver.specs.Parse.{Parts}
use Rattle.semver.specs.declared.Version.{Version}
use Rattle.dep_rows.specs.declared.row.Row.{Row}
use Rattle.converger.specs.declared.divergence.Rule.{Rule}
use Rattle.converger.specs.declared.converged.ConvergeError.{ConvergeError}
use Rattle.converger.specs.declared.converged.ConvergeError.TheVariants.{Diverged, NoVersion, OutOfMemory}
use Rattle.converger.specs.Divergence.{Diverges, AreDivergences, IsWithoutVersion, parts_in}

-- by no rule two declarations can't live together
abbrev pub NoneDiverges : List Row → List ℕ → List (Option Parts) → Type 0
NoneDiverges rows winners versions = (rule : Rule) (place other : ℕ) → Diverges rows winners versions rule place other → ⊥

-- no rule meets, and each winner has a version
pub record AreConverged (rows : List Row) (winners : List ℕ) (versions : List (Option Version)) : Type 0 where
  pub none : NoneDiverges rows winners (parts_in versions)
  pub known : All (λ version. IsSome version) versions

-- why they don't converge
abbrev pub HasCause : List Row → List ℕ → List (Option Version) → ConvergeError → Type 0
HasCause rows winners versions (Diverged list) = AreDivergences rows winners (parts_in versions) list × (0 < length list)
HasCause rows winners versions (NoVersion app) = NoneDiverges rows winners (parts_in versions) × IsWithoutVersion rows winners versions app
HasCause rows winners versions OutOfMemory = Unit {0}
