-- What the files say of a dependency: its version, and what it declares in turn.
use Rattle.std.specs.Prelude.{◌≡◌, ℕ, Bool, true, false, not, List, [], ◌∷◌, filter, Option, Some, None, Result, Ok, Err, IsTrue, IsFalse, slice_get, codes}
use Rattle.std.specs.List.{AllZip}
use Rattle.semver.specs.Parse.{Parts, version_parts}
use Rattle.mx_base.specs.declared.file.File.{File}
use Rattle.tree_store.specs.Files.{paths_below}
use Rattle.dep_options.specs.declared.decl.Decl.{Decl}
use Rattle.dep_options.specs.declared.decl.DepSource.TheVariants.{Hex, Path}
use Rattle.project_file.specs.declared.error.ProjectError.{ProjectError}
use Rattle.project_file.specs.declared.project.Project.{Project}
use Rattle.project_file.specs.Files.{IsLoaded, manifest_at}
use Rattle.dep_rows.specs.declared.row.Row.{Row}
use Rattle.converger.specs.Reach.{admits}
use Rattle.build_plan.specs.declared.error.PlanError.{PlanError}
use Rattle.build_plan.specs.declared.error.PlanError.TheVariants.{PathMissing, Project as Refused, NotLocked}

-- the version of a dependency, 0.0.0 without a manifest
abbrev pub version_by : Option Project → List ℕ
version_by None = codes "0.0.0"
version_by (Some project) = project.version

abbrev pub declared_by : Option Project → List Decl
declared_by None = []
declared_by (Some project) = project.decls

abbrev pub is_empty : List (List ℕ) → Bool
is_empty [] = true
is_empty (path ∷ paths) = false

-- some file lies below the folder of a dependency
abbrev pub has_files : List File → List ℕ → Bool
has_files files dir = not (is_empty (paths_below dir files))

-- what an app with this winner declares in turn, or why that isn't known: the declarations of its manifest
-- that are for the winner's environment
pub data AreChildren (files : List File) (app : List ℕ) (winner : Decl) : Result (List Decl) PlanError → Type 0 where
  unlocked : (name : List ℕ) → winner.source ≡ Hex name → AreChildren files app winner (Err (NotLocked app))
  missing : (dir : List ℕ) → winner.source ≡ Path dir → IsFalse (has_files files dir) → AreChildren files app winner (Err (PathMissing app dir))
  refused : (dir : List ℕ) {fault : ProjectError} → winner.source ≡ Path dir → IsTrue (has_files files dir) → IsLoaded files dir (Err fault) → AreChildren files app winner (Err (Refused (manifest_at dir) fault))
  declared : (dir : List ℕ) {found : Option Project} → winner.source ≡ Path dir → IsTrue (has_files files dir) → IsLoaded files dir (Ok found) → AreChildren files app winner (Ok (filter (λ decl. admits decl.only winner.env) (declared_by found)))

-- the numbers and texts of a winner's version, by the manifest in its folder
pub record HasVersion (files : List File) (rows : List Row) (place : ℕ) (version : Option Parts) : Type 0 where
  pub row : Row
  pub dir : List ℕ
  pub found : Option Project
  pub number : Parts
  pub stands : slice_get rows place ≡ Some row
  pub source : row.decl.source ≡ Path dir
  pub loaded : IsLoaded files dir (Ok found)
  pub parts : version_parts (version_by found) ≡ Ok number
  pub known : version ≡ Some number

-- the versions of the winners, in their order
abbrev pub AreVersions : List File → List Row → List ℕ → List (Option Parts) → Type 0
AreVersions files rows winners versions = AllZip (HasVersion files rows) winners versions
