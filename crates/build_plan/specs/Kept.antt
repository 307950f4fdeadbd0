-- What is found in folders, and what is kept of it.
use Rattle.std.specs.Prelude.{◌≡◌, ℕ, List, Option, Some, Result, Ok, Err, IfSome, IsTrue, slice_get}
use Rattle.std.specs.BTreeMap.{BTreeMap, get}
use Rattle.std.specs.List.{All, Contains}
use Rattle.mx_base.specs.declared.file.File.{File}
use Rattle.mx_base.specs.Order.{bytes_at, text_cmp}
use Rattle.tree_store.specs.Known.{Known}
use Rattle.dep_options.specs.declared.decl.Decl.{Decl}
use Rattle.dep_options.specs.declared.decl.DepSource.TheVariants.{Path}
use Rattle.dep_rows.specs.declared.row.Row.{Row}
use Rattle.dep_rows.specs.Listed.{Listed}
use Rattle.project_file.specs.declared.error.ProjectError.{ProjectError}
use Rattle.project_file.specs.Files.{IsLoaded, manifest_at}
use Rattle.build_plan.specs.declared.error.PlanError.{PlanError}
use Rattle.build_plan.specs.declared.error.PlanError.TheVariants.{Project as Refused}
use Rattle.build_plan.specs.declared.found.Found.{Found}
use Rattle.build_plan.specs.declared.found.Manifest.{Manifest}
use Rattle.build_plan.specs.Dependencies.{AreChildren, has_files}
use Rattle.build_plan.specs.Found.{IsFound, IsSound}

-- it was found in this folder, and is what the files say where they are told
pub record IsFoundIn (told : Option (List File)) (dir : List ℕ) (found : Found) : Type 0 where
  pub at : found.dir ≡ dir
  pub sound : IsSound found
  pub says : IfSome told (λ files. IsTrue (has_files files dir) × IsFound files found)

-- what the manifest in a folder says, with its text, or why it is refused
abbrev pub HasManifest : List File → List ℕ → Result Manifest PlanError → Type 0
HasManifest files dir (Ok manifest) = (manifest.text ≡ bytes_at (manifest_at dir) files) × IsLoaded files dir (Ok manifest.project)
HasManifest files dir (Err error) = (fault : ProjectError) × IsLoaded files dir (Err fault) × (error ≡ Refused (manifest_at dir) fault)

-- what is found in the folder of an app, or why the app is refused
abbrev pub FindsIn : Option (List File) → List ℕ → List ℕ → Result Found PlanError → Type 0
FindsIn told app dir (Ok found) = IsFoundIn told dir found
FindsIn told app dir (Err error) = IfSome told (λ files. (winner : Decl) → winner.source ≡ Path dir → AreChildren files app winner (Err error))

-- the same of an app with this winner
abbrev pub Finds : Option (List File) → List ℕ → Decl → Result Found PlanError → Type 0
Finds told app winner (Ok found) = (winner.source ≡ Path found.dir) × IsFoundIn told found.dir found
Finds told app winner (Err error) = IfSome told (λ files. AreChildren files app winner (Err error))

-- one of the winners has no children that are known, for this reason
pub record RefusesWinner (files : List File) (listed : Listed) (error : PlanError) : Type 0 where
  pub place : ℕ
  pub row : Row
  pub wins : Contains listed.winners place
  pub stands : slice_get listed.rows place ≡ Some row
  pub answer : AreChildren files row.app row.decl (Err error)

-- what is found of all winners, or why one of them is refused
abbrev pub FindsAll : List File → Listed → Result (List Found) PlanError → Type 0
FindsAll files listed (Ok found) = All (IsFound files) found
FindsAll files listed (Err error) = RefusesWinner files listed error

-- what is kept for a folder was found there
abbrev pub AreKept : Option (List File) → BTreeMap (List ℕ) Found → Type 0
AreKept told kept = (dir : List ℕ) → IfSome (get text_cmp kept dir) (IsFoundIn told dir)

-- the store that is read: the reference to it, and what reading leaves as it is
pub record MadeOver : Type 0 where
  pub reference : ℕ
  pub known : Known

abbrev pub made_over : ℕ → Known → MadeOver
made_over reference known = record { reference = reference; known = record known { faults = 0 } }
