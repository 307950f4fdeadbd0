-- What was found in the folder of a dependency.
use Rattle.std.specs.Prelude.{◌≡◌, ◌⊎◌, ℕ, ◌<◌, List, length, Option, Some, Ok, IsTrue, IsFalse, slice_get, MatchOption}
use Rattle.std.specs.List.{All, AllZip}
use Rattle.mx_base.specs.declared.file.File.{File}
use Rattle.mx_base.specs.Order.{ArePathsInOrder, bytes_at}
use Rattle.mx_base.specs.Layout.{is_in_build}
use Rattle.tree_store.specs.Files.{paths_below}
use Rattle.dep_options.specs.Options.{is_dep_folder}
use Rattle.dep_options.specs.declared.decl.DepSource.TheVariants.{Path}
use Rattle.dep_rows.specs.declared.row.Row.{Row}
use Rattle.dep_rows.specs.Listed.{Listed, IsWithinLimit}
use Rattle.project_file.specs.Files.{IsLoaded, manifest_at}
use Rattle.build_plan.specs.declared.found.Found.{Found}
use Rattle.build_plan.specs.Sources.{sources_of, bytes_in}
use Rattle.build_plan.specs.Jobs.{most_files}

-- what holds of it, whether the store tells its files or not
pub record IsSound (found : Found) : Type 0 where
  pub placed : IsTrue (is_dep_folder found.dir)
  pub in_order : ArePathsInOrder found.paths.items
  pub outside : All (λ path. IsFalse (is_in_build path)) found.paths.items

-- it is what the files say
pub record IsFound (files : List File) (found : Found) : Type 0 where
  pub paths : found.paths.items ≡ paths_below found.dir files
  pub text : found.text ≡ bytes_at (manifest_at found.dir) files
  pub loaded : IsLoaded files found.dir (Ok found.project)

-- it was found in the folder of the winner at this place
pub record IsFoundAt (rows : List Row) (place : ℕ) (found : Found) : Type 0 where
  pub row : Row
  pub stands : slice_get rows place ≡ Some row
  pub source : row.decl.source ≡ Path found.dir
  pub sound : IsSound found

-- these were found for the winners, whose rows are well formed and within the limit
pub record AreFoundFor (listed : Listed) (found : List Found) : Type 0 where
  pub within : IsWithinLimit listed
  pub at : AllZip (IsFoundAt listed.rows) listed.winners found

-- the sources of a dependency: all of them, or they are more than a dependency may have or than there is room for
abbrev pub AreSources : List File → List ℕ → ℕ → Option (List File) → Type 0
AreSources files dir room sources =
    MatchOption sources ((most_files < length (sources_of dir files)) ⊎ (room < bytes_in (sources_of dir files))) (λ all. all ≡ sources_of dir files)
