-- What a board begins with.
use Rattle.std.specs.Prelude.{◌≡◌, ℕ, List, Some, slice_get}
use Rattle.tree_store.specs.FolderKnown.{FolderKnown}
use Rattle.partition_core.specs.State.{Opening}

-- what its core begins with, and the folders that were handed in, as they were then
pub record Begun (F : Type 0) : Type 0 where
  pub build : Opening
  pub folders : List F

-- the folder is of the build whose folder was handed in for the place
pub record IsOf {F : Type 0} (known : F → FolderKnown) (handed : List F) (place : ℕ) (folder : F) : Type 0 where
  pub first : F
  pub here : slice_get handed place ≡ Some first
  pub key : (known folder).key ≡ (known first).key
