-- Which folders have failed, by the history.
use Rattle.std.specs.Prelude.{◌≡◌, ◌≢◌, ◌↔◌, ℕ, ◌==◌, Bool, false, List, Some, slice_get, IsTrue}
use Rattle.std.specs.List.{list_any}
use Rattle.tree_store.specs.FolderKnown.{FolderKnown}
use Rattle.partition_core.specs.declared.event.BackCause.TheVariants.{Tree}
use Rattle.partition_core.specs.declared.event.Event.{Event}
use Rattle.partition_core.specs.declared.event.Event.TheVariants.{Back}

-- the place is given back because its folder failed
abbrev pub is_failure : ℕ → Event → Bool
is_failure place (Back other by Tree) = other == place
is_failure place event = false

abbrev pub has_failed : List Event → ℕ → Bool
has_failed events place = list_any (is_failure place) events

-- the folder's count isn't 0 exactly where the place was given back for that
abbrev pub IsCounted : List Event → ℕ → FolderKnown → Type 0
IsCounted events place folder = (folder.faults ≢ 0) ↔ IsTrue (has_failed events place)

-- the same of all folders, by place
abbrev pub AreCounted : List Event → List FolderKnown → Type 0
AreCounted events folders = (place : ℕ) (folder : FolderKnown) → slice_get folders place ≡ Some folder → IsCounted events place folder
