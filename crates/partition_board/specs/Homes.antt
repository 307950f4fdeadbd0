-- Which folders are at home, and what they hold.
use Rattle.std.specs.Prelude.{◌≡◌, ◌⊎◌, ℕ, ◌<◌, List, length, map, Option, Some, None, slice_get, IfSome, IsFalse}
use Rattle.compile_model.specs.declared.outcome.Fate.{Fate}
use Rattle.staleness.specs.declared.kept.Kept.{Kept}
use Rattle.tree_store.specs.declared.holding.Holding.{Holding}
use Rattle.tree_store.specs.FolderKnown.{FolderKnown}
use Rattle.partition_core.specs.declared.event.Event.{Event}
use Rattle.partition_core.specs.declared.event.Standing.TheVariants.{Runs}
use Rattle.partition_core.specs.State.{Opening, State, at, missing, stands}
use Rattle.partition_core.specs.Story.{Story, state_now}
use Rattle.partition_board.specs.Begun.{IsOf}
use Rattle.partition_board.specs.Failures.{IsCounted}
use Rattle.partition_board.specs.Holds.{HoldsBy, HoldsKept}

-- the folders that were handed in, as they were then, and those that are at home, by place
pub record HouseView (F : Type 0) : Type 0 where
  pub handed : List F
  pub homes : List (Option F)

-- what is passed from post to post: the core's story, and the folders
pub record StateView (F : Type 0) : Type 0 where
  pub story : Story
  pub house : HouseView F

-- all needs of the place are built, and what was kept of it isn't of its input
abbrev pub IsStale : Opening → State → ℕ → Type 0
IsStale o s place = (missing o s place ≡ None) × IsFalse (stands o s place)

-- what the folder of a place holds that isn't running: by its fate, and where it has none what was kept of it, or anything once that is stale
abbrev pub Fits : Opening → State → ℕ → Option Fate → Holding → Type 0
Fits o s place None held = (kept : Kept) → at o.kept place ≡ Some kept → HoldsKept kept held ⊎ IsStale o s place
Fits o s place (Some fate) held = HoldsBy o s.fates place (Some fate) held

-- the partition at this index runs the place
abbrev pub RunsAt : State → ℕ → ℕ → Type 0
RunsAt s i place = slice_get s.standings i ≡ Some (Runs place)

module _ {F : Type 0} (known : F → FolderKnown) where
  -- the folder is that of its place, and has failed where the history says so
  pub record Belongs (handed : List F) (events : List Event) (place : ℕ) (folder : F) : Type 0 where
    pub own : IsOf known handed place folder
    pub count : IsCounted events place (known folder)

  -- the folder of a place that isn't running
  pub record IsAtHome (Is : ℕ → F → Type 0) (o : Opening) (s : State) (place : ℕ) (folder : F) : Type 0 where
    pub is : Is place folder
    pub fits : IfSome (known folder).held (Fits o s place (at s.fates place))

  -- the folders of the places that are running are away, and the others are at home
  pub record AreHome (Is : ℕ → F → Type 0) (o : Opening) (s : State) (homes : List (Option F)) : Type 0 where
    pub places : length homes ≡ length o.plan.jobs
    pub away : (place i : ℕ) → RunsAt s i place → (slice_get homes place ≡ Some None) × IsStale o s place
    pub home : (place : ℕ) → place < length o.plan.jobs → ((i : ℕ) → RunsAt s i place → ⊥)
        → (folder : F) × (slice_get homes place ≡ Some (Some folder)) × IsAtHome Is o s place folder

  -- the same of a core and its house
  pub record IsHoused (story : Story) (house : HouseView F) : Type 0 where
    pub places : length house.handed ≡ length story.opening.plan.jobs
    pub home : AreHome (Belongs house.handed story.events) story.opening (state_now story) house.homes

-- no folder is away
abbrev pub AllHere : {F : Type 0} → List (Option F) → Type 0
AllHere {F} homes = (folders : List F) × (homes ≡ map Some folders)
