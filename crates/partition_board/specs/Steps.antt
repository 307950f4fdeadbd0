-- What a step does to a core and the folders, before a post has seen it.
use Rattle.std.specs.Prelude.{◌≡◌, ℕ, List, [], ◌∷◌, ◌++◌, Option, Some, IfSome}
use Rattle.compile_model.specs.declared.outcome.Outcome.{Outcome}
use Rattle.tree_store.specs.declared.holding.Holding.{Holding}
use Rattle.tree_store.specs.FolderKnown.{FolderKnown}
use Rattle.tree_store.specs.Holding.{nothing}
use Rattle.partition_core.specs.declared.event.Event.{Event}
use Rattle.partition_core.specs.declared.event.Event.TheVariants.{Finish, Fail, Back}
use Rattle.partition_core.specs.declared.event.Next.{Next}
use Rattle.partition_core.specs.declared.event.Standing.{Standing}
use Rattle.partition_core.specs.declared.event.Standing.TheVariants.{Idle, Ended}
use Rattle.partition_core.specs.State.{needs_at, outcomes_now, standing}
use Rattle.partition_core.specs.Steps.{Holds, IsLegal}
use Rattle.partition_core.specs.Refusals.{by_of, place_of}
use Rattle.partition_core.specs.Story.{Story, state_now}
use Rattle.partition_board.specs.declared.take.Take.{Take}
use Rattle.partition_board.specs.declared.take.Take.TheVariants.{Started}
use Rattle.partition_board.specs.Answers.{IsAnswer, made_with}
use Rattle.partition_board.specs.Begun.{IsOf}
use Rattle.partition_board.specs.Failures.{IsCounted}
use Rattle.partition_board.specs.Holds.{HoldsBuilt}
use Rattle.partition_board.specs.Homes.{Belongs, HouseView}
use Rattle.partition_board.specs.Posts.{PostView, opening_at, state_at}

-- the core answered this, if there was memory for it, and its event was made
pub record AnsweredAt (by : ℕ) (old : Story) (next : Option Next) (new : Story) : Type 0 where
  pub story : new ≡ record old { events = old.events ++ made_with next by }
  pub answer : (n : Next) → next ≡ Some n → IsAnswer old.opening (state_now old) by n

-- what the folder of the place of an event holds that ends a run
abbrev pub HoldsAfter : Story → Event → Holding → Type 0
HoldsAfter story (Finish place by outcome) held = HoldsBuilt story.opening (state_now story).fates place outcome held
HoldsAfter story (Fail place by outcome) held = held ≡ nothing
HoldsAfter story event held = Unit {0}

-- the event ends a run
abbrev pub EndsRun : Event → Type 0
EndsRun (Finish place by outcome) = Unit {0}
EndsRun (Fail place by outcome) = Unit {0}
EndsRun (Back place by cause) = Unit {0}
EndsRun event = ⊥

-- what its partition does then
abbrev pub standing_after : Event → Standing
standing_after (Back place by cause) = Ended
standing_after event = Idle

-- the event is one of the post's, and legal where the post looked last
abbrev pub IsLegalOf : {F : Type 0} → PostView F → Event → Type 0
IsLegalOf post event = (by_of event ≡ post.number) × IsLegal (opening_at post) (state_at post) event

module _ {F : Type 0} (known : F → FolderKnown) where
  -- with a place that is started come its folder and the outcomes of its needs, and with another answer nothing
  abbrev pub IsLentAt : Story → HouseView F → ℕ → List Outcome → Take F → Type 0
  IsLentAt story house by needs (Started lease) =
      (lease.by ≡ by) × Holds (state_now story) lease.place by × Belongs known house.handed story.events lease.place lease.folder
      × (needs ≡ outcomes_now (state_now story).fates (needs_at story.opening lease.place))
  IsLentAt story house by needs took = (needs ≡ []) × (standing (state_now story).standings by ≡ Some Idle)

  -- the folder of the event's place may come back with it
  pub record SuitsEvent (story : Story) (handed : List F) (event : Event) (folder : F) : Type 0 where
    pub ends : EndsRun event
    pub own : IsOf known handed (place_of event) folder
    pub count : IsCounted (story.events ++ event ∷ []) (place_of event) (known folder)
    pub holds : IfSome (known folder).held (HoldsAfter story event)
