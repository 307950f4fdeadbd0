-- What a post is given to do.
use Rattle.std.specs.Prelude.{◌≡◌, ◌↔◌, ℕ, List, [], Option, Some, None, option_to_list, Bool, true, false}
use Rattle.partition_core.specs.declared.event.Event.{Event}
use Rattle.partition_core.specs.declared.event.Next.{Next}
use Rattle.partition_core.specs.declared.event.Next.TheVariants.{Keep as ToKeep, Start as ToStart, Skip as ToSkip, Later as ToLater, Over as ToOver}
use Rattle.partition_core.specs.State.{Opening, State}
use Rattle.partition_core.specs.Steps.{IsLegal}
use Rattle.partition_core.specs.Histories.{replay}
use Rattle.partition_core.specs.Refusals.{place_of}
use Rattle.partition_core.specs.Nexts.{AreSettled, IsOfFree, IsUpTo, SomeRuns, event_of}
use Rattle.partition_board.specs.declared.take.Take.{Take}
use Rattle.partition_board.specs.declared.take.Take.TheVariants.{Started, Kept, Skipped, Later, Over, NoMemory}
use Rattle.partition_board.specs.Posts.{Adds, PostView, opening_at}

-- what the core answers to the partition of this number
pub record IsAnswer (o : Opening) (s : State) (by : ℕ) (next : Next) : Type 0 where
  pub legal : (event : Event) → event_of next by ≡ Some event → IsLegal o s event
  pub first : (event : Event) → IsOfFree event → IsLegal o s event → IsUpTo (place_of event) next
  pub over : (next ≡ ToOver) ↔ AreSettled s.fates
  pub later : next ≡ ToLater → SomeRuns s

-- the one event that is made with the core's answer, or none
abbrev pub made_with : Option Next → ℕ → List Event
made_with None by = []
made_with (Some next) by = option_to_list (event_of next by)

module _ {F : Type 0} where
  -- the core's answer behind this one, if there was memory for it
  abbrev pub next_of : Take F → Option Next
  next_of (Started lease) = Some (ToStart lease.place)
  next_of (Kept place) = Some (ToKeep place)
  next_of (Skipped place need) = Some (ToSkip place need)
  next_of (Later front) = Some ToLater
  next_of (Over front) = Some ToOver
  next_of NoMemory = None

  abbrev pub makes_event : Take F → Bool
  makes_event (Started lease) = true
  makes_event (Kept place) = true
  makes_event (Skipped place need) = true
  makes_event (Later front) = false
  makes_event (Over front) = false
  makes_event NoMemory = false

  -- the post has seen a history at which the core answers this, and made that event
  pub record Answers (took : Take F) (old new : PostView F) : Type 0 where
    pub adds : Adds (made_with (next_of took) old.number) old new
    pub answer : (next : Next) → next_of took ≡ Some next → IsAnswer (opening_at old) (replay (opening_at old) adds.before) old.number next

  -- a front that is told is this long
  abbrev pub IsFront : ℕ → Take F → Type 0
  IsFront n (Later front) = front.events ≡ n
  IsFront n (Over front) = front.events ≡ n
  IsFront n took = Unit {0}
