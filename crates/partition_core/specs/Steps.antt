-- The steps of a build: when an event is legal, and what it does.
use Rattle.std.specs.Prelude.{◌≡◌, ◌≢◌, ℕ, ◌-◌, List, Option, Some, None, option_map, slice_get, slice_set, is_some, IsTrue, IsFalse}
use Rattle.compile_model.specs.declared.outcome.Fate.{Fate}
use Rattle.compile_model.specs.declared.outcome.Fate.TheVariants.{Built, Failed, Skipped}
use Rattle.staleness.specs.declared.kept.Kept.{Kept}
use Rattle.partition_core.specs.declared.event.Event.{Event}
use Rattle.partition_core.specs.declared.event.Event.TheVariants.{Keep, Start, Finish, Fail, Skip, Back}
use Rattle.partition_core.specs.declared.event.Standing.{Standing}
use Rattle.partition_core.specs.declared.event.Standing.TheVariants.{Idle, Runs, Ended}
use Rattle.partition_core.specs.State.{Opening, State, at, missing, stands, standing, is_running}

-- the partition is there, hasn't ended and runs nothing; the place has no fate and isn't running
pub record IsFree (s : State) (place by : ℕ) : Type 0 where
  pub idle : standing s.standings by ≡ Some Idle
  pub open_place : slice_get s.fates place ≡ Some None
  pub not_running : IsFalse (is_running s.standings place)

-- the partition runs the place
abbrev pub Holds : State → ℕ → ℕ → Type 0
Holds s place by = standing s.standings by ≡ Some (Runs place)

-- the event is legal in the state
abbrev pub IsLegal : Opening → State → Event → Type 0
IsLegal o s (Keep place by) = IsFree s place by × (missing o s place ≡ None) × IsTrue (stands o s place)
IsLegal o s (Start place by) = IsFree s place by × (missing o s place ≡ None) × IsFalse (stands o s place)
IsLegal o s (Finish place by outcome) = Holds s place by × (outcome.status ≡ 0)
IsLegal o s (Fail place by outcome) = Holds s place by × (outcome.status ≢ 0)
IsLegal o s (Skip place need by) = IsFree s place by × (missing o s place ≡ Some need) × IsTrue (is_some (at s.fates need))
IsLegal o s (Back place by cause) = Holds s place by

abbrev pub settle : State → ℕ → Option Fate → State
settle s place fate = record { fates = slice_set s.fates place fate; standings = s.standings }

abbrev pub stand : State → ℕ → Standing → State
stand s by now = record { fates = s.fates; standings = slice_set s.standings (by - 1) now }

-- what the event does, where this was kept
abbrev pub effect : List (Option Kept) → State → Event → State
effect kept s (Keep place by) = settle s place (option_map (λ k. Built k.outcome) (at kept place))
effect kept s (Start place by) = stand s by (Runs place)
effect kept s (Finish place by outcome) = stand (settle s place (Some (Built outcome))) by Idle
effect kept s (Fail place by outcome) = stand (settle s place (Some (Failed outcome))) by Idle
effect kept s (Skip place need by) = settle s place (Some (Skipped need))
effect kept s (Back place by cause) = stand s by Ended

abbrev pub after : Opening → State → Event → State
after o s event = effect o.kept s event
