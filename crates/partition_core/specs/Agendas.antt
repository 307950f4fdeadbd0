-- What a core knows besides its state, so that what may be done next is found without looking at all places.
use Rattle.std.specs.Prelude.{◌≡◌, ℕ, ◌+◌, ◌==◌, ◌<◌, ◌≤◌, Bool, true, false, ◌&&◌, not, List, [], ◌∷◌, length, take, count_by, Option, Some, None, is_some, is_none, slice_get, if◌then◌else◌}
use Rattle.std.specs.List.{list_any}
use Rattle.compile_model.specs.declared.job.Job.{Job}
use Rattle.compile_model.specs.declared.outcome.Fate.{Fate}
use Rattle.partition_core.specs.declared.agenda.Agenda.{Agenda}
use Rattle.partition_core.specs.declared.outlook.Outlook.{Outlook}
use Rattle.partition_core.specs.declared.event.Event.{Event}
use Rattle.partition_core.specs.declared.event.Event.TheVariants.{Keep, Start, Finish, Fail, Skip, Back}
use Rattle.partition_core.specs.State.{State, at, first_open, needs_of, is_running}
use Rattle.partition_core.specs.Refusals.{place_of}

abbrev pub has : List ℕ → ℕ → Bool
has places place = list_any (λ other. other == place) places

abbrev pub needs_in : List Job → ℕ → List ℕ
needs_in jobs place = needs_of (slice_get jobs place)

-- where there is a first need that isn't built, it has a fate
abbrev pub is_decided : List (Option Fate) → Option ℕ → Bool
is_decided fates None = true
is_decided fates (Some need) = is_some (at fates need)

-- an event of a free partition is legal at the place
abbrev pub offers : List Job → State → ℕ → Bool
offers jobs s place = is_none (at s.fates place) && (is_decided s.fates (first_open s.fates (needs_in jobs place)) && not (is_running s.standings place))

-- so many of the first needs are built
pub record IsFront (fates : List (Option Fate)) (needs : List ℕ) (front : ℕ) : Type 0 where
  pub within : front ≤ length needs
  pub built : first_open fates (take front needs) ≡ None

-- there are a front and a flag for each place, and each front is one
pub record HasFronts (jobs : List Job) (fates : List (Option Fate)) (outlook : Outlook) : Type 0 where
  pub fronts : length outlook.fronts.items ≡ length jobs
  pub flags : length outlook.offering ≡ length jobs
  pub each : (place front : ℕ) → slice_get outlook.fronts.items place ≡ Some front → IsFront fates (needs_in jobs place) front

-- the flags say which places offer an event, but for these that are still to be looked at
pub record IsOutlook (jobs : List Job) (s : State) (open_places : List ℕ) (outlook : Outlook) : Type 0 where
  pub fronts : HasFronts jobs s.fates outlook
  pub right : (place : ℕ) → place < length jobs → has open_places place ≡ false → slice_get outlook.offering place ≡ Some (offers jobs s place)

abbrev pub places_or_none : Option (List ℕ) → List ℕ
places_or_none None = []
places_or_none (Some places) = places

abbrev pub dependents_at : List (List ℕ) → ℕ → List ℕ
dependents_at dependents need = places_or_none (slice_get dependents need)

-- a place is among the dependents of the places that it needs, and of no others
pub record AreDependents (jobs : List Job) (dependents : List (List ℕ)) : Type 0 where
  pub places : length dependents ≡ length jobs
  pub each : (need place : ℕ) → has (dependents_at dependents need) place ≡ has (needs_in jobs place) need

-- what is known agrees with the state
pub record IsAgenda (jobs : List Job) (s : State) (agenda : Agenda) : Type 0 where
  pub outlook : IsOutlook jobs s [] agenda.outlook
  pub dependents : AreDependents jobs agenda.dependents.items
  pub left : agenda.left ≡ count_by is_none s.fates

-- whether the event gives its place a fate
abbrev pub settles : Event → Bool
settles (Keep place by) = true
settles (Start place by) = false
settles (Finish place by outcome) = true
settles (Fail place by outcome) = true
settles (Skip place need by) = true
settles (Back place by cause) = false

-- the places that may offer something else after the event
abbrev pub touched : List (List ℕ) → Event → List ℕ
touched dependents event = place_of event ∷ (if settles event then dependents_at dependents (place_of event) else [])

-- the event led to the state, and the agenda hasn't been told of it
pub record IsBehind (jobs : List Job) (s : State) (event : Event) (agenda : Agenda) : Type 0 where
  pub outlook : IsOutlook jobs s (touched agenda.dependents.items event) agenda.outlook
  pub dependents : AreDependents jobs agenda.dependents.items
  pub left : agenda.left ≡ count_by is_none s.fates + (if settles event then 1 else 0)
