-- What a core stands for: an opening, and the history so far.
use Rattle.std.specs.Prelude.{◌≡◌, ◌+◌, ◌*◌, ◌<◌, ◌≤◌, List, [], length, Option, None, is_some, IsTrue, vec_capacity}
use Rattle.compile_model.specs.declared.outcome.Outcome.{Outcome}
use Rattle.compile_model.specs.Content.{Content}
use Rattle.compile_model.specs.Planned.{ArePlanned}
use Rattle.staleness.specs.declared.kept.Kept.{Kept}
use Rattle.partition_core.specs.declared.lot.Lot.{Lot}
use Rattle.partition_core.specs.declared.table.Table.{Table}
use Rattle.partition_core.specs.declared.event.Event.{Event}
use Rattle.partition_core.specs.declared.event.Event.TheVariants.{Keep, Start, Finish, Fail, Skip, Back}
use Rattle.partition_core.specs.declared.event.Standing.{Standing}
use Rattle.partition_core.specs.State.{Opening, State, at}
use Rattle.partition_core.specs.Story.{Story}
use Rattle.partition_core.specs.Histories.{Legal, Faithful, replay}
use Rattle.partition_core.specs.Refusals.{place_of, by_of}
use Rattle.partition_core.specs.Lots.{fates_of, kepts_of, opening_of, state_of}
use Rattle.partition_core.specs.Agendas.{IsAgenda}

abbrev pub state_in : Table → State
state_in t = state_of t.lots.items t.standings.items

abbrev pub opening_in : Table → Opening
opening_in t = opening_of t.plan t.lots.items t.standings.items

abbrev pub story_in : Table → Story
story_in t = record { opening = opening_in t; events = t.history.items }

-- a kept outcome stands in a legal `Keep`
abbrev pub HasKept : List (Option Kept) → Event → Type 0
HasKept kept (Keep place by) = IsTrue (is_some (at kept place))
HasKept kept (Start place by) = Unit {0}
HasKept kept (Finish place by outcome) = Unit {0}
HasKept kept (Fail place by outcome) = Unit {0}
HasKept kept (Skip place need by) = Unit {0}
HasKept kept (Back place by cause) = Unit {0}

-- the event is of a partition, and of a place without a fate
pub record IsDue (lots : List Lot) (standings : List Standing) (event : Event) : Type 0 where
  pub low : 0 < by_of event
  pub high : by_of event ≤ length standings
  pub within : place_of event < length lots
  pub open_place : at (fates_of lots) (place_of event) ≡ None
  pub kept : HasKept (kepts_of lots) event

-- the table is what its history leads to
pub record IsTable (t : Table) : Type 0 where
  pub now : state_in t ≡ replay (opening_in t) t.history.items
  pub legal : Legal (opening_in t) t.history.items
  pub planned : ArePlanned t.plan.jobs
  pub places : length t.lots.items ≡ length t.plan.jobs
  pub few : length t.standings.items ≤ 64
  pub room : 2 * (length t.plan.jobs + length t.standings.items) ≤ vec_capacity t.history
  pub empty : t.spare.items ≡ []
  pub fates_room : length t.plan.jobs ≤ vec_capacity t.spare
  pub agenda : IsAgenda t.plan.jobs (state_in t) t.agenda

-- where the compilers are honest, each outcome in the history is what its place's input means
pub record IsCore (honest : Type 0) (compile : Content → Outcome) (t : Table) : Type 0 where
  pub table : IsTable t
  pub faithful : honest → Faithful compile (opening_in t) t.history.items
