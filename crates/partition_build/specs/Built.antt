-- What a build by several partitions leads to.
use Rattle.std.specs.Prelude.{◌≡◌, ◌≢◌, ◌↔◌, ℕ, ◌+◌, ◌≤◌, ◌==◌, Bool, true, false, not, ◌&&◌, List, [], length, filter, count_by, map, slice_get, Option, Some, None, is_some}
use Rattle.std.specs.List.{All, list_all}
use Rattle.compile_model.specs.declared.job.Plan.{Plan}
use Rattle.compile_model.specs.declared.outcome.Outcome.{Outcome}
use Rattle.compile_model.specs.declared.outcome.Fate.{Fate}
use Rattle.compile_model.specs.Content.{Content}
use Rattle.staleness.specs.declared.kept.Kept.{Kept}
use Rattle.tree_store.specs.FolderKnown.{FolderKnown}
use Rattle.partition_core.specs.declared.event.BackCause.TheVariants.{Tree}
use Rattle.partition_core.specs.declared.event.Event.{Event}
use Rattle.partition_core.specs.declared.event.Event.TheVariants.{Back}
use Rattle.partition_core.specs.State.{Opening}
use Rattle.partition_core.specs.Histories.{Agrees, replay}
use Rattle.partition_core.specs.Counts.{count_below, is_back, is_compiled, is_start}
use Rattle.partition_core.specs.Refusals.{by_of}
use Rattle.partition_face.specs.declared.counts.Counts.{Counts}
use Rattle.partition_face.specs.Counts.{deaths_of, runs_of}
use Rattle.partition_board.specs.Begun.{Begun}
use Rattle.partition_crew.specs.declared.one.BuildFault.{BuildFault}
use Rattle.partition_crew.specs.declared.one.BuildFault.TheVariants.{TreeFault, OutOfMemory, NoPartitionLeft}
use Rattle.partition_crew.specs.declared.one.One.{One}
use Rattle.partition_crew.specs.Build.{CountsOf, HaveFates, SomeFailed}
use Rattle.partition_build.specs.declared.built.Built.{Built}

-- what a build by so many partitions begins with
abbrev pub by_all : Plan → List (Option Kept) → ℕ → Opening
by_all plan kept partitions = record { plan = plan; kept = kept; partitions = partitions }

-- the same with the folders that were handed in
abbrev pub begun_by : {F : Type 0} → Opening → List F → Begun F
begun_by o folders = record { build = o; folders = folders }

-- what came of the plan
abbrev pub one_of : {P F : Type 0} → Built P F → One
one_of built = record { fates = built.fates; history = built.history; fault = built.fault }

-- the fates are those of the history, or there was no memory to begin and nothing happened
pub data HasBegun (o : Opening) (one : One) : Type 0 where
  begun : one.fates.items ≡ (replay o one.history.items).fates → HasBegun o one
  unbegun : one.fates.items ≡ [] → one.history.items ≡ [] → HasBegun o one

-- each place that has a fate has this one, and they are all these where there is no fault
pub record GivesFates (all : List Fate) (one : One) : Type 0 where
  pub each : Agrees one.fates.items all
  pub whole : one.fault ≡ None → one.fates.items ≡ map Some all

-- ---- what was counted

-- the events of the partition of this number
abbrev pub events_of : ℕ → List Event → List Event
events_of number events = filter (λ event. by_of event == number) events

-- each partition has counted what the history says of its number
pub record AreCountsOf (lasting : Type 0) (history : List Event) (old new : List Counts) : Type 0 where
  pub long : length new ≡ length old
  pub each : (i : ℕ) (before after : Counts) → slice_get old i ≡ Some before → slice_get new i ≡ Some after
      → CountsOf lasting (events_of (i + 1) history) before after

-- what all of these have counted together
abbrev pub all_of : List Counts → Counts
all_of counts = record { runs = runs_of counts; deaths = deaths_of counts }

-- as many starts as there are places that are compiled, and as places were given back, once each place has a fate, and never more
pub record AreStartsOf (compile : Content → Outcome) (o : Opening) (one : One) : Type 0 where
  pub most : count_by is_start one.history.items ≤ count_below (is_compiled compile o) (length o.plan.jobs) + count_by is_back one.history.items
  pub all : one.fault ≡ None
      → count_by is_start one.history.items ≡ count_below (is_compiled compile o) (length o.plan.jobs) + count_by is_back one.history.items

-- ---- the fault

-- each partition has died
abbrev pub AllDied : List Counts → Type 0
AllDied counts = All (λ (c : Counts). c.deaths ≢ 0) counts

-- there is none where each place has a fate; else it is that of a folder where one has failed, that all partitions died where they have, and want of memory elsewhere
pub record IsEndingOf (one : One) (places : ℕ) (folders : List FolderKnown) (counts : List Counts) : Type 0 where
  pub none : (one.fault ≡ None) ↔ HaveFates places one.fates.items
  pub tree : (one.fault ≡ Some TreeFault) ↔ ((HaveFates places one.fates.items → ⊥) × SomeFailed folders)
  pub died : (n : ℕ) → (one.fault ≡ Some (NoPartitionLeft n))
      ↔ ((HaveFates places one.fates.items → ⊥) × (SomeFailed folders → ⊥) × AllDied counts × (n ≡ length counts))

-- the fault, by whether each place has a fate, a folder has failed, and all of so many partitions have died
abbrev pub fault_by : Bool → Bool → Bool → ℕ → Option BuildFault
fault_by true failed died n = None
fault_by false true died n = Some TreeFault
fault_by false false true n = Some (NoPartitionLeft n)
fault_by false false false n = Some OutOfMemory

-- a place is given back because its folder failed
abbrev pub is_tree_back : Event → Bool
is_tree_back (Back place by Tree) = true
is_tree_back event = false

-- each of so many places has a fate
abbrev pub all_fated : ℕ → List (Option Fate) → Bool
all_fated places fates = (length fates == places) && list_all is_some fates

abbrev pub has_died : Counts → Bool
has_died counts = not (counts.deaths == 0)
