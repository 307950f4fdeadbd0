-- A build by one partition on its way.
use Rattle.std.specs.Prelude.{◌≡◌, ◌≢◌, ℕ, ◌+◌, ◌≤◌, ◌<◌, ◌^◌, Bool, true, false, ◌&&◌, List, [], ◌∷◌, ◌++◌, length, count_by, slice_get, slice_set, Option, Some, None, is_some, IfSome, Result, Ok, Err}
use Rattle.compile_model.specs.declared.job.Job.{Job}
use Rattle.compile_model.specs.declared.outcome.Outcome.{Outcome}
use Rattle.compile_model.specs.declared.outcome.Fate.{Fate}
use Rattle.compile_model.specs.declared.outcome.Fate.TheVariants.{Built, Failed as NotBuilt, Skipped}
use Rattle.compile_model.specs.Content.{Content}
use Rattle.tree_store.specs.FolderKnown.{FolderKnown}
use Rattle.tree_store.specs.Holding.{nothing}
use Rattle.partition_core.specs.declared.event.BackCause.TheVariants as back
use Rattle.partition_core.specs.declared.event.Event.{Event}
use Rattle.partition_core.specs.declared.event.Event.TheVariants.{Keep, Start, Finish, Fail, Skip, Back}
use Rattle.partition_core.specs.declared.event.Standing.TheVariants.{Idle}
use Rattle.partition_core.specs.State.{Opening, at, outcomes_now, standing}
use Rattle.partition_core.specs.Steps.{IsLegal}
use Rattle.partition_core.specs.Histories.{Legal, Faithful, Sound, replay}
use Rattle.partition_core.specs.Counts.{count_below, is_back, is_compiled, is_start}
use Rattle.honest_tree.specs.Given.{Given, outcome_of}
use Rattle.partition_face.specs.declared.counts.Counts.{Counts}
use Rattle.partition_crew.specs.declared.one.BuildFault.{BuildFault}
use Rattle.partition_crew.specs.declared.one.BuildFault.TheVariants.{TreeFault, OutOfMemory, NoPartitionLeft}
use Rattle.partition_crew.specs.declared.worked.Worked.{Worked}
use Rattle.partition_crew.specs.declared.worked.Worked.TheVariants.{Finished, Failed, Died, TreeFault as TreeFailed, NoMemory}
use Rattle.partition_board.specs.Holds.{HoldsBuilt}
use Rattle.partition_crew.specs.Build.{HaveFates, StayFor, inputs_of}
use Rattle.partition_crew.specs.Work.{HasWorked, IsCounted, IsMeant, StaysHonest, Touches, given_by, tree_failed}

-- what the types of the partition and the folders state: that the partitions are honest and the folders tell, that no partition dies, and what compiling means
pub record Nature : Type 1 where
  pub honest : Type 0
  pub lasting : Type 0
  pub compile : Content → Outcome

abbrev pub nature_by : Type 0 → Type 0 → (Content → Outcome) → Nature
nature_by honest lasting compile = record { honest = honest; lasting = lasting; compile = compile }

-- the events so far, what the folders are known by, and what the partition has counted
pub record Station : Type 0 where
  pub events : List Event
  pub folders : List FolderKnown
  pub counts : Counts

abbrev pub station_by : List Event → List FolderKnown → Counts → Station
station_by events folders counts = record { events = events; folders = folders; counts = counts }

-- the partition hasn't died, and has made few runs
pub record IsYoung (counts : Counts) : Type 0 where
  pub lives : counts.deaths ≡ 0
  pub few : counts.runs < 2 ^ 62

-- ---- what a start comes to

-- the event that tells what came of a place
abbrev pub event_by : ℕ → Worked → Event
event_by place (Finished twin) = Finish place 1 twin.event
event_by place (Failed twin) = Fail place 1 twin.event
event_by place Died = Back place 1 back.Died
event_by place TreeFailed = Back place 1 back.Tree
event_by place NoMemory = Back place 1 back.Memory

-- that the build goes on, or why it doesn't
abbrev pub told_by : Worked → Result Bool BuildFault
told_by (Finished twin) = Ok true
told_by (Failed twin) = Ok true
told_by Died = Err (NoPartitionLeft 1)
told_by TreeFailed = Err TreeFault
told_by NoMemory = Err OutOfMemory

-- the status is that of the answer, and the two copies are one outcome
abbrev pub IsRight : Worked → Type 0
IsRight (Finished twin) = (twin.event.status ≡ 0) × (twin.fate ≡ twin.event)
IsRight (Failed twin) = (twin.event.status ≢ 0) × (twin.fate ≡ twin.event)
IsRight Died = Unit {0}
IsRight TreeFailed = Unit {0}
IsRight NoMemory = Unit {0}

-- the input of a job now
abbrev pub given_now : Opening → List Event → Job → Given
given_now o events job = given_by job (outcomes_now (replay o events).fates job.needs)

-- one folder was worked in, and the others are as they were
pub record WorksIn (nature : Nature) (given : Given) (worked : Worked) (place : ℕ) (old new : List FolderKnown) : Type 0 where
  pub before : FolderKnown
  pub after : FolderKnown
  pub there : slice_get old place ≡ Some before
  pub folders : new ≡ slice_set old place after
  pub came : HasWorked given worked before after
  pub meant : nature.honest → IsMeant (outcome_of nature.compile given) worked
  pub stays : nature.honest → StaysHonest nature.compile given before after
  pub touches : Touches before after (tree_failed worked)

-- a place was started, worked on, and told of
pub record WorksOn (nature : Nature) (o : Opening) (worked : Worked) (old new : Station) : Type 0 where
  pub place : ℕ
  pub job : Job
  pub here : slice_get o.plan.jobs place ≡ Some job
  pub legal : IsLegal o (replay o old.events) (Start place 1)
  pub events : new.events ≡ (old.events ++ Start place 1 ∷ []) ++ event_by place worked ∷ []
  pub works : WorksIn nature (given_now o old.events job) worked place old.folders new.folders
  pub counts : IsCounted nature.lasting old.counts new.counts worked

-- ---- one step

-- something was done
pub data Moves (nature : Nature) (o : Opening) (old new : Station) : Type 0 where
  keeps : (place : ℕ) → IsLegal o (replay o old.events) (Keep place 1) → new ≡ record old { events = old.events ++ Keep place 1 ∷ [] }
      → Moves nature o old new
  skips : (place need : ℕ) → IsLegal o (replay o old.events) (Skip place need 1) → new ≡ record old { events = old.events ++ Skip place need 1 ∷ [] }
      → Moves nature o old new
  works : (worked : Worked) → WorksOn nature o worked old new → told_by worked ≡ Ok true → Moves nature o old new

-- the build ends before each place has a fate
pub data Cuts (nature : Nature) (o : Opening) (old new : Station) (fault : BuildFault) : Type 0 where
  unmade : (place : ℕ) → slice_get (replay o old.events).fates place ≡ Some None → new ≡ old → fault ≡ OutOfMemory → Cuts nature o old new fault
  worked : (came : Worked) → WorksOn nature o came old new → told_by came ≡ Err fault → Cuts nature o old new fault

-- one step does something, finds that each place has a fate, or cuts the build
abbrev pub Advances : Nature → Opening → Station → Station → Result Bool BuildFault → Type 0
Advances nature o old new (Ok true) = Moves nature o old new
Advances nature o old new (Ok false) = (new ≡ old) × HaveFates (length o.plan.jobs) (replay o old.events).fates
Advances nature o old new (Err fault) = Cuts nature o old new fault

-- ---- between two steps

-- a folder that wasn't worked in is as it was
abbrev pub IsLeftNow : Opening → List (Option Fate) → ℕ → Option Fate → FolderKnown → FolderKnown → Type 0
IsLeftNow o fates place None first now = now ≡ first
IsLeftNow o fates place (Some (Built outcome)) first now = IfSome now.held (HoldsBuilt o fates place outcome)
IsLeftNow o fates place (Some (NotBuilt outcome)) first now = IfSome now.held (λ held. held ≡ nothing)
IsLeftNow o fates place (Some (Skipped need)) first now = now ≡ first

pub record IsHome (o : Opening) (fates : List (Option Fate)) (place : ℕ) (first now : FolderKnown) : Type 0 where
  pub key : now.key ≡ first.key
  pub faults : now.faults ≡ first.faults
  pub left : IsLeftNow o fates place (at fates place) first now

pub record AreHome (o : Opening) (fates : List (Option Fate)) (first now : List FolderKnown) : Type 0 where
  pub long : length now ≡ length first
  pub each : (place : ℕ) (old new : FolderKnown) → slice_get first place ≡ Some old → slice_get now place ≡ Some new → IsHome o fates place old new

-- a compiled place that has its fate
abbrev pub is_covered : (Content → Outcome) → Opening → List (Option Fate) → ℕ → Bool
is_covered compile o fates place = is_compiled compile o place && is_some (at fates place)

-- the partition is free and has given nothing back, and all is as the history says
pub record IsStation (nature : Nature) (o : Opening) (first now : Station) : Type 0 where
  pub legal : Legal o now.events
  pub faithful : nature.honest → Faithful nature.compile o now.events
  pub idle : standing (replay o now.events).standings 1 ≡ Some Idle
  pub unended : count_by is_back now.events ≡ 0
  pub runs : now.counts.runs ≡ first.counts.runs + count_by is_start now.events
  pub deaths : now.counts.deaths ≡ first.counts.deaths
  pub homes : AreHome o (replay o now.events).fates first.folders now.folders
  pub stay : nature.honest → Sound nature.compile o → StayFor nature.compile (inputs_of nature.compile o.plan.jobs) first.folders now.folders
  pub starts : nature.honest → Sound nature.compile o → count_below (is_covered nature.compile o (replay o now.events).fates)
      (length o.plan.jobs) ≤ count_by is_start now.events

-- the build has come to its end, or was cut
abbrev pub Ends : Nature → Opening → Station → Station → Option BuildFault → Type 0
Ends nature o first now None = IsStation nature o first now × HaveFates (length o.plan.jobs) (replay o now.events).fates
Ends nature o first now (Some fault) = (last : Station) × IsStation nature o first last × Cuts nature o last now fault
