-- What happened in a compile, and what the maker counted of it.
use Rattle.std.specs.Prelude.{◌≡◌, ◌⊎◌, ℕ, ◌+◌, ◌^◌, ◌-◌, ◌<◌, ◌≤◌, List, [], ◌∷◌, count_by, if◌then◌else◌}
use Rattle.compile_model.specs.declared.job.Job.{Job}
use Rattle.compile_model.specs.declared.job.Plan.{Plan}
use Rattle.honest_tree.specs.KeptOf.{AreKeptOf}
use Rattle.mx_base.specs.Causes.{Rose}
use Rattle.partition_core.specs.declared.event.Event.{Event}
use Rattle.partition_core.specs.Counts.{is_start}
use Rattle.partition_core.specs.Histories.{Legal}
use Rattle.partition_core.specs.State.{Opening}
use Rattle.partition_crew.specs.Build.{is_death, is_undone}
use Rattle.partition_face.specs.Makers.{MakerKnown}
use Rattle.partition_face.specs.Counts.{raised_by}
use Rattle.tree_store.specs.declared.key.BuildKey.{BuildKey}
use Rattle.tree_store.specs.Slot.{Slot}
use Rattle.mix_compile.specs.Site.{Passage}

-- what a build begins with: the plan, what is kept of it in the tree, and some of the partitions that were asked for
pub record Begins (plan : Plan) (slots : BuildKey → Slot) (partitions : ℕ) (opening : Opening) : Type 0 where
  pub same : opening.plan ≡ plan
  pub kept : AreKeptOf slots plan opening.kept
  pub some : 1 ≤ opening.partitions
  pub few : opening.partitions ≤ partitions

-- the events are legal from such a beginning, with fewer partitions only where the maker failed
pub record IsRecorded (plan : Plan) (partitions : ℕ) (passage : Passage) (history : List Event) : Type 0 where
  pub opening : Opening
  pub begins : Begins plan passage.old.store.slot partitions opening
  pub legal : Legal opening history
  pub short : opening.partitions < partitions → Rose passage.old.maker.faults passage.new.maker.faults

-- nothing happened, or what happened is recorded
abbrev pub IsHistory : Plan → ℕ → Passage → List Event → Type 0
IsHistory plan partitions passage history = (history ≡ []) ⊎ IsRecorded plan partitions passage history

-- a counter that doesn't stand at its last value
abbrev pub Counts : ℕ → Type 0
Counts count = count < 2 ^ 64 - 1

-- a run for each start, but perhaps none for those that were undone; a death for each that was given back by one that died
pub record IsCounted (history : List Event) (old new : MakerKnown) : Type 0 where
  pub most : new.runs ≤ old.runs + count_by is_start history
  pub least : Counts new.runs → old.runs + count_by is_start history ≤ new.runs + count_by is_undone history
  pub deaths : Counts new.deaths → old.deaths + count_by is_death history ≤ new.deaths

-- how many partitions are to be started: none where there is no job
abbrev pub wanted : List Job → ℕ → ℕ
wanted [] partitions = 0
wanted (job ∷ jobs) partitions = partitions
