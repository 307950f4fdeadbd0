-- What a compile leaves where its premises hold.
use Rattle.std.specs.Prelude.{◌≡◌, ℕ, ◌+◌, ◌≤◌, Bool, true, false, List, [], ◌++◌, length, if◌then◌else◌, IsTrue, count_by}
use Rattle.std.specs.List.{list_any}
use Rattle.compile_model.specs.declared.job.Plan.{Plan}
use Rattle.compile_model.specs.declared.outcome.Fate.{Fate}
use Rattle.compile_model.specs.Seq.{seq}
use Rattle.honest_tree.specs.Given.{Given, NoClash}
use Rattle.honest_tree.specs.Honest.{Honest}
use Rattle.kept_tree.specs.Tree.{IsTree}
use Rattle.mix_answer.specs.declared.status.Status.{Status}
use Rattle.mix_answer.specs.declared.status.Status.TheVariants as status
use Rattle.mix_report.specs.Report.{report, is_failed}
use Rattle.mix_report.specs.Trace.{trace}
use Rattle.partition_core.specs.declared.event.Event.{Event}
use Rattle.partition_core.specs.declared.event.Event.TheVariants.{Keep, Start, Finish, Fail, Skip, Back}
use Rattle.partition_core.specs.declared.event.BackCause.TheVariants as back
use Rattle.partition_core.specs.Counts.{count_below, is_compiled}
use Rattle.partition_core.specs.State.{Opening}
use Rattle.partition_crew.specs.Build.{inputs_of}
use Rattle.partition_crew.specs.Station.{Nature}
use Rattle.tree_store.specs.declared.key.BuildKey.{BuildKey}
use Rattle.tree_store.specs.Slot.{Slot}
use Rattle.mix_compile.specs.Asked.{Asked, Came}
use Rattle.mix_compile.specs.History.{Begins}
use Rattle.mix_compile.specs.Site.{Passage}

-- 1 where a job failed
abbrev pub status_by : List Fate → Status
status_by fates = if list_any is_failed fates then status.SomeFailed else status.Done

-- the report, and the trace where it is asked for
abbrev pub told_of : Bool → Plan → List Fate → List Event → List ℕ
told_of traced plan fates history = report plan.jobs fates ++ (if traced then trace plan.jobs history else [])

-- the status says that each job has come to its end
abbrev pub IsDone : Status → Type 0
IsDone status.Done = Unit {0}
IsDone status.SomeFailed = Unit {0}
IsDone other = ⊥

-- the partitions are honest and the folders tell, the tree is honest for these inputs, and no two of them and of the plan's
-- inputs that differ have one description
pub record Trusts (nature : Nature) (plan : Plan) (slots : BuildKey → Slot) (known : List Given) : Type 0 where
  pub honest : nature.honest
  pub tree : Honest nature.compile known slots
  pub apart : NoClash (known ++ inputs_of nature.compile plan.jobs)

-- a place is given back for want of memory
abbrev pub is_unremembered : Event → Bool
is_unremembered (Back place by back.Memory) = true
is_unremembered event = false

-- neither a partition died nor a folder failed, nor was a place given back for want of memory
pub record IsSmooth (passage : Passage) (history : List Event) : Type 0 where
  pub deaths : passage.new.maker.deaths ≡ passage.old.maker.deaths
  pub reads : passage.new.store.faults ≡ passage.old.store.faults
  pub trees : passage.new.store.returned ≡ passage.old.store.returned
  pub memory : count_by is_unremembered history ≡ 0

-- how many places of an opening have to be compiled: all their needs are built, and no matching mark is kept
abbrev pub stale_places : Nature → Opening → ℕ
stale_places nature opening = count_below (is_compiled nature.compile opening) (length opening.plan.jobs)

-- no place is run but for the stale ones, and once more for each partition at most
pub record RunsStale (nature : Nature) (opening : Opening) (partitions : ℕ) (passage : Passage) (history : List Event) : Type 0 where
  pub most : passage.new.maker.runs ≤ passage.old.maker.runs + (stale_places nature opening + partitions)
  pub smooth : IsSmooth passage history → passage.new.maker.runs ≤ passage.old.maker.runs + stale_places nature opening

-- after any status the tree is honest for the inputs of the plan too, and only stale places were run; where each job has come
-- to its end, tree, report and status are those of compiling one job after another
pub record IsRight (nature : Nature) (asked : Asked) (plan : Plan) (known : List Given) (passage : Passage) (came : Came) : Type 0 where
  pub stays : Honest nature.compile (known ++ inputs_of nature.compile plan.jobs) passage.new.store.slot
  pub tree : IsDone came.reply.status → IsTree plan (seq nature.compile plan.jobs) passage.new.store.slot
  pub text : IsDone came.reply.status → came.reply.text ≡ told_of asked.trace plan (seq nature.compile plan.jobs) came.history
  pub ended : IsDone came.reply.status → came.reply.status ≡ status_by (seq nature.compile plan.jobs)
  pub runs : (opening : Opening) → Begins plan passage.old.store.slot asked.partitions opening
      → RunsStale nature opening asked.partitions passage came.history
