-- How `deps.compile` comes to its answer.
use Rattle.std.specs.Prelude.{◌≡◌, ℕ, List, if◌then◌else◌, Ok, Err}
use Rattle.std.specs.List.{list_any}
use Rattle.mx_base.specs.Blame.Blame.{Input}
use Rattle.mx_base.specs.BuildName.{build_name}
use Rattle.mx_base.specs.Causes.{Rose}
use Rattle.compile_model.specs.declared.job.Plan.{Plan}
use Rattle.compile_model.specs.declared.outcome.Fate.{Fate}
use Rattle.compile_model.specs.declared.outcome.Outcome.{Outcome}
use Rattle.compile_model.specs.Content.{Content}
use Rattle.compile_model.specs.Planned.{ArePlanned}
use Rattle.compile_model.specs.Seq.{seq}
use Rattle.tree_store.specs.declared.key.BuildKey.{BuildKey}
use Rattle.tree_store.specs.Known.{Known, Told}
use Rattle.tree_store.specs.Slot.{Slot}
use Rattle.build_plan.specs.Blame.{blame_of}
use Rattle.build_plan.specs.declared.error.PlanError.{PlanError}
use Rattle.build_plan.specs.Plan.{Build, IsPlan}
use Rattle.mix_report.specs.Report.{report, is_failed}
use Rattle.mix_main.specs.declared.status.Status.{Status}
use Rattle.mix_main.specs.declared.status.Status.TheVariants.{Done, SomeFailed, ReadFault, TreeFault, Died, OutOfMemory}
use Rattle.mix_main.specs.Refusal.{status_of}
use Rattle.mix_main.specs.Reply.{Reply}
use Rattle.mix_main.specs.Texts.{read_fault_line, tree_fault_line, died_line, memory_line, refusal_line}
use Rattle.mix_main.specs.Tree.{ClearsEnv, EachLeavesPart, FillsPartly, LeavesTree, StaysElsewhere}
use Rattle.mix_main.specs.World.{Calm, Passage}

-- 1 where a job failed
abbrev pub status_by : List Fate → Status
status_by fates = if list_any is_failed fates then SomeFailed else Done

-- the jobs are built: their files and no other are in the tree, and their report is the text
pub record Built (compile : Content → Outcome) (plan : Plan) (passage : Passage) (reply : Reply) : Type 0 where
  pub tree : LeavesTree plan.env plan.jobs (seq compile plan.jobs) passage.old.store.slot passage.new.store.slot
  pub report : reply.text ≡ report plan.jobs (seq compile plan.jobs)
  pub ended : reply.status ≡ status_by (seq compile plan.jobs)
  pub calm : Calm passage.old passage.new

-- the compiler died: the environment is empty
pub record Dies (env : List ℕ) (passage : Passage) (reply : Reply) : Type 0 where
  pub rose : Rose passage.old.deaths passage.new.deaths
  pub tree : ClearsEnv env passage.old.store.slot passage.new.store.slot
  pub ended : reply.status ≡ Died
  pub line : reply.text ≡ died_line

-- the ways in which it ends from the plan on
pub data Builds (compile : Content → Outcome) (plan : Plan) (passage : Passage) (reply : Reply) : Type 0 where
  built : Built compile plan passage reply → Builds compile plan passage reply
  read_fault : Rose passage.old.store.faults passage.new.store.faults → reply.status ≡ ReadFault → reply.text ≡ read_fault_line
      → Builds compile plan passage reply
  tree_fault : Rose passage.old.store.returned passage.new.store.returned → reply.status ≡ TreeFault → reply.text ≡ tree_fault_line
      → Builds compile plan passage reply
  died : Dies plan.env passage reply → Builds compile plan passage reply
  no_memory : Calm passage.old passage.new → reply.status ≡ OutOfMemory → reply.text ≡ memory_line → Builds compile plan passage reply

-- what may stand in the environment: some of the files that were there, each whole; or of each app the first output files
pub data Stands (compile : Content → Outcome) (plan : Plan) (old new : BuildKey → Slot) : Type 0 where
  part : EachLeavesPart old new → Stands compile plan old new
  begun : FillsPartly plan.env plan.jobs (seq compile plan.jobs) old new → Stands compile plan old new

-- the plan of a build: that of the project's files, where they are told
pub record IsPlanFor (build : Build) (old : Known) (plan : Plan) : Type 0 where
  pub named : plan.env ≡ build_name build.env build.target
  pub planned : ArePlanned plan.jobs
  pub first : Told old (λ files. IsPlan files build.env build.target) (Ok plan.jobs)

-- what was done with the jobs of a plan, however it ended
pub record Works (compile : Content → Outcome) (plan : Plan) (passage : Passage) (reply : Reply) : Type 0 where
  pub ends : Builds compile plan passage reply
  pub stands : Stands compile plan passage.old.store.slot passage.new.store.slot
  pub elsewhere : StaysElsewhere plan.env passage.old.store.slot passage.new.store.slot

-- the files are refused: the first refusal, with its status and its line, and nothing changed
pub record Refused (build : Build) (error : PlanError) (passage : Passage) (reply : Reply) : Type 0 where
  pub refusal : blame_of error ≡ Input
  pub first : Told passage.old.store (λ files. IsPlan files build.env build.target) (Err error)
  pub line : reply.text ≡ refusal_line error
  pub ended : reply.status ≡ status_of error
  pub same : passage.new ≡ passage.old

-- the ways in which it ends: before anything changed, or from the plan of the files on
pub data Compiles (compile : Content → Outcome) (build : Build) (passage : Passage) (reply : Reply) : Type 0 where
  refused : (error : PlanError) → Refused build error passage reply → Compiles compile build passage reply
  unread : Rose passage.old.store.faults passage.new.store.faults → passage.new.store.slot ≡ passage.old.store.slot
      → reply.status ≡ ReadFault → reply.text ≡ read_fault_line → Compiles compile build passage reply
  unplanned : passage.new ≡ passage.old → reply.status ≡ OutOfMemory → reply.text ≡ memory_line → Compiles compile build passage reply
  planned : (plan : Plan) → IsPlanFor build passage.old.store plan → Works compile plan passage reply → Compiles compile build passage reply

-- what may stand in the build after any status: some of the files that were there, each whole; or of each app of
-- the plan the first output files, and of the next one nothing or a prefix
pub data MayStand (compile : Content → Outcome) (build : Build) (old new : Known) : Type 0 where
  part : EachLeavesPart old.slot new.slot → MayStand compile build old new
  begun : (plan : Plan) → IsPlanFor build old plan → FillsPartly plan.env plan.jobs (seq compile plan.jobs) old.slot new.slot
      → MayStand compile build old new
