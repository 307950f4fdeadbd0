-- How compiling one after another ends.
use Rattle.std.specs.Prelude.{◌≡◌, List, ◌++◌}
use Rattle.mx_base.specs.Causes.{Rose}
use Rattle.compile_model.specs.declared.job.Plan.{Plan}
use Rattle.compile_model.specs.declared.outcome.Outcome.{Outcome}
use Rattle.compile_model.specs.Content.{Content}
use Rattle.compile_model.specs.Seq.{seq}
use Rattle.build_plan.specs.declared.error.PlanError.{PlanError}
use Rattle.build_plan.specs.Plan.{Build}
use Rattle.honest_tree.specs.Given.{Given}
use Rattle.honest_tree.specs.Honest.{Honest}
use Rattle.kept_tree.specs.Clearing.{Clears, is_in_env}
use Rattle.kept_tree.specs.Tree.{IsTree, StaysElsewhere}
use Rattle.mix_report.specs.Report.{report}
use Rattle.partition_crew.specs.Build.{inputs_of}
use Rattle.mix_answer.specs.declared.status.Status.TheVariants.{Died}
use Rattle.mix_answer.specs.declared.stop.Stop.TheVariants.{Read, Tree, Memory}
use Rattle.mix_answer.specs.Answer.{stopped}
use Rattle.mix_answer.specs.Plans.{IsPlanFor, IsRefusalFor}
use Rattle.mix_answer.specs.Reply.{Reply, reply_of}
use Rattle.mix_answer.specs.Texts.{died_line}
use Rattle.mix_compile.specs.Right.{status_by}
use Rattle.mix_plain.specs.Filling.{Remakes}
use Rattle.mix_plain.specs.Site.{IsCalm, Passage}

-- the jobs are built: the outputs of each and their mark, and nothing else, are in the tree, and their report is the text
pub record Built (compile : Content → Outcome) (plan : Plan) (passage : Passage) (reply : Reply) : Type 0 where
  pub tree : IsTree plan (seq compile plan.jobs) passage.new.store.slot
  pub report : reply.text ≡ report plan.jobs (seq compile plan.jobs)
  pub ended : reply.status ≡ status_by (seq compile plan.jobs)
  pub calm : IsCalm passage

-- the compiler died: the environment is empty
pub record Dies (plan : Plan) (passage : Passage) (reply : Reply) : Type 0 where
  pub rose : Rose passage.old.deaths passage.new.deaths
  pub tree : Clears (is_in_env plan.env) passage.old.store.slot passage.new.store.slot
  pub says : reply ≡ reply_of Died (died_line 1)

-- the ways in which it ends from the plan on
pub data Builds (compile : Content → Outcome) (plan : Plan) (passage : Passage) (reply : Reply) : Type 0 where
  built : Built compile plan passage reply → Builds compile plan passage reply
  read_fault : Rose passage.old.store.faults passage.new.store.faults → reply ≡ stopped Read → Builds compile plan passage reply
  tree_fault : Rose passage.old.store.returned passage.new.store.returned → reply ≡ stopped Tree → Builds compile plan passage reply
  died : Dies plan passage reply → Builds compile plan passage reply
  no_memory : IsCalm passage → reply ≡ stopped Memory → Builds compile plan passage reply

-- what was done with the jobs of a plan, however it ended
pub record Works (compile : Content → Outcome) (plan : Plan) (passage : Passage) (reply : Reply) : Type 0 where
  pub ends : Builds compile plan passage reply
  -- what may stand in the environment
  pub stands : Remakes plan (seq compile plan.jobs) passage.old.store.slot passage.new.store.slot
  -- other environments are as before
  pub elsewhere : StaysElsewhere plan.env passage.old.store.slot passage.new.store.slot
  -- where the tree was honest for some inputs it is for these and the plan's
  pub honest : (known : List Given) → Honest compile known passage.old.store.slot
      → Honest compile (known ++ inputs_of compile plan.jobs) passage.new.store.slot

-- the ways in which it ends: before anything changed, or from the plan of the files on
pub data Compiles (compile : Content → Outcome) (build : Build) (passage : Passage) (reply : Reply) : Type 0 where
  refused : (error : PlanError) → IsRefusalFor build passage.old.store error reply → passage.new ≡ passage.old → Compiles compile build passage reply
  unread : Rose passage.old.store.faults passage.new.store.faults → passage.new.store.slot ≡ passage.old.store.slot
      → passage.new.deaths ≡ passage.old.deaths → reply ≡ stopped Read → Compiles compile build passage reply
  unplanned : passage.new ≡ passage.old → reply ≡ stopped Memory → Compiles compile build passage reply
  planned : (plan : Plan) → IsPlanFor build passage.old.store plan → Works compile plan passage reply → Compiles compile build passage reply
