-- How a compile ends.
use Rattle.std.specs.Prelude.{◌≡◌, ◌⊎◌, ℕ, List, [], map, Some, count_by}
use Rattle.mx_base.specs.Causes.{Rose}
use Rattle.compile_model.specs.declared.job.Plan.{Plan}
use Rattle.compile_model.specs.declared.outcome.Fate.{Fate}
use Rattle.build_plan.specs.declared.error.PlanError.{PlanError}
use Rattle.honest_tree.specs.Given.{Given}
use Rattle.mix_answer.specs.declared.stop.Stop.TheVariants.{Read, Tree, Maker, Memory}
use Rattle.mix_answer.specs.declared.status.Status.TheVariants.{Died}
use Rattle.mix_answer.specs.Answer.{stopped}
use Rattle.mix_answer.specs.Plans.{IsPlanFor, IsRefusalFor}
use Rattle.mix_answer.specs.Texts.{died_line}
use Rattle.partition_core.specs.Histories.{replay}
use Rattle.partition_crew.specs.Build.{is_death}
use Rattle.partition_crew.specs.Station.{Nature}
use Rattle.partition_face.specs.Counts.{raised_by}
use Rattle.mix_compile.specs.Asked.{Asked, Came, came_to}
use Rattle.mix_compile.specs.History.{IsCounted, IsHistory, IsRecorded, wanted}
use Rattle.mix_compile.specs.Right.{IsRight, Trusts, status_by, told_of}
use Rattle.mix_compile.specs.Site.{IsCalm, Passage}
use Rattle.kept_tree.specs.Tree.{StaysElsewhere}

-- each job has its fate, by what happened, and of these the report, the trace and the status tell
pub record Built (asked : Asked) (plan : Plan) (passage : Passage) (came : Came) : Type 0 where
  pub recorded : IsRecorded plan asked.partitions passage came.history
  pub fates : List Fate
  pub whole : (replay recorded.opening came.history).fates ≡ map Some fates
  pub text : came.reply.text ≡ told_of asked.trace plan fates came.history
  pub ended : came.reply.status ≡ status_by fates
  pub asked_for : passage.new.maker.asked ≡ raised_by (wanted plan.jobs asked.partitions) passage.old.maker.asked
  pub reads : passage.new.store.faults ≡ passage.old.store.faults
  pub trees : passage.new.store.returned ≡ passage.old.store.returned

-- no partition is left: as many died as the line says
pub record Dies (lasting : Type 0) (passage : Passage) (came : Came) : Type 0 where
  pub rose : Rose passage.old.maker.deaths passage.new.maker.deaths
  pub mortal : lasting → ⊥
  pub reply : came.reply ≡ record { status = Died; text = died_line (count_by is_death came.history) }

-- the ways in which it ends from the plan on
pub data Builds (nature : Nature) (asked : Asked) (plan : Plan) (passage : Passage) (came : Came) : Type 0 where
  built : Built asked plan passage came → Builds nature asked plan passage came
  -- the store failed, or a folder where it was read
  read_fault : Rose passage.old.store.faults passage.new.store.faults ⊎ Rose passage.old.store.returned passage.new.store.returned
      → came.reply ≡ stopped Read → Builds nature asked plan passage came
  tree_fault : Rose passage.old.store.returned passage.new.store.returned → came.reply ≡ stopped Tree → Builds nature asked plan passage came
  died : Dies nature.lasting passage came → Builds nature asked plan passage came
  maker_fault : Rose passage.old.maker.faults passage.new.maker.faults → came ≡ came_to (stopped Maker) [] → Builds nature asked plan passage came
  no_memory : IsCalm passage → came.reply ≡ stopped Memory → Builds nature asked plan passage came

-- what was done with the jobs of a plan
pub record Works (nature : Nature) (asked : Asked) (plan : Plan) (passage : Passage) (came : Came) : Type 0 where
  pub ends : Builds nature asked plan passage came
  pub history : IsHistory plan asked.partitions passage came.history
  pub counts : IsCounted came.history passage.old.maker passage.new.maker
  pub elsewhere : StaysElsewhere plan.env passage.old.store.slot passage.new.store.slot
  pub right : (known : List Given) → Trusts nature plan passage.old.store.slot known → IsRight nature asked plan known passage came

-- the ways in which it ends: before anything changed, or from the plan of the files on
pub data Compiles (nature : Nature) (asked : Asked) (passage : Passage) (came : Came) : Type 0 where
  refused : (error : PlanError) → IsRefusalFor asked.build passage.old.store error came.reply → came.history ≡ [] → passage.new ≡ passage.old
      → Compiles nature asked passage came
  unread : Rose passage.old.store.faults passage.new.store.faults → passage.new.store.slot ≡ passage.old.store.slot
      → passage.new.maker ≡ passage.old.maker → came ≡ came_to (stopped Read) [] → Compiles nature asked passage came
  unplanned : passage.new ≡ passage.old → came ≡ came_to (stopped Memory) [] → Compiles nature asked passage came
  planned : (plan : Plan) → IsPlanFor asked.build passage.old.store plan → Works nature asked plan passage came
      → Compiles nature asked passage came
