-- What is done after a build.
use Rattle.std.specs.Prelude.{◌≡◌, ℕ, Bool, List, Vec, Result, Ok, Err}
use Rattle.std.specs.declared.alloc.Global.{Global}
use Rattle.compile_model.specs.declared.job.Plan.{Plan}
use Rattle.compile_model.specs.declared.outcome.Fate.{Fate}
use Rattle.partition_core.specs.declared.event.Event.{Event}
use Rattle.tree_store.specs.Known.{Known}
use Rattle.mix_answer.specs.declared.answer.Answer.{Answer}
use Rattle.mix_answer.specs.declared.stop.Stop.{Stop}
use Rattle.mix_compile.specs.Right.{status_by, told_of}
use Rattle.mix_compile.specs.Settling.{KeepsTree, Settles, built_apps}
use Rattle.mix_compile.specs.Stopping.{CountsStop}

-- whether the trace is told, what happened, and the store before and after
pub record Finish : Type 0 where
  pub trace : Bool
  pub history : List Event
  pub old : Known
  pub new : Known

abbrev pub finish_of : Bool → List Event → Known → Known → Finish
finish_of trace history old new = record { trace = trace; history = history; old = old; new = new }

-- older marks are written again, what wasn't built is cleared, and it is told what became of each job; or a step stops
pub record IsSettled (plan : Plan) (fates : List Fate) (finish : Finish) (answer : Answer) : Type 0 where
  pub tree : Settles plan.env (built_apps plan.jobs fates) finish.old.slot finish.new.slot
  pub ended : answer.status ≡ status_by fates
  pub text : answer.text.items ≡ told_of finish.trace plan fates finish.history

abbrev pub SettlesTo : Plan → List Fate → Finish → Result Answer Stop → Type 0
SettlesTo plan fates finish (Ok answer) = IsSettled plan fates finish answer
SettlesTo plan fates finish (Err stop) = Unit {0}

-- and whatever comes, what is honest stays so
pub record Settled (plan : Plan) (fates : List Fate) (finish : Finish) (answer : Result Answer Stop) : Type 0 where
  pub to : SettlesTo plan fates finish answer
  pub keeps : KeepsTree plan.env finish.old.slot finish.new.slot
  pub counts : CountsStop answer finish.old finish.new

-- where each place has its fate it is settled, and else nothing is done
abbrev pub Finishes : Plan → Result (Vec Fate Global) (Result Answer Stop) → Finish → Result Answer Stop → Type 0
Finishes plan (Ok fates) finish answer = Settled plan fates.items finish answer
Finishes plan (Err came) finish answer = (answer ≡ came) × (finish.new ≡ finish.old)
