-- What is settled once each place has its fate.
use Rattle.std.proofs.Common.{◌≡◌, ℕ, List, Result, Ok, Err, IfOk, OnOk, subst}
use Rattle.compile_model.specs.declared.job.Plan.{Plan}
use Rattle.compile_model.specs.declared.outcome.Fate.{Fate}
use Rattle.mix_answer.specs.declared.answer.Answer.{Answer}
use Rattle.mix_answer.specs.declared.stop.Stop.{Stop}
use Rattle.mix_compile.specs.Finishing.{Finish, Settled, SettlesTo}
use Rattle.mix_compile.specs.Right.{status_by, told_of}
use Rattle.mix_compile.specs.Settling.{KeepsTree, Settles, built_apps}
use Rattle.mix_compile.specs.Stopping.{CountsStop}

settles_to : (plan : Plan) (fates : List Fate) (finish : Finish) (result : Result Answer Stop)
    → IfOk result (λ a. (a.status ≡ status_by fates) × (a.text.items ≡ told_of finish.trace plan fates finish.history))
    → OnOk result (Settles plan.env (built_apps plan.jobs fates) finish.old.slot finish.new.slot) → SettlesTo plan fates finish result
settles_to plan fates finish (Ok answer) told tree = record { tree = tree; ended = told.0; text = told.1 }
settles_to plan fates finish (Err stop) told tree = tt

pub settled_by : (plan : Plan) (fates read : List Fate) (finish : Finish) (result : Result Answer Stop) → read ≡ fates
    → IfOk result (λ a. (a.status ≡ status_by read) × (a.text.items ≡ told_of finish.trace plan read finish.history))
    → OnOk result (Settles plan.env (built_apps plan.jobs read) finish.old.slot finish.new.slot) → KeepsTree plan.env finish.old.slot finish.new.slot
    → CountsStop result finish.old finish.new → Settled plan fates finish result
settled_by plan fates read finish result same told tree keeps counts =
    subst (λ (fs : List Fate). Settled plan fs finish result) same (record {
      to = settles_to plan read finish result told tree;
      keeps = keeps;
      counts = counts;
    })
