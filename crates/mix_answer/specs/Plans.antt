-- Where the files have a plan, and where they are refused.
use Rattle.std.specs.Prelude.{◌≡◌, Ok, Err}
use Rattle.mx_base.specs.Blame.Blame.{Input}
use Rattle.mx_base.specs.BuildName.{build_name}
use Rattle.compile_model.specs.declared.job.Plan.{Plan}
use Rattle.compile_model.specs.Planned.{ArePlanned}
use Rattle.tree_store.specs.Known.{Known, Told}
use Rattle.build_plan.specs.Blame.{blame_of}
use Rattle.build_plan.specs.declared.error.PlanError.{PlanError}
use Rattle.build_plan.specs.Plan.{Build, IsPlan}
use Rattle.mix_answer.specs.Refusal.{status_of}
use Rattle.mix_answer.specs.Reply.{Reply}
use Rattle.mix_answer.specs.Texts.{refusal_line}

-- the plan of a build: that of the project's files, where they are told
pub record IsPlanFor (build : Build) (old : Known) (plan : Plan) : Type 0 where
  pub named : plan.env ≡ build_name build.env build.target
  pub planned : ArePlanned plan.jobs
  pub first : Told old (λ files. IsPlan files build.env build.target) (Ok plan.jobs)

-- the files are refused: the first refusal, where they are told, with its status and its line
pub record IsRefusalFor (build : Build) (old : Known) (error : PlanError) (reply : Reply) : Type 0 where
  pub refusal : blame_of error ≡ Input
  pub first : Told old (λ files. IsPlan files build.env build.target) (Err error)
  pub line : reply.text ≡ refusal_line error
  pub ended : reply.status ≡ status_of error
