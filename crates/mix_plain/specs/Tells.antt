-- How a command ends that only reads.
use Rattle.std.specs.Prelude.{◌≡◌, ℕ, List, Option, map, option_map}
use Rattle.mx_base.specs.Causes.{Rose}
use Rattle.compile_model.specs.declared.job.Job.{Job}
use Rattle.compile_model.specs.declared.job.Plan.{Plan}
use Rattle.tree_store.specs.Known.{Known}
use Rattle.build_plan.specs.declared.error.PlanError.{PlanError}
use Rattle.build_plan.specs.Plan.{Build}
use Rattle.honest_tree.specs.KeptOf.{AreKeptOf}
use Rattle.staleness.specs.declared.kept.Kept.{Kept}
use Rattle.staleness.specs.declared.why.Why.{Why}
use Rattle.staleness.specs.Report.{IsStaleReport}
use Rattle.mix_answer.specs.declared.status.Status.TheVariants.{Done}
use Rattle.mix_answer.specs.declared.stop.Stop.TheVariants.{Read, Memory}
use Rattle.mix_answer.specs.Answer.{stopped}
use Rattle.mix_answer.specs.Plans.{IsPlanFor, IsRefusalFor}
use Rattle.mix_answer.specs.Reply.{Reply}
use Rattle.mix_plain.specs.Texts.{deps_text, stale_text}

-- reading failed: the store's count rose, or that of folders with a fault, and nothing else changed
pub data IsUnread (old new : Known) : Type 0 where
  store : Rose old.faults new.faults → new ≡ record old { faults = new.faults } → IsUnread old new
  folder : Rose old.returned new.returned → new ≡ record old { returned = new.returned } → IsUnread old new

-- it tells of the plan, and changes nothing; or the files are refused, reading failed, or memory ran out
pub data Tells (build : Build) (Says : Plan → List ℕ → Type 0) (old new : Known) (reply : Reply) : Type 0 where
  told : (plan : Plan) → IsPlanFor build old plan → Says plan reply.text → reply.status ≡ Done → new ≡ old → Tells build Says old new reply
  refused : (error : PlanError) → IsRefusalFor build old error reply → new ≡ old → Tells build Says old new reply
  unread : IsUnread old new → reply ≡ stopped Read → Tells build Says old new reply
  no_memory : new ≡ old → reply ≡ stopped Memory → Tells build Says old new reply

-- `deps` tells each dependency
abbrev pub SaysDeps : Plan → List ℕ → Type 0
SaysDeps plan text = text ≡ deps_text plan.jobs

-- each job that would be compiled again with its reason, by the marks that are kept
pub record ListsStale (jobs : List Job) (kept : List (Option Kept)) (text : List ℕ) : Type 0 where
  pub report : List (ℕ × Why)
  pub stale : IsStaleReport jobs (map (option_map (λ entry. entry.mark)) kept) report
  pub says : text ≡ stale_text jobs report

-- `deps.stale` tells what would be compiled again, by what is kept in the tree
pub record SaysStale (old : Known) (plan : Plan) (text : List ℕ) : Type 0 where
  pub kept : List (Option Kept)
  pub stands : AreKeptOf old.slot plan kept
  pub lists : ListsStale plan.jobs kept text
