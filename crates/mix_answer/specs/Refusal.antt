-- What is said of a plan that can't be had.
use Rattle.std.specs.Prelude.{◌≡◌, ℕ, List}
use Rattle.mx_base.specs.Blame.Blame.{Input, Outside}
use Rattle.build_plan.specs.Blame.{blame_of}
use Rattle.build_plan.specs.declared.error.PlanError.{PlanError}
use Rattle.build_plan.specs.declared.error.PlanError.TheVariants as plan
use Rattle.mix_answer.specs.declared.status.Status.{Status}
use Rattle.mix_answer.specs.declared.status.Status.TheVariants.{Refused, Conflict, ReadFault, OutOfMemory, Missing}
use Rattle.mix_answer.specs.Texts.{read_fault_line, memory_line, refusal_line}

-- the status of a refusal of the files: of a text or a limit, of what can't be brought together, or of what is missing
abbrev pub status_of : PlanError → Status
status_of plan.Read = ReadFault
status_of (plan.Settings fault) = Refused
status_of plan.NoProject = Missing
status_of (plan.Project path fault) = Refused
status_of (plan.PathMissing app dir) = Missing
status_of (plan.NotLocked app) = Missing
status_of plan.TooManyRows = Refused
status_of (plan.Diverged lines) = Conflict
status_of (plan.Cycle apps) = Conflict
status_of (plan.TooLarge app) = Refused
status_of plan.OutOfMemory = OutOfMemory

-- a refusal of the files, with its status and its line; or the store had failed; or memory ran out
pub data TellsError (error : PlanError) (status : Status) (text : List ℕ) : Type 0 where
  told : blame_of error ≡ Input → status ≡ status_of error → text ≡ refusal_line error → TellsError error status text
  read : error ≡ plan.Read → status ≡ ReadFault → text ≡ read_fault_line → TellsError error status text
  no_memory : (blame_of error ≡ Outside → ⊥) → status ≡ OutOfMemory → text ≡ memory_line → TellsError error status text
