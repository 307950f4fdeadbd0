-- Whom a refused plan blames.
use Rattle.mx_base.specs.Blame.{Blame}
use Rattle.mx_base.specs.Blame.Blame.{Input, Outside, Memory}
use Rattle.build_plan.specs.declared.error.PlanError.{PlanError}
use Rattle.build_plan.specs.declared.error.PlanError.TheVariants.{Read, OutOfMemory}

abbrev pub blame_of : PlanError → Blame
blame_of Read = Outside
blame_of OutOfMemory = Memory
blame_of error = Input
