use Rattle.unitc_call.proofs.LawLemmas.{tasks_compiled}
use Rattle.unitc_call.proofs.laws.tasks_are_compiled.Goals as goal

pub returns : goal.returns
returns c = tasks_compiled
