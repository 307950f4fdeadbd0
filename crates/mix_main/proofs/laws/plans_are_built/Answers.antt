use Rattle.mix_main.proofs.LawLemmas.{plans_are_built}
use Rattle.mix_main.proofs.laws.plans_are_built.Goals as goal

pub returns : goal.returns
returns c = plans_are_built c.one_plan.ensures
