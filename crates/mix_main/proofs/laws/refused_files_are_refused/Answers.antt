use Rattle.mix_main.proofs.LawLemmas.{refused_files_are_refused}
use Rattle.mix_main.proofs.laws.refused_files_are_refused.Goals as goal

pub returns : goal.returns
returns c = refused_files_are_refused c.one_plan.ensures
