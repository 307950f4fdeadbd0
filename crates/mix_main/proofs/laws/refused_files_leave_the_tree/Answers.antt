use Rattle.mix_main.proofs.LawLemmas.{refused_files_leave_the_tree}
use Rattle.mix_main.proofs.laws.refused_files_leave_the_tree.Goals as goal

pub returns : goal.returns
returns c = refused_files_leave_the_tree c.one_plan.ensures
