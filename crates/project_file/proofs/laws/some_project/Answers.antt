use Rattle.project_file.proofs.SomeLemmas.{each_reading, some_project}
use Rattle.project_file.proofs.laws.some_project.Goals as goal

pub returns : goal.returns
returns c = some_project (each_reading c.some_answer.ensures)
