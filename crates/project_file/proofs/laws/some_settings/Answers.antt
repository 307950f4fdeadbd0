use Rattle.project_file.proofs.SomeLemmas.{each_reading, some_settings}
use Rattle.project_file.proofs.laws.some_settings.Goals as goal

pub returns : goal.returns
returns c = some_settings (each_reading c.some_answer.ensures)
