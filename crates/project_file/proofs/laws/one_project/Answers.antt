use Rattle.project_file.proofs.OneLemmas.{project_law}
use Rattle.project_file.proofs.laws.one_project.Goals as goal

pub returns : goal.returns
returns c = project_law (record { terms = c.one_reading.ensures; refusals = c.one_refusal.ensures; apart = c.no_refusal.ensures }) c.one_answer.ensures
