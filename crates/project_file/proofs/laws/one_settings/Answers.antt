use Rattle.project_file.proofs.OneLemmas.{settings_law}
use Rattle.project_file.proofs.laws.one_settings.Goals as goal

pub returns : goal.returns
returns c = settings_law (record { terms = c.one_reading.ensures; refusals = c.one_refusal.ensures; apart = c.no_refusal.ensures })
