use Rattle.std.proofs.Common.{◌∙◌}
use Rattle.project_file.proofs.FileLemmas.{has_named}
use Rattle.project_file.proofs.manager.has_file.Goals as goal

pub returns : goal.returns
returns c = c.has_name.ensures ∙ has_named c.args.name.now c.args.files.now
