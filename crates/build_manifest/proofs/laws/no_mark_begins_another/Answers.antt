use Rattle.build_manifest.proofs.Whole.{no_mark_begins_another}
use Rattle.build_manifest.proofs.laws.no_mark_begins_another.Goals as goal

pub returns : goal.returns
returns c = no_mark_begins_another
