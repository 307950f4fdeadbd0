use Rattle.build_manifest.proofs.Whole.{one_mark}
use Rattle.build_manifest.proofs.laws.one_mark.Goals as goal

pub returns : goal.returns
returns c = one_mark
