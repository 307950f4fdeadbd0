use Rattle.std.proofs.Common.{arith}
use Rattle.std.proofs.lemmas.Grind.{common_steps}
use Rattle.tree_store.proofs.FilesLemmas.{copied_in_order}
use Rattle.tree_store.proofs.contents.Contents.files.Goals as goal

pub from_vec-requires : goal.from_vec-requires
from_vec-requires c =
    copied_in_order c.loop-path.files.items c.self.inside.by_path.entries (grind (arith, common_steps)) c.into_iter-path-iterator.ensures.into_iter_gives.5
