use Rattle.std.proofs.Common.{arith}
use Rattle.std.proofs.lemmas.Grind.{common_steps}
use Rattle.tree_store.proofs.FilesLemmas.{below_in_order}
use Rattle.tree_store.proofs.contents.Contents.below.Goals as goal

pub returns-clause-in_order : goal.returns-clause-in_order
returns-clause-in_order c =
    below_in_order c.loop-path.paths.items c.args.dir.now c.self.inside.by_path.entries (grind (arith, common_steps)) c.into_iter-path-iterator.ensures.into_iter_gives.5
