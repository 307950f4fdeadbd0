use Rattle.std.proofs.Common.{◌≡◌, rules}
use Rattle.tree_host.proofs.OrderLemmas.{listed_in_order}
use Rattle.tree_host.proofs.walk.Walk.into_files.Goals as goal

pub returns-clause-in_order : goal.returns-clause-in_order
returns-clause-in_order c =
    let whole : c.in_ok-paths.paths.items ≡ c.self.inside.files.keys = search rules in
    listed_in_order c.in_ok-paths.paths.items c.self.inside.files.keys whole c.into_iter.ensures.into_iter_gives.4
