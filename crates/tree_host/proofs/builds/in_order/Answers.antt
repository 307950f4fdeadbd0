use Rattle.std.proofs.Common.{◌≡◌, rules}
use Rattle.tree_host.proofs.OrderLemmas.{listed_in_order}
use Rattle.tree_host.proofs.builds.in_order.Goals as goal

pub returns : goal.returns
returns c =
    let whole : c.in_ok-listed.listed.items ≡ c.args.names.keys = search rules in
    listed_in_order c.in_ok-listed.listed.items c.args.names.keys whole c.into_iter.ensures.into_iter_gives.4
