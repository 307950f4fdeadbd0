use Rattle.std.proofs.Common.{◌≡◌, IfOk, rules}
use Rattle.std.proofs.lemmas.Result.{IfOk-weaker}
use Rattle.dep_order.proofs.Searching.{set_numbers}
use Rattle.dep_order.proofs.ranks.increasing.Goals as goal

pub returns : goal.returns
returns c =
    let listed : IfOk c.collect.result (λ list. list.items ≡ c.args.numbers.keys) = search rules in
    IfOk-weaker c.collect.result _ _ (λ list are. set_numbers c.args.numbers list.items c.into_iter.ensures.into_iter_gives.4 are) listed
