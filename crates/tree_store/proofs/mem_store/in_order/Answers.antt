use Rattle.std.proofs.Common.{◌≡◌, List, ℕ, rules, sym, subst}
use Rattle.mx_base.specs.Order.{ArePathsInOrder}
use Rattle.tree_store.proofs.EnvironmentLemmas.{sorted_in_order}
use Rattle.tree_store.proofs.mem_store.in_order.Goals as goal

pub returns-clause-in_order : goal.returns-clause-in_order
returns-clause-in_order c =
    let whole : c.in_ok-listed.listed.items ≡ c.args.names.keys = search rules in
    subst (λ (ps : List (List ℕ)). ArePathsInOrder ps) (sym whole) (sorted_in_order c.args.names.keys c.into_iter.ensures.into_iter_gives.4)
