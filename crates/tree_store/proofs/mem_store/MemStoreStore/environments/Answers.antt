use Rattle.std.proofs.Common.{◌∙◌}
use Rattle.tree_store.proofs.EnvironmentLemmas.{are_environments}
use Rattle.tree_store.proofs.mem_store.MemStoreStore.environments.Goals as goal

pub returns-clause-envs : goal.returns-clause-envs
returns-clause-envs g c =
    are_environments c.in_ok-in_order.field-0.items c.args.self.now.builds.entries (c.in_ok-in_order.ensures.names ∙ c.in_ok-envs.ensures.envs) c.in_ok-envs.ensures.ordered
