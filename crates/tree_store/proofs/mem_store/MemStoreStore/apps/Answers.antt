use Rattle.tree_store.proofs.MemStoreLemmas.{lists_apps, apps_in_order}
use Rattle.tree_store.proofs.mem_store.MemStoreStore.apps.Goals as goal

pub returns-clause-apps : goal.returns-clause-apps
returns-clause-apps g c = λ app. rw c.in_ok-apps_of.ensures.apps (lists_apps c.args.env.now app c.args.self.now.builds.entries c.in_ok-apps_of.ensures.ordered)

pub returns-clause-in_order : goal.returns-clause-in_order
returns-clause-in_order g c = rw c.in_ok-apps_of.ensures.apps (apps_in_order c.args.env.now c.args.self.now.builds.entries c.in_ok-apps_of.ensures.ordered)
