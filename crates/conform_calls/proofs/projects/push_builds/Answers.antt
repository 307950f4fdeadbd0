use Rattle.std.proofs.Common.{sym, ap, subst}
use Rattle.tree_store.specs.Known.{Known}
use Rattle.tree_store.specs.Slot.{AllHere}
use Rattle.conform_calls.proofs.projects.push_builds.Goals as goal

pub loop-app-init : goal.loop-app-init
loop-app-init g c = subst AllHere (sym (ap (λ (k : Known). k.slot) c.apps.ensures.reads.same)) c.requires
