use Rattle.std.proofs.Common.{subst}
use Rattle.build_plan.specs.Scenes.{IsOrdered, Scenery}
use Rattle.build_plan.proofs.SceneLemmas.{ordered_known}
use Rattle.build_plan.proofs.scene.Scene.len.Goals as goal

pub returns-clause-ordered : goal.returns-clause-ordered
returns-clause-ordered c = subst (λ (s : Scenery). IsOrdered s.schedule) c.self.view_is (ordered_known c.self.invariant c.self.inside.settings.now)
