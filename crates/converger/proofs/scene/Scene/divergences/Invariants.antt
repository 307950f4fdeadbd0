use Rattle.converger.specs.Cases.{AreBefore, turn_of}
use Rattle.converger.specs.Divergence.{parts_in}
use Rattle.converger.specs.declared.divergence.Rule.TheVariants.{V1}
use Rattle.converger.proofs.scene.Scene.divergences.Given as goal

abbrev pub invariant-loop-other : goal.invariant-loop-other
invariant-loop-other l = AreBefore l.self.rows.now (parts_in l.self.versions.now) (turn_of l.other V1) l.list
