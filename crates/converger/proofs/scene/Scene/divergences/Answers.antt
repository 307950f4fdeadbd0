use Rattle.std.proofs.Common.{length, ap, arith}
use Rattle.converger.specs.Divergence.{parts_in}
use Rattle.converger.proofs.Turns.{before_all}
use Rattle.converger.proofs.scene.Scene.divergences.Goals as goal

pub returns : goal.returns
returns c =
    before_all c.args.self.now.rows.now (parts_in c.args.self.now.versions.now) c.loop-other.other c.loop-other.list
    (omega (arith, ap length c.rows-other-end.ensures.rows)) c.loop-other.invariant
