use Rattle.std.proofs.Common.{◌≡◌, length}
use Rattle.hex_pick.specs.Walking.{Stands}
use Rattle.hex_pick.proofs.walk.Walk.goes_on.Given as goal

abbrev pub invariant-back : goal.invariant-back
invariant-back l =
    record {
      stands : Stands l.registry l.wants l.self l.step;
      count : l.self.count ≡ l.fn.self.count;
    }

abbrev pub decreases-back : goal.decreases-back
decreases-back l = length l.self.steps.items
