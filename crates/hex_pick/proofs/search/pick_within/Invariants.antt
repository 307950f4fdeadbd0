use Rattle.std.proofs.Common.{◌+◌, ◌-◌, ◌≤◌}
use Rattle.hex_pick.specs.Walking.{ComesTo}
use Rattle.hex_pick.proofs.search.pick_within.Given as goal

abbrev pub invariant-walk : goal.invariant-walk
invariant-walk l =
    record {
      comes : ComesTo l.registry l.wants l.walk;
      few : l.walk.count ≤ l.limit + 1;
    }

abbrev pub decreases-walk : goal.decreases-walk
decreases-walk l = l.limit + 1 - l.walk.count
