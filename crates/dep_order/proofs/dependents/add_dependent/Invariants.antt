use Rattle.std.proofs.Common.{◌≡◌, length, take}
use Rattle.dep_order.proofs.Naming.{Named}
use Rattle.dep_order.proofs.dependents.add_dependent.Given as goal

abbrev pub invariant-loop-need : goal.invariant-loop-need
invariant-loop-need l = record {
  long : length l.dependents.items ≡ length l.fn.dependents.items;
  each : Named l.fn.dependents.items l.dependents.items l.place (take l.need-index l.needs);
}
