use Rattle.std.proofs.Common.{◌≡◌, ℕ, ◌==◌, ◌||◌, ◌&&◌, length, take}
use Rattle.partition_core.specs.Agendas.{dependents_at, has}
use Rattle.partition_core.proofs.dependents.add_dependent.Given as goal

abbrev pub invariant-loop-need : goal.invariant-loop-need
invariant-loop-need l = record {
  long : length l.dependents.items ≡ length l.fn.dependents.items;
  each : (need other : ℕ) → has (dependents_at l.dependents.items need) other
      ≡ (has (dependents_at l.fn.dependents.items need) other || (l.place == other && has (take l.need-index l.needs) need));
}
