use Rattle.std.proofs.Common.{◌≡◌, ℕ, length, take}
use Rattle.partition_core.specs.Agendas.{dependents_at, has, needs_in}
use Rattle.partition_core.proofs.dependents.dependents_of.Given as goal

abbrev pub invariant-loop-place : goal.invariant-loop-place
invariant-loop-place l = record {
  long : length l.dependents.items ≡ length l.jobs;
  each : (need other : ℕ) → has (dependents_at l.dependents.items need) other ≡ has (needs_in (take l.place l.jobs) other) need;
}
