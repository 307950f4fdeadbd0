use Rattle.std.proofs.Common.{◌≡◌, ◌≤◌, length, map}
use Rattle.unit_gen.specs.Dependency.{firsts, need_of}
use Rattle.unit_gen.specs.Stream.{draws, number_at}
use Rattle.unit_gen.proofs.dependency.draw_needs.Given as goal

abbrev pub invariant-loop-place : goal.invariant-loop-place
invariant-loop-place l = record {
  needs : l.needs.items ≡ firsts (map (need_of l.number) (draws l.fn.stream 0 l.place));
  on : l.stream ≡ number_at l.fn.stream l.place;
  few : length l.needs.items ≤ l.place;
}
