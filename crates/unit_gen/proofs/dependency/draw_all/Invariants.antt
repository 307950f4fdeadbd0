use Rattle.std.proofs.Common.{◌≡◌, ◌≤◌, length, map}
use Rattle.std.specs.List.{All}
use Rattle.unit_gen.specs.Dependency.{begins, dependencies}
use Rattle.unit_gen.specs.Seen.{seen}
use Rattle.unit_gen.proofs.dependency.draw_all.Given as goal

abbrev pub invariant-loop-before : goal.invariant-loop-before
invariant-loop-before l = record {
  all : map seen l.all.items ≡ dependencies l.start l.before;
  count : length l.all.items ≡ l.before;
  few : All (λ one. length one.needs.items ≤ 3) l.all.items;
  on : l.stream ≡ begins l.start l.before;
}
