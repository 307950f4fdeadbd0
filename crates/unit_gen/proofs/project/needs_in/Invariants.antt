use Rattle.std.proofs.Common.{◌≡◌, ◌*◌, ◌≤◌, map, take}
use Rattle.unit_gen.specs.Dependency.{needs_in}
use Rattle.unit_gen.specs.Seen.{seen}
use Rattle.unit_gen.proofs.project.needs_in.Given as goal

abbrev pub invariant-loop-one : goal.invariant-loop-one
invariant-loop-one l = record {
  needs : l.needs ≡ needs_in (map seen (take l.one-index l.all));
  few : l.needs ≤ 3 * l.one-index;
}
