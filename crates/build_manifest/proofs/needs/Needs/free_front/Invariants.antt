use Rattle.std.proofs.Common.{◌≡◌, ◌+◌, ◌<◌, ◌≤◌, length, take}
use Rattle.build_manifest.specs.Names.{BeginsFree}
use Rattle.build_manifest.proofs.needs.Needs.free_front.Given as goal

-- with one byte more no free name begins so
abbrev pub invariant-fronts : goal.invariant-fronts
invariant-fronts l = record {
  cut : l.front ≡ take (length l.front) l.name;
  within : length l.front ≤ length l.name;
  used : length l.front < length l.name → BeginsFree l.self.listed.items (take (length l.front + 1) l.name) → ⊥;
}

abbrev pub decreases-fronts : goal.decreases-fronts
decreases-fronts l = length l.front
