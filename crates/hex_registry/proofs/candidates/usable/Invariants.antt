use Rattle.std.proofs.Common.{◌≡◌, ◌++◌, map, drop}
use Rattle.hex_registry.specs.Candidates.{candidate_in, usable_from}
use Rattle.hex_registry.proofs.candidates.usable.Given as goal

abbrev pub invariant-loop-place : goal.invariant-loop-place
invariant-loop-place l =
    map candidate_in l.candidates.items ++ usable_from l.locked l.place (drop l.place l.offer-items) ≡ usable_from l.locked 0 l.offer-items
