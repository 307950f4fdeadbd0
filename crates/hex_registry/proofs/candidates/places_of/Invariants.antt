use Rattle.std.proofs.Common.{◌≡◌, ◌++◌, map, drop}
use Rattle.hex_registry.proofs.candidates.places_of.Given as goal

abbrev pub invariant-loop-candidate : goal.invariant-loop-candidate
invariant-loop-candidate l = l.places.items ++ map (λ c. c.place) (drop l.candidate-index l.candidates) ≡ map (λ c. c.place) l.candidates
