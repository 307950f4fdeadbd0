use Rattle.std.proofs.Common.{◌≤◌, ◌<◌, ℕ, IsFalse}
use Rattle.std.specs.Prelude.{slice_index}
use Rattle.hex_pick.specs.Fitting.{fits}
use Rattle.hex_pick.proofs.walk.first_fit.Given as goal

abbrev pub invariant-loop-at : goal.invariant-loop-at
invariant-loop-at l = (k : ℕ) → l.step.next ≤ k → k < l.at → IsFalse (fits l.registry l.wants l.pick (l.step.name, slice_index l.step.candidates.items k))
