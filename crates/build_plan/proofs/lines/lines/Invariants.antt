use Rattle.std.proofs.Common.{take}
use Rattle.build_plan.specs.Lines.{AreLines}
use Rattle.build_plan.proofs.lines.lines.Given as goal

abbrev pub invariant-loop-divergence : goal.invariant-loop-divergence
invariant-loop-divergence l = AreLines l.rows (take l.divergence-index l.divergences) l.lines
