use Rattle.std.proofs.Common.{◌≡◌, ◌≤◌, drop, map, length}
use Rattle.unit_compile.specs.Warnings.{warnings_of}
use Rattle.unit_compile.specs.Views.{Names, warning_in}
use Rattle.unit_compile.proofs.WarningLemmas.{Noted}
use Rattle.unit_compile.proofs.warning.warnings_of.Given as goal

abbrev pub invariant-loop-place : goal.invariant-loop-place
invariant-loop-place l = Noted l.place l.lines l.warnings l.named

abbrev pub decreases-loop-place : goal.decreases-loop-place
decreases-loop-place l = l.place
