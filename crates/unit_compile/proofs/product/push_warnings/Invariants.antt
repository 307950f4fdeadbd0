use Rattle.std.proofs.Common.{◌≡◌, ◌++◌, map, length}
use Rattle.unit_compile.specs.Units.{warning_lines}
use Rattle.unit_compile.specs.Views.{warning_in}
use Rattle.unit_compile.proofs.product.push_warnings.Given as goal

abbrev pub invariant-loop-warning : goal.invariant-loop-warning
invariant-loop-warning l = l.text.items ++ warning_lines l.path (map warning_in l.left) ≡ l.fn.text.items ++ warning_lines l.path (map warning_in l.fn.warnings)

abbrev pub decreases-loop-warning : goal.decreases-loop-warning
decreases-loop-warning l = length l.left
