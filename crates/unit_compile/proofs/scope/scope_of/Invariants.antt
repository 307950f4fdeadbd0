use Rattle.std.proofs.Common.{◌≡◌, drop}
use Rattle.unit_compile.specs.Lines.{scope_after}
use Rattle.unit_compile.specs.Values.{empty_scope}
use Rattle.unit_compile.specs.Views.{needs_in, scope_in}
use Rattle.unit_compile.proofs.scope.scope_of.Given as goal

abbrev pub invariant-loop-line : goal.invariant-loop-line
invariant-loop-line l = scope_after (needs_in l.needs) (scope_in l.scope) (drop l.line-index l.lines) ≡ scope_after (needs_in l.needs) empty_scope l.lines
