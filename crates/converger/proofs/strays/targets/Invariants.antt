use Rattle.std.proofs.Common.{take, []}
use Rattle.std.specs.BTreeSet.{contains_by}
use Rattle.mx_base.specs.Order.{text_cmp}
use Rattle.converger.specs.Strays.{targets_of, AreNamed, IsUnnamed}
use Rattle.converger.proofs.strays.targets.Given as goal

abbrev pub invariant-loop-row : goal.invariant-loop-row
invariant-loop-row l = record {
  named : AreNamed targets_of (take l.row-index l.rows) (λ target. contains_by (λ name. text_cmp target name.now) l.names);
  unnamed : IsUnnamed targets_of (take l.row-index l.rows) [];
}
