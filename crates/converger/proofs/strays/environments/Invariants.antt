use Rattle.std.proofs.Common.{take, []}
use Rattle.std.specs.BTreeSet.{contains_by}
use Rattle.mx_base.specs.Order.{text_cmp}
use Rattle.converger.specs.Strays.{only_of, AreNamed, IsUnnamed}
use Rattle.converger.proofs.strays.environments.Given as goal

abbrev pub invariant-loop-row : goal.invariant-loop-row
invariant-loop-row l = record {
  named : AreNamed only_of (take l.row-index l.rows) (λ env. contains_by (λ name. text_cmp env name.now) l.names);
  unnamed : IsUnnamed only_of (take l.row-index l.rows) [];
}
