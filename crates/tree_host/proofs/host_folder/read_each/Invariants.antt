use Rattle.std.proofs.Common.{◌≡◌, ◌++◌}
use Rattle.std.specs.Vec.Iter.{into_iter_items}
use Rattle.mx_base.specs.Order.{paths_of}
use Rattle.tree_host.proofs.host_folder.read_each.Given as goal

abbrev pub invariant-loop-path : goal.invariant-loop-path
invariant-loop-path g l = paths_of l.files.items ++ into_iter_items l.path-iterator ≡ l.fn.paths.items
