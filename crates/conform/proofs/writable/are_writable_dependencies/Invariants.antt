use Rattle.std.proofs.Common.{drop}
use Rattle.std.specs.List.{AllByRecursion}
use Rattle.hex_messages.specs.Canonical.{IsWritableDependency}
use Rattle.conform.proofs.writable.are_writable_dependencies.Given as goal

abbrev pub invariant-loop-dependency : goal.invariant-loop-dependency
invariant-loop-dependency l = AllByRecursion IsWritableDependency (drop l.dependency-index l.dependencies) → AllByRecursion IsWritableDependency l.dependencies
