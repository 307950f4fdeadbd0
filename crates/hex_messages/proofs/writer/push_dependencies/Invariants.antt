use Rattle.std.proofs.Common.{take}
use Rattle.hex_messages.specs.Canonical.{WritesDependency}
use Rattle.hex_messages.specs.Writing.{AppendsEach}
use Rattle.hex_messages.proofs.writer.push_dependencies.Given as goal

abbrev pub invariant-loop-dependency : goal.invariant-loop-dependency
invariant-loop-dependency l = AppendsEach WritesDependency 3 l.initial.out.items l.out.items (take l.dependency-index l.dependencies)
