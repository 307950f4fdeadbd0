use Rattle.std.proofs.Common.{rules}
use Rattle.hex_messages.specs.Canonical.{IsWritableDependency}
use Rattle.conform.proofs.Lists.{all_by_rest, all_by_none}
use Rattle.conform.proofs.writable.are_writable_dependencies.Goals as goal

pub loop-dependency-preserved : goal.loop-dependency-preserved
loop-dependency-preserved c =
    all_by_rest IsWritableDependency c.args.dependencies.now c.loop-dependency.dependency-index c.dependency-item.result c.loop-dependency-test.true c.dependency-item.is (search rules) c.loop-dependency.invariant

pub returns : goal.returns
returns c = λ _. all_by_none IsWritableDependency c.args.dependencies.now c.loop-dependency.dependency-index c.loop-dependency-test.false c.loop-dependency.invariant
