use Rattle.std.proofs.Common.{arith}
use Rattle.hex_messages.specs.Canonical.{WritesDependency}
use Rattle.hex_messages.proofs.WriteLemmas.{each_none, each_more}
use Rattle.hex_messages.proofs.writer.push_dependencies.Goals as goal

pub loop-dependency-init : goal.loop-dependency-init
loop-dependency-init c = each_none WritesDependency 3 c.args.out.now.items

pub loop-dependency-preserved : goal.loop-dependency-preserved
loop-dependency-preserved c = each_more WritesDependency 3 c.args.out.now.items c.loop-dependency.out.items c.push_bytes.new.out.items
    c.args.dependencies.now c.loop-dependency.dependency-index c.dependency-item.result c.in_ok-bytes.bytes.items (omega arith) c.dependency-item.is
    c.loop-dependency.invariant c.in_ok-bytes.ensures (rw c.as_slice.ensures.value at c.in_ok-push_bytes.ensures)
