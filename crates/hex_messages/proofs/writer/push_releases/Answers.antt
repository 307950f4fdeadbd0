use Rattle.std.proofs.Common.{arith}
use Rattle.hex_messages.specs.Canonical.{WritesRelease}
use Rattle.hex_messages.proofs.WriteLemmas.{each_none, each_more}
use Rattle.hex_messages.proofs.writer.push_releases.Goals as goal

pub loop-release-init : goal.loop-release-init
loop-release-init c = each_none WritesRelease 1 c.args.out.now.items

pub loop-release-preserved : goal.loop-release-preserved
loop-release-preserved c = each_more WritesRelease 1 c.args.out.now.items c.loop-release.out.items c.push_bytes.new.out.items c.args.releases.now
    c.loop-release.release-index c.release-item.result c.in_ok-bytes.bytes.items (omega arith) c.release-item.is c.loop-release.invariant
    c.in_ok-bytes.ensures (rw c.as_slice.ensures.value at c.in_ok-push_bytes.ensures)
