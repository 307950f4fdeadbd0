use Rattle.std.proofs.Common.{take}
use Rattle.hex_messages.specs.Canonical.{WritesRelease}
use Rattle.hex_messages.specs.Writing.{AppendsEach}
use Rattle.hex_messages.proofs.writer.push_releases.Given as goal

abbrev pub invariant-loop-release : goal.invariant-loop-release
invariant-loop-release l = AppendsEach WritesRelease 1 l.initial.out.items l.out.items (take l.release-index l.releases)
