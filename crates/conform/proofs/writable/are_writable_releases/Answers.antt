use Rattle.std.proofs.Common.{rules}
use Rattle.hex_messages.specs.Canonical.{IsWritableRelease}
use Rattle.conform.proofs.Lists.{all_by_rest, all_by_none}
use Rattle.conform.proofs.writable.are_writable_releases.Goals as goal

pub loop-release-preserved : goal.loop-release-preserved
loop-release-preserved c =
    all_by_rest IsWritableRelease c.args.releases.now c.loop-release.release-index c.release-item.result c.loop-release-test.true c.release-item.is (search rules) c.loop-release.invariant

pub returns : goal.returns
returns c = λ _. all_by_none IsWritableRelease c.args.releases.now c.loop-release.release-index c.loop-release-test.false c.loop-release.invariant
