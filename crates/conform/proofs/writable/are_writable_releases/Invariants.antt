use Rattle.std.proofs.Common.{drop}
use Rattle.std.specs.List.{AllByRecursion}
use Rattle.hex_messages.specs.Canonical.{IsWritableRelease}
use Rattle.conform.proofs.writable.are_writable_releases.Given as goal

abbrev pub invariant-loop-release : goal.invariant-loop-release
invariant-loop-release l = AllByRecursion IsWritableRelease (drop l.release-index l.releases) → AllByRecursion IsWritableRelease l.releases
