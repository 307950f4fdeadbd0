use Rattle.std.proofs.Common.{take, map}
use Rattle.sha2.specs.Hashers.{Holds256}
use Rattle.build_manifest.specs.Diagnostics.{text_about}
use Rattle.build_manifest.proofs.diagnostics.digest_about.Given as goal

abbrev pub invariant-loop-line : goal.invariant-loop-line
invariant-loop-line l = Holds256 l.hasher (text_about l.path (map (λ line. line.now) (take l.line-index l.lines)))
