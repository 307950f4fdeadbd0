use Rattle.std.proofs.Common.{◌≡◌, ◌++◌}
use Rattle.build_manifest.proofs.Pushes.{diagnosed_to}
use Rattle.build_manifest.proofs.writing.push_diagnosed.Given as goal

abbrev pub invariant-loop-i : goal.invariant-loop-i
invariant-loop-i l = l.text.items ≡ l.fn.text.items ++ diagnosed_to l.i l.digests l.rows
