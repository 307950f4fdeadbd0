use Rattle.std.proofs.Common.{◌≡◌, ◌+◌, drop}
use Rattle.build_plan.specs.Sources.{bytes_in}
use Rattle.build_plan.proofs.limits.bytes_in.Given as goal

abbrev pub invariant-loop-file : goal.invariant-loop-file
invariant-loop-file l = l.total + bytes_in (drop l.file-index l.files) ≡ bytes_in l.files
