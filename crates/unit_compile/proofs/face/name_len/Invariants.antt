use Rattle.std.proofs.Common.{◌≡◌, ◌+◌, drop}
use Rattle.unit_compile.specs.Faces.{name_len}
use Rattle.unit_compile.proofs.face.name_len.Given as goal

abbrev pub invariant-loop-len : goal.invariant-loop-len
invariant-loop-len l = l.len + name_len (drop l.len l.line) ≡ name_len l.line
