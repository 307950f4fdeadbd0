use Rattle.std.proofs.Common.{◌≡◌, drop}
use Rattle.mx_base.specs.Order.{bytes_at}
use Rattle.unit_compile.proofs.needs.bytes_at.Given as goal

abbrev pub invariant-loop-file : goal.invariant-loop-file
invariant-loop-file l = bytes_at l.path (drop l.file-index l.files) ≡ bytes_at l.path l.files
