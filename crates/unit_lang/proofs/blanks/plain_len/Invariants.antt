use Rattle.std.proofs.Common.{◌≡◌, ◌+◌, drop}
use Rattle.unit_lang.specs.Lexing.{plain_len}
use Rattle.unit_lang.proofs.blanks.plain_len.Given as goal

abbrev pub invariant-loop-len : goal.invariant-loop-len
invariant-loop-len l = l.len + plain_len (drop l.len l.line) ≡ plain_len l.line
