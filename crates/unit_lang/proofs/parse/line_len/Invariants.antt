use Rattle.std.proofs.Common.{◌≡◌, ◌+◌, drop}
use Rattle.unit_lang.specs.Lexing.{line_len}
use Rattle.unit_lang.proofs.parse.line_len.Given as goal

abbrev pub invariant-loop-len : goal.invariant-loop-len
invariant-loop-len l = l.len + line_len (drop l.len l.text) ≡ line_len l.text
