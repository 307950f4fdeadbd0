use Rattle.std.proofs.Common.{◌≡◌, ◌+◌, drop}
use Rattle.term_tokens.specs.Lexing.{hex_len}
use Rattle.term_tokens.proofs.strings.hex_len.Given as goal

abbrev pub invariant-loop-len : goal.invariant-loop-len
invariant-loop-len l = l.len + hex_len (drop l.len l.text) ≡ hex_len l.text
