use Rattle.std.proofs.Common.{◌≡◌, ◌+◌, drop}
use Rattle.unit_lang.specs.Lexing.{word_len}
use Rattle.unit_lang.proofs.lexer.word_len.Given as goal

abbrev pub invariant-loop-len : goal.invariant-loop-len
invariant-loop-len l = l.len + word_len (drop l.len l.text) ≡ word_len l.text
