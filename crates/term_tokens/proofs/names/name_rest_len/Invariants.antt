use Rattle.std.proofs.Common.{◌≡◌, ◌+◌, drop}
use Rattle.term_tokens.specs.Lexing.{name_rest_len}
use Rattle.term_tokens.proofs.names.name_rest_len.Given as goal

abbrev pub invariant-loop-len : goal.invariant-loop-len
invariant-loop-len l = l.len + name_rest_len (drop l.len l.text) ≡ name_rest_len l.text
