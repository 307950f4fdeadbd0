use Rattle.std.proofs.Common.{◌≡◌, drop}
use Rattle.term_tokens.specs.Lexed.{after_common}
use Rattle.term_tokens.proofs.names.after_common.Given as goal

-- what is left of both leads to the same place
abbrev pub invariant-loop-letter : goal.invariant-loop-letter
invariant-loop-letter l = after_common (drop l.letter-index l.word) l.rest ≡ after_common l.word l.text
