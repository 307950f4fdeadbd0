use Rattle.std.proofs.Common.{◌≡◌, false}
use Rattle.term_tokens.specs.Lexed.{some_low}
use Rattle.term_tokens.proofs.stuck.some_low.Given as goal

abbrev pub invariant-loop-low : goal.invariant-loop-low
invariant-loop-low l = some_low l.bytes l.high l.low ≡ false
