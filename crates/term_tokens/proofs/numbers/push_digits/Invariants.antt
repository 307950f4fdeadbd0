use Rattle.std.proofs.Common.{◌≡◌, ◌++◌, ℕ, List, false, length}
use Rattle.term_tokens.specs.Lexed.{scanned, with_digits}
use Rattle.term_tokens.proofs.numbers.push_digits.Given as goal

-- what is pushed already, with what is still to come
abbrev pub invariant-loop-rest : goal.invariant-loop-rest
invariant-loop-rest l = (digits : List ℕ) × (with_digits digits (scanned l.base l.after_digit l.rest) ≡ scanned l.base false l.text) × (l.written.items ≡ l.initial.written.items ++ digits)

abbrev pub decreases-loop-rest : goal.decreases-loop-rest
decreases-loop-rest l = length l.rest
