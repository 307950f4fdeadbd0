use Rattle.std.proofs.Common.{◌≡◌, ◌++◌, ◌-◌, ◌≤◌, take, drop, []}
use Rattle.term_tokens.specs.Lexing.{words_from}
use Rattle.term_tokens.proofs.words.cut.Given as goal

-- the words that have ended, with those that are still to come
abbrev pub invariant-loop-end : goal.invariant-loop-end
invariant-loop-end l = (l.start ≤ l.end) × (words_from [] l.text ≡ l.words ++ words_from (take (l.end - l.start) (drop l.start l.text)) (drop l.end l.text))
