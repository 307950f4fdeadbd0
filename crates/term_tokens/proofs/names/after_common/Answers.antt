use Rattle.std.proofs.Common.{◌≡◌, ℕ, ◌<◌, List, [], ◌∷◌, length, drop, refl, sym, ◌∙◌, arith}
use Rattle.term_tokens.specs.Lexed.{after_common}
use Rattle.term_tokens.proofs.names.after_common.Goals as goal

common_done : (word rest : List ℕ) → length rest < 1 → after_common word rest ≡ rest
common_done [] rest h = refl
common_done (letter ∷ word) [] h = refl
common_done (letter ∷ word) (byte ∷ rest) h = absurd (omega (arith, h))

pub returns-in_default : goal.returns-in_default
returns-in_default c =
    sym (common_done (drop c.loop-letter.letter-index c.args.word.now) c.loop-letter.rest.now c.in_default.len_below) ∙ c.loop-letter.invariant
