use Rattle.std.proofs.Common.{sym, subst, ◌<◌, ◌^◌}
use Rattle.std.specs.Str.Parse.{IsNumeral, digits_value, without_leading_plus}
use Rattle.term_tokens.proofs.NumberLemmas.{scalar_too_big}
use Rattle.term_tokens.proofs.strings.scalar.Goals as goal

pub returns-in-Err-value : goal.returns-in-Err-value
returns-in-Err-value c =
    sym (scalar_too_big c.args.digits.now c.requires.hex c.requires.some
    (subst (λ t. IsNumeral 16 (without_leading_plus t) × (digits_value 16 (without_leading_plus t) < 2 ^ 32) → ⊥) c.in-Ok.ensures.cases.0 c.in-Err-value.ensures.value))
