-- Answers of what also keeps limits.
use Rattle.std.specs.Prelude.{◌≡◌, ℕ, Option, Some, None, Result, Ok, Err, IsFalse}
use Rattle.term_tokens.specs.declared.fault.Fault.{Fault}
use Rattle.term_tokens.specs.declared.cause.TermCause.TheVariants.{TooDeep}
use Rattle.term_tokens.specs.Refused.{is_memory}

-- the value where the limit on levels is kept, or a fault at the place where it isn't or there is none, unless
-- memory ran out
abbrev pub GivesWhere : {X : Type 0} → Type 0 → ℕ → Result X Fault → Option X → Type 0
GivesWhere Kept left (Ok x) expected = Kept × (expected ≡ Some x)
GivesWhere Kept left (Err fault) expected = IsFalse (is_memory fault.cause) → (fault.left ≡ left) × (Kept → expected ≡ None) × ((expected ≡ None → ⊥) → fault.cause ≡ TooDeep)
