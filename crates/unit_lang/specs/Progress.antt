-- What one more token does to the reader of a line, and what its end does.
use Rattle.std.specs.Prelude.{◌≡◌, ◌<◌, ◌≤◌, ◌⊎◌, ◌||◌, true, false, Some, None, Result, Ok, Err}
use Rattle.unit_lang.specs.declared.error.UnitCause.{UnitCause}
use Rattle.unit_lang.specs.declared.error.UnitCause.TheVariants.{TooDeep, NumberTooBig, BadLine, OutOfMemory}
use Rattle.unit_lang.specs.declared.progress.Progress.{Progress}
use Rattle.unit_lang.specs.declared.state.State.{State}
use Rattle.unit_lang.specs.declared.state.State.TheVariants.{Start}
use Rattle.unit_lang.specs.declared.token.Token.{Token}
use Rattle.unit_lang.specs.declared.unit.Statement.{Statement}
use Rattle.unit_lang.specs.Gives.{fault}
use Rattle.unit_lang.specs.Lexing.{too_great}
use Rattle.unit_lang.specs.Machine.{step, finished, depth}

abbrev pub first : Progress
first = record { state = Start; great = false }

-- the token leads on
pub record Advances (p : Progress) (token : Token) (next : Progress) : Type 0 where
  pub stepped : step p.state token ≡ Some next.state
  pub room : depth next.state ≤ 64
  pub flag : next.great ≡ (p.great || too_great token)

-- the token doesn't: it may not stand there, or opens too many levels, or memory ran out
pub data Stops : Progress → Token → UnitCause → Type 0 where
  memory : {p : Progress} {token : Token} → Stops p token OutOfMemory
  stuck : {p : Progress} {token : Token} → step p.state token ≡ None → Stops p token (fault BadLine p.great)
  deep : {p : Progress} {token : Token} {next : State} → step p.state token ≡ Some next → 64 < depth next → Stops p token TooDeep

-- at the end of the line
abbrev pub FinishesAs : Progress → Result Statement UnitCause → Type 0
FinishesAs p (Ok s) = (p.great ≡ false) × (finished p.state ≡ Some s)
FinishesAs p (Err cause) = (cause ≡ OutOfMemory) ⊎ (((p.great ≡ true) × (cause ≡ NumberTooBig)) ⊎ ((p.great ≡ false) × (cause ≡ BadLine) × (finished p.state ≡ None)))
