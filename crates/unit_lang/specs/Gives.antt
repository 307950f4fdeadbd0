-- What a refusal says inside of the reader.
use Rattle.std.specs.Prelude.{◌≡◌, ◌⊎◌, ℕ, List, ◌++◌, Bool, true, IsTrue, Result, Ok, Err, Option, Some, None}
use Rattle.mx_base.specs.Blame.Blame.{Input}
use Rattle.unit_lang.specs.declared.error.UnitCause.{UnitCause}
use Rattle.unit_lang.specs.declared.error.UnitCause.TheVariants.{NumberTooBig, BadLine, OutOfMemory}
use Rattle.unit_lang.specs.Blame.{cause_blame}
use Rattle.unit_lang.specs.Faults.{LineFault}
use Rattle.unit_lang.specs.Lines.{are_blanks, is_solid}

-- the value, or a refusal where there is none, unless memory ran out
abbrev pub Gives : {X : Type 0} → Result X UnitCause → Option X → Type 0
Gives (Ok x) expected = expected ≡ Some x
Gives (Err cause) expected = cause_blame cause ≡ Input → (cause ≡ BadLine) × (expected ≡ None)

-- the same of what a view shows of the value
abbrev pub GivesBy : {X Y : Type 0} → (X → Y) → Result X UnitCause → Option Y → Type 0
GivesBy view (Ok x) expected = expected ≡ Some (view x)
GivesBy view (Err cause) expected = cause_blame cause ≡ Input → (cause ≡ BadLine) × (expected ≡ None)

-- the cause is the line's fault, or want of memory
abbrev pub FaultsAs : List ℕ → UnitCause → Type 0
FaultsAs line cause = (cause ≡ OutOfMemory) ⊎ LineFault line cause

-- a fault after a number that may have been too great
abbrev pub fault : UnitCause → Bool → UnitCause
fault BadLine true = NumberTooBig
fault cause great = cause

-- what follows `warn` is a text, with blanks around it
pub record IsWarning (rest : List ℕ) (text : List ℕ) : Type 0 where
  pub before : List ℕ
  pub after : List ℕ
  pub before_blank : IsTrue (are_blanks before)
  pub after_blank : IsTrue (are_blanks after)
  pub solid : IsTrue (is_solid text)
  pub split : rest ≡ before ++ text ++ after
