-- How a fault is told inside of the reader of a file.
use Rattle.std.specs.Prelude.{◌≡◌, ◌<◌, ◌≤◌, ◌⊎◌, ◌++◌, ℕ, suc, List, [], ◌∷◌, length}
use Rattle.unit_lang.specs.declared.error.UnitCause.TheVariants.{NoUnit, OutOfMemory}
use Rattle.unit_lang.specs.declared.error.UnitCause.{UnitCause}
use Rattle.unit_lang.specs.declared.error.UnitError.{UnitError}
use Rattle.unit_lang.specs.declared.unit.Line.{Line}
use Rattle.unit_lang.specs.declared.unit.Statement.{Statement}
use Rattle.unit_lang.specs.declared.unit.Unit.{Unit as UnitFile}
use Rattle.unit_lang.specs.Faults.{IsUnitless, LineFault, BodyFault}
use Rattle.unit_lang.specs.Lines.{IsBlankLine, Says}
use Rattle.unit_lang.specs.Spells.{Body, longest_line}

-- how a file is refused at a line, for this cause, with only blank lines before it: at line 1 where no `unit` line follows
abbrev pub Refuses : ℕ → List (List ℕ) → UnitCause → UnitError → Type 0
Refuses number lines cause error =
    ((error ≡ record { line = 1; cause = NoUnit }) × (1 < number) × IsUnitless lines)
    ⊎ ((error ≡ record { line = number; cause = cause }) × (1 < number → IsUnitless lines → ⊥))

-- a unit of this name, and what the lines after its heading say
pub record Follows (name : List ℕ) (number : ℕ) (lines : List (List ℕ)) (u : UnitFile) : Type 0 where
  pub is : u ≡ record { name = name; line = number; lines = u.lines }
  pub body : Body (suc number) lines u.lines

abbrev pub BodyFaultAs : ℕ → List (List ℕ) → UnitError → Type 0
BodyFaultAs number lines error = (error.cause ≡ OutOfMemory) ⊎ BodyFault number lines error.line error.cause

-- one more line was heard: it is blank, or says what comes after the others
abbrev pub Hears : ℕ → List ℕ → List Line → List Line → Type 0
Hears number line old new = (length line ≤ longest_line) × ((IsBlankLine line × (new ≡ old)) ⊎ ((s : Statement) × Says line s × (new ≡ old ++ record { number = number; statement = s } ∷ [])))

abbrev pub HearsFault : ℕ → List ℕ → UnitError → Type 0
HearsFault number line error = (error.cause ≡ OutOfMemory) ⊎ ((error.line ≡ number) × LineFault line error.cause)
