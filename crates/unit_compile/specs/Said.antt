-- The lines that a unit file gives.
use Rattle.std.specs.Prelude.{ℕ, List, [], ◌∷◌, ◌++◌, codes, decimal}
use Rattle.unit_lang.specs.declared.error.UnitCause.{UnitCause}
use Rattle.unit_lang.specs.declared.error.UnitCause.TheVariants.{TooLong, NoUnit, TooDeep, NumberTooBig, BadLine, OutOfMemory}

-- what is said of a text that is no unit
abbrev pub said_of_cause : UnitCause → List ℕ
said_of_cause TooLong = codes "too long"
said_of_cause NoUnit = codes "no unit line"
said_of_cause TooDeep = codes "too deep"
said_of_cause NumberTooBig = codes "number too big"
said_of_cause BadLine = codes "bad line"
said_of_cause OutOfMemory = []

-- what is said of a unit that means nothing
abbrev pub there_already : List ℕ → List ℕ
there_already name = name ++ codes " is there already"

abbrev pub is_unknown : List ℕ → List ℕ
is_unknown name = name ++ codes " is unknown"

abbrev pub overflow : List ℕ
overflow = codes "overflow"

-- the name that another unit is written by, and that of a value of another unit
abbrev pub dotted : List ℕ → List ℕ → List ℕ
dotted first second = first ++ codes "." ++ second

abbrev pub is_missing : List ℕ → List ℕ → List ℕ
is_missing app unit = dotted app unit ++ codes " is missing"

abbrev pub unit_there : List ℕ → List ℕ
unit_there name = codes "unit " ++ there_already name

abbrev pub is_unused : List ℕ → List ℕ
is_unused name = name ++ codes " is unused"

-- where something is told, and the lines of errors and warnings
abbrev pub place_of : List ℕ → ℕ → List ℕ
place_of path line = path ++ codes ":" ++ decimal line

abbrev pub error_line : List ℕ → ℕ → List ℕ → List ℕ
error_line path line said = place_of path line ++ codes ": error: " ++ said ++ codes "\n"

abbrev pub warning_line : List ℕ → ℕ → List ℕ → List ℕ
warning_line path line said = place_of path line ++ codes ": warning: " ++ said ++ codes "\n"
