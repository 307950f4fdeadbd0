-- The lines of faults.
use Rattle.std.specs.Prelude.{ℕ, List, ◌++◌, codes, decimal}
use Rattle.build_plan.specs.declared.error.PlanError.{PlanError}
use Rattle.build_plan.specs.Said.{line_of, lines_said}

-- a line that says what is wrong
abbrev pub fault_line : List ℕ → List ℕ
fault_line text = line_of (codes "mixc: ") text

abbrev pub read_fault_line : List ℕ
read_fault_line = codes "mixc: read fault\n"

abbrev pub tree_fault_line : List ℕ
tree_fault_line = codes "mixc: tree fault\n"

abbrev pub write_fault_line : List ℕ
write_fault_line = codes "mixc: write fault\n"

abbrev pub maker_fault_line : List ℕ
maker_fault_line = codes "mixc: maker fault\n"

abbrev pub memory_line : List ℕ
memory_line = codes "mixc: out of memory\n"

-- no partition is left, so many died
abbrev pub died_line : ℕ → List ℕ
died_line died = fault_line (codes "no partition left, " ++ decimal died ++ codes " died")

-- what is said of a refusal of the files: one line, and of divergences one line each
abbrev pub refusal_line : PlanError → List ℕ
refusal_line error = lines_said (codes "mixc: ") error
