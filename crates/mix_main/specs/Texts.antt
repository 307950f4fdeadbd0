-- The texts of the program, but for the report.
use Rattle.std.specs.Prelude.{ℕ, List, ◌++◌, codes, decimal}
use Rattle.build_plan.specs.declared.error.PlanError.{PlanError}
use Rattle.build_plan.specs.Said.{line_of, lines_said}

-- a line that says what is wrong
abbrev pub fault_line : List ℕ → List ℕ
fault_line text = line_of (codes "mixc: ") text

abbrev pub bad_words_line : ℕ → List ℕ
bad_words_line at = fault_line (codes "bad words at " ++ decimal at)

abbrev pub read_fault_line : List ℕ
read_fault_line = codes "mixc: read fault\n"

abbrev pub tree_fault_line : List ℕ
tree_fault_line = codes "mixc: tree fault\n"

abbrev pub died_line : List ℕ
died_line = codes "mixc: no partition left, 1 died\n"

abbrev pub memory_line : List ℕ
memory_line = codes "mixc: out of memory\n"

-- the names of the commands, one a line
abbrev pub help_text : List ℕ
help_text = codes "help\ndeps.compile\n"

-- what is said of a refusal of the files: one line, and of divergences one line each
abbrev pub refusal_line : PlanError → List ℕ
refusal_line error = lines_said (codes "mixc: ") error
