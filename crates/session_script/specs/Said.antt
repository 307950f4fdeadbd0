-- How it is said why a text is no script.
use Rattle.std.specs.Prelude.{ℕ, List, ◌++◌, codes, decimal}
use Rattle.elixir_terms.specs.Said.{term_said}
use Rattle.session_script.specs.declared.error.ScriptError.{ScriptError}
use Rattle.session_script.specs.declared.error.ScriptError.TheVariants.{Term, Shape, Form, OutOfMemory}

-- of the file at a path; an element is told by its place
abbrev pub script_said : List ℕ → ScriptError → List ℕ
script_said path (Term error) = path ++ codes ": " ++ term_said error
script_said path Shape = path ++ codes ": shape"
script_said path (Form index) = codes "script: " ++ decimal index
script_said path OutOfMemory = codes "out of memory"
