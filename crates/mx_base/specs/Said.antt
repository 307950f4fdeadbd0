-- How errors are said in a line.
use Rattle.std.specs.Prelude.{ℕ, List, ◌++◌, codes}

-- a cause, and in parentheses the name that it is about
abbrev pub with_name : List ℕ → List ℕ → List ℕ
with_name cause name = cause ++ codes "(" ++ name ++ codes ")"
