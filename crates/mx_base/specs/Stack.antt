-- The top of a stack.
use Rattle.std.specs.Prelude.{List, [], ◌∷◌, Option, Some, None}

abbrev pub top_of : {T : Type 0} → List T → Option T
top_of [] = None
top_of (x ∷ xs) = Some x
