-- What a unit without errors is warned of.
use Rattle.std.specs.Prelude.{ℕ, Bool, true, false, ◌||◌, List, [], ◌∷◌, ◌++◌, Option, Some, None, option_map, bytes_eq, if◌then◌else◌}
use Rattle.std.specs.List.{list_any}
use Rattle.std.specs.Option.{option_to_list}
use Rattle.unit_lang.specs.declared.unit.Expression.{Expression}
use Rattle.unit_lang.specs.declared.unit.Expression.TheOpen.{Expression-F}
use Rattle.unit_lang.specs.declared.unit.Expression.TheFolds.{fold-Expression}
use Rattle.unit_lang.specs.declared.unit.Line.{Line}
use Rattle.unit_lang.specs.declared.unit.Statement.{Statement}
use Rattle.unit_lang.specs.declared.unit.Statement.TheVariants.{Use, Let, Export, Warn}
use Rattle.unit_compile.specs.Said.{is_unused}

-- the expression has the name
abbrev pub is_in_step : List ℕ → Expression-F Bool → Bool
is_in_step name (Expression-F.Number z) = false
is_in_step name (Expression-F.Name other) = bytes_eq other name
is_in_step name (Expression-F.Reference unit other) = false
is_in_step name (Expression-F.Add left right) = left || right
is_in_step name (Expression-F.Subtract left right) = left || right
is_in_step name (Expression-F.Multiply left right) = left || right
is_in_step name (Expression-F.Negate inner) = inner

abbrev pub is_in : List ℕ → Expression → Bool
is_in name = fold-Expression Bool (is_in_step name)

-- the line names it, as a value that is wanted
abbrev pub is_named_by : List ℕ → Statement → Bool
is_named_by name (Let other value) = is_in name value
is_named_by name (Export other) = bytes_eq other name
is_named_by name (Use app unit) = false
is_named_by name (Warn text) = false

abbrev pub is_named : List ℕ → List Line → Bool
is_named name lines = list_any (λ line. is_named_by name line.statement) lines

-- what a line is warned of that these lines follow
abbrev pub warning_of : Statement → List Line → Option (List ℕ)
warning_of (Warn text) later = Some text
warning_of (Let name value) later = if is_named name later then None else Some (is_unused name)
warning_of (Export name) later = None
warning_of (Use app unit) later = None

-- a line's number, and what it is warned of
abbrev pub Warning : Type 0
Warning = ℕ × List ℕ

abbrev pub warnings_of : List Line → List Warning
warnings_of [] = []
warnings_of (line ∷ lines) = option_to_list (option_map (λ said. (line.number, said)) (warning_of line.statement lines)) ++ warnings_of lines
