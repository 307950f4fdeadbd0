-- What each line of a unit adds to what is defined.
use Rattle.std.specs.Prelude.{ℕ, ℤ, Bool, List, Option, Some, None, is_some, option_and_then, find, bytes_eq, Result, Ok, Err, if◌then◌else◌, ◌∷◌, []}
use Rattle.std.specs.BTreeMap.{insert_entry, is_at}
use Rattle.std.specs.Map.{lookup, update}
use Rattle.mx_base.specs.Order.{bytes_at, text_cmp}
use Rattle.compile_model.specs.Content.{Need}
use Rattle.unit_lang.specs.declared.unit.Expression.{Expression}
use Rattle.unit_lang.specs.declared.unit.Line.{Line}
use Rattle.unit_lang.specs.declared.unit.Statement.{Statement}
use Rattle.unit_lang.specs.declared.unit.Statement.TheVariants.{Use, Let, Export as Exports, Warn}
use Rattle.unit_compile.specs.Faces.{Export, exports_in, face_name, value_of}
use Rattle.unit_compile.specs.Said.{there_already, is_missing, is_unknown}
use Rattle.unit_compile.specs.Values.{Scope, value_in}

-- the face of a unit of the first need of that name
abbrev pub face_bytes : List Need → List ℕ → List ℕ → Option (List ℕ)
face_bytes needs app unit = option_and_then (λ need. bytes_at (face_name unit) need.files) (find (λ need. bytes_eq app need.app) needs)

abbrev pub face_of : List Need → List ℕ → List ℕ → Option (List Export)
face_of needs app unit = option_and_then exports_in (face_bytes needs app unit)

abbrev pub with_let : Scope → List ℕ → Result ℤ (List ℕ) → Result Scope (List ℕ)
with_let scope name (Ok z) = Ok (record scope { lets = update bytes_eq scope.lets name (Some z) })
with_let scope name (Err said) = Err said

abbrev pub with_used : Scope → List ℕ → List ℕ → Option (List Export) → Result Scope (List ℕ)
with_used scope app unit (Some exports) = Ok (record scope { used = update bytes_eq scope.used unit (Some (value_of exports)) })
with_used scope app unit None = Err (is_missing app unit)

abbrev pub with_export : Scope → List ℕ → Option ℤ → Result Scope (List ℕ)
with_export scope name (Some z) = Ok (record scope { exports = insert_entry text_cmp scope.exports name z })
with_export scope name None = Err (is_unknown name)

abbrev pub is_exported : Scope → List ℕ → Bool
is_exported scope name = is_some (lookup (is_at (text_cmp name)) scope.exports)

-- what is defined after a `use`, a `let` and an `export` line, or what is wrong with it
abbrev pub used_after : List Need → Scope → List ℕ → List ℕ → Result Scope (List ℕ)
used_after needs scope app unit = if is_some (scope.used unit) then Err (there_already unit) else with_used scope app unit (face_of needs app unit)

abbrev pub let_after : Scope → List ℕ → Expression → Result Scope (List ℕ)
let_after scope name value = if is_some (scope.lets name) then Err (there_already name) else with_let scope name (value_in scope value)

abbrev pub export_after : Scope → List ℕ → Result Scope (List ℕ)
export_after scope name = if is_exported scope name then Err (there_already name) else with_export scope name (scope.lets name)

abbrev pub after : List Need → Scope → Statement → Result Scope (List ℕ)
after needs scope (Use app unit) = used_after needs scope app unit
after needs scope (Let name value) = let_after scope name value
after needs scope (Exports name) = export_after scope name
after needs scope (Warn text) = Ok scope

abbrev pub go_on : ℕ → (Scope → Result Scope (ℕ × List ℕ)) → Result Scope (List ℕ) → Result Scope (ℕ × List ℕ)
go_on number lines (Ok scope) = lines scope
go_on number lines (Err said) = Err (number, said)

-- what is defined after all lines, or the first line with which something is wrong, and what that is
abbrev pub scope_after : List Need → Scope → List Line → Result Scope (ℕ × List ℕ)
scope_after needs scope [] = Ok scope
scope_after needs scope (line ∷ lines) = go_on line.number (λ next. scope_after needs next lines) (after needs scope line.statement)
