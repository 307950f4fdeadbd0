-- What the compiler's own values stand for.
use Rattle.std.specs.Prelude.{◌≡◌, ℕ, ℤ, List, map, Option, Some, None, option_map, is_some, bytes_eq, Result, Ok, Err, Vec}
use Rattle.std.specs.Borrow.{Bor}
use Rattle.std.specs.HashMap.{get_by}
use Rattle.std.specs.declared.alloc.Global.{Global}
use Rattle.compile_model.specs.Content.{Need, needs_of}
use Rattle.unit_compile.specs.declared.complaint.Halt.{Halt}
use Rattle.unit_compile.specs.declared.complaint.Halt.TheVariants.{Wrong, OutOfMemory}
use Rattle.unit_compile.specs.declared.needs.Needs.{Needs}
use Rattle.unit_compile.specs.declared.scope.Mistake.{Mistake}
use Rattle.unit_compile.specs.declared.scope.Scope.{Scope as ScopeValue}
use Rattle.unit_compile.specs.declared.source.Source.{Source as SourceValue}
use Rattle.unit_compile.specs.declared.table.Table.{Table}
use Rattle.unit_compile.specs.declared.warning.Warning.{Warning as WarningValue}
use Rattle.unit_lang.specs.declared.unit.Line.{Line}
use Rattle.unit_compile.specs.Complaints.{said}
use Rattle.unit_compile.specs.Faces.{Export}
use Rattle.unit_compile.specs.Said.{overflow}
use Rattle.unit_compile.specs.Units.{Source, has_unit}
use Rattle.unit_compile.specs.Warnings.{Warning, is_named}
use Rattle.unit_compile.specs.Values.{Scope}

-- what a table has by a name
abbrev pub in_table : {V : Type 0} → Table V → List ℕ → Option V
in_table table name = get_by (λ k. bytes_eq name k.now) table.by_name

abbrev pub scope_in : ScopeValue → Scope
scope_in scope = record { lets = in_table scope.lets; used = λ unit. option_map in_table (in_table scope.used unit); exports = scope.exports.entries }

abbrev pub values_in : Option (Table ℤ) → Option (List ℕ → Option ℤ)
values_in values = option_map in_table values

abbrev pub needs_in : Needs → List Need
needs_in needs = needs_of needs.apps.now needs.outcomes.now

abbrev pub export_of : Bor (List ℕ) × ℤ → Export
export_of export = (export.0.now, export.1)

abbrev pub exports_of : List (Bor (List ℕ) × ℤ) → List Export
exports_of exports = map export_of exports

abbrev pub or_overflow : Option ℤ → Result ℤ (List ℕ)
or_overflow (Some z) = Ok z
or_overflow None = Err overflow

-- what became of a line: it was taken in, or something is wrong with it, or memory ran out
abbrev pub Heard : Result Scope (List ℕ) → Scope → Result (Unit {0}) Halt → Type 0
Heard expected new (Ok u) = expected ≡ Ok new
Heard expected new (Err (Wrong complaint)) = expected ≡ Err (said complaint)
Heard expected new (Err OutOfMemory) = Unit {0}

abbrev pub found_scope : Result ScopeValue Mistake → Result Scope (ℕ × List ℕ)
found_scope (Ok scope) = Ok (scope_in scope)
found_scope (Err mistake) = Err (mistake.line, said mistake.complaint)

abbrev pub source_in : SourceValue → Source
source_in source = record { path = source.path.now; read = source.read }

abbrev pub warning_in : WarningValue → Warning
warning_in warning = (warning.line, warning.text)

-- the table has the names that these lines name
abbrev pub Names : Table (Unit {0}) → List Line → Type 0
Names named lines = (name : List ℕ) → is_some (in_table named name) ≡ is_named name lines

-- the table has the units of these files
abbrev pub HasUnits : Table (Unit {0}) → List Source → Type 0
HasUnits units sources = (name : List ℕ) → is_some (in_table units name) ≡ has_unit name sources
