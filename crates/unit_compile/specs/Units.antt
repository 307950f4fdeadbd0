-- What compiling the unit files of a content gives.
use Rattle.std.specs.Prelude.{◌≡◌, ℕ, ◌⊎◌, Bool, true, false, List, [], ◌∷◌, ◌++◌, map, filter, flat_map, fold, take, nat_eq, codes, bytes_eq, Option, Some, None, is_none, Result, Ok, Err, if◌then◌else◌}
use Rattle.std.proofs.Common.{inl, inr}
use Rattle.std.specs.BTreeMap.{insert_entry}
use Rattle.std.specs.List.{ends_with, list_any}
use Rattle.mx_base.specs.declared.file.File.{File}
use Rattle.mx_base.specs.Order.{text_cmp}
use Rattle.compile_model.specs.declared.how.How.{How}
use Rattle.compile_model.specs.declared.how.How.TheVariants.{Nothing, Unit as ByUnit, Program}
use Rattle.compile_model.specs.declared.outcome.Outcome.{Outcome}
use Rattle.compile_model.specs.Content.{Content, Need, empty_outcome, outcome_with}
use Rattle.unit_lang.specs.declared.error.UnitCause.{UnitCause}
use Rattle.unit_lang.specs.declared.error.UnitCause.TheVariants.{OutOfMemory}
use Rattle.unit_lang.specs.declared.error.UnitError.{UnitError}
use Rattle.unit_lang.specs.declared.unit.Unit.{Unit as UnitFile}
use Rattle.unit_lang.specs.Faults.{FirstFault}
use Rattle.unit_lang.specs.Spells.{Spells}
use Rattle.unit_lang.proofs.Answered.{text_answered}
use Rattle.unit_compile.specs.Faces.{face_name, face_text}
use Rattle.unit_compile.specs.Lines.{scope_after}
use Rattle.unit_compile.specs.Said.{error_line, said_of_cause, unit_there, warning_line}
use Rattle.unit_compile.specs.Values.{Scope, empty_scope}
use Rattle.unit_compile.specs.Warnings.{Warning, warnings_of}

-- a text spells one unit, or has one first fault
abbrev pub answer_as : {text : List ℕ} → ((u : UnitFile) × Spells text u) ⊎ ((at : ℕ) × (cause : UnitCause) × FirstFault text at cause) → Result UnitFile UnitError
answer_as (inl spelled) = Ok spelled.0
answer_as (inr fault) = Err (record { line = fault.0; cause = fault.1 })

-- the unit that a text spells, or its first fault
abbrev pub read_of : List ℕ → Result UnitFile UnitError
read_of text = answer_as (text_answered text)

-- memory ran out, which says nothing of the text
abbrev pub is_memory : UnitCause → Bool
is_memory OutOfMemory = true
is_memory cause = false

abbrev pub ran_out : Result UnitFile UnitError → Bool
ran_out (Ok unit) = false
ran_out (Err error) = is_memory error.cause

-- a unit file: its path, and what it is read as
pub record Source : Type 0 where
  pub path : List ℕ
  pub read : Result UnitFile UnitError

abbrev pub source_of : File → Source
source_of file = record { path = file.path; read = read_of file.bytes }

abbrev pub is_unit_file : File → Bool
is_unit_file file = ends_with nat_eq file.path (codes ".unit")

abbrev pub is_unit : List ℕ → Result UnitFile UnitError → Bool
is_unit name (Ok unit) = bytes_eq unit.name name
is_unit name (Err error) = false

-- one of the files has the unit
abbrev pub has_unit : List ℕ → List Source → Bool
has_unit name sources = list_any (λ source. is_unit name source.read) sources

-- what a file gives: lines, and a face where there is no error
pub record Made : Type 0 where
  pub text : List ℕ
  pub face : Option File

abbrev pub wrong : List ℕ → ℕ → List ℕ → Made
wrong path line said = record { text = error_line path line said; face = None }

abbrev pub warning_lines : List ℕ → List Warning → List ℕ
warning_lines path warnings = flat_map (λ warning. warning_line path warning.0 warning.1) warnings

abbrev pub made_unit : List ℕ → UnitFile → Result Scope (ℕ × List ℕ) → Made
made_unit path unit (Err error) = wrong path error.0 error.1
made_unit path unit (Ok scope) = record {
  text = warning_lines path (warnings_of unit.lines);
  face = Some (record { path = face_name unit.name; bytes = face_text scope.exports });
}

abbrev pub made_read : List Need → List Source → List ℕ → Result UnitFile UnitError → Made
made_read needs before path (Err error) = wrong path error.line (said_of_cause error.cause)
made_read needs before path (Ok unit) = if has_unit unit.name before then wrong path unit.line (unit_there unit.name) else made_unit path unit (scope_after needs empty_scope unit.lines)

-- what a file gives that stands after these
abbrev pub made : List Need → List Source → Source → Made
made needs before source = made_read needs before source.path source.read

-- what files give that stand after others
abbrev pub all_made : List Need → List Source → List Source → List Made
all_made needs before [] = []
all_made needs before (source ∷ sources) = made needs before source ∷ all_made needs (before ++ source ∷ []) sources

abbrev pub file_of : List ℕ × List ℕ → File
file_of entry = record { path = entry.0; bytes = entry.1 }

-- files in the order of their paths
abbrev pub with_face : List (List ℕ × List ℕ) → Option File → List (List ℕ × List ℕ)
with_face entries None = entries
with_face entries (Some file) = insert_entry text_cmp entries file.path file.bytes

abbrev pub faces_in_order : List Made → List (List ℕ × List ℕ)
faces_in_order all = fold (λ entries one. with_face entries one.face) [] all

-- how many bytes of text there are at most
abbrev pub most_text : ℕ
most_text = 1048576

abbrev pub text_of : List Made → List ℕ
text_of all = flat_map (λ one. one.text) all

abbrev pub has_error : List Made → Bool
has_error all = list_any (λ one. is_none one.face) all

-- by whether there is an error, by the text and by the faces
abbrev pub outcome_with_all : Bool → List ℕ → List (List ℕ × List ℕ) → Outcome
outcome_with_all true text faces = outcome_with 1 (take most_text text) []
outcome_with_all false text faces = outcome_with 0 (take most_text text) (map file_of faces)

abbrev pub outcome_of : List Made → Outcome
outcome_of all = outcome_with_all (has_error all) (text_of all) (faces_in_order all)

-- what the unit files of a content give
abbrev pub all_of : Content → List Made
all_of content = all_made content.needs [] (map source_of (filter is_unit_file content.sources))

-- the outcome of what is compiled
abbrev pub compiled : Content → Outcome
compiled content = outcome_of (all_of content)

abbrev pub compiled_by : How → Content → Outcome
compiled_by Nothing content = empty_outcome
compiled_by ByUnit content = compiled content
compiled_by (Program words) content = compiled content

-- what a content means: its unit files are compiled, whatever its sources are otherwise compiled by
abbrev pub unit_meaning : Content → Outcome
unit_meaning content = compiled_by content.how content
