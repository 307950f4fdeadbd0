-- What the term of the settings says: by which compiler each manager compiles.
use Rattle.std.specs.Prelude.{ℕ, Bool, ◌||◌, ◌&&◌, List, [], ◌∷◌, Option, Some, None, option_and_then, is_some, if◌then◌else◌, codes, bytes_eq}
use Rattle.std.specs.List.{list_all}
use Rattle.term_values.specs.declared.term.Term.{Term}
use Rattle.compile_model.specs.declared.how.How.{How}
use Rattle.compile_model.specs.declared.how.How.TheVariants.{Unit as ByUnit, Program}
use Rattle.dep_options.specs.Options.{first_of, or_else}
use Rattle.term_values.specs.Views.{atom_of, string_of, list_of, keywords_of, all_of, Named}
use Rattle.project_file.specs.declared.settings.Settings.{Settings}
use Rattle.project_file.specs.Manifest.{entries_of}

-- `:unit`, the built-in compiler
abbrev pub unit_in : List ℕ → Option How
unit_in name = if bytes_eq name (codes "unit") then Some ByUnit else None

abbrev pub if_word : List ℕ → Option (List ℕ)
if_word [] = None
if_word (byte ∷ bytes) = Some (byte ∷ bytes)

abbrev pub program_in : List (List ℕ) → Option How
program_in [] = None
program_in (word ∷ words) = Some (Program (word ∷ words))

-- `:unit`, or the words of a program: a list of strings, neither of which is empty
abbrev pub how_of : Term → Option How
how_of t =
    or_else (option_and_then unit_in (atom_of t))
    (option_and_then program_in (option_and_then (all_of (λ word. option_and_then if_word (string_of word))) (list_of t)))

-- the managers that a compiler is set for
abbrev pub is_manager : List ℕ → Bool
is_manager name = bytes_eq name (codes "mix") || (bytes_eq name (codes "rebar3") || bytes_eq name (codes "make"))

-- an entry names a manager and how it compiles
abbrev pub is_compiler : Named → Bool
is_compiler entry = is_manager entry.0 && is_some (how_of entry.1)

-- how a manager compiles: as the first entry of its name says, and by the built-in compiler without one
abbrev pub how_by : List Named → List ℕ → How
how_by entries name = elim (option_and_then how_of (first_of name entries)) [ Some how ↦ how | None ↦ ByUnit ]

abbrev pub set_by : List Named → Settings
set_by entries = record { mix = how_by entries (codes "mix"); rebar3 = how_by entries (codes "rebar3"); make = how_by entries (codes "make") }

abbrev pub settings_in : List Named → Option Settings
settings_in entries = if list_all is_compiler entries then Some (set_by entries) else None

-- a keyword list of managers and how they compile
abbrev pub compilers_of : Term → Option Settings
compilers_of t = option_and_then settings_in (keywords_of t)

-- an entry is `compilers` with such a list
abbrev pub is_setting : Named → Bool
is_setting entry = bytes_eq entry.0 (codes "compilers") && is_some (compilers_of entry.1)

-- without an entry all managers have the built-in compiler
abbrev pub first_setting : List Named → Option Settings
first_setting [] = Some (set_by [])
first_setting (entry ∷ entries) = compilers_of entry.1

abbrev pub settings_by : List Named → Option Settings
settings_by entries = if list_all is_setting entries then first_setting entries else None

-- the one optional key `compilers`. Of a repeated key the first counts, and the others must be right too
abbrev pub settings_of : Term → Option Settings
settings_of t = option_and_then settings_by (entries_of t)

-- what stands without a file of settings
abbrev pub no_settings : Settings
no_settings = set_by []
