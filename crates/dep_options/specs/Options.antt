-- The options of a declaration, as a table by name.
use Rattle.std.specs.Prelude.{ℕ, Bool, true, false, not, ◌&&◌, ◌||◌, ◌==◌, List, [], ◌∷◌, ◌++◌, Option, Some, None, is_some, option_and_then, Result, Ok, Err, if◌then◌else◌, codes, bytes_eq}
use Rattle.std.specs.List.{list_any}
use Rattle.term_values.specs.declared.term.Term.{Term}
use Rattle.mx_base.specs.Join.{joined}
use Rattle.mx_base.specs.Path.{first_segment}
use Rattle.mx_base.specs.declared.path_join.PathError.{PathError}
use Rattle.dep_options.specs.declared.decl.CompileBy.{CompileBy}
use Rattle.dep_options.specs.declared.decl.CompileBy.TheVariants as by
use Rattle.dep_options.specs.declared.decl.DepSource.{DepSource}
use Rattle.dep_options.specs.declared.decl.DepSource.TheVariants.{Hex, Path}
use Rattle.dep_options.specs.declared.decl.Manager.{Manager}
use Rattle.dep_options.specs.declared.decl.Manager.TheVariants as manager
use Rattle.dep_options.specs.declared.kind.Kind.{Kind}
use Rattle.dep_options.specs.declared.kind.Kind.TheVariants.{NameList, Environment, Truth, Compiling, Folder, Package, Registry, Managing, VariableList, Unsupported}
use Rattle.mx_base.specs.declared.variable.Variable.{Variable}
use Rattle.dep_options.specs.declared.error.OptionCause.{OptionCause}
use Rattle.dep_options.specs.declared.error.OptionCause.TheVariants.{UnknownOption, UnsupportedSource, BadValue}
use Rattle.term_values.specs.Views.{Pair, atom_of, string_of, list_of, map_of, pair_of, all_of, Named}
use Rattle.term_values.specs.Apps.{if_app, app_of}

-- the options by name
abbrev pub options : List (List ℕ × Kind)
options =
    (codes "only", NameList) ∷ (codes "targets", NameList) ∷ (codes "env", Environment)
    ∷ (codes "optional", Truth) ∷ (codes "override", Truth) ∷ (codes "runtime", Truth) ∷ (codes "app", Truth)
    ∷ (codes "compile", Compiling) ∷ (codes "path", Folder) ∷ (codes "hex", Package) ∷ (codes "repo", Registry)
    ∷ (codes "manager", Managing) ∷ (codes "system_env", VariableList)
    ∷ (codes "git", Unsupported) ∷ (codes "github", Unsupported) ∷ (codes "organization", Unsupported) ∷ (codes "in_umbrella", Unsupported)
    ∷ []

-- what stands first under a name
abbrev pub first_of : {A : Type 0} → List ℕ → List (List ℕ × A) → Option A
first_of name [] = None
first_of name (entry ∷ entries) = if bytes_eq name entry.0 then Some entry.1 else first_of name entries

-- what the option of this name takes, where there is one
abbrev pub kind_of : List ℕ → Option Kind
kind_of name = first_of name options

-- what the name `true` or `false` says
abbrev truth_in : List ℕ → Option Bool
truth_in name = if bytes_eq name (codes "true") then Some true else if bytes_eq name (codes "false") then Some false else None

-- an atom `true` or `false`
abbrev pub truth_of : Term → Option Bool
truth_of t = option_and_then truth_in (atom_of t)

-- the one name, or else the names
abbrev alone_or : Option (List ℕ) → Option (List (List ℕ)) → Option (List (List ℕ))
alone_or (Some name) names = Some (name ∷ [])
alone_or None names = names

-- a name by itself, or a list of names
abbrev pub names_of : Term → Option (List (List ℕ))
names_of t = alone_or (app_of t) (option_and_then (all_of app_of) (list_of t))

-- a command: a text with a byte other than a space
abbrev command_in : List ℕ → Option CompileBy
command_in text = if list_any (λ byte. not (byte == 32)) text then Some (by.Command text) else None

-- `false` asks for nothing, and `true` has no meaning
abbrev nothing_if : Bool → Option CompileBy
nothing_if true = None
nothing_if false = Some by.Nothing

-- the first, where it is there, or else the other
abbrev pub or_else : {A : Type 0} → Option A → Option A → Option A
or_else (Some a) other = Some a
or_else None other = other

-- `false`, or a command
abbrev pub compile_of : Term → Option CompileBy
compile_of t = or_else (option_and_then nothing_if (truth_of t)) (option_and_then command_in (string_of t))

-- folders of the project that no dependency lies in
abbrev pub is_kept_apart : List ℕ → Bool
is_kept_apart segment = bytes_eq segment (codes "_build") || (bytes_eq segment (codes "deps") || bytes_eq segment (codes "hex"))

-- a folder that a dependency may lie in: not the root, and not one that is kept apart
abbrev pub is_dep_folder : List ℕ → Bool
is_dep_folder dir = not (bytes_eq dir []) && not (is_kept_apart (first_segment dir))

-- a folder that a dependency comes from is such a one
abbrev pub is_dep_source : DepSource → Bool
is_dep_source (Hex name) = true
is_dep_source (Path dir) = is_dep_folder dir

-- the folder that a text led to, where a dependency may lie in it
abbrev pub open_folder : Result (List ℕ) PathError → Option (List ℕ)
open_folder (Ok dir) = if is_dep_folder dir then Some dir else None
open_folder (Err e) = None

-- a text that leads from the declaring folder to a folder of the project
abbrev pub folder_of : List ℕ → Term → Option (List ℕ)
folder_of base t = option_and_then (λ text. open_folder (joined base text)) (string_of t)

-- an atom or a string that is the name of an app
abbrev pub package_of : Term → Option (List ℕ)
package_of t = or_else (app_of t) (option_and_then if_app (string_of t))

-- another registry than the one that there is
abbrev is_other_registry : Option (List ℕ) → Bool
is_other_registry None = false
is_other_registry (Some text) = not (bytes_eq text (codes "hexpm"))

-- the manager of this name
abbrev manager_in : List ℕ → Option Manager
manager_in name =
    if bytes_eq name (codes "mix") then Some manager.Mix
    else if bytes_eq name (codes "rebar3") then Some manager.Rebar3
    else if bytes_eq name (codes "make") then Some manager.Make
    else None

-- an atom that names a manager
abbrev pub manager_of : Term → Option Manager
manager_of t = option_and_then manager_in (atom_of t)

-- the variable of a name and a value, where both are there
abbrev variable : Option (List ℕ) → Option (List ℕ) → Option Variable
variable (Some name) (Some value) = Some (record { name = name; value = value })
variable name value = None

-- a pair of two strings
abbrev pub variable_of : Pair → Option Variable
variable_of pair = variable (string_of pair.0) (string_of pair.1)

-- a tuple of two strings
abbrev pub tuple_variable_of : Term → Option Variable
tuple_variable_of t = option_and_then variable_of (pair_of t)

-- a list of tuples of two strings, or a map of strings to strings
abbrev pub variables_of : Term → Option (List Variable)
variables_of t = or_else (option_and_then (all_of tuple_variable_of) (list_of t)) (option_and_then (all_of variable_of) (map_of t))

-- whether an option of the kind may have the value
abbrev pub fits : List ℕ → Kind → Term → Bool
fits base NameList t = is_some (names_of t)
fits base Environment t = is_some (app_of t)
fits base Truth t = is_some (truth_of t)
fits base Compiling t = is_some (compile_of t)
fits base Folder t = is_some (folder_of base t)
fits base Package t = is_some (package_of t)
fits base Registry t = is_some (string_of t)
fits base Managing t = is_some (manager_of t)
fits base VariableList t = is_some (variables_of t)
fits base Unsupported t = true

-- whether the value asks for a source that is not supported
abbrev pub is_unsupported : Kind → Term → Bool
is_unsupported Unsupported t = true
is_unsupported Registry t = is_other_registry (string_of t)
is_unsupported kind t = false

-- what is wrong with an option of the kind
abbrev pub fault_by : List ℕ → Option Kind → Named → Option OptionCause
fault_by base None option = Some (UnknownOption option.0)
fault_by base (Some kind) option =
    if is_unsupported kind option.1 then Some (UnsupportedSource option.0)
    else if fits base kind option.1 then None
    else Some (BadValue option.0)

-- what is wrong with an option
abbrev pub fault_of : List ℕ → Named → Option OptionCause
fault_of base option = fault_by base (kind_of option.0) option

-- whether an option of this name stands among these
abbrev pub has_name : List ℕ → List Named → Bool
has_name name before = list_any (λ option. bytes_eq name option.0) before

-- the first fault from the left, after the options before. Of a repeated option the first counts, and the others
-- are passed over
abbrev pub first_fault : List ℕ → List Named → List Named → Option OptionCause
first_fault base before [] = None
first_fault base before (option ∷ rest) =
    or_else (if has_name option.0 before then None else fault_of base option) (first_fault base (before ++ option ∷ []) rest)

-- what is there, or else the default
abbrev pub option_or : {A : Type 0} → Option A → A → A
option_or (Some a) default = a
option_or None default = default

-- what an option that is there gives
abbrev pub said : {A : Type 0} → List ℕ → (Term → Option A) → List Named → Option A
said name read written = option_and_then read (first_of name written)

-- what an option that is there gives, or else what stands for it
abbrev pub given : {A : Type 0} → List ℕ → (Term → Option A) → A → List Named → A
given name read default written = option_or (said name read written) default
