-- What the elements of a script ask for.
use Rattle.std.specs.Prelude.{ℕ, nat_le, ◌&&◌, List, [], ◌∷◌, Option, Some, None, option_and_then, Result, Ok, Err, ℤ, pos, negsuc, if◌then◌else◌, codes, bytes_eq}
use Rattle.term_values.specs.declared.term.Term.{Term, out-Term}
use Rattle.term_values.specs.declared.term.Term.TheOpen.{Term-F}
use Rattle.term_values.specs.Apps.{app_of}
use Rattle.term_values.specs.Views.{all_of, atom_of, list_of, string_of, tuple_of}
use Rattle.mx_base.specs.BuildName.{build_name, host, unless_too_long}
use Rattle.mx_base.specs.Join.{joined}
use Rattle.mx_base.specs.Layout.{is_in_build}
use Rattle.mx_base.specs.declared.name.NameError.{NameError}
use Rattle.mx_base.specs.declared.path_join.PathError.{PathError}
use Rattle.session_script.specs.declared.edit.Edit.{Edit}
use Rattle.session_script.specs.declared.edit.Edit.TheVariants.{Put, Remove, Clean, Compile}
use Rattle.session_script.specs.Chosen.{Chosen}

-- ---- fields

abbrev if_outside : Result (List ℕ) PathError → Option (List ℕ)
if_outside (Ok path) = if is_in_build path then None else Some path
if_outside (Err e) = None

-- the path that a text names from the root, outside of the builds
abbrev pub path_in : List ℕ → Option (List ℕ)
path_in text = if_outside (joined [] text)

-- a string that names such a path
abbrev pub path_of : Term → Option (List ℕ)
path_of t = option_and_then path_in (string_of t)

abbrev if_fits : Chosen → Result (List ℕ) NameError → Option Chosen
if_fits build (Ok name) = Some build
if_fits build (Err e) = None

-- an environment and a target that have the name of a build
abbrev pub if_named : Chosen → Option Chosen
if_named build = if_fits build (unless_too_long (build_name build.env build.target))

-- both are atoms
abbrev pub build_of : Term → Term → Option Chosen
build_of env target = option_and_then (λ e. option_and_then (λ t. if_named (record { env = e; target = t })) (app_of target)) (app_of env)

-- without a target it is for the machine at hand
abbrev pub host_build : Term → Option Chosen
host_build env = option_and_then (λ e. if_named (record { env = e; target = host })) (app_of env)

-- a list of atoms that are names of apps
abbrev pub names_of : Term → Option (List (List ℕ))
names_of t = option_and_then (all_of app_of) (list_of t)

abbrev pub count_in : ℤ → Option ℕ
count_in (pos n) = if nat_le 1 n && nat_le n 64 then Some n else None
count_in (negsuc n) = None

abbrev count_at : Term-F Term → Option ℕ
count_at (Term-F.Int number) = count_in number
count_at layer = None

-- a number from 1 to 64
abbrev pub count_of : Term → Option ℕ
count_of t = count_at (out-Term t)

-- ---- what stands behind the name of an edit

abbrev pub put_by : Term → Term → Option Edit
put_by path bytes = option_and_then (λ p. option_and_then (λ b. Some (Put p b)) (string_of bytes)) (path_of path)

-- a path, and the bytes that are written there
abbrev pub put_in : List Term → Option Edit
put_in (path ∷ bytes ∷ []) = put_by path bytes
put_in fields = None

abbrev pub remove_by : Term → Option Edit
remove_by path = option_and_then (λ p. Some (Remove p)) (path_of path)

-- a path
abbrev pub remove_in : List Term → Option Edit
remove_in (path ∷ []) = remove_by path
remove_in fields = None

abbrev pub clean_by : Term → Chosen → Option Edit
clean_by apps build = option_and_then (λ names. Some (Clean build names)) (names_of apps)

-- an environment, perhaps a target, and apps
abbrev pub clean_in : List Term → Option Edit
clean_in (env ∷ apps ∷ []) = option_and_then (clean_by apps) (host_build env)
clean_in (env ∷ target ∷ apps ∷ []) = option_and_then (clean_by apps) (build_of env target)
clean_in fields = None

abbrev pub compile_by : Term → Chosen → Option Edit
compile_by count build = option_and_then (λ n. Some (Compile build n)) (count_of count)

-- an environment, perhaps a target, and how many partitions
abbrev pub compile_in : List Term → Option Edit
compile_in (env ∷ count ∷ []) = option_and_then (compile_by count) (host_build env)
compile_in (env ∷ target ∷ count ∷ []) = option_and_then (compile_by count) (build_of env target)
compile_in fields = None

-- ---- elements

-- the edit of a name, by the fields behind it
abbrev pub edit_by : List ℕ → List Term → Option Edit
edit_by name fields =
    if bytes_eq name (codes "put") then put_in fields
    else if bytes_eq name (codes "remove") then remove_in fields
    else if bytes_eq name (codes "clean") then clean_in fields
    else if bytes_eq name (codes "compile") then compile_in fields
    else None

abbrev edit_in : List Term → Option Edit
edit_in [] = None
edit_in (tag ∷ fields) = option_and_then (λ name. edit_by name fields) (atom_of tag)

-- a tuple of the name of an edit and its fields
abbrev pub edit_of : Term → Option Edit
edit_of t = option_and_then edit_in (tuple_of t)
