-- The files of a generated project, and what is said of it.
use Rattle.std.specs.Prelude.{ℕ, zero, suc, ◌+◌, ◌/◌, ◌%◌, List, [], ◌∷◌, ◌++◌, map, flat_map, codes, decimal}
use Rattle.std.specs.List.{concat, join_by}
use Rattle.hex.specs.Hex.{encode_lower}
use Rattle.mx_base.specs.declared.file.File.{File}
use Rattle.mx_base.specs.Layout.{manifest_name}
use Rattle.unit_gen.specs.declared.line.Told.{Told}
use Rattle.unit_gen.specs.Dependency.{Drawn}

-- the last so many decimal digits of a number, with zeros in front
abbrev pub digits : ℕ → ℕ → List ℕ
digits zero number = []
digits (suc count) number = digits count (number / 10) ++ (48 + number % 10) ∷ []

-- the name of a dependency
abbrev pub name_of : ℕ → List ℕ
name_of number = 100 ∷ digits 4 number

-- the declaration of a dependency that lies in a folder
abbrev pub declared : List ℕ → ℕ → List ℕ
declared folder number = concat (codes "{:" ∷ name_of number ∷ codes ", path: \"" ∷ folder ∷ name_of number ∷ codes "\"}" ∷ [])

-- a manifest by the app, its version and its dependencies in a folder
abbrev pub manifest : List ℕ → List ℕ → List ℕ → List ℕ → List ℕ
manifest app version folder numbers = concat (
    codes "[app: :" ∷ app ∷ codes ", version: \"" ∷ version ∷ codes "\", deps: [" ∷
    join_by (declared folder) (codes ", ") numbers ∷ codes "]]\n" ∷ [])

-- the line that takes the unit of a need into use
abbrev pub use_line : ℕ → List ℕ
use_line need = concat (codes "use " ∷ name_of need ∷ codes "." ∷ name_of need ∷ codes "\n" ∷ [])

-- the value of a need, as it is added
abbrev pub added : ℕ → List ℕ
added need = concat (codes " + " ∷ name_of need ∷ codes ".base" ∷ [])

-- the unit of a dependency: a value of its own, and that with those of its needs added
abbrev pub unit_text : Drawn → List ℕ
unit_text one = concat (
    codes "unit " ∷ name_of one.number ∷ codes "\n" ∷ flat_map use_line one.needs ∷
    codes "let base = " ∷ decimal one.value ∷ codes "\nlet total = base" ∷ flat_map added one.needs ∷
    codes "\nexport base\nexport total\n" ∷ [])

-- a file in the folder of a dependency
abbrev pub path_in : ℕ → List ℕ → List ℕ
path_in number name = codes "libs/" ++ name_of number ++ 47 ∷ name

-- the files of a dependency
abbrev pub files_of : Drawn → List File
files_of one =
    record { path = path_in one.number (codes "main.unit"); bytes = unit_text one } ∷
    record { path = path_in one.number manifest_name; bytes = manifest (name_of one.number) (codes "1.0.0") (codes "../") one.needs } ∷ []

-- the manifest of the project, which declares them all
abbrev pub root_file : List Drawn → File
root_file all = record { path = manifest_name; bytes = manifest (codes "gen") (codes "0.1.0") (codes "libs/") (map (λ one. one.number) all) }

-- the files of a project with these dependencies, in the order of their paths
abbrev pub project_files : List Drawn → List File
project_files all = flat_map files_of all ++ root_file all ∷ []

-- what is said of a project that was generated and built
abbrev pub gen_line : Told → List ℕ
gen_line told = concat (
    codes "gen " ∷ decimal told.count ∷ codes " " ∷ decimal told.start ∷ codes ": " ∷
    decimal told.count ∷ codes " dependencies, " ∷ decimal told.needs ∷ codes " needs, " ∷
    decimal told.built ∷ codes " built, tree " ∷ []) ++ encode_lower told.digest ++ codes "\n"
