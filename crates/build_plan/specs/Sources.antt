-- The source files of a dependency.
use Rattle.std.specs.Prelude.{ℕ, Bool, not, ◌&&◌, List, map, sum, filter_map, length, Option, Some, None, option_map, option_and_then, if◌then◌else◌, bytes_eq}
use Rattle.mx_base.specs.declared.file.File.{File}
use Rattle.mx_base.specs.Layout.{is_kept_apart, lock_name}
use Rattle.mx_base.specs.Order.{bytes_at}
use Rattle.mx_base.specs.Path.{path_from}
use Rattle.tree_store.specs.Files.{paths_below}

-- a path in a dependency's folder that is one of its sources
abbrev pub is_source : List ℕ → Bool
is_source path = not (is_kept_apart path) && not (bytes_eq path lock_name)

abbrev pub if_source : List ℕ → Option (List ℕ)
if_source path = if is_source path then Some path else None

-- the file at a path, as a source of the dependency in that folder
abbrev pub source_at : List ℕ → List File → List ℕ → Option File
source_at dir files path =
    option_and_then (λ rest. option_map (λ bytes. record { path = rest; bytes = bytes }) (bytes_at path files)) (option_and_then if_source (path_from dir path))

-- all files below a folder that are sources, with their paths from there
abbrev pub sources_of : List ℕ → List File → List File
sources_of dir files = filter_map (source_at dir files) (paths_below dir files)

-- how many bytes files have together
abbrev pub bytes_in : List File → ℕ
bytes_in files = sum (map (λ file. length file.bytes) files)
