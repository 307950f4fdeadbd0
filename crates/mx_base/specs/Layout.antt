-- Where things lie in the folder of a project.
use Rattle.std.specs.Prelude.{ℕ, Bool, ◌||◌, List, codes, bytes_eq}
use Rattle.mx_base.specs.Path.{first_segment}

-- the manifest of a project or a dependency, in its folder
abbrev pub manifest_name : List ℕ
manifest_name = codes "project.exs"

-- the settings, in the root
abbrev pub settings_name : List ℕ
settings_name = codes "settings.exs"

-- the lock, in the root
abbrev pub lock_name : List ℕ
lock_name = codes "mix.lock"

-- what is built
abbrev pub build_folder : List ℕ
build_folder = codes "_build"

-- what is fetched
abbrev pub deps_folder : List ℕ
deps_folder = codes "deps"

-- what the registry has
abbrev pub registry_folder : List ℕ
registry_folder = codes "hex"

-- the path leads into the folder of builds
abbrev pub is_in_build : List ℕ → Bool
is_in_build path = bytes_eq (first_segment path) build_folder

-- the path leads into a folder of the tool's own, where no dependency lies and no source
abbrev pub is_kept_apart : List ℕ → Bool
is_kept_apart path = is_in_build path || (bytes_eq (first_segment path) deps_folder || bytes_eq (first_segment path) registry_folder)
