-- What a build holds: its files and its mark.
use Rattle.std.specs.Prelude.{ℕ, Bool, true, false, List, [], ◌∷◌, Option, Some, None}
use Rattle.mx_base.specs.declared.file.File.{File}
use Rattle.tree_store.specs.declared.holding.Holding.{Holding}
use Rattle.tree_store.specs.Files.{put_all}

-- no file, and no mark
abbrev pub nothing : Holding
nothing = record { files = []; mark = None }

abbrev pub unmarked : Holding → Holding
unmarked held = record { files = held.files; mark = None }

abbrev pub marked : List ℕ → Holding → Holding
marked bytes held = record { files = held.files; mark = Some bytes }

-- other files beside the same mark
abbrev pub with_held : List File → Holding → Holding
with_held files held = record { files = files; mark = held.mark }

-- these files were put, one after another, beside the same mark
abbrev pub with_all : List File → Holding → Holding
with_all files held = with_held (put_all held.files files) held

-- just these files, and no mark
abbrev pub only_files : List File → Holding
only_files files = record { files = files; mark = None }

abbrev pub any_of : List File → Option (List ℕ) → Bool
any_of [] None = false
any_of [] (Some bytes) = true
any_of (f ∷ fs) mark = true

-- there is a file or a mark
abbrev pub has_any : Holding → Bool
has_any held = any_of held.files held.mark
