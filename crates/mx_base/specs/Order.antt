-- Paths and files in order.
use Rattle.std.specs.Prelude.{◌≡◌, ℕ, List, [], ◌∷◌, map, find, Option, option_map}
use Rattle.std.specs.declared.cmp.Ordering.{Ordering}
use Rattle.std.specs.declared.cmp.Ordering.TheVariants.{Less}
use Rattle.std.specs.Ordering.{nat_cmp, is_eq}
use Rattle.std.specs.Cmp.Lexicographic.{slice_cmp}
use Rattle.mx_base.specs.declared.file.File.{File}

-- texts in the order of byte strings
abbrev pub text_cmp : List ℕ → List ℕ → Ordering
text_cmp = slice_cmp nat_cmp

-- the path stands before each of these
abbrev pub IsBefore : List ℕ → List (List ℕ) → Type 0
IsBefore path [] = Unit {0}
IsBefore path (p ∷ ps) = (text_cmp path p ≡ Less) × IsBefore path ps

-- each path stands before all that follow it
abbrev pub ArePathsInOrder : List (List ℕ) → Type 0
ArePathsInOrder [] = Unit {0}
ArePathsInOrder (p ∷ ps) = IsBefore p ps × ArePathsInOrder ps

abbrev pub paths_of : List File → List (List ℕ)
paths_of files = map (λ file. file.path) files

abbrev pub AreInOrder : List File → Type 0
AreInOrder files = ArePathsInOrder (paths_of files)

-- the bytes of the file at a path
abbrev pub bytes_at : List ℕ → List File → Option (List ℕ)
bytes_at path files = option_map (λ file. file.bytes) (find (λ file. is_eq (text_cmp path file.path)) files)
