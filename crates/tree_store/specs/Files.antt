-- Files, and what writes do to them.
use Rattle.std.specs.Prelude.{◌≡◌, ◌⊎◌, ℕ, Bool, not, List, [], ◌∷◌, take, filter, Option, option_map}
use Rattle.std.specs.Ordering.{match_ordering, is_eq}
use Rattle.mx_base.specs.declared.file.File.{File}
use Rattle.mx_base.specs.Order.{text_cmp, paths_of}
use Rattle.mx_base.specs.Layout.{is_in_build}
use Rattle.mx_base.specs.Path.{is_below}

abbrev pub outside_build : List File → List File
outside_build files = filter (λ f. not (is_in_build f.path)) files

abbrev pub paths_below : List ℕ → List File → List (List ℕ)
paths_below dir files = filter (is_below dir) (paths_of files)

-- the files with this one, in place of one of its path
abbrev pub put_file : File → List File → List File
put_file file [] = file ∷ []
put_file file (f ∷ fs) = match_ordering (text_cmp file.path f.path) (file ∷ f ∷ fs) (record { path = f.path; bytes = file.bytes } ∷ fs) (f ∷ put_file file fs)

-- the files with these put one after another
abbrev pub put_all : List File → List File → List File
put_all held [] = held
put_all held (f ∷ fs) = put_all (put_file f held) fs

abbrev pub without_file : List ℕ → List File → List File
without_file path files = filter (λ f. not (is_eq (text_cmp path f.path))) files

-- so many of the first bytes of a file
abbrev pub cut_at : ℕ → File → File
cut_at count file = record { path = file.path; bytes = take count file.bytes }

-- the same where files may not be told
abbrev pub with_file : File → Option (List File) → Option (List File)
with_file file held = option_map (put_file file) held

-- as it was, without this file, or with a prefix of its bytes
abbrev pub PutsPartly : File → Option (List File) → Option (List File) → Type 0
PutsPartly file old new =
    (new ≡ old) ⊎ (new ≡ option_map (without_file file.path) old) ⊎ ((n : ℕ) × (new ≡ with_file (cut_at n file) old))

-- as it was, or without the file of this path
abbrev pub RemovesPartly : List ℕ → Option (List File) → Option (List File) → Type 0
RemovesPartly path old new = (new ≡ old) ⊎ (new ≡ option_map (without_file path) old)
