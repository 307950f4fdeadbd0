-- The files of a generated project in order.
use Rattle.std.proofs.Common.{◌≡◌, ℕ, zero, suc, ◌+◌, ◌<◌, ◌≤◌, List, [], ◌∷◌, ◌++◌, map, flat_map, codes, refl, arith}
use Rattle.std.specs.List.{range_with_len}
use Rattle.mx_base.specs.declared.file.File.{File}
use Rattle.mx_base.specs.Layout.{manifest_name}
use Rattle.mx_base.specs.Order.{AreInOrder, ArePathsInOrder, IsBefore, paths_of}
use Rattle.mx_base.proofs.OrderLemmas.{same_front}
use Rattle.unit_gen.specs.Dependency.{Drawn, dependencies, drawn_after}
use Rattle.unit_gen.specs.Texts.{files_of, path_in, project_files, root_file}
use Rattle.unit_gen.proofs.OrderLemmas.{paths_less}

-- the numbers of these rise from one above this, and have four digits
abbrev Rise : ℕ → List Drawn → Type 0
Rise last [] = Unit {0}
Rise last (one ∷ all) = (last < one.number) × (one.number < 10000) × Rise one.number all

-- the files of these, and then the manifest of the project with some text
abbrev with_root : List Drawn → List ℕ → List File
with_root all text = flat_map files_of all ++ record { path = manifest_name; bytes = text } ∷ []

rise_from : (first last : ℕ) (all : List Drawn) → first < last → Rise last all → Rise first all
rise_from first last [] less rise = tt
rise_from first last (one ∷ all) less rise = (omega (arith, less, rise.0), rise.1, rise.2)

before_all : (last : ℕ) (name : List ℕ) (all : List Drawn) (text : List ℕ) → Rise last all → IsBefore (path_in last name) (paths_of (with_root all text))
before_all last name [] text rise = (refl, tt)
before_all last name (one ∷ all) text rise = (
  paths_less last one.number name (codes "main.unit") rise.0 rise.1,
  (paths_less last one.number name manifest_name rise.0 rise.1, before_all last name all text (rise_from last one.number all rise.0 rise.2)),
)

in_order : (last : ℕ) (all : List Drawn) (text : List ℕ) → Rise last all → ArePathsInOrder (paths_of (with_root all text))
in_order last [] text rise = (tt, tt)
in_order last (one ∷ all) text rise = (
  (same_front (path_in one.number []) (codes "main.unit") manifest_name, before_all one.number (codes "main.unit") all text rise.2),
  (before_all one.number manifest_name all text rise.2, in_order one.number all text rise.2),
)

rise : (start before count : ℕ) → before + count < 10000 → Rise before (map (drawn_after start) (range_with_len before count))
rise start before zero few = tt
rise start before (suc count) few = (omega arith, omega (arith, few), rise start (before + 1) count (omega (arith, few)))

pub files_in_order : (start count : ℕ) → count ≤ 4000 → AreInOrder (project_files (dependencies start count))
files_in_order start count few =
    in_order 0 (dependencies start count) (root_file (dependencies start count)).bytes (rise start 0 count (omega (arith, few)))
