-- Rows of listings.
use Rattle.std.proofs.Common.{◌≡◌, ℕ, false, List, [], ◌∷◌, refl, sym, ◌∙◌, ap}
use Rattle.std.specs.List.{AllByRecursion, IsDistinct}
use Rattle.std.specs.Ordering.{is_eq}
use Rattle.std.specs.Str.{bytes_eq}
use Rattle.std.proofs.lemmas.Cmp.{nat_list_eq_equiv}
use Rattle.std.proofs.lemmas.List.Sorted.{IsPermutation-sym, IsPermutation-trans}
use Rattle.std.proofs.lemmas.Map.Made.{AllPairs-from_IsDistinct, IsDistinct-from_AllPairs}
use Rattle.std.proofs.lemmas.Map.Text.{is_eq-slice_cmp}
use Rattle.std.proofs.lemmas.Slice.Eq.{bytes_eq-Decides}
use Rattle.mx_base.specs.declared.file.File.{File}
use Rattle.mx_base.specs.declared.row.FileRow.{FileRow}
use Rattle.mx_base.specs.Order.{IsBefore, ArePathsInOrder, AreInOrder, paths_of}
use Rattle.mx_base.specs.Listing.{AreApart, IsListingOf, row_paths, rows_of, AreRowsInOrder}
use Rattle.mx_base.proofs.KeyedOrder.{one_sorting}

pub bytes_eq_flips : (xs ys : List ℕ) → bytes_eq xs ys ≡ bytes_eq ys xs
bytes_eq_flips xs ys = nat_list_eq_equiv.symm xs ys

row_paths_are : (files : List File) → row_paths (rows_of files) ≡ paths_of files
row_paths_are [] = refl
row_paths_are (f ∷ fs) = ap (λ (ps : List (List ℕ)). f.path ∷ ps) (row_paths_are fs)

-- the rows of files of different paths have different paths
pub rows_apart : (files : List File) → AreApart files → IsDistinct bytes_eq (row_paths (rows_of files))
rows_apart files apart = rw (row_paths_are files) (IsDistinct-from_AllPairs bytes_eq-Decides (paths_of files) apart)

-- and the rows of files in order are in order
pub rows_keep_order : (files : List File) → AreInOrder files → AreRowsInOrder (rows_of files)
rows_keep_order files order = rw (row_paths_are files) order

all_less : (path : List ℕ) (paths : List (List ℕ)) → IsBefore path paths → AllByRecursion (λ p. bytes_eq path p ≡ false) paths
all_less path [] before = tt
all_less path (p ∷ ps) before = (sym (is_eq-slice_cmp path p) ∙ ap is_eq before.0, all_less path ps before.1)

distinct_from_order : (paths : List (List ℕ)) → ArePathsInOrder paths → IsDistinct bytes_eq paths
unfolding IsDistinct
distinct_from_order [] order = tt
distinct_from_order (p ∷ ps) order = (all_less p ps order.0, distinct_from_order ps order.1)

-- files in order have different paths
pub apart_from_order : (files : List File) → AreInOrder files → AreApart files
apart_from_order files order = AllPairs-from_IsDistinct bytes_eq-Decides (paths_of files) (distinct_from_order (paths_of files) order)

-- there is one listing of files at most
pub one_listing_of : (files : List File) (one other : List FileRow) → IsListingOf files one → IsListingOf files other → one ≡ other
one_listing_of files one other a b =
    one_sorting (λ (row : FileRow). row.path) one other (IsPermutation-trans one (rows_of files) other (IsPermutation-sym (rows_of files) one a.same) b.same)
    a.in_order b.in_order
