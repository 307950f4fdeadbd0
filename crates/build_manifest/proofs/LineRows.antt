-- The rows of lines that fit are those of a listing.
use Rattle.std.proofs.Common.{◌≡◌, ℕ, List, [], ◌∷◌, ◌++◌, refl, ap, ◌∙◌, subst, append_assoc}
use Rattle.std.specs.Prelude.{Bool, true, false}
use Rattle.std.specs.List.{All, AllByRecursion}
use Rattle.std.proofs.lemmas.List.Elements.{All-nil, All-cons}
use Rattle.reading.specs.Field.{FitInTurn}
use Rattle.mx_base.specs.declared.row.FileRow.{FileRow}
use Rattle.mx_base.specs.Listing.{AreRows, IsRow, row_paths}
use Rattle.mx_base.specs.Order.{ArePathsInOrder, IsBefore}
use Rattle.build_manifest.specs.Lines.{HasLeads, lines_of}
use Rattle.build_manifest.specs.Mark.{IsMarkRow, Line, LineFits}
use Rattle.build_manifest.proofs.LineStops.{rows_in}
use Rattle.build_manifest.proofs.MarkOfLemmas.{rows_in_plain, rows_in_diagnosed}

abbrev IsIn : Line → List Line → Type 0
IsIn line lines = (front back : List Line) × (lines ≡ front ++ line ∷ back)

in_more : (line next : Line) (lines : List Line) → IsIn line lines → IsIn line (lines ++ next ∷ [])
in_more line next lines (front, back, e) =
    (front, back ++ next ∷ [], ap (λ l. l ++ next ∷ []) e ∙ append_assoc front (line ∷ back) (next ∷ []))

holds_in : (P : Line → Type 0) (line : Line) (front back : List Line) → AllByRecursion P (front ++ line ∷ back) → P line
holds_in P line [] back all = all.0
holds_in P line (f ∷ front) back all = holds_in P line front back all.1

rises_to : (leads : Bool) (line : Line) (before lines : List Line) → IsIn line before → FitInTurn (LineFits leads) before lines
    → IsBefore line.1.path (row_paths (rows_in lines))
rises_to leads line before [] is fits = tt
rises_to leads line before (next ∷ lines) is fits = (
  holds_in _ line is.0 is.1 (subst (AllByRecursion _) is.2 fits.0.order),
  rises_to leads line (before ++ next ∷ []) lines (in_more line next before is) fits.1,
)

in_order : (leads : Bool) (before lines : List Line) → FitInTurn (LineFits leads) before lines → ArePathsInOrder (row_paths (rows_in lines))
in_order leads before [] fits = tt
in_order leads before (line ∷ lines) fits = (
  rises_to leads line (before ++ line ∷ []) lines (before, [], refl) fits.1,
  in_order leads (before ++ line ∷ []) lines fits.1,
)

listed_row : (row : FileRow) → IsMarkRow row → IsRow row
listed_row row is = record { path = is.path; utf8 = is.utf8; length = is.length; digest = is.digest }

each_is_row : (leads : Bool) (before lines : List Line) → FitInTurn (LineFits leads) before lines → All IsRow (rows_in lines)
each_is_row leads before [] fits = All-nil IsRow
each_is_row leads before (line ∷ lines) fits =
    All-cons IsRow line.1 (rows_in lines) (listed_row line.1 fits.0.row) (each_is_row leads (before ++ line ∷ []) lines fits.1)

are_rows : (leads : Bool) (lines : List Line) → FitInTurn (LineFits leads) [] lines → AreRows (rows_in lines)
are_rows leads lines fits = record { in_order = in_order leads [] lines fits; each = each_is_row leads [] lines fits }

pub rows_again : (leads : Bool) (digests : List (List ℕ)) (rows : List FileRow) → HasLeads leads digests rows → rows_in (lines_of leads digests rows) ≡ rows
rows_again false digests rows has = rows_in_plain rows
rows_again true digests rows has = rows_in_diagnosed digests rows has

pub lines_are_rows : (leads : Bool) (digests : List (List ℕ)) (rows : List FileRow) → HasLeads leads digests rows
    → FitInTurn (LineFits leads) [] (lines_of leads digests rows) → AreRows rows
lines_are_rows leads digests rows has fits =
    subst AreRows (rows_again leads digests rows has) (are_rows leads (lines_of leads digests rows) fits)
