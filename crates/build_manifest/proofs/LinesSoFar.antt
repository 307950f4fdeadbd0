-- Lines read one after another, kept as their rows and the digests in front of them.
use Rattle.std.proofs.Common.{◌≡◌, ℕ, ◌<◌, Bool, true, false, List, [], ◌∷◌, ◌++◌, length, Some, None, refl, sym, ap, ◌∙◌, arith, subst, append_assoc, append-nil, length-append}
use Rattle.std.specs.Prelude.{flat_map}
use Rattle.std.proofs.lemmas.List.{length-map}
use Rattle.reading.specs.Field.{FitInTurn, ListFits, Stops}
use Rattle.reading.proofs.Repeats.{fit_one_more, flat_map_one_more, list_stops}
use Rattle.mx_base.specs.declared.row.FileRow.{FileRow}
use Rattle.build_manifest.specs.Fields.{IsEarlier, NextLine, last_path}
use Rattle.build_manifest.specs.Lines.{AreLines, HasLeads, digest_of, lines_of}
use Rattle.build_manifest.specs.Mark.{LeadFits, Line, LineFits, diagnosed, plain}
use Rattle.build_manifest.specs.Text.{line_text}
use Rattle.build_manifest.proofs.LineRows.{rows_again}
use Rattle.build_manifest.proofs.LineStops.{earlier_of, fits_after, line_stops, lines_go_on, rows_in}
use Rattle.build_manifest.proofs.Parts.{line_text_tells}

-- the lines so far, of which the text begins with the texts, and what is left of it
pub record HaveCome (leads : Bool) (digests : List (List ℕ)) (rows : List FileRow) (text left : List ℕ) : Type 0 where
  pub has : HasLeads leads digests rows
  pub fits : FitInTurn (LineFits leads) [] (lines_of leads digests rows)
  pub cut : text ≡ flat_map line_text (lines_of leads digests rows) ++ left

module _ (leads : Bool) (digests : List (List ℕ)) (rows : List FileRow) (text left : List ℕ) (come : HaveCome leads digests rows text left) where
  same_rows : rows_in (lines_of leads digests rows) ≡ rows
  same_rows = rows_again leads digests rows come.has

  as_many : length (lines_of leads digests rows) ≡ length rows
  as_many = sym (length-map (lines_of leads digests rows) (λ line. line.1)) ∙ ap length same_rows

  pub is_earlier : IsEarlier (last_path rows)
  is_earlier = subst (λ r. IsEarlier (last_path r)) same_rows (earlier_of leads (lines_of leads digests rows) come.fits)

  next_fits : (line : Line) → NextLine leads (last_path rows) line → LineFits leads (lines_of leads digests rows) line
  next_fits line next =
      fits_after leads (lines_of leads digests rows) line come.fits (subst (λ r. NextLine leads (last_path r) line) (sym same_rows) next)

  pub lines_stop : (count at : ℕ) → length rows < count → Stops line_text (NextLine leads (last_path rows)) left at
      → Stops (flat_map line_text) (ListFits (LineFits leads) count []) text at
  lines_stop count at fewer s =
      list_stops line_text (LineFits leads) (line_text_tells leads) count (lines_go_on leads count) [] (lines_of leads digests rows) count (omega arith) tt
      come.fits text left at (omega (arith, as_many, fewer)) come.cut
      (line_stops leads (lines_of leads digests rows) left at come.fits
      (subst (λ r. Stops line_text (NextLine leads (last_path r)) left at) (sym same_rows) s))

  pub all_come : (count : ℕ) → length rows ≡ count → AreLines (ListFits (LineFits leads) count []) leads digests rows
  all_come count many = (come.has, (as_many ∙ many, come.fits))

has_more : (leads : Bool) (digests : List (List ℕ)) (rows : List FileRow) (line : Line) → LeadFits leads line.0 → HasLeads leads digests rows
    → HasLeads leads (digests ++ digest_of line.0) (rows ++ line.1 ∷ [])
has_more false digests rows (None, row) fits has = append-nil digests ∙ has
has_more false digests rows (Some digest, row) fits has = absurd fits
has_more true digests rows (None, row) fits has = absurd fits
has_more true digests rows (Some digest, row) fits has =
    omega (arith, has, length-append digests (digest ∷ []), length-append rows (row ∷ []))

plain_more : (rows : List FileRow) (row : FileRow) → plain (rows ++ row ∷ []) ≡ plain rows ++ (None, row) ∷ []
plain_more [] row = refl
plain_more (r ∷ rows) row = ap (λ (l : List Line). (None, r) ∷ l) (plain_more rows row)

diagnosed_more : (digests : List (List ℕ)) (rows : List FileRow) (digest : List ℕ) (row : FileRow) → length digests ≡ length rows
    → diagnosed (digests ++ digest ∷ []) (rows ++ row ∷ []) ≡ diagnosed digests rows ++ (Some digest, row) ∷ []
diagnosed_more [] [] digest row long = refl
diagnosed_more [] (r ∷ rows) digest row long = absurd (omega (arith, long))
diagnosed_more (d ∷ digests) [] digest row long = absurd (omega (arith, long))
diagnosed_more (d ∷ digests) (r ∷ rows) digest row long =
    ap (λ (l : List Line). (Some d, r) ∷ l) (diagnosed_more digests rows digest row (omega (arith, long)))

lines_more : (leads : Bool) (digests : List (List ℕ)) (rows : List FileRow) (line : Line) → LeadFits leads line.0 → HasLeads leads digests rows
    → lines_of leads (digests ++ digest_of line.0) (rows ++ line.1 ∷ []) ≡ lines_of leads digests rows ++ line ∷ []
lines_more false digests rows (None, row) fits has = plain_more rows row
lines_more false digests rows (Some digest, row) fits has = absurd fits
lines_more true digests rows (None, row) fits has = absurd fits
lines_more true digests rows (Some digest, row) fits has = diagnosed_more digests rows digest row has

pub one_line_more : (leads : Bool) (digests : List (List ℕ)) (rows : List FileRow) (text left after : List ℕ) (line : Line)
    → HaveCome leads digests rows text left → NextLine leads (last_path rows) line → left ≡ line_text line ++ after
    → HaveCome leads (digests ++ digest_of line.0) (rows ++ line.1 ∷ []) text after
one_line_more leads digests rows text left after line come next cut =
    let lines = lines_of leads digests rows in
    let more = lines_more leads digests rows line next.lead come.has in
    let fits = fit_one_more (LineFits leads) [] lines line come.fits (next_fits leads digests rows text left come line next) in
    let whole : text ≡ flat_map line_text (lines ++ line ∷ []) ++ after =
    come.cut ∙ ap (λ t. flat_map line_text lines ++ t) cut ∙ sym (append_assoc (flat_map line_text lines) (line_text line) after)
    ∙ ap (λ t. t ++ after) (sym (flat_map_one_more line_text lines line)) in
    record {
      has = has_more leads digests rows line next.lead come.has;
      fits = subst (FitInTurn (LineFits leads) []) (sym more) fits;
      cut = whole ∙ ap (λ l. flat_map line_text l ++ after) (sym more);
    }

pub come_again : (leads : Bool) (digests again : List (List ℕ)) (rows new_rows : List FileRow) (text left : List ℕ) → again ≡ digests → new_rows ≡ rows
    → HaveCome leads digests rows text left → HaveCome leads again new_rows text left
come_again leads digests again rows new_rows text left e f come = rw (e, f) come
