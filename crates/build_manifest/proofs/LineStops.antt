-- Where the readers of lines stop.
use Rattle.std.proofs.Common.{◌≡◌, ◌⊎◌, ℕ, zero, suc, ◌-◌, ◌≤◌, Bool, true, false, List, [], ◌∷◌, ◌++◌, length, get_or, map, Option, Some, None, refl, sym, ap, ◌∙◌, arith, subst, inl, inr, ⊎_elim, append_assoc, append-nil, length-append}
use Rattle.std.specs.Prelude.{replicate}
use Rattle.std.specs.declared.cmp.Ordering.TheVariants.{Less}
use Rattle.std.specs.Cmp.Lexicographic.{nat_list_cmp_total}
use Rattle.std.specs.List.{AllByRecursion}
use Rattle.reading.specs.Field.{FitInTurn, PairFits, Stops, TellsItsEnd, pair_text}
use Rattle.reading.proofs.Fields.{first_stops, second_stops, told_otherwise}
use Rattle.reading.proofs.Repeats.{GoesOn, fit_one_more}
use Rattle.mx_base.specs.declared.row.FileRow.{FileRow}
use Rattle.mx_base.specs.Digest.{IsDigest}
use Rattle.mx_base.specs.Listing.{row_text}
use Rattle.mx_base.specs.Order.{text_cmp}
use Rattle.build_manifest.specs.Fields.{ComesAfter, IsEarlier, NextLine, NextRow, last_path, lead_text}
use Rattle.build_manifest.specs.Lines.{lead_part}
use Rattle.build_manifest.specs.Mark.{LeadFits, Line, LineFits}
use Rattle.build_manifest.specs.Text.{line_text}
use Rattle.build_manifest.proofs.DigestLemmas.{digest_from, zeros}
use Rattle.build_manifest.proofs.PathLives.{next_path}
use Rattle.build_manifest.proofs.RowStops.{lead_tells}

-- ---- the last of the lines

abbrev pub rows_in : List Line → List FileRow
rows_in lines = map (λ line. line.1) lines

abbrev Ends : List Line → Type 0
Ends lines = (lines ≡ []) ⊎ ((front : List Line) × (last : Line) × (lines ≡ front ++ last ∷ []))

ends_of : (lines : List Line) → Ends lines
ends_of [] = inl refl
ends_of (line ∷ lines) =
    ⊎_elim (λ e. inr ([], line, ap (λ l. line ∷ l) e))
    (λ (more : (front : List Line) × (last : Line) × (lines ≡ front ++ last ∷ [])). inr (line ∷ more.0, more.1, ap (λ l. line ∷ l) more.2)) (ends_of lines)

last_of : (front : List Line) (line : Line) → last_path (rows_in (front ++ line ∷ [])) ≡ Some line.1.path
last_of [] line = refl
last_of (one ∷ []) line = refl
last_of (one ∷ next ∷ front) line = last_of (next ∷ front) line

pub last_is : (rows : List FileRow) (row : FileRow) → 1 ≤ length rows → row ≡ get_or rows (length rows - 1) row → Some row.path ≡ last_path rows
last_is [] row some is = absurd (omega arith)
last_is (one ∷ []) row some is = ap (λ (r : FileRow). Some r.path) is
last_is (one ∷ next ∷ rows) row some is =
    let e : length (one ∷ next ∷ rows) - 1 ≡ suc (length (next ∷ rows) - 1) = omega arith in
    last_is (next ∷ rows) row (omega arith) (is ∙ ap (λ n. get_or (one ∷ next ∷ rows) n row) e)

fit_last : (leads : Bool) (before front : List Line) (line : Line) → FitInTurn (LineFits leads) before (front ++ line ∷ [])
    → FitInTurn (LineFits leads) before front × LineFits leads (before ++ front) line
fit_last leads before [] line fits = (tt, subst (λ b. LineFits leads b line) (sym (append-nil before)) fits.0)
fit_last leads before (one ∷ front) line fits =
    let rest = fit_last leads (before ++ one ∷ []) front line fits.1 in
    ((fits.0, rest.0), subst (λ b. LineFits leads b line) (append_assoc before (one ∷ []) front) rest.1)

abbrev Below : List ℕ → List Line → Type 0
Below path lines = AllByRecursion (λ earlier. text_cmp earlier.1.path path ≡ Less) lines

below_more : (path other : List ℕ) (lines : List Line) → Below path lines → text_cmp path other ≡ Less → Below other lines
below_more path other [] all less = tt
below_more path other (line ∷ lines) all less =
    (nat_list_cmp_total.trans line.1.path path other all.0 less, below_more path other lines all.1 less)

below_last : (path : List ℕ) (front : List Line) (line : Line) → Below path front → text_cmp line.1.path path ≡ Less → Below path (front ++ line ∷ [])
below_last path [] line all less = (less, tt)
below_last path (one ∷ front) line all less = (all.0, below_last path front line all.1 less)

last_below : (path : List ℕ) (front : List Line) (line : Line) → Below path (front ++ line ∷ []) → text_cmp line.1.path path ≡ Less
last_below path [] line all = all.0
last_below path (one ∷ front) line all = last_below path front line all.1

-- a line fits after others where it fits after the last of them
pub fits_after : (leads : Bool) (lines : List Line) (line : Line) → FitInTurn (LineFits leads) [] lines → NextLine leads (last_path (rows_in lines)) line
    → LineFits leads lines line
fits_after leads lines line fits next = record { lead = next.lead; row = next.row.sound; order = ⊎_elim none some (ends_of lines) }
  where
    none : lines ≡ [] → Below line.1.path lines
    none e = subst (Below line.1.path) (sym e) tt

    some : (front : List Line) × (last : Line) × (lines ≡ front ++ last ∷ []) → Below line.1.path lines
    some (front, last, e) =
        let was = fit_last leads [] front last (subst (FitInTurn (LineFits leads) []) e fits) in
        let less : text_cmp last.1.path line.1.path ≡ Less =
        subst (λ b. ComesAfter b line.1.path) (ap (λ l. last_path (rows_in l)) e ∙ last_of front last) next.row.order in
        subst (Below line.1.path) (sym e) (below_last line.1.path front last (below_more last.1.path line.1.path front was.1.order less) less)

pub next_after : (leads : Bool) (lines : List Line) (line : Line) → LineFits leads lines line → NextLine leads (last_path (rows_in lines)) line
next_after leads lines line fits = record { lead = fits.lead; row = record { sound = fits.row; order = ⊎_elim none some (ends_of lines) } }
  where
    none : lines ≡ [] → ComesAfter (last_path (rows_in lines)) line.1.path
    none e = subst (λ l. ComesAfter (last_path (rows_in l)) line.1.path) (sym e) tt

    some : (front : List Line) × (last : Line) × (lines ≡ front ++ last ∷ []) → ComesAfter (last_path (rows_in lines)) line.1.path
    some (front, last, e) =
        subst (λ b. ComesAfter b line.1.path) (sym (ap (λ l. last_path (rows_in l)) e ∙ last_of front last))
        (last_below line.1.path front last (subst (Below line.1.path) e fits.order))

-- the path of the last row is one
pub earlier_of : (leads : Bool) (lines : List Line) → FitInTurn (LineFits leads) [] lines → IsEarlier (last_path (rows_in lines))
earlier_of leads lines fits = ⊎_elim (λ e. subst (λ l. IsEarlier (last_path (rows_in l))) (sym e) tt) some (ends_of lines)
  where
    some : (front : List Line) × (last : Line) × (lines ≡ front ++ last ∷ []) → IsEarlier (last_path (rows_in lines))
    some (front, last, e) =
        let was = fit_last leads [] front last (subst (FitInTurn (LineFits leads) []) e fits) in
        subst IsEarlier (sym (ap (λ l. last_path (rows_in l)) e ∙ last_of front last)) (was.1.row.path, was.1.row.utf8)

-- a line stops as the next one after the last
pub line_stops : (leads : Bool) (lines : List Line) (text : List ℕ) (left : ℕ) → FitInTurn (LineFits leads) [] lines
    → Stops line_text (NextLine leads (last_path (rows_in lines))) text left → Stops line_text (LineFits leads lines) text left
line_stops leads lines text left fits s =
    told_otherwise line_text (NextLine leads (last_path (rows_in lines))) line_text (LineFits leads lines) (λ line. line) (λ line. line)
    (λ line next. (fits_after leads lines line fits next, refl)) (λ line now. (next_after leads lines line now, refl)) text left s

-- ---- there are more lines

pub zero_digest : IsDigest (replicate 32 0)
zero_digest = digest_from (replicate 32 0) refl (zeros [] 32).1

next_row : (before : Option (List ℕ)) → IsEarlier before → (row : FileRow) × NextRow before row
next_row before earlier =
    let path = next_path before earlier in (
      record { path = path.0; length = 0; digest = replicate 32 0 },
      record {
        sound = record { path = path.1.proper; utf8 = path.1.utf8; length = omega arith; digest = zero_digest };
        order = path.1.order;
      },
    )

some_lead : (leads : Bool) → (lead : Option (List ℕ)) × LeadFits leads lead
some_lead false = (None, tt)
some_lead true = (Some (replicate 32 0), zero_digest)

next_line : (leads : Bool) (before : Option (List ℕ)) → IsEarlier before → (line : Line) × NextLine leads before line
next_line leads before earlier =
    let lead = some_lead leads in
    let row = next_row before earlier in
    ((lead.0, row.0), record { lead = lead.1; row = row.1 })

pub lines_go_on : (leads : Bool) (total : ℕ) → GoesOn (LineFits leads) total
lines_go_on leads total before zero sum fits = ([], (refl, tt))
lines_go_on leads total before (suc n) sum fits =
    let line = next_line leads (last_path (rows_in before)) (earlier_of leads before fits) in
    let now = fits_after leads before line.0 fits line.1 in
    let rest = lines_go_on leads total (before ++ line.0 ∷ []) n (omega (arith, length-append before (line.0 ∷ [])))
    (fit_one_more (LineFits leads) [] before line.0 fits now) in
    (line.0 ∷ rest.0, (ap suc rest.1.0, (now, rest.1.1)))

-- ---- a line

lead_part_tells : (leads : Bool) → TellsItsEnd lead_part (LeadFits leads)
lead_part_tells false None None x y fa fb e = refl
lead_part_tells false None (Some b) x y fa fb e = absurd fb
lead_part_tells false (Some a) b x y fa fb e = absurd fa
lead_part_tells true None b x y fa fb e = absurd fa
lead_part_tells true (Some a) None x y fa fb e = absurd fb
lead_part_tells true (Some a) (Some b) x y fa fb e = ap Some (lead_tells a b x y fa fb e)

abbrev digest_or_none : Option (List ℕ) → List ℕ
digest_or_none None = []
digest_or_none (Some digest) = digest

is_led : (lead : Option (List ℕ)) → LeadFits true lead → IsDigest (digest_or_none lead) × (lead_text (digest_or_none lead) ≡ lead_part lead)
is_led None fits = absurd fits
is_led (Some digest) fits = (fits, refl)

pub lead_part_stops : (leads : Bool) (text : List ℕ) (left : ℕ) → leads ≡ true → Stops lead_text IsDigest text left
    → Stops lead_part (LeadFits leads) text left
lead_part_stops false text left is s = cc
lead_part_stops true text left is s =
    told_otherwise lead_text IsDigest lead_part (LeadFits true) (λ digest. Some digest) digest_or_none (λ digest fits. (fits, refl)) is_led text left s

line_parts : (line : Line) → pair_text lead_part (λ _. row_text) line ≡ line_text line
line_parts (None, row) = refl
line_parts (Some digest, row) = append_assoc _ (32 ∷ []) (row_text row)

line_told : (leads : Bool) (before : Option (List ℕ)) (text : List ℕ) (left : ℕ)
    → Stops (pair_text lead_part (λ _. row_text)) (PairFits (LeadFits leads) (λ _. NextRow before)) text left
    → Stops line_text (NextLine leads before) text left
line_told leads before text left s =
    told_otherwise (pair_text lead_part (λ _. row_text)) (PairFits (LeadFits leads) (λ _. NextRow before)) line_text (NextLine leads before)
    (λ line. line) (λ line. line) (λ line fits. (record { lead = fits.0; row = fits.1 }, sym (line_parts line)))
    (λ line next. ((next.lead, next.row), line_parts line)) text left s

pub line_lead_stops : (leads : Bool) (before : Option (List ℕ)) (text : List ℕ) (left : ℕ) → IsEarlier before
    → Stops lead_part (LeadFits leads) text left → Stops line_text (NextLine leads before) text left
line_lead_stops leads before text left earlier s =
    line_told leads before text left
    (first_stops lead_part (LeadFits leads) (λ _. row_text) (λ _. NextRow before) (lead_part_tells leads) (λ _ _. next_row before earlier) text left s)

pub line_row_stops : (leads : Bool) (before lead : Option (List ℕ)) (text rest : List ℕ) (left : ℕ) → LeadFits leads lead → text ≡ lead_part lead ++ rest
    → Stops row_text (NextRow before) rest left → Stops line_text (NextLine leads before) text left
line_row_stops leads before lead text rest left is cut s =
    line_told leads before text left
    (second_stops lead_part (LeadFits leads) (λ _. row_text) (λ _. NextRow before) (lead_part_tells leads) lead is text rest left cut s)

pub line_read : (lead : Option (List ℕ)) (row : FileRow) (text rest more : List ℕ) → text ≡ lead_part lead ++ rest → rest ≡ row_text row ++ more
    → text ≡ line_text (lead, row) ++ more
line_read lead row text rest more cut next =
    cut ∙ ap (λ t. lead_part lead ++ t) next ∙ sym (append_assoc (lead_part lead) (row_text row) more) ∙ ap (λ t. t ++ more) (line_parts (lead, row))
