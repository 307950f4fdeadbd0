-- Where the readers of rows and lines stop.
use Rattle.std.proofs.Common.{◌≡◌, ℕ, ◌<◌, List, [], ◌∷◌, ◌++◌, Option, refl, sym, ap, ◌∙◌, arith, inl, append_assoc, decimal}
use Rattle.hex.specs.Hex.{encode_lower}
use Rattle.reading.specs.Field.{PairFits, Stops, TellsItsEnd, pair_text}
use Rattle.reading.specs.Plain.{Always, IsBelow, IsNoDigit, literal_text, number_text}
use Rattle.reading.proofs.Fields.{first_stops, pair_tells, second_stops, tells_otherwise, told_otherwise}
use Rattle.reading.proofs.Literals.{literal_tells}
use Rattle.reading.proofs.Numbers.{number_tells}
use Rattle.mx_base.specs.declared.row.FileRow.{FileRow}
use Rattle.mx_base.specs.Digest.{IsDigest}
use Rattle.mx_base.specs.Listing.{row_text}
use Rattle.reading.specs.declared.stuck.Fault.{Fault}
use Rattle.reading.specs.declared.stuck.Fault.TheVariants.{Stuck, OutOfMemory}
use Rattle.build_manifest.specs.Fields.{IsEarlier, NextPath, NextRow, StopsBy, ended, lead_text}
use Rattle.build_manifest.specs.Mark.{limit}
use Rattle.build_manifest.proofs.Lines.{line_tells, path_has_no_break}
use Rattle.build_manifest.proofs.Parts.{digest_tells}
use Rattle.build_manifest.proofs.PathLives.{next_path}

-- a field stops where a part of it does, or memory ran out for both
pub stops_by : {A B : Type 0} (text : A → List ℕ) (Fits : A → Type 0) (from : List ℕ) (whole : B → List ℕ) (WholeFits : B → Type 0) (whole_from : List ℕ)
    → ((left : ℕ) → Stops text Fits from left → Stops whole WholeFits whole_from left) → (fault : Fault) → StopsBy text Fits from fault
    → StopsBy whole WholeFits whole_from fault
stops_by text Fits from whole WholeFits whole_from on (Stuck stuck) s = on stuck.left s
stops_by text Fits from whole WholeFits whole_from on OutOfMemory s = tt

-- ---- a digest and the space behind it

lead_told : (text : List ℕ) (left : ℕ)
    → Stops (pair_text encode_lower (λ _. literal_text (32 ∷ []))) (PairFits IsDigest (λ _. Always)) text left → Stops lead_text IsDigest text left
lead_told text left s =
    told_otherwise (pair_text encode_lower (λ _. literal_text (32 ∷ []))) (PairFits IsDigest (λ _. Always)) lead_text IsDigest
    (λ p. p.0) (λ digest. (digest, tt)) (λ p fits. (fits.0, refl)) (λ digest fits. ((fits, tt), refl)) text left s

pub lead_digest_stops : (text : List ℕ) (left : ℕ) → Stops encode_lower IsDigest text left → Stops lead_text IsDigest text left
lead_digest_stops text left s =
    lead_told text left
    (first_stops encode_lower IsDigest (λ _. literal_text (32 ∷ [])) (λ _. Always) digest_tells (λ _ _. (tt, tt)) text left s)

pub lead_space_stops : (digest text rest : List ℕ) (left : ℕ) → IsDigest digest → text ≡ encode_lower digest ++ rest
    → Stops (literal_text (32 ∷ [])) Always rest left → Stops lead_text IsDigest text left
lead_space_stops digest text rest left is cut s =
    lead_told text left
    (second_stops encode_lower IsDigest (λ _. literal_text (32 ∷ [])) (λ _. Always) digest_tells digest is text rest left cut s)

pub lead_read : (digest text rest more : List ℕ) → text ≡ encode_lower digest ++ rest → rest ≡ (32 ∷ []) ++ more → text ≡ lead_text digest ++ more
lead_read digest text rest more cut next =
    cut ∙ ap (λ t. encode_lower digest ++ t) next ∙ sym (append_assoc (encode_lower digest) (32 ∷ []) more)

pub lead_tells : TellsItsEnd lead_text IsDigest
lead_tells =
    tells_otherwise (pair_text encode_lower (λ _. literal_text (32 ∷ []))) (PairFits IsDigest (λ _. Always)) lead_text IsDigest
    (λ digest. (digest, tt)) (λ digest fits. ((fits, tt), refl)) (λ a b _ _ e. ap (λ (p : List ℕ × Unit {0}). p.0) e)
    (pair_tells encode_lower IsDigest (λ _. literal_text (32 ∷ [])) (λ _. Always) digest_tells (λ _ _. literal_tells (32 ∷ [])))

-- ---- rows

abbrev Tail : Type 0
Tail = ℕ × List ℕ

abbrev tail_text : Tail → List ℕ
tail_text = pair_text (number_text 32) (λ _. ended)

abbrev TailFits : Option (List ℕ) → Tail → Type 0
TailFits before = PairFits (IsBelow limit) (λ _. NextPath before)

space_ends : IsNoDigit 32
space_ends = record { holds = inl (omega arith) }

length_tells : TellsItsEnd (number_text 32) (IsBelow limit)
length_tells = number_tells 32 limit space_ends (omega arith)

path_tells : (before : Option (List ℕ)) → TellsItsEnd ended (NextPath before)
path_tells before = line_tells (NextPath before) (λ path next. path_has_no_break path next.proper)

tail_tells : (before : Option (List ℕ)) → TellsItsEnd tail_text (TailFits before)
tail_tells before = pair_tells (number_text 32) (IsBelow limit) (λ _. ended) (λ _. NextPath before) length_tells (λ _ _. path_tells before)

abbrev row_parts : List ℕ × Tail → List ℕ
row_parts = pair_text lead_text (λ _. tail_text)

abbrev RowParts : Option (List ℕ) → List ℕ × Tail → Type 0
RowParts before = PairFits IsDigest (λ _. TailFits before)

abbrev row_from : List ℕ × Tail → FileRow
row_from p = record { path = p.1.1; length = p.1.0; digest = p.0 }

abbrev parts_from : FileRow → List ℕ × Tail
parts_from row = (row.digest, (row.length, row.path))

row_grouped : (d n p : List ℕ) → d ++ 32 ∷ n ++ 32 ∷ p ++ 10 ∷ [] ≡ (d ++ 32 ∷ []) ++ ((n ++ 32 ∷ []) ++ (p ++ 10 ∷ []))
row_grouped d n p = simp append_assoc

row_fits : (before : Option (List ℕ)) (p : List ℕ × Tail) → RowParts before p → NextRow before (row_from p) × (row_text (row_from p) ≡ row_parts p)
row_fits before p fits = (
  record {
    sound = record { path = fits.1.1.proper; utf8 = fits.1.1.utf8; length = fits.1.0; digest = fits.0 };
    order = fits.1.1.order;
  },
  row_grouped (encode_lower p.0) (decimal p.1.0) p.1.1,
)

fits_parts : (before : Option (List ℕ)) (row : FileRow) → NextRow before row → RowParts before (parts_from row) × (row_parts (parts_from row) ≡ row_text row)
fits_parts before row next = (
  (next.sound.digest, (next.sound.length, record { proper = next.sound.path; utf8 = next.sound.utf8; order = next.order })),
  sym (row_grouped (encode_lower row.digest) (decimal row.length) row.path),
)

row_told : (before : Option (List ℕ)) (text : List ℕ) (left : ℕ) → Stops row_parts (RowParts before) text left → Stops row_text (NextRow before) text left
row_told before text left s =
    told_otherwise row_parts (RowParts before) row_text (NextRow before) row_from parts_from (row_fits before) (fits_parts before) text left s

some_tail : (before : Option (List ℕ)) → IsEarlier before → (tail : Tail) × TailFits before tail
some_tail before earlier = let path = next_path before earlier in ((0, path.0), (omega arith, path.1))

pub row_lead_stops : (before : Option (List ℕ)) (text : List ℕ) (left : ℕ) → IsEarlier before → Stops lead_text IsDigest text left
    → Stops row_text (NextRow before) text left
row_lead_stops before text left earlier s =
    row_told before text left
    (first_stops lead_text IsDigest (λ _. tail_text) (λ _. TailFits before) lead_tells (λ _ _. some_tail before earlier) text left s)

row_tail_stops : (before : Option (List ℕ)) (digest text rest : List ℕ) (left : ℕ) → IsDigest digest → text ≡ lead_text digest ++ rest
    → Stops tail_text (TailFits before) rest left → Stops row_text (NextRow before) text left
row_tail_stops before digest text rest left is cut s =
    row_told before text left (second_stops lead_text IsDigest (λ _. tail_text) (λ _. TailFits before) lead_tells digest is text rest left cut s)

pub row_length_stops : (before : Option (List ℕ)) (digest text rest : List ℕ) (left : ℕ) → IsEarlier before → IsDigest digest
    → text ≡ lead_text digest ++ rest → Stops (number_text 32) (IsBelow limit) rest left → Stops row_text (NextRow before) text left
row_length_stops before digest text rest left earlier is cut s =
    row_tail_stops before digest text rest left is cut
    (first_stops (number_text 32) (IsBelow limit) (λ _. ended) (λ _. NextPath before) length_tells (λ _ _. next_path before earlier) rest left s)

pub row_path_stops : (before : Option (List ℕ)) (digest text rest after : List ℕ) (n left : ℕ) → IsDigest digest → text ≡ lead_text digest ++ rest
    → n < limit → rest ≡ number_text 32 n ++ after → Stops ended (NextPath before) after left → Stops row_text (NextRow before) text left
row_path_stops before digest text rest after n left is cut small next s =
    row_tail_stops before digest text rest left is cut
    (second_stops (number_text 32) (IsBelow limit) (λ _. ended) (λ _. NextPath before) length_tells n small rest after left next s)

pub row_read : (digest text rest after path more : List ℕ) (n : ℕ) → text ≡ lead_text digest ++ rest → rest ≡ number_text 32 n ++ after
    → after ≡ ended path ++ more → text ≡ row_text (record { path = path; length = n; digest = digest }) ++ more
row_read digest text rest after path more n cut next end =
    cut ∙ ap (λ t. lead_text digest ++ t) (next ∙ ap (λ t. number_text 32 n ++ t) end) ∙ grouped (encode_lower digest) (decimal n) path more
  where
    grouped : (d n p m : List ℕ) → (d ++ 32 ∷ []) ++ ((n ++ 32 ∷ []) ++ ((p ++ 10 ∷ []) ++ m)) ≡ (d ++ 32 ∷ n ++ 32 ∷ p ++ 10 ∷ []) ++ m
    grouped d n p m = simp append_assoc
