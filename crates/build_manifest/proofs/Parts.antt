-- The parts of a mark's text tell where they end.
use Rattle.std.proofs.Common.{◌≡◌, ℕ, ◌^◌, ◌≤◌, Bool, true, false, List, [], ◌∷◌, ◌++◌, length, Some, None, Ok, refl, sym, ap, ◌∙◌, arith, append_assoc, inl, decimal}
use Rattle.std.specs.Prelude.{flat_map, IsTrue, Result}
use Rattle.hex.specs.Hex.{decode_of, encode_lower, lower_digits}
use Rattle.hex.specs.declared.error.FromHexError.{FromHexError}
use Rattle.hex.proofs.HexLemmas.{decode_of-encode_lower, length-encode_with}
use Rattle.reading.specs.Plain.{AreSoMany, IsBelow, IsNoDigit, after_text, number_text}
use Rattle.reading.specs.Field.{ListFits, PairFits, TellsItsEnd, pair_text}
use Rattle.reading.proofs.Fields.{pair_tells, tells_narrower, tells_otherwise}
use Rattle.reading.proofs.Literals.{after_tells}
use Rattle.reading.proofs.Numbers.{number_tells, same_front}
use Rattle.reading.proofs.Repeats.{list_tells}
use Rattle.mx_base.specs.declared.row.FileRow.{FileRow}
use Rattle.mx_base.specs.Digest.{IsDigest}
use Rattle.mx_base.specs.Listing.{row_text}
use Rattle.build_manifest.specs.Fields.{Block, LinesFit, ended}
use Rattle.build_manifest.specs.Mark.{IsMarkRow, LeadFits, Line, LineFits, Need, NeedFits, limit}
use Rattle.build_manifest.specs.Text.{block_text, line_text, lines_text, need_text}
use Rattle.mx_base.specs.AppName.{IsAppName}
use Rattle.mx_base.specs.Path.{is_path}
use Rattle.build_manifest.proofs.Lines.{line_tells, name_has_no_break, path_has_no_break}

-- ---- digests

same_Ok : (a b : List ℕ) → ◌≡◌ {A = Result (List ℕ) FromHexError} (Ok a) (Ok b) → a ≡ b
same_Ok a b e = cc

pub digest_tells : TellsItsEnd encode_lower IsDigest
digest_tells a b x y fa fb e =
    let long : length (encode_lower a) ≡ length (encode_lower b) =
    omega (arith, length-encode_with lower_digits a, length-encode_with lower_digits b, fa.long, fb.long) in
    let same = same_front (encode_lower a) (encode_lower b) x y long e in
    same_Ok a b (sym (decode_of-encode_lower a fa.fits) ∙ ap decode_of same ∙ decode_of-encode_lower b fb.fits)

-- ---- rows

space_ends : IsNoDigit 32
space_ends = record { holds = inl (omega arith) }

break_ends : IsNoDigit 10
break_ends = record { holds = inl (omega arith) }

limit_is_small : limit ≤ 2 ^ 64
limit_is_small = omega arith

abbrev Path : List ℕ → Type 0
Path text = IsTrue (is_path text)

abbrev after_digest : {A : Type 0} → (A → List ℕ) → A → List ℕ
after_digest text = after_text (32 ∷ []) text

abbrev pub length_and_path : ℕ × List ℕ → List ℕ
length_and_path = pair_text (number_text 32) (λ _. ended)

abbrev pub LengthAndPath : ℕ × List ℕ → Type 0
LengthAndPath = PairFits (IsBelow limit) (λ _. Path)

length_and_path_tells : TellsItsEnd length_and_path LengthAndPath
length_and_path_tells =
    pair_tells (number_text 32) (IsBelow limit) (λ _. ended) (λ _. Path) (number_tells 32 limit space_ends limit_is_small)
    (λ _ _. line_tells Path path_has_no_break)

row_spelled : (d p : List ℕ) (n : ℕ)
    → d ++ ((32 ∷ []) ++ ((decimal n ++ 32 ∷ []) ++ (p ++ 10 ∷ []))) ≡ d ++ 32 ∷ decimal n ++ 32 ∷ p ++ 10 ∷ []
row_spelled d p n = simp append_assoc

same_row : (r s : FileRow) → ◌≡◌ {A = List ℕ × (ℕ × List ℕ)} (r.digest, (r.length, r.path)) (s.digest, (s.length, s.path)) → r ≡ s
same_row r s e = ap (λ (t : List ℕ × (ℕ × List ℕ)). record { path = t.1.1; length = t.1.0; digest = t.0 }) e

pub row_tells : TellsItsEnd row_text IsMarkRow
row_tells =
    tells_otherwise (pair_text encode_lower (λ _. after_digest length_and_path)) (PairFits IsDigest (λ _. LengthAndPath)) row_text IsMarkRow
    (λ row. (row.digest, (row.length, row.path)))
    (λ row is. ((is.digest, (is.length, is.path)), row_spelled (encode_lower row.digest) row.path row.length))
    (λ r s _ _ e. same_row r s e)
    (pair_tells encode_lower IsDigest (λ _. after_digest length_and_path) (λ _. LengthAndPath) digest_tells
    (λ _ _. after_tells (32 ∷ []) length_and_path LengthAndPath length_and_path_tells))

-- ---- lines

abbrev LedRow : Bool → Line → Type 0
LedRow leads line = LeadFits leads line.0 × IsMarkRow line.1

abbrev led_text : List ℕ × FileRow → List ℕ
led_text = pair_text encode_lower (λ _. after_digest row_text)

led_tells : TellsItsEnd led_text (PairFits IsDigest (λ _. IsMarkRow))
led_tells =
    pair_tells encode_lower IsDigest (λ _. after_digest row_text) (λ _. IsMarkRow) digest_tells (λ _ _. after_tells (32 ∷ []) row_text IsMarkRow row_tells)

led_spelled : (d r x : List ℕ) → (d ++ 32 ∷ r) ++ x ≡ (d ++ ((32 ∷ []) ++ r)) ++ x
led_spelled d r x = refl

led_row_tells : (leads : Bool) → TellsItsEnd line_text (LedRow leads)
led_row_tells false (None, r) (None, s) x y fa fb e = ap (λ row. (None, row)) (row_tells r s x y fa.1 fb.1 e)
led_row_tells false (None, r) (Some d, s) x y fa fb e = absurd fb.0
led_row_tells false (Some d, r) (b, s) x y fa fb e = absurd fa.0
led_row_tells true (None, r) (b, s) x y fa fb e = absurd fa.0
led_row_tells true (Some c, r) (None, s) x y fa fb e = absurd fb.0
led_row_tells true (Some c, r) (Some d, s) x y fa fb e =
    ap (λ (p : List ℕ × FileRow). (Some p.0, p.1)) (led_tells (c, r) (d, s) x y fa fb e)

pub line_text_tells : (leads : Bool) (before : List Line) → TellsItsEnd line_text (LineFits leads before)
line_text_tells leads before = tells_narrower line_text (LedRow leads) (LineFits leads before) (λ line fits. (fits.lead, fits.row)) (led_row_tells leads)

-- ---- needs

abbrev IsNeed : Need → Type 0
IsNeed = PairFits IsDigest (λ _. IsAppName)

need_parts : (n : Need) → pair_text encode_lower (λ _. after_digest ended) n ≡ need_text n
need_parts n = simp append_assoc

pub need_tells : (before : List Need) → TellsItsEnd need_text (NeedFits before)
need_tells before =
    tells_otherwise (pair_text encode_lower (λ _. after_digest ended)) IsNeed need_text (NeedFits before) (λ n. n)
    (λ n fits. ((fits.digest, fits.app), need_parts n)) (λ m n _ _ e. e)
    (pair_tells encode_lower IsDigest (λ _. after_digest ended) (λ _. IsAppName) digest_tells
    (λ _ _. after_tells (32 ∷ []) ended IsAppName (line_tells IsAppName name_has_no_break)))

-- ---- so many bytes, so many lines

abbrev pub counted_bytes : ℕ × List ℕ → List ℕ
counted_bytes = pair_text (number_text 10) (λ _. ended)

abbrev pub CountedBytes : ℕ × List ℕ → Type 0
CountedBytes = PairFits (IsBelow limit) AreSoMany

ended_bytes_tell : (n : ℕ) → TellsItsEnd ended (AreSoMany n)
ended_bytes_tell n a b x y fa fb e =
    same_front a b (10 ∷ x) (10 ∷ y) (fa ∙ sym fb) (sym (append_assoc a (10 ∷ []) x) ∙ e ∙ append_assoc b (10 ∷ []) y)

pub counted_bytes_tell : TellsItsEnd counted_bytes CountedBytes
counted_bytes_tell =
    pair_tells (number_text 10) (IsBelow limit) (λ _. ended) AreSoMany (number_tells 10 limit break_ends limit_is_small) (λ n _. ended_bytes_tell n)

pub block_parts : (word bytes : List ℕ) → after_text word counted_bytes (length bytes, bytes) ≡ block_text word bytes
block_parts word bytes = sym (append_assoc word (decimal (length bytes) ++ 10 ∷ []) (bytes ++ 10 ∷ []))

pub block_tells : (word : List ℕ) → TellsItsEnd (block_text word) Block
block_tells word =
    tells_otherwise (after_text word counted_bytes) CountedBytes (block_text word) Block (λ bytes. (length bytes, bytes))
    (λ bytes fits. ((fits, refl), block_parts word bytes)) (λ a b _ _ e. ap (λ (p : ℕ × List ℕ). p.1) e)
    (after_tells word counted_bytes CountedBytes counted_bytes_tell)

abbrev pub counted_lines : {A : Type 0} → (A → List ℕ) → ℕ × List A → List ℕ
counted_lines text = pair_text (number_text 10) (λ _. flat_map text)

abbrev pub CountedLines : {A : Type 0} → (List A → A → Type 0) → ℕ × List A → Type 0
CountedLines Fits = PairFits (IsBelow limit) (λ n. ListFits Fits n [])

pub lines_parts : {A : Type 0} (word : List ℕ) (text : A → List ℕ) (lines : List A)
    → after_text word (counted_lines text) (length lines, lines) ≡ lines_text word text lines
lines_parts word text lines = sym (append_assoc word (decimal (length lines) ++ 10 ∷ []) (flat_map text lines))

pub lines_tell : {A : Type 0} (word : List ℕ) (text : A → List ℕ) (Fits : List A → A → Type 0) → ((before : List A) → TellsItsEnd text (Fits before))
    → TellsItsEnd (lines_text word text) (LinesFit Fits)
lines_tell {A} word text Fits tells =
    tells_otherwise (after_text word (counted_lines text)) (CountedLines Fits) (lines_text word text) (LinesFit Fits) (λ lines. (length lines, lines))
    (λ lines fits. ((fits.0, (refl, fits.1)), lines_parts word text lines)) (λ a b _ _ e. ap (λ (p : ℕ × List A). p.1) e)
    (after_tells word (counted_lines text) (CountedLines Fits)
    (pair_tells (number_text 10) (IsBelow limit) (λ _. flat_map text) (λ n. ListFits Fits n []) (number_tells 10 limit break_ends limit_is_small)
    (λ n _. list_tells text Fits tells n [])))
