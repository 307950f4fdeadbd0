-- Where the reader of so many lines stops.
use Rattle.std.proofs.Common.{◌≡◌, ℕ, ◌<◌, List, [], ◌++◌, length, refl, sym, ap, ◌∙◌, arith, inl, append_assoc}
use Rattle.std.specs.Prelude.{flat_map}
use Rattle.reading.specs.Field.{ListFits, Stops, TellsItsEnd}
use Rattle.reading.specs.Plain.{Always, IsBelow, IsNoDigit, after_text, literal_text, number_text}
use Rattle.reading.proofs.Fields.{first_stops, second_stops, told_otherwise}
use Rattle.reading.proofs.Literals.{literal_first_stops, literal_second_stops}
use Rattle.reading.proofs.Numbers.{number_tells}
use Rattle.reading.proofs.Repeats.{GoesOn}
use Rattle.build_manifest.specs.Fields.{LinesFit}
use Rattle.build_manifest.specs.Mark.{limit}
use Rattle.build_manifest.specs.Text.{lines_text}
use Rattle.build_manifest.proofs.Parts.{CountedLines, counted_lines, lines_parts}

break_ends : IsNoDigit 10
break_ends = record { holds = inl (omega arith) }

count_tells : TellsItsEnd (number_text 10) (IsBelow limit)
count_tells = number_tells 10 limit break_ends (omega arith)

told_parts : {A : Type 0} (word : List ℕ) (text : A → List ℕ) (Fits : List A → A → Type 0) (p : ℕ × List A) → CountedLines Fits p
    → LinesFit Fits p.1 × (lines_text word text p.1 ≡ after_text word (counted_lines text) p)
told_parts word text Fits p fits = (
  (omega (arith, fits.0, fits.1.0), fits.1.1),
  sym (lines_parts word text p.1) ∙ ap (λ n. after_text word (counted_lines text) (n, p.1)) fits.1.0,
)

lines_told : {A : Type 0} (word : List ℕ) (text : A → List ℕ) (Fits : List A → A → Type 0) (from : List ℕ) (left : ℕ)
    → Stops (after_text word (counted_lines text)) (CountedLines Fits) from left → Stops (lines_text word text) (LinesFit Fits) from left
lines_told {A} word text Fits from left s =
    told_otherwise (after_text word (counted_lines text)) (CountedLines Fits) (lines_text word text) (LinesFit Fits) (λ (p : ℕ × List A). p.1)
    (λ lines. (length lines, lines)) (told_parts word text Fits) (λ lines fits. ((fits.0, (refl, fits.1)), lines_parts word text lines)) from left s

pub word_stops : {A : Type 0} (word : List ℕ) (text : A → List ℕ) (Fits : List A → A → Type 0) (from : List ℕ) (left : ℕ)
    → Stops (literal_text word) Always from left → Stops (lines_text word text) (LinesFit Fits) from left
word_stops word text Fits from left s =
    lines_told word text Fits from left
    (literal_first_stops word (counted_lines text) (CountedLines Fits) (0, []) (omega arith, (refl, tt)) from left s)

-- however many lines there are to be, there are some
abbrev pub AnyGoOn : {A : Type 0} → (List A → A → Type 0) → Type 0
AnyGoOn Fits = (total : ℕ) → total < limit → GoesOn Fits total

pub count_stops : {A : Type 0} (word : List ℕ) (text : A → List ℕ) (Fits : List A → A → Type 0) → AnyGoOn Fits → (from rest : List ℕ) (left : ℕ)
    → from ≡ word ++ rest → Stops (number_text 10) (IsBelow limit) rest left → Stops (lines_text word text) (LinesFit Fits) from left
count_stops word text Fits some from rest left cut s =
    lines_told word text Fits from left (literal_second_stops word (counted_lines text) (CountedLines Fits) from rest left cut
    (first_stops (number_text 10) (IsBelow limit) (λ _. flat_map text) (λ n. ListFits Fits n []) count_tells
    (λ n small. some n small [] n (omega arith) tt) rest left s))

pub listed_stops : {A : Type 0} (word : List ℕ) (text : A → List ℕ) (Fits : List A → A → Type 0) (from rest after : List ℕ) (n left : ℕ)
    → from ≡ word ++ rest → n < limit → rest ≡ number_text 10 n ++ after → Stops (flat_map text) (ListFits Fits n []) after left
    → Stops (lines_text word text) (LinesFit Fits) from left
listed_stops word text Fits from rest after n left cut small next s =
    lines_told word text Fits from left (literal_second_stops word (counted_lines text) (CountedLines Fits) from rest left cut
    (second_stops (number_text 10) (IsBelow limit) (λ _. flat_map text) (λ n. ListFits Fits n []) count_tells n small rest after left next s))

pub lines_read : {A : Type 0} (word : List ℕ) (text : A → List ℕ) (Fits : List A → A → Type 0) (lines : List A) (from rest after more : List ℕ) (n : ℕ)
    → from ≡ word ++ rest → n < limit → rest ≡ number_text 10 n ++ after → ListFits Fits n [] lines → after ≡ flat_map text lines ++ more
    → LinesFit Fits lines × (from ≡ lines_text word text lines ++ more)
lines_read word text Fits lines from rest after more n cut small next fits end = (
  (omega (arith, fits.0), fits.1),
  cut ∙ ap (λ t. word ++ t) (next ∙ ap (λ k. number_text 10 k ++ after) (sym fits.0) ∙ ap (λ t. number_text 10 (length lines) ++ t) end)
      ∙ grouped word (number_text 10 (length lines)) (flat_map text lines) more,
)
  where
    grouped : (w d b m : List ℕ) → w ++ (d ++ (b ++ m)) ≡ (w ++ d ++ b) ++ m
    grouped w d b m = simp append_assoc
