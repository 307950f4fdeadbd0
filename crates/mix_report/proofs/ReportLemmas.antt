-- The lines of a text, byte by byte.
use Rattle.std.proofs.Common.{◌≡◌, ℕ, Bool, true, false, cond, List, [], ◌∷◌, ◌++◌, flat_map, refl, sym, ◌∙◌, ap, append_assoc}
use Rattle.std.specs.List.{slice_split, onto_first}
use Rattle.std.proofs.lemmas.Bool.{eqb-true}
use Rattle.mix_report.specs.Report.{is_newline, without_last_empty, shown_line, shown_text, shown_after}

abbrev lines_shown : List (List ℕ) → List ℕ
lines_shown parts = flat_map shown_line (without_last_empty parts)

-- the pieces of a text that goes on in a line
abbrev rest_shown : List (List ℕ) → List ℕ
rest_shown [] = 10 ∷ []
rest_shown (first ∷ others) = first ++ 10 ∷ lines_shown others

abbrev Parts : List (List ℕ) → Type 0
Parts [] = ⊥
Parts (part ∷ parts) = Unit {0}

onto_parts : (b : ℕ) (parts : List (List ℕ)) → Parts (onto_first b parts)
onto_parts b [] = tt
onto_parts b (part ∷ parts) = tt

split_parts : (text : List ℕ) → Parts (slice_split is_newline text)
split_parts [] = tt
split_parts (b ∷ bs) = at (is_newline b)
  where
    at : (t : Bool) → Parts (cond t ([] ∷ slice_split is_newline bs) (onto_first b (slice_split is_newline bs)))
    at true = tt
    at false = onto_parts b (slice_split is_newline bs)

empty_line : (parts : List (List ℕ)) → Parts parts → lines_shown ([] ∷ parts) ≡ 32 ∷ 32 ∷ 10 ∷ lines_shown parts
empty_line [] none = absurd none
empty_line (part ∷ parts) some = refl

begun_line : (b : ℕ) (parts : List (List ℕ)) → Parts parts → lines_shown (onto_first b parts) ≡ 32 ∷ 32 ∷ b ∷ rest_shown parts
begun_line b [] none = absurd none
begun_line b (p ∷ []) some = append_assoc (32 ∷ 32 ∷ b ∷ p) (10 ∷ []) []
begun_line b (p ∷ q ∷ qs) some = append_assoc (32 ∷ 32 ∷ b ∷ p) (10 ∷ []) (lines_shown (q ∷ qs))

longer_rest : (b : ℕ) (parts : List (List ℕ)) → Parts parts → rest_shown (onto_first b parts) ≡ b ∷ rest_shown parts
longer_rest b [] none = absurd none
longer_rest b (p ∷ ps) some = refl

abbrev Both : List ℕ → Type 0
Both text = (shown_after true text ≡ lines_shown (slice_split is_newline text)) × (shown_after false text ≡ rest_shown (slice_split is_newline text))

both_at : (b : ℕ) (bs : List ℕ) (t : Bool) → is_newline b ≡ t → Both bs → (32 ∷ 32 ∷ b ∷ shown_after t bs ≡ lines_shown (cond t ([] ∷ slice_split is_newline bs) (onto_first b (slice_split is_newline bs)))) × (b ∷ shown_after t bs ≡ rest_shown (cond t ([] ∷ slice_split is_newline bs) (onto_first b (slice_split is_newline bs))))
both_at b bs true is rest =
    let ten : b ≡ 10 = eqb-true b 10 is in (
      ap (λ (x : ℕ). 32 ∷ 32 ∷ x ∷ shown_after true bs) ten ∙ ap (λ (xs : List ℕ). 32 ∷ 32 ∷ 10 ∷ xs) rest.0 ∙ sym (empty_line (slice_split is_newline bs) (split_parts bs)),
      ap (λ (x : ℕ). x ∷ shown_after true bs) ten ∙ ap (λ (xs : List ℕ). 10 ∷ xs) rest.0,
    )
both_at b bs false is rest = (
  ap (λ (xs : List ℕ). 32 ∷ 32 ∷ b ∷ xs) rest.1 ∙ sym (begun_line b (slice_split is_newline bs) (split_parts bs)),
  ap (λ (xs : List ℕ). b ∷ xs) rest.1 ∙ sym (longer_rest b (slice_split is_newline bs) (split_parts bs)),
)

both_shown : (text : List ℕ) → Both text
both_shown [] = (refl, refl)
both_shown (b ∷ bs) = both_at b bs (is_newline b) refl (both_shown bs)

-- the lines of a text are shown byte by byte
pub shown_lines : (text : List ℕ) → shown_after true text ≡ shown_text text
shown_lines text = (both_shown text).0

-- four pieces, one after another
pub four_pieces : (old a b c d m1 m2 m3 m4 : List ℕ) → m1 ≡ old ++ a → m2 ≡ m1 ++ b → m3 ≡ m2 ++ c → m4 ≡ m3 ++ d → m4 ≡ old ++ (a ++ b ++ c ++ d)
four_pieces old a b c d m1 m2 m3 m4 e1 e2 e3 e4 =
    e4 ∙ ap (λ (m : List ℕ). m ++ d) (e3 ∙ ap (λ (m : List ℕ). m ++ c) (e2 ∙ ap (λ (m : List ℕ). m ++ b) e1))
    ∙ ap (λ (m : List ℕ). m ++ c ++ d) (append_assoc old a b) ∙ ap (λ (m : List ℕ). m ++ d) (append_assoc old (a ++ b) c) ∙ append_assoc old (a ++ b ++ c) d

pub three_pieces : (old a b c m1 m2 m3 : List ℕ) → m1 ≡ old ++ a → m2 ≡ m1 ++ b → m3 ≡ m2 ++ c → m3 ≡ old ++ (a ++ b ++ c)
three_pieces old a b c m1 m2 m3 e1 e2 e3 =
    e3 ∙ ap (λ (m : List ℕ). m ++ c) (e2 ∙ ap (λ (m : List ℕ). m ++ b) e1 ∙ append_assoc old a b) ∙ append_assoc old (a ++ b) c
