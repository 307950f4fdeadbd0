-- A text is cut into its lines.
use Rattle.std.proofs.Common.{◌≡◌, ◌≢◌, ℕ, ◌+◌, ◌-◌, ◌<◌, ◌≤◌, ◌==◌, Bool, true, false, cond, List, [], ◌∷◌, ◌++◌, length, map, take, drop, get_or, refl, sym, ◌∙◌, ap, arith, append_assoc, eq-eqb, ne_eqb, Bor}
use Rattle.std.specs.List.{slice_range}
use Rattle.std.proofs.Math.Seq.{take-length, drop-length}
use Rattle.std.proofs.lemmas.List.{append-nil, drop_more, get_or-drop, length-drop, map-append, take_more}
use Rattle.build_manifest.specs.Diagnostics.{lines_of, onto_line}

-- bytes in front of the first line
abbrev pub glue : List ℕ → List (List ℕ) → List (List ℕ)
glue [] lines = lines
glue (b ∷ bs) lines = onto_line b (glue bs lines)

glue_byte : (front : List ℕ) (byte : ℕ) (lines : List (List ℕ)) → glue front (onto_line byte lines) ≡ glue (front ++ byte ∷ []) lines
glue_byte [] byte lines = refl
glue_byte (b ∷ bs) byte lines = ap (onto_line b) (glue_byte bs byte lines)

glue_line : (front line : List ℕ) (lines : List (List ℕ)) → glue front (line ∷ lines) ≡ (front ++ line) ∷ lines
glue_line [] line lines = refl
glue_line (b ∷ bs) line lines = ap (onto_line b) (glue_line bs line lines)

glue_end : (byte : ℕ) (front : List ℕ) → glue (byte ∷ front) [] ≡ (byte ∷ front) ∷ []
glue_end byte [] = refl
glue_end byte (b ∷ bs) = ap (onto_line byte) (glue_end b bs)

lines_from : (byte : ℕ) (bytes : List ℕ) (is : Bool) → (byte == 10) ≡ is
    → lines_of (byte ∷ bytes) ≡ cond is ((byte ∷ []) ∷ lines_of bytes) (onto_line byte (lines_of bytes))
lines_from byte bytes is e = ap (λ (b : Bool). cond b ((byte ∷ []) ∷ lines_of bytes) (onto_line byte (lines_of bytes))) e

module _ (text : List ℕ) (start at : ℕ) (low : start ≤ at) (below : at < length text) where
  rest_is : drop at text ≡ get_or text at 0 ∷ drop (at + 1) text
  rest_is = drop_more text at 0 below

  longer : slice_range text start (at + 1) ≡ slice_range text start at ++ get_or text at 0 ∷ []
  longer =
      let inside : at - start < length (drop start text) = omega (arith, length-drop start text, low, below) in
      let size : at + 1 - start ≡ at - start + 1 = omega (arith, low) in
      let place : start + (at - start) ≡ at = omega (arith, low) in
      ap (λ (n : ℕ). take n (drop start text)) size
      ∙ take_more (drop start text) (at - start) 0 inside
      ∙ ap (λ (b : ℕ). slice_range text start at ++ b ∷ []) (get_or-drop start text (at - start) 0 ∙ ap (λ (n : ℕ). get_or text n 0) place)

  pub other_byte : (made all : List (List ℕ)) → get_or text at 0 ≢ 10 → made ++ glue (slice_range text start at) (lines_of (drop at text)) ≡ all
      → made ++ glue (slice_range text start (at + 1)) (lines_of (drop (at + 1) text)) ≡ all
  other_byte made all other e =
      let byte = get_or text at 0 in
      let front = slice_range text start at in
      let after = lines_of (drop (at + 1) text) in
      ap (λ (bytes : List ℕ). made ++ glue bytes after) longer
      ∙ ap (λ (ls : List (List ℕ)). made ++ ls) (sym (glue_byte front byte after))
      ∙ ap (λ (ls : List (List ℕ)). made ++ glue front ls) (sym (ap lines_of rest_is ∙ lines_from byte (drop (at + 1) text) false (ne_eqb byte 10 other)))
      ∙ e

  pub newline : (made all : List (List ℕ)) → get_or text at 0 ≡ 10 → made ++ glue (slice_range text start at) (lines_of (drop at text)) ≡ all
      → (made ++ slice_range text start (at + 1) ∷ []) ++ glue (slice_range text (at + 1) (at + 1)) (lines_of (drop (at + 1) text)) ≡ all
  newline made all ends e =
      let byte = get_or text at 0 in
      let front = slice_range text start at in
      let after = lines_of (drop (at + 1) text) in
      let none : at + 1 - (at + 1) ≡ 0 = omega arith in
      ap (λ (n : ℕ). (made ++ slice_range text start (at + 1) ∷ []) ++ glue (take n (drop (at + 1) text)) after) none
      ∙ append_assoc made (slice_range text start (at + 1) ∷ []) after
      ∙ ap (λ (line : List ℕ). made ++ line ∷ after) longer
      ∙ ap (λ (ls : List (List ℕ)). made ++ ls) (sym (glue_line front (byte ∷ []) after))
      ∙ ap (λ (ls : List (List ℕ)). made ++ glue front ls) (sym (ap lines_of rest_is ∙ lines_from byte (drop (at + 1) text) true (eq-eqb byte 10 ends)))
      ∙ e

-- one line more, as they are seen
pub line_pushed : (lines new : List (Bor (List ℕ))) (line : Bor (List ℕ)) (bytes : List ℕ) → new ≡ lines ++ line ∷ [] → line.now ≡ bytes
    → map (λ (l : Bor (List ℕ)). l.now) new ≡ map (λ (l : Bor (List ℕ)). l.now) lines ++ bytes ∷ []
line_pushed lines new line bytes is now =
    ap (map (λ (l : Bor (List ℕ)). l.now)) is ∙ map-append (λ (l : Bor (List ℕ)). l.now) lines (line ∷ [])
    ∙ ap (λ (b : List ℕ). map (λ (l : Bor (List ℕ)). l.now) lines ++ b ∷ []) now

whole : (text : List ℕ) (start : ℕ) → slice_range text start (length text) ≡ drop start text
whole text start = ap (λ (n : ℕ). take n (drop start text)) (sym (length-drop start text)) ∙ take-length (drop start text)

nothing_left : (text : List ℕ) → lines_of (drop (length text) text) ≡ []
nothing_left text = ap lines_of (drop-length text)

-- what is left behind the last newline is the last line
pub last_line : (text : List ℕ) (start : ℕ) (made : List (List ℕ)) → start < length text
    → made ++ glue (slice_range text start (length text)) (lines_of (drop (length text) text)) ≡ made ++ slice_range text start (length text) ∷ []
last_line text start made below =
    let first = get_or text start 0 in
    let rest = drop_more text start 0 below in
    ap (λ (ls : List (List ℕ)). made ++ glue (slice_range text start (length text)) ls) (nothing_left text)
    ∙ ap (λ (bytes : List ℕ). made ++ glue bytes []) (whole text start ∙ rest)
    ∙ ap (λ (ls : List (List ℕ)). made ++ ls) (glue_end first (drop (start + 1) text))
    ∙ ap (λ (bytes : List ℕ). made ++ bytes ∷ []) (sym (whole text start ∙ rest))

-- and nothing is left behind a newline that ends the text
pub no_last_line : (text : List ℕ) (start : ℕ) (made : List (List ℕ)) → start ≡ length text
    → made ++ glue (slice_range text start (length text)) (lines_of (drop (length text) text)) ≡ made
no_last_line text start made end =
    ap (λ (ls : List (List ℕ)). made ++ glue (slice_range text start (length text)) ls) (nothing_left text)
    ∙ ap (λ (bytes : List ℕ). made ++ glue bytes []) (whole text start ∙ ap (λ (n : ℕ). drop n text) end ∙ drop-length text)
    ∙ append-nil made
