-- The values of exports, and the lines of a face.
use Rattle.std.proofs.Common.{◌≡◌, ℕ, ◌+◌, ◌-◌, ◌<◌, ◌==◌, drop, get_or, arith, ne_eqb, ◌∷◌, [], ◌++◌, List, map, length, Bool, true, false, cond, Option, Some, None, option_map, ℤ, bytes_eq, refl, sym, ap, ◌∙◌, append_assoc}
use Rattle.std.specs.Borrow.{Bor}
use Rattle.std.specs.Option.{option_or}
use Rattle.std.specs.Ordering.{is_lt}
use Rattle.std.proofs.lemmas.List.{drop_more, append-nil, map-append}
use Rattle.std.proofs.lemmas.List.{length-map, length-drop}
use Rattle.mx_base.specs.Order.{text_cmp}
use Rattle.unit_compile.specs.Faces.{Export, export_in, exports_after, exports_in, onto, value_of}
use Rattle.unit_compile.specs.Views.{export_of, exports_of}

-- a value that is known already yields to one that comes later
pub value_more : (exports : List Export) (name other : List ℕ) (z : ℤ) (o : Option ℤ)
    → option_or (value_of exports other) (cond (bytes_eq name other) (Some z) o) ≡ option_or (value_of ((name, z) ∷ exports) other) o
value_more exports name other z o = at (value_of exports other) (bytes_eq name other)
  where
    at : (v : Option ℤ) (b : Bool) → option_or v (cond b (Some z) o) ≡ option_or (option_or v (cond b (Some z) None)) o
    at (Some x) b = refl
    at None true = refl
    at None false = refl

-- what is read of a face, after which name, and the lines that are left
pub record IsReadUpTo (exports : List (Bor (List ℕ) × ℤ)) (before : List ℕ) (lines : List (List ℕ)) (text : List ℕ) : Type 0 where
  pub rest : option_map (λ more. exports_of exports ++ more) (exports_after before lines) ≡ exports_in text

pub last_line : (exports : List (Bor (List ℕ) × ℤ)) (before line : List ℕ) (lines : List (List ℕ)) (text : List ℕ) → (length lines == 0) ≡ true → IsReadUpTo exports before (line ∷ lines) text
    → exports_in text ≡ cond (length line == 0) (Some (exports_of exports)) None
last_line exports before line lines text last read = sym read.rest
    ∙ ap (λ (b : Bool). option_map (λ more. exports_of exports ++ more) (cond b (cond (length line == 0) (Some []) None) (onto before (export_in line) (λ name. exports_after name lines)))) last
    ∙ at (length line == 0)
  where
    at : (b : Bool) → option_map (λ more. exports_of exports ++ more) (cond b (Some []) None) ≡ cond b (Some (exports_of exports)) None
    at true = ap Some (append-nil (exports_of exports))
    at false = refl

-- a line that isn't the last
further : (exports : List (Bor (List ℕ) × ℤ)) (before line : List ℕ) (lines : List (List ℕ)) (text : List ℕ) → (length lines == 0) ≡ false → IsReadUpTo exports before (line ∷ lines) text
    → option_map (λ more. exports_of exports ++ more) (onto before (export_in line) (λ name. exports_after name lines)) ≡ exports_in text
further exports before line lines text more read =
    sym (ap (λ (b : Bool). option_map (λ more. exports_of exports ++ more) (cond b (cond (length line == 0) (Some []) None) (onto before (export_in line) (λ name. exports_after name lines)))) more) ∙ read.rest

pub no_export : (exports : List (Bor (List ℕ) × ℤ)) (before line : List ℕ) (lines : List (List ℕ)) (text : List ℕ) → (length lines == 0) ≡ false → IsReadUpTo exports before (line ∷ lines) text
    → export_in line ≡ None → exports_in text ≡ None
no_export exports before line lines text more read none =
    sym (further exports before line lines text more read) ∙ ap (λ (e : Option Export). option_map (λ rest. exports_of exports ++ rest) (onto before e (λ name. exports_after name lines))) none

pub no_order : (exports : List (Bor (List ℕ) × ℤ)) (before line : List ℕ) (lines : List (List ℕ)) (text : List ℕ) (export : Export) → (length lines == 0) ≡ false → IsReadUpTo exports before (line ∷ lines) text
    → export_in line ≡ Some export → is_lt (text_cmp before export.0) ≡ false → exports_in text ≡ None
no_order exports before line lines text export more read is order =
    sym (further exports before line lines text more read)
    ∙ ap (λ (e : Option Export). option_map (λ rest. exports_of exports ++ rest) (onto before e (λ name. exports_after name lines))) is
    ∙ ap (λ (b : Bool). option_map (λ rest. exports_of exports ++ rest) (cond b (option_map (λ rest. export ∷ rest) (exports_after export.0 lines)) None)) order

with_more : (xs : List Export) (x : Export) (o : Option (List Export)) → option_map (λ rest. xs ++ rest) (option_map (λ rest. x ∷ rest) o) ≡ option_map (λ rest. (xs ++ x ∷ []) ++ rest) o
with_more xs x None = refl
with_more xs x (Some rest) = ap Some (sym (append_assoc xs (x ∷ []) rest))

pub next_export : (exports new : List (Bor (List ℕ) × ℤ)) (before line : List ℕ) (lines : List (List ℕ)) (text : List ℕ) (export : Bor (List ℕ) × ℤ) → (length lines == 0) ≡ false → IsReadUpTo exports before (line ∷ lines) text
    → export_in line ≡ Some (export_of export) → is_lt (text_cmp before export.0.now) ≡ true → new ≡ exports ++ export ∷ [] → IsReadUpTo new export.0.now lines text
next_export exports new before line lines text export more read is order grown = record {
  rest =
      ap (λ (es : List Export). option_map (λ rest. es ++ rest) (exports_after export.0.now lines)) (ap exports_of grown ∙ map-append export_of exports (export ∷ []))
      ∙ sym (with_more (exports_of exports) (export_of export) (exports_after export.0.now lines))
      ∙ sym (ap (λ (b : Bool). option_map (λ rest. exports_of exports ++ rest) (cond b (option_map (λ rest. export_of export ∷ rest) (exports_after export.0.now lines)) None)) order)
      ∙ sym (ap (λ (e : Option Export). option_map (λ rest. exports_of exports ++ rest) (onto before e (λ name. exports_after name lines))) is)
      ∙ further exports before line lines text more read;
}

-- the first of the lines that are left
pub first_line : (items : List (Bor (List ℕ))) (place : ℕ) (line : Bor (List ℕ)) → place < length items
    → map (λ l. l.now) (drop place items) ≡ (get_or items place line).now ∷ map (λ l. l.now) (drop (place + 1) items)
first_line items place line less = ap (map (λ l. l.now)) (drop_more items place line less)

pub lines_left : (items : List (Bor (List ℕ))) (place : ℕ) → length (map (λ l. l.now) (drop (place + 1) items)) ≡ length items - (place + 1)
lines_left items place = simp (length-map, length-drop)

-- there are more of them
pub more_lines : (items : List (Bor (List ℕ))) (place left : ℕ) → left + place ≡ length items → (left - 1 ≡ 0 → ⊥) → (length (map (λ l. l.now) (drop (place + 1) items)) == 0) ≡ false
more_lines items place left all more =
    let same : length items - (place + 1) ≡ left - 1 = omega arith in
    ap (λ (n : ℕ). n == 0) (lines_left items place ∙ same) ∙ ne_eqb (left - 1) 0 more
