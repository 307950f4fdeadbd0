-- The bytes and escapes that a string spells.
use Rattle.std.specs.Prelude.{option_map, encode_utf8, nat_lt}
use Rattle.std.proofs.Common.{◌≡◌, ℕ, zero, suc, ◌+◌, ◌≤◌, Bool, true, false, ◌||◌, List, [], ◌∷◌, ◌++◌, Option, Some, None, length, take, drop, cond, eqb, refl, sym, ap, ◌∙◌, arith, subst, append_assoc}
use Rattle.std.proofs.lemmas.Bool.{not-true, not_from_false, and_parts, and_from, or_parts, or_from, and_right, eqb-true, ne_eqb, true≢false, false_from_ne_true, ltb-false, ltb-true}
use Rattle.std.proofs.lemmas.List.{take_at, drop_at, take-append-drop, length-append, length-take-le}
use Rattle.std.proofs.lemmas.Str.{IsUtf8-from_is_utf8, is_utf8-from_IsUtf8}
use Rattle.std.proofs.Math.Seq.{drop-nil}
use Rattle.std.specs.Char.{is_digit}
use Rattle.std.specs.Str.{IsUtf8, is_utf8, all_scalars}
use Rattle.std.specs.Str.Parse.{digits_value}
use Rattle.term_tokens.specs.Strings.{letter_escape, are_hex, Escape, by_letter, by_byte, by_scalar, opens_interpolation, Quoted, end, literal, escape}
use Rattle.term_tokens.specs.Lexed.{Spelt, with_bytes, past_escape, spelt_past, spelt_at}
use Rattle.term_tokens.proofs.OptionLemmas.{none_some, some_same, cond_some, cond_none, map_some}
use Rattle.term_tokens.specs.Lexing.{Found, hex_len, scalar_only, byte_escape_at, scalar_before, scalar_of, scalar_escape_at, escape_at, before, escaped, quoted_past, quoted_at, after_escape, utf8_only}

-- UTF-8

pub utf8_kept : (bytes : List ℕ) → IsUtf8 bytes → utf8_only bytes ≡ Some bytes
utf8_kept bytes h = ap (λ b. cond b (Some bytes) None) (is_utf8-from_IsUtf8 bytes h)

pub utf8_refused : (bytes : List ℕ) → (IsUtf8 bytes → ⊥) → utf8_only bytes ≡ None
utf8_refused bytes h = ap (λ b. cond b (Some bytes) None) (false_from_ne_true (is_utf8 bytes) (λ e. h (IsUtf8-from_is_utf8 bytes e)))

pub utf8_cases : (bytes name : List ℕ) (test : Bool) → is_utf8 bytes ≡ test → cond test (Some bytes) None ≡ Some name → IsUtf8 bytes × (bytes ≡ name)
utf8_cases bytes name true t e = (IsUtf8-from_is_utf8 bytes t, cc)
utf8_cases bytes name false t e = absurd (cc)

pub utf8_found : (bytes name : List ℕ) → utf8_only bytes ≡ Some name → IsUtf8 bytes × (bytes ≡ name)
utf8_found bytes name e = utf8_cases bytes name (is_utf8 bytes) refl e

-- bytes that are read already

pub quoted_drop : (text : List ℕ) (n : ℕ) → quoted_past text n ≡ quoted_past (drop n text) 0
quoted_drop [] n = ap (λ l. quoted_past l 0) (sym (drop-nil n))
quoted_drop (byte ∷ text) zero = refl
quoted_drop (byte ∷ text) (suc n) = quoted_drop text n

-- from the relation to the function

pub hex_complete : (digits : List ℕ) (text : List ℕ) → are_hex digits ≡ true → hex_len (digits ++ 125 ∷ text) ≡ length digits
hex_complete [] text h = refl
hex_complete (digit ∷ digits) text h =
    let parts = and_parts (is_digit digit 16) (are_hex digits) h in
    ap (λ d. cond d (suc (hex_len (digits ++ 125 ∷ text))) 0) parts.0 ∙ ap suc (hex_complete digits text parts.1)

pub len_allowed : (n : ℕ) → 1 ≤ n → n ≤ 6 → (eqb n 0 || nat_lt 6 n) ≡ false
len_allowed n l h = or_from (eqb n 0) (nat_lt 6 n) (ne_eqb n 0 (λ e. omega (arith, e))) (false_from_ne_true (nat_lt 6 n) (λ e. omega (arith, ltb-true 6 n e)))

pub scalar_complete : (digits more : List ℕ) → are_hex digits ≡ true → 1 ≤ length digits → length digits ≤ 6 → all_scalars (digits_value 16 digits ∷ []) ≡ true → scalar_of (hex_len (digits ++ 125 ∷ more)) (digits ++ 125 ∷ more) ≡ Some (encode_utf8 (digits_value 16 digits), length digits + 3)
scalar_complete digits more hex l h s =
    let text = digits ++ 125 ∷ more in
    let n = length digits in
    ap (λ k. scalar_of k text) (hex_complete digits more hex)
    ∙ ap (λ b. cond b None (scalar_before (digits_value 16 (take n text)) n (drop n text))) (len_allowed n l h)
    ∙ ap (λ t. scalar_before (digits_value 16 t) n (drop n text)) (take_at digits (125 ∷ more) n refl)
    ∙ ap (λ t. scalar_before (digits_value 16 digits) n t) (drop_at digits (125 ∷ more) n refl)
    ∙ ap (λ b. option_map (λ scalar. (encode_utf8 scalar, n + 3)) (cond b (Some (digits_value 16 digits)) None)) s

pub letter_not : (letter other byte : ℕ) → letter_escape other ≡ None → letter_escape letter ≡ Some byte → eqb letter other ≡ false
letter_not letter other byte n e = ne_eqb letter other (λ same. let k = subst (λ l. letter_escape l ≡ Some byte) same e in cc)

pub escape_complete : {word value : List ℕ} → Escape word value → (more : List ℕ) → escape_at (word ++ more) ≡ Some (value, length word)
escape_complete (by_letter {letter = letter} {byte = byte} e) more =
    rw (letter_not letter 120 byte refl e, letter_not letter 117 byte refl e, e) refl
escape_complete (by_byte high low h) more = ap (λ b. cond b (Some (digits_value 16 (high ∷ low ∷ []) ∷ [], 3)) None) h
escape_complete (by_scalar digits hex l h s) more =
    let e : (digits ++ 125 ∷ []) ++ more ≡ digits ++ 125 ∷ more = append_assoc digits (125 ∷ []) more in
    let k : length digits + 3 ≡ suc (suc (length (digits ++ 125 ∷ []))) = omega (arith, length-append digits (125 ∷ [])) in
    ap (λ t. scalar_of (hex_len t) t) e ∙ scalar_complete digits more hex l h (and_from _ true s refl) ∙ ap (λ n. Some (encode_utf8 (digits_value 16 digits), n)) k

pub opens_same : (byte : ℕ) (inside rest : List ℕ) → opens_interpolation byte (inside ++ 34 ∷ rest) ≡ opens_interpolation byte inside
opens_same byte [] rest = and_right (eqb byte 35) false refl
opens_same byte (next ∷ inside) rest = refl

pub literal_step : (byte : ℕ) (text : List ℕ) → eqb byte 34 ≡ false → eqb byte 92 ≡ false → opens_interpolation byte text ≡ false → quoted_at (byte ∷ text) ≡ before (byte ∷ []) (quoted_at text)
literal_step byte text a b c = rw (a, b, c) refl

-- what stands between the quotes, the function reads
pub quoted_complete : {inside bytes : List ℕ} → Quoted inside bytes → (rest : List ℕ) → quoted_at (inside ++ 34 ∷ rest) ≡ Some (bytes, rest)
quoted_complete end rest = refl
quoted_complete (literal {byte = byte} {text = text} {bytes = bytes} h q) rest =
    let p = or_parts (eqb byte 34 || eqb byte 92) (opens_interpolation byte text) (not-true _ h) in
    let r = or_parts (eqb byte 34) (eqb byte 92) p.0 in
    literal_step byte (text ++ 34 ∷ rest) r.0 r.1 (opens_same byte text rest ∙ p.1) ∙ ap (before (byte ∷ [])) (quoted_complete q rest)
quoted_complete (escape word value {text = text} {bytes = bytes} e q) rest =
    let more = text ++ 34 ∷ rest in
    ap (λ t. escaped (escape_at t) (quoted_past t)) (append_assoc word text (34 ∷ rest))
    ∙ ap (λ o. escaped o (quoted_past (word ++ more))) (escape_complete e more)
    ∙ ap (before value) (quoted_drop (word ++ more) (length word) ∙ ap (λ t. quoted_past t 0) (drop_at word more (length word) refl) ∙ quoted_complete q rest)

-- from the function to the relation

abbrev pub IsQuoted : List ℕ → List ℕ → List ℕ → Type 0
IsQuoted text bytes rest = (inside : List ℕ) × Quoted inside bytes × (text ≡ inside ++ 34 ∷ rest)

abbrev pub IsEscape : List ℕ → List ℕ → ℕ → Type 0
IsEscape text value n = (word : List ℕ) × Escape word value × (text ≡ word ++ drop n text)

pub hex_sound : (text : List ℕ) → (are_hex (take (hex_len text) text) ≡ true) × (hex_len text ≤ length text)
hex_sound [] = (refl, omega arith)
hex_sound (byte ∷ text) = by (is_digit byte 16) refl (hex_sound text)
  where
    by : (test : Bool) → is_digit byte 16 ≡ test → (are_hex (take (hex_len text) text) ≡ true) × (hex_len text ≤ length text) → (are_hex (take (cond test (suc (hex_len text)) 0) (byte ∷ text)) ≡ true) × (cond test (suc (hex_len text)) 0 ≤ length (byte ∷ text))
    by true t ih = (and_from (is_digit byte 16) (are_hex (take (hex_len text) text)) t ih.0, omega (arith, ih.1))
    by false t ih = (refl, omega arith)

-- the number of digits is in range
pub len_range : (n : ℕ) → (eqb n 0 || nat_lt 6 n) ≡ false → (1 ≤ n) × (n ≤ 6)
len_range zero h = absurd (true≢false h)
len_range (suc n) h = (omega arith, omega (arith, ltb-false 6 (suc n) (or_parts (eqb (suc n) 0) (nat_lt 6 (suc n)) h).1))

pub scalar_before_found : (value len : ℕ) (tail : List ℕ) (found : List ℕ × ℕ) → scalar_before value len tail ≡ Some found → (more : List ℕ) × (tail ≡ 125 ∷ more) × (all_scalars (value ∷ []) ≡ true) × ((encode_utf8 value, len + 3) ≡ found)
scalar_before_found value len [] found e = absurd (none_some e)
scalar_before_found value len (brace ∷ more) found e =
    let a = cond_some (eqb brace 125) _ found e in
    let m = map_some (λ scalar. (encode_utf8 scalar, len + 3)) (scalar_only value) found a.1 in
    let s = cond_some (all_scalars (value ∷ [])) (Some value) m.0 m.1 in
    let same : value ≡ m.0 = cc in
    (more, ap (λ b. b ∷ more) (eqb-true brace 125 a.0), s.0, ap (λ v. (encode_utf8 v, len + 3)) same ∙ m.2)

-- digits and what stands behind them
pub scalar_cut : (digits more : List ℕ) (found : List ℕ × ℕ) → are_hex digits ≡ true → 1 ≤ length digits → length digits ≤ 6 → all_scalars (digits_value 16 digits ∷ []) ≡ true → (encode_utf8 (digits_value 16 digits), length digits + 3) ≡ found → IsEscape (117 ∷ 123 ∷ digits ++ 125 ∷ more) found.0 found.1
scalar_cut digits more found hex l h s e =
    let word = 117 ∷ 123 ∷ digits ++ 125 ∷ [] in
    let whole : 117 ∷ 123 ∷ digits ++ 125 ∷ more ≡ word ++ more = ap (λ x. 117 ∷ 123 ∷ x) (sym (append_assoc digits (125 ∷ []) more)) in
    let count : length word ≡ found.1 = omega (arith, length-append digits (125 ∷ []), ap (λ f. f.1) e) in
    let after : drop found.1 (117 ∷ 123 ∷ digits ++ 125 ∷ more) ≡ more = ap (λ x. drop found.1 x) whole ∙ drop_at word more found.1 count in
    let made = by_scalar digits hex l h (and_parts _ true s).0 in
    (word, subst (λ x. Escape word x) (ap (λ f. f.0) e) made, whole ∙ ap (λ x. word ++ x) (sym after))

pub scalar_sound : (len : ℕ) (text : List ℕ) (found : List ℕ × ℕ) → hex_len text ≡ len → scalar_of len text ≡ Some found → IsEscape (117 ∷ 123 ∷ text) found.0 found.1
scalar_sound len text found n e =
    let a = cond_none (eqb len 0 || nat_lt 6 len) _ found e in
    let range = len_range len a.0 in
    let b = scalar_before_found (digits_value 16 (take len text)) len (drop len text) found a.1 in
    let hex : (are_hex (take len text) ≡ true) × (len ≤ length text) = subst (λ k. (are_hex (take k text) ≡ true) × (k ≤ length text)) n (hex_sound text) in
    let size : length (take len text) ≡ len = length-take-le len text hex.1 in
    let same : take len text ++ 125 ∷ b.0 ≡ text = ap (λ x. take len text ++ x) (sym b.1) ∙ take-append-drop len text in
    subst (λ t. IsEscape (117 ∷ 123 ∷ t) found.0 found.1) same
    (scalar_cut (take len text) b.0 found hex.0 (omega (arith, size, range.0)) (omega (arith, size, range.1)) b.2 (ap (λ k. (encode_utf8 (digits_value 16 (take len text)), k + 3)) size ∙ b.3))

pub scalar_escape_sound : (text : List ℕ) (found : List ℕ × ℕ) → scalar_escape_at text ≡ Some found → IsEscape (117 ∷ text) found.0 found.1
scalar_escape_sound [] found e = absurd (none_some e)
scalar_escape_sound (brace ∷ text) found e =
    let a = cond_some (eqb brace 123) _ found e in
    subst (λ b. IsEscape (117 ∷ b ∷ text) found.0 found.1) (sym (eqb-true brace 123 a.0)) (scalar_sound (hex_len text) text found refl a.1)

pub byte_escape_sound : (text : List ℕ) (found : List ℕ × ℕ) → byte_escape_at text ≡ Some found → IsEscape (120 ∷ text) found.0 found.1
byte_escape_sound [] found e = absurd (none_some e)
byte_escape_sound (high ∷ []) found e = absurd (none_some e)
byte_escape_sound (high ∷ low ∷ text) found e =
    let a = cond_some (are_hex (high ∷ low ∷ [])) _ found e in
    let same : (digits_value 16 (high ∷ low ∷ []) ∷ [], 3) ≡ found = some_same a.1 in
    subst (λ f. IsEscape (120 ∷ high ∷ low ∷ text) f.0 f.1) same (120 ∷ high ∷ low ∷ [], by_byte high low a.0, refl)

pub letter_sound : (letter : ℕ) (text : List ℕ) (found : List ℕ × ℕ) → option_map (λ byte. (byte ∷ [], 1)) (letter_escape letter) ≡ Some found → IsEscape (letter ∷ text) found.0 found.1
letter_sound letter text found e =
    let m = map_some (λ byte. (byte ∷ [], 1)) (letter_escape letter) found e in
    subst (λ f. IsEscape (letter ∷ text) f.0 f.1) m.2 (letter ∷ [], by_letter m.1, refl)

pub escape_sound : (text : List ℕ) (found : List ℕ × ℕ) → escape_at text ≡ Some found → IsEscape text found.0 found.1
escape_sound [] found e = absurd (none_some e)
escape_sound (letter ∷ text) found e = by (eqb letter 120) (eqb letter 117) refl refl e
  where
    by : (x u : Bool) → eqb letter 120 ≡ x → eqb letter 117 ≡ u → cond x (byte_escape_at text) (cond u (scalar_escape_at text) (option_map (λ byte. (byte ∷ [], 1)) (letter_escape letter))) ≡ Some found → IsEscape (letter ∷ text) found.0 found.1
    by true u p q e = subst (λ b. IsEscape (b ∷ text) found.0 found.1) (sym (eqb-true letter 120 p)) (byte_escape_sound text found e)
    by false true p q e = subst (λ b. IsEscape (b ∷ text) found.0 found.1) (sym (eqb-true letter 117 q)) (scalar_escape_sound text found e)
    by false false p q e = letter_sound letter text found e

pub escaped_found : (o : Option (List ℕ × ℕ)) (more : ℕ → Found (List ℕ)) (found : List ℕ × List ℕ) → escaped o more ≡ Some found → (word : List ℕ × ℕ) × (o ≡ Some word) × (before word.0 (more word.1) ≡ Some found)
escaped_found None more found e = absurd (none_some e)
escaped_found (Some word) more found e = (word, refl, e)

-- what the function reads stands between the quotes
pub quoted_found : (text : List ℕ) (n : ℕ) (found : List ℕ × List ℕ) → quoted_past text n ≡ Some found → IsQuoted (drop n text) found.0 found.1
quoted_found [] n found e = absurd (none_some e)
quoted_found (byte ∷ text) (suc n) found e = quoted_found text n found e
quoted_found (byte ∷ text) zero found e = by (quoted_found text) (eqb byte 34) (eqb byte 92) (opens_interpolation byte text) refl refl refl e
  where
    escape_more : (word : List ℕ × ℕ) (tail : List ℕ × List ℕ) → eqb byte 92 ≡ true → IsEscape text word.0 word.1 → IsQuoted (drop word.1 text) tail.0 tail.1 → IsQuoted (byte ∷ text) (word.0 ++ tail.0) tail.1
    escape_more word tail b s ih =
        (92 ∷ s.0 ++ ih.0, escape s.0 word.0 s.1 ih.1, ap (λ c. c ∷ text) (eqb-true byte 92 b) ∙ ap (λ t. 92 ∷ t) (s.2 ∙ ap (λ t. s.0 ++ t) ih.2 ∙ sym (append_assoc s.0 ih.0 (34 ∷ tail.1))))

    literal_more : (tail : List ℕ × List ℕ) → eqb byte 34 ≡ false → eqb byte 92 ≡ false → opens_interpolation byte text ≡ false → IsQuoted text tail.0 tail.1 → IsQuoted (byte ∷ text) (byte ∷ tail.0) tail.1
    literal_more tail a b c ih =
        let o : opens_interpolation byte ih.0 ≡ false = sym (opens_same byte ih.0 tail.1) ∙ ap (opens_interpolation byte) (sym ih.2) ∙ c in
        (byte ∷ ih.0, literal (not_from_false _ (or_from (eqb byte 34 || eqb byte 92) (opens_interpolation byte ih.0) (or_from (eqb byte 34) (eqb byte 92) a b) o)) ih.1, ap (λ t. byte ∷ t) ih.2)

    by : ((n : ℕ) (f : List ℕ × List ℕ) → quoted_past text n ≡ Some f → IsQuoted (drop n text) f.0 f.1) → (quote slash opens : Bool) → eqb byte 34 ≡ quote → eqb byte 92 ≡ slash → opens_interpolation byte text ≡ opens → cond quote (Some ([], text)) (cond slash (escaped (escape_at text) (quoted_past text)) (cond opens None (before (byte ∷ []) (quoted_past text 0)))) ≡ Some found → IsQuoted (byte ∷ text) found.0 found.1
    by ih true slash opens a b c e =
        let same : ([], text) ≡ found = some_same e in
        subst (λ f. IsQuoted (byte ∷ text) f.0 f.1) same ([], end, ap (λ d. d ∷ text) (eqb-true byte 34 a))
    by ih false true opens a b c e =
        let w = escaped_found (escape_at text) (quoted_past text) found e in
        let m = map_some (λ f. (w.0.0 ++ f.0, f.1)) (quoted_past text w.0.1) found w.2 in
        subst (λ f. IsQuoted (byte ∷ text) f.0 f.1) m.2 (escape_more w.0 m.0 b (escape_sound text w.0 w.1) (ih w.0.1 m.0 m.1))
    by ih false false true a b c e = absurd (none_some e)
    by ih false false false a b c e =
        let m = map_some (λ f. (byte ∷ f.0, f.1)) (quoted_past text 0) found e in
        subst (λ f. IsQuoted (byte ∷ text) f.0 f.1) m.2 (literal_more m.0 a b c (ih 0 m.0 m.1))

pub quoted_sound : (text : List ℕ) (found : List ℕ × List ℕ) → quoted_at text ≡ Some found → IsQuoted text found.0 found.1
quoted_sound text found e = quoted_found text 0 found e

-- the digits of an escape are hexadecimal
pub hex_digits : (text : List ℕ) → are_hex (take (hex_len text) text) ≡ true
hex_digits text = (hex_sound text).0

-- up to where nothing more is spelled

pub with_with : (a b : List ℕ) (spelt : Spelt) → with_bytes a (with_bytes b spelt) ≡ with_bytes (a ++ b) spelt
with_with a b spelt = ap (λ l. (l, spelt.1)) (sym (append_assoc a b spelt.0))

pub spelt_drop : (text : List ℕ) (n : ℕ) → spelt_past text n ≡ spelt_past (drop n text) 0
spelt_drop [] n = ap (λ l. spelt_past l 0) (sym (drop-nil n))
spelt_drop (byte ∷ text) zero = refl
spelt_drop (byte ∷ text) (suc n) = spelt_drop text n

pub past_escape_next : (text whole : List ℕ) (word : Option (List ℕ × ℕ)) (value after : List ℕ) → after_escape word text ≡ Some (value, after) → past_escape whole word (spelt_past text) ≡ with_bytes value (spelt_at after)
past_escape_next text whole None value after e = absurd (none_some e)
past_escape_next text whole (Some word) value after e =
    let same : (word.0, drop word.1 text) ≡ (value, after) = some_same e in
    ap (with_bytes word.0) (spelt_drop text word.1) ∙ ap (λ f. with_bytes f.0 (spelt_at f.1)) same
