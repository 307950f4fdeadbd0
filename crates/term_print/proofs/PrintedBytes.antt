-- What stands for bytes in a string that is printed, and what it spells.
use Rattle.std.proofs.Common.{◌≡◌, ℕ, suc, ◌/◌, ◌%◌, ◌<◌, ◌≤◌, Bool, true, false, cond, ◌||◌, ◌==◌, nat_lt, List, [], ◌∷◌, ◌++◌, length, get_or, Option, Some, None, unwrap_or, option_map, refl, sym, ◌∙◌, ap, subst, append-nil, ◌⊎◌, inl, inr, ⊎_elim, arith}
use Rattle.std.specs.Char.{digit_value, is_digit, IsScalar}
use Rattle.std.specs.Fmt.{digit_glyph}
use Rattle.std.specs.Str.Parse.{digits_value}
use Rattle.std.proofs.lemmas.Bool.{eqb-true, ltb-true, lt-ltb, cases_lt, and_right, not_from_false, cond_both, or_cases, or_from, and_parts, and_from}
use Rattle.std.proofs.lemmas.Bool.Decides.{nat_tests}
use Rattle.std.specs.Str.{IsUtf8, IsAscii, is_utf8, all_scalars as scalars, encode_utf8_all as encodes}
use lib.Utf8.{encode}
use Rattle.std.proofs.lemmas.Str.{IsUtf8-nil, IsUtf8-append, IsUtf8-encode, IsUtf8-from_ascii, IsUtf8-from_is_utf8, IsAscii-append, encode_ascii, inside_one}
use Rattle.std.proofs.lemmas.Str.Ascii.{IsAscii-nil, IsAscii-cons}
use Rattle.term_tokens.specs.Strings.{letter_escape, are_hex, Escape, opens_interpolation, Quoted}
use Rattle.term_print.specs.Printable.{AreBytes}
use Rattle.term_print.specs.Printed.{is_hidden, by_digits, without_letter, escape, escaped, quoted}

-- what may stand for a byte: a letter, two digits, or the byte itself
pub data Escapes (utf8 : Bool) (byte : ℕ) (rest : List ℕ) : List ℕ → Type 0 where
  by_letter : (letter : ℕ) → letter < 128 → letter_escape letter ≡ Some byte → byte < 128 → Escapes utf8 byte rest (92 ∷ letter ∷ [])
  by_two : (128 ≤ byte → utf8 ≡ false) → Escapes utf8 byte rest (by_digits byte)
  itself : (byte == 34 || byte == 92) ≡ false → opens_interpolation byte rest ≡ false → is_hidden utf8 byte ≡ false → Escapes utf8 byte rest (byte ∷ [])

opens_sharp : (byte : ℕ) (rest : List ℕ) → opens_interpolation byte rest ≡ true → byte ≡ 35
opens_sharp byte [] e = cc
opens_sharp byte (next ∷ rest) e = eqb-true byte 35 (and_parts (byte == 35) (next == 123) e).0

hidden_high : (utf8 : Bool) (byte : ℕ) → is_hidden utf8 byte ≡ true → 128 ≤ byte → utf8 ≡ false
hidden_high utf8 byte e high = grind (arith, nat_tests)

other : (utf8 : Bool) (byte : ℕ) (rest : List ℕ) → (byte == 34 || byte == 92) ≡ false → Escapes utf8 byte rest (without_letter utf8 byte rest)
other utf8 byte rest plain =
    cond_both (opens_interpolation byte rest) (92 ∷ byte ∷ []) (cond (is_hidden utf8 byte) (by_digits byte) (byte ∷ [])) (Escapes utf8 byte rest)
    (λ opens. let sharp = opens_sharp byte rest opens in by_letter byte (omega arith) (subst (λ (x : ℕ). letter_escape x ≡ Some x) (sym sharp) refl) (omega arith))
    (λ closed. cond_both (is_hidden utf8 byte) (by_digits byte) (byte ∷ []) (Escapes utf8 byte rest)
    (λ hidden. by_two (hidden_high utf8 byte hidden))
    (λ shown. itself plain closed shown))

abbrev with_letter : Bool → ℕ → List ℕ → Option ℕ → List ℕ
with_letter utf8 byte rest found = unwrap_or (option_map (λ letter. 92 ∷ letter ∷ []) found) (without_letter utf8 byte rest)

own_letter : (utf8 : Bool) (byte : ℕ) (rest : List ℕ) → (byte == 34 || byte == 92) ≡ true → Escapes utf8 byte rest (92 ∷ byte ∷ [])
own_letter utf8 byte rest e = ⊎_elim
    (λ quote. let same = eqb-true byte 34 quote in by_letter byte (omega arith) (subst (λ (x : ℕ). letter_escape x ≡ Some x) (sym same) refl) (omega arith))
    (λ slash. let same = eqb-true byte 92 slash in by_letter byte (omega arith) (subst (λ (x : ℕ). letter_escape x ≡ Some x) (sym same) refl) (omega arith))
    (or_cases (byte == 34) (byte == 92) e)

pub escapes : (utf8 : Bool) (byte : ℕ) (rest : List ℕ) → Escapes utf8 byte rest (escape utf8 byte rest)
escapes utf8 byte rest =
    let P = λ (found : Option ℕ). Escapes utf8 byte rest (with_letter utf8 byte rest found) in
    cond_both (byte == 10) (Some 110) _ P (λ e. let same = eqb-true byte 10 e in by_letter 110 (omega arith) (ap Some (sym same)) (omega arith)) (λ no10.
    cond_both (byte == 13) (Some 114) _ P (λ e. let same = eqb-true byte 13 e in by_letter 114 (omega arith) (ap Some (sym same)) (omega arith)) (λ no13.
    cond_both (byte == 9) (Some 116) _ P (λ e. let same = eqb-true byte 9 e in by_letter 116 (omega arith) (ap Some (sym same)) (omega arith)) (λ no9.
    cond_both (byte == 27) (Some 101) _ P (λ e. let same = eqb-true byte 27 e in by_letter 101 (omega arith) (ap Some (sym same)) (omega arith)) (λ no27.
    cond_both (byte == 0) (Some 48) _ P (λ e. let same = eqb-true byte 0 e in by_letter 48 (omega arith) (ap Some (sym same)) (omega arith)) (λ no0.
    cond_both (byte == 34 || byte == 92) (Some byte) None P (λ e. own_letter utf8 byte rest e) (λ plain. other utf8 byte rest plain))))))

-- ---- two digits

glyph_value : (d : ℕ) → d < 16 → digit_value (digit_glyph true d) ≡ d
glyph_value d small = grind (arith, nat_tests)

glyph_hex : (d : ℕ) → d < 16 → is_digit (digit_glyph true d) 16 ≡ true
glyph_hex d small = ap (λ (v : ℕ). nat_lt v 16) (glyph_value d small) ∙ lt-ltb d 16 small

glyph_ascii : (d : ℕ) → d < 16 → digit_glyph true d < 128
glyph_ascii d small = grind (arith, nat_tests)

two_hex : (byte : ℕ) → byte < 256 → are_hex (digit_glyph true (byte / 16) ∷ digit_glyph true (byte % 16) ∷ []) ≡ true
two_hex byte small = and_from _ _ (glyph_hex (byte / 16) (omega arith)) (and_from _ true (glyph_hex (byte % 16) (omega arith)) refl)

two_value : (byte : ℕ) → byte < 256 → digits_value 16 (digit_glyph true (byte / 16) ∷ digit_glyph true (byte % 16) ∷ []) ≡ byte
two_value byte small =
    let high : digit_value (digit_glyph true (byte / 16)) ≡ byte / 16 = glyph_value (byte / 16) (omega arith) in
    let low : digit_value (digit_glyph true (byte % 16)) ≡ byte % 16 = glyph_value (byte % 16) (omega arith) in
    omega arith

-- ---- what it spells

opens_after : (c : ℕ) (utf8 : Bool) (byte : ℕ) (rest word more : List ℕ) → Escapes utf8 byte rest word → opens_interpolation c (byte ∷ rest) ≡ false → opens_interpolation c (word ++ more) ≡ false
opens_after c utf8 byte rest _ more (by_letter letter small is low) closed = and_right (c == 35) (92 == 123) refl
opens_after c utf8 byte rest _ more (by_two high) closed = and_right (c == 35) (92 == 123) refl
opens_after c utf8 byte rest _ more (itself plain own shown) closed = closed

opens_escaped : (c : ℕ) (utf8 : Bool) (bytes : List ℕ) → opens_interpolation c bytes ≡ false → opens_interpolation c (escaped utf8 bytes) ≡ false
opens_escaped c utf8 [] closed = refl
opens_escaped c utf8 (byte ∷ rest) closed = opens_after c utf8 byte rest _ (escaped utf8 rest) (escapes utf8 byte rest) closed

quoted_after : (utf8 : Bool) (byte : ℕ) (rest word text : List ℕ) → Escapes utf8 byte rest word → byte < 256 → (opens_interpolation byte rest ≡ false → opens_interpolation byte text ≡ false) → Quoted text rest → Quoted (word ++ text) (byte ∷ rest)
quoted_after utf8 byte rest _ text (by_letter letter small is low) fits opens more = Quoted.escape (letter ∷ []) (byte ∷ []) (Escape.by_letter is) more
quoted_after utf8 byte rest _ text (by_two high) fits opens more =
    subst (λ (b : ℕ). Quoted (by_digits byte ++ text) (b ∷ rest)) (two_value byte fits)
    (Quoted.escape (120 ∷ digit_glyph true (byte / 16) ∷ digit_glyph true (byte % 16) ∷ []) _ (Escape.by_byte (digit_glyph true (byte / 16)) (digit_glyph true (byte % 16)) (two_hex byte fits)) more)
quoted_after utf8 byte rest _ text (itself plain own shown) fits opens more =
    Quoted.literal (not_from_false _ (or_from (byte == 34 || byte == 92) (opens_interpolation byte text) plain (opens own))) more

pub quoted_escaped : (utf8 : Bool) (bytes : List ℕ) → AreBytes bytes → Quoted (escaped utf8 bytes) bytes
quoted_escaped utf8 [] fit = Quoted.end
quoted_escaped utf8 (byte ∷ rest) fit =
    quoted_after utf8 byte rest _ (escaped utf8 rest) (escapes utf8 byte rest) fit.0 (opens_escaped byte utf8 rest) (quoted_escaped utf8 rest fit.1)

-- ---- it is UTF-8

shown_low : (byte : ℕ) → is_hidden false byte ≡ false → byte < 128
shown_low byte e = grind (arith, nat_tests)

abbrev pub AreLow : List ℕ → Type 0
AreLow [] = Unit {0}
AreLow (byte ∷ bytes) = (byte < 128) × AreLow bytes

ascii : (bytes : List ℕ) → AreLow bytes → IsAscii bytes
ascii [] low = IsAscii-nil
ascii (byte ∷ bytes) low = IsAscii-cons byte bytes low.0 (ascii bytes low.1)

pub utf8_low : (bytes : List ℕ) → AreLow bytes → IsUtf8 bytes
utf8_low bytes low = IsUtf8-from_ascii bytes (ascii bytes low)

low_word : (utf8 : Bool) (byte : ℕ) (rest word : List ℕ) → Escapes utf8 byte rest word → byte < 256 → (utf8 ≡ false) ⊎ (byte < 128) → AreLow word
low_word utf8 byte rest _ (by_letter letter small is low) fits either = (omega arith, (small, tt))
low_word utf8 byte rest _ (by_two high) fits either = (omega arith, (omega arith, (glyph_ascii (byte / 16) (omega arith), (glyph_ascii (byte % 16) (omega arith), tt))))
low_word utf8 byte rest _ (itself plain own shown) fits either =
    (⊎_elim (λ (e : utf8 ≡ false). shown_low byte (subst (λ (u : Bool). is_hidden u byte ≡ false) e shown)) (λ (low : byte < 128). low) either, tt)

ascii_word : (utf8 : Bool) (byte : ℕ) (rest : List ℕ) → byte < 256 → (utf8 ≡ false) ⊎ (byte < 128) → IsAscii (escape utf8 byte rest)
ascii_word utf8 byte rest fits either = ascii (escape utf8 byte rest) (low_word utf8 byte rest _ (escapes utf8 byte rest) fits either)

escaped_ascii : (bytes : List ℕ) → AreBytes bytes → IsAscii (escaped false bytes)
escaped_ascii [] fit = IsAscii-nil
escaped_ascii (byte ∷ rest) fit = IsAscii-append (escape false byte rest) (escaped false rest) (ascii_word false byte rest fit.0 (inl refl)) (escaped_ascii rest fit.1)

high_word : (byte : ℕ) (rest word : List ℕ) → Escapes true byte rest word → 128 ≤ byte → word ≡ byte ∷ []
high_word byte rest _ (by_letter letter small is low) high = absurd (omega arith)
high_word byte rest _ (by_two hidden) high = let e = hidden high in cc
high_word byte rest _ (itself plain own shown) high = refl

abbrev AreHigh : List ℕ → Type 0
AreHigh [] = Unit {0}
AreHigh (byte ∷ bytes) = (128 ≤ byte) × AreHigh bytes

are_high : (xs : List ℕ) → ((k : ℕ) → k < length xs → 128 ≤ get_or xs k 0) → AreHigh xs
are_high [] each = tt
are_high (x ∷ xs) each = (each 0 (omega arith), are_high xs (λ k below. each (suc k) (omega arith)))

encode_high : (c : ℕ) → 128 ≤ c → AreHigh (encode c)
encode_high c high = are_high (encode c) (λ k below. ⊎_elim
    (λ (low : get_or (encode c) k 0 < 128). let same = inside_one c [] (encode c) k (sym (append-nil (encode c))) below low in absurd (omega arith))
    (λ (above : 128 ≤ get_or (encode c) k 0). above)
    (cases_lt (get_or (encode c) k 0) 128))

escaped_high : (xs rest : List ℕ) → AreHigh xs → escaped true (xs ++ rest) ≡ xs ++ escaped true rest
escaped_high [] rest high = refl
escaped_high (x ∷ xs) rest high =
    ap (λ (w : List ℕ). w ++ escaped true (xs ++ rest)) (high_word x (xs ++ rest) _ (escapes true x (xs ++ rest)) high.0)
    ∙ ap (λ (w : List ℕ). x ∷ w) (escaped_high xs rest high.1)

utf8_chars : (cs : List ℕ) → scalars cs ≡ true → IsUtf8 (escaped true (encodes cs))
utf8_chars [] all = IsUtf8-nil
utf8_chars (c ∷ cs) all =
    let parts = and_parts _ (scalars cs) all in
    let more = utf8_chars cs parts.1 in
    ⊎_elim
    (λ (low : c < 128). subst (λ (w : List ℕ). IsUtf8 (escaped true (w ++ encodes cs))) (sym (encode_ascii c low))
    (IsUtf8-append (escape true c (encodes cs)) (escaped true (encodes cs)) (IsUtf8-from_ascii (escape true c (encodes cs)) (ascii_word true c (encodes cs) (omega arith) (inr low))) more))
    (λ (high : 128 ≤ c). subst IsUtf8 (sym (escaped_high (encode c) (encodes cs) (encode_high c high))) (IsUtf8-append (encode c) (escaped true (encodes cs)) (IsUtf8-encode c parts.0) more))
    (cases_lt c 128)

utf8_escaped : (flag : Bool) (bytes : List ℕ) → is_utf8 bytes ≡ flag → AreBytes bytes → IsUtf8 (escaped flag bytes)
utf8_escaped true bytes is fit =
    let u = IsUtf8-from_is_utf8 bytes is in
    subst (λ (w : List ℕ). IsUtf8 (escaped true w)) u.1.1 (utf8_chars u.0 u.1.0)
utf8_escaped false bytes is fit = IsUtf8-from_ascii (escaped false bytes) (escaped_ascii bytes fit)

pub utf8_quoted : (bytes : List ℕ) → AreBytes bytes → IsUtf8 (quoted bytes)
utf8_quoted bytes fit =
    let quote : IsUtf8 (34 ∷ []) = utf8_low (34 ∷ []) (omega arith, tt) in
    IsUtf8-append (34 ∷ []) (escaped (is_utf8 bytes) bytes ++ 34 ∷ []) quote
    (IsUtf8-append (escaped (is_utf8 bytes) bytes) (34 ∷ []) (utf8_escaped (is_utf8 bytes) bytes refl fit) quote)

-- ---- UTF-8 is made of bytes

are_bytes-append : (xs ys : List ℕ) → AreBytes xs → AreBytes ys → AreBytes (xs ++ ys)
are_bytes-append [] ys a b = b
are_bytes-append (x ∷ xs) ys a b = (a.0, are_bytes-append xs ys a.1 b)

encode_bytes : (c : ℕ) → c < 1114112 → AreBytes (encode c)
unfolding encode
encode_bytes c small =
    cond_both (nat_lt c 128) _ _ AreBytes (λ e. let low = ltb-true c 128 e in (omega arith, tt)) (λ e1.
    cond_both (nat_lt c 2048) _ _ AreBytes (λ e. let low = ltb-true c 2048 e in (omega arith, (omega arith, tt))) (λ e2.
    cond_both (nat_lt c 65536) _ _ AreBytes (λ e. let low = ltb-true c 65536 e in (omega arith, (omega arith, (omega arith, tt))))
    (λ e3. (omega arith, (omega arith, (omega arith, (omega arith, tt)))))))

scalar_low : (c : ℕ) → IsScalar c → c < 1114112
scalar_low c is = grind (arith, nat_tests)

chars_bytes : (cs : List ℕ) → scalars cs ≡ true → AreBytes (encodes cs)
chars_bytes [] all = tt
chars_bytes (c ∷ cs) all =
    let parts = and_parts _ (scalars cs) all in
    are_bytes-append (encode c) (encodes cs) (encode_bytes c (scalar_low c parts.0)) (chars_bytes cs parts.1)

pub utf8_bytes : (bytes : List ℕ) → IsUtf8 bytes → AreBytes bytes
utf8_bytes bytes utf8 = subst AreBytes utf8.1.1 (chars_bytes utf8.0 utf8.1.0)
