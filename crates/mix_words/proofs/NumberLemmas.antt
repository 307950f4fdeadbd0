-- Numbers that std reads, in decimal.
use Rattle.std.proofs.Common.{◌≡◌, ◌≢◌, ◌⊎◌, ℕ, zero, suc, Bool, true, false, ◌+◌, ◌<◌, ◌≤◌, ◌^◌, List, [], ◌∷◌, length, get_or, Result, Ok, Err, refl, sym, ap, ◌∙◌, subst, arith, inl, inr}
use Rattle.std.specs.Prelude.{decimal, ◌&&◌, ◌||◌, ◌==◌, nat_le, nat_lt}
use Rattle.std.specs.Char.{is_ascii_digit}
use Rattle.std.proofs.lemmas.Bool.{and_from, and_parts, eqb-true, le-leb, leb-true, lt-ltb, ltb-true, or_left}
use Rattle.std.specs.Result.{OkIff}
use Rattle.std.specs.Str.Parse.{AllDigits, IsNumeral, ParsesUnsigned, digits_value}
use Rattle.std.proofs.lemmas.Fmt.{decimal-digits_value, decimal_digit, decimal_injective, decimal_is_IsNumeral, first_decimal, parse-decimal}
use Rattle.mix_words.specs.Numbers.{IsNumber, is_plain}
use Rattle.std.proofs.lemmas.Str.Parse.{IsNumeralModel, digit_from_value, parse_plain}

own : IsNumeralModel (AllDigits 10) (digits_value 10)
own = record { to = λ ds p. p; from = λ ds p. p; same = λ ds p. refl }

one_zero : (byte : ℕ) (bytes : List ℕ) (t : Bool) → nat_lt 48 byte ≡ t → (t || length bytes == 0) ≡ true → byte ≡ 48 → length bytes ≡ 0
one_zero byte bytes true e h is = absurd (omega (arith, ltb-true 48 byte e))
one_zero byte bytes false e h is = eqb-true (length bytes) 0 h

-- a plain text that is read is that number in decimal
pub read_is_decimal : {E : Type 0} (text : List ℕ) (n : ℕ) (r : Result ℕ E) → is_plain text ≡ true → ParsesUnsigned 32 10 text r → r ≡ Ok n → text ≡ decimal n
read_is_decimal [] n r plain parses is = cc
read_is_decimal {E} (byte ∷ bytes) n r plain parses is =
    let text = byte ∷ bytes in
    let parts = and_parts (is_ascii_digit byte) (nat_lt 48 byte || length bytes == 0) plain in
    let digit = and_parts (nat_le 48 byte) (nat_le byte 57) parts.0 in
    let low : 48 ≤ byte = leb-true 48 byte digit.0 in
    let no_sign : get_or text 0 0 ≢ 43 = λ e. omega (arith, e) in
    let Reads : Result ℕ E → Type 0 = λ q. OkIff q (AllDigits 10 text × (0 < length text) × (digits_value 10 text < 2 ^ 32)) (digits_value 10 text) in
    let read = subst Reads is (parse_plain own 32 text r parses no_sign) in
    let lead : get_or text 0 0 ≡ 48 → length text ≡ 1 = λ e. omega (arith, one_zero byte bytes (nat_lt 48 byte) refl parts.1 e) in
    let back = decimal-digits_value own text read.0.0 read.0.1 lead (omega (arith, read.0.2)) in
    sym back ∙ ap decimal (sym read.1)

-- a text that is a number in decimal is read
pub decimal_is_read : {E : Type 0} (text : List ℕ) (n : ℕ) (r : Result ℕ E) (e : E) → n < 2 ^ 32 → text ≡ decimal n → ParsesUnsigned 32 10 text r
    → r ≡ Err e → ⊥
decimal_is_read text n r e small same parses is = let ok = parse-decimal 32 n text r small (omega arith) same parses in cc

first_digit : (digits : List ℕ) → 0 < length digits → AllDigits 10 digits → get_or digits 0 0 ≤ 57
first_digit [] some d = absurd (omega arith)
first_digit (c ∷ cs) some d = (digit_from_value c d.0).1

above_zero : (text : List ℕ) → 0 < length text → 48 < get_or text 0 0 → get_or text 0 0 ≤ 57 → is_plain text ≡ true
above_zero [] some low high = absurd (omega arith)
above_zero (byte ∷ bytes) some low high =
    and_from (is_ascii_digit byte) (nat_lt 48 byte || length bytes == 0)
    (and_from (nat_le 48 byte) (nat_le byte 57) (le-leb 48 byte (omega arith)) (le-leb byte 57 high))
    (or_left (nat_lt 48 byte) (length bytes == 0) (lt-ltb 48 byte low))

decimal_plain : (n : ℕ) → n < 2 ^ 32 → is_plain (decimal n) ≡ true
decimal_plain zero small = ap is_plain (decimal_digit 0 (omega arith))
decimal_plain (suc n) small =
    let numeral = decimal_is_IsNumeral (suc n) (omega arith) in
    above_zero (decimal (suc n)) numeral.0.0 (first_decimal (suc n) (omega arith) (omega arith)) (first_digit (decimal (suc n)) numeral.0.0 numeral.0.1)

-- a number in decimal is plain
pub no_decimal : (text : List ℕ) (n : ℕ) → is_plain text ≡ false → n < 2 ^ 32 → text ≡ decimal n → ⊥
no_decimal text n never small same = let both : true ≡ false = sym (decimal_plain n small) ∙ ap is_plain (sym same) ∙ never in cc

-- a number out of the bounds is none within them
pub none_within : (low high n : ℕ) (text : List ℕ) → n < 2 ^ 32 → high < 2 ^ 32 → text ≡ decimal n → (low ≤ n → n ≤ high → ⊥) → (m : ℕ)
    → IsNumber low high text m → ⊥
none_within low high n text small top same never m is =
    let e : m ≡ n = decimal_injective m n (omega (arith, is.most)) (omega arith) (sym is.bytes ∙ same) in
    never (omega (arith, is.least, e)) (omega (arith, is.most, e))
