-- Numerals: digits, the bytes that write them, and the numbers of 128 bits.
use Rattle.std.specs.Prelude.{nat_lt, ℤ, pos, negsuc, neg_ℤ, nat_le, ◌^◌}
use Rattle.std.proofs.Common.{◌≡◌, ℕ, zero, suc, ◌<◌, ◌≤◌, Bool, true, false, ◌&&◌, List, [], ◌∷◌, Some, None, length, drop, cond, eqb, refl, sym, ap, ◌∙◌, arith, subst}
use Rattle.std.proofs.lemmas.Bool.{and_parts, and_left, and_right, eqb-true, ne_eqb, false≢true, false_from_ne_true, ltb-false, ltb-true}
use Rattle.std.proofs.lemmas.Int.{ints, to_z-of_z}
use Rattle.std.specs.Int.{cast_signed as to_z, cast_unsigned as of_z}
use Rattle.std.proofs.lemmas.Str.{IsUtf8-from_ascii}
use Rattle.std.specs.Char.{is_digit, digit_value}
use Rattle.std.specs.Int.{w128}
use Rattle.std.specs.List.{list_all}
use Rattle.std.specs.Prelude.{FitsSigned}
use Rattle.std.specs.Str.{IsUtf8, IsAscii, all_scalars}
use Rattle.std.specs.Str.Parse.{AllDigits, IsNumeral, digits_value, without_leading_plus, without_leading_sign, signed_digits_value}
use Rattle.term_tokens.specs.declared.token.Token.TheVariants.{Int}
use Rattle.term_tokens.specs.Strings.{are_hex}
use Rattle.term_tokens.specs.Lexing.{are_digits, are_signed_digits, scalar_only, signed_value, IsNarrow}

ltb_no : (a b : ℕ) → b ≤ a → nat_lt a b ≡ false
ltb_no a b h = false_from_ne_true (nat_lt a b) (λ e. omega (arith, h, ltb-true a b e))

digit_high : (c : ℕ) → 123 ≤ c → digit_value c ≡ 36
digit_high c h =
    let a = ltb_no c 48 (omega (arith, h)) in
    let b = ltb_no c 58 (omega (arith, h)) in
    let d = ltb_no c 65 (omega (arith, h)) in
    let e = ltb_no c 91 (omega (arith, h)) in
    let f = ltb_no c 97 (omega (arith, h)) in
    let g = ltb_no c 123 h in
    rw (a, b, d, e, f, g) refl

digit_ascii : (c base : ℕ) → base ≤ 36 → is_digit c base ≡ true → c < 128
digit_ascii c base b h = by (nat_lt c 123) refl
  where
    by : (low : Bool) → nat_lt c 123 ≡ low → c < 128
    by true l = omega (arith, ltb-true c 123 l)
    by false l = absurd (omega (arith, b, ltb-true (digit_value c) base h, digit_high c (ltb-false c 123 l)))

-- a byte that no base up to 36 has as a digit
pub digit_not : (c base other : ℕ) → base ≤ 36 → digit_value other ≡ 36 → is_digit c base ≡ true → eqb c other ≡ false
digit_not c base other b o h = ne_eqb c other (λ e. omega (arith, b, ltb-true (digit_value c) base h, ap digit_value e ∙ o))

all_ascii : (base : ℕ) (digits : List ℕ) → base ≤ 36 → list_all (λ d. is_digit d base) digits ≡ true → IsAscii digits
all_ascii base [] b h i = omega arith
all_ascii base (digit ∷ digits) b h zero = digit_ascii digit base b (and_parts (is_digit digit base) (list_all (λ d. is_digit d base) digits) h).0
all_ascii base (digit ∷ digits) b h (suc i) = all_ascii base digits b (and_parts (is_digit digit base) (list_all (λ d. is_digit d base) digits) h).1 i

all_digits : (base : ℕ) (digits : List ℕ) → list_all (λ d. is_digit d base) digits ≡ true → AllDigits base digits
all_digits base [] h = tt
all_digits base (digit ∷ digits) h =
    let parts = and_parts (is_digit digit base) (list_all (λ d. is_digit d base) digits) h in
    (ltb-true (digit_value digit) base parts.0, all_digits base digits parts.1)

plus_none : (base digit : ℕ) (digits : List ℕ) → base ≤ 36 → is_digit digit base ≡ true → without_leading_plus (digit ∷ digits) ≡ digit ∷ digits
plus_none base digit digits b h = ap (λ t. drop (cond t 1 0) (digit ∷ digits)) (digit_not digit base 43 b refl h)

-- hexadecimal digits as a text and as a numeral

pub hex_utf8 : (digits : List ℕ) → are_hex digits ≡ true → IsUtf8 digits
hex_utf8 digits h = IsUtf8-from_ascii digits (all_ascii 16 digits (omega arith) h)

pub hex_numeral : (digits : List ℕ) → are_hex digits ≡ true → 0 < length digits → (without_leading_plus digits ≡ digits) × IsNumeral 16 digits
hex_numeral [] h l = absurd (omega (arith, l))
hex_numeral (digit ∷ digits) h l = (plus_none 16 digit digits (omega arith) (and_parts (is_digit digit 16) (are_hex digits) h).0, (l, all_digits 16 (digit ∷ digits) h))

-- what 32 bits don't hold is no scalar value
pub scalar_too_big : (digits : List ℕ) → are_hex digits ≡ true → 0 < length digits → (IsNumeral 16 (without_leading_plus digits) × (digits_value 16 (without_leading_plus digits) < 2 ^ 32) → ⊥) → scalar_only (digits_value 16 digits) ≡ None
scalar_too_big digits h l refused = by (nat_lt value (2 ^ 32)) refl
  where
    value : ℕ
    value = digits_value 16 digits

    by : (small : Bool) → nat_lt value (2 ^ 32) ≡ small → scalar_only value ≡ None
    by true s = absurd (let k = hex_numeral digits h l in refused (subst (λ d. IsNumeral 16 d × (digits_value 16 d < 2 ^ 32)) (sym k.0) (k.1, ltb-true value (2 ^ 32) s)))
    by false s =
        let big = ltb-false value (2 ^ 32) s in
        let a = ltb_no value 55296 (omega (arith, big)) in
        let b = ltb_no value 1114112 (omega (arith, big)) in
        let none : all_scalars (value ∷ []) ≡ false = rw (a, b) (and_left (nat_le 57344 value && false) true (and_right (nat_le 57344 value) false refl)) in
        ap (λ s. cond s (Some value) None) none

-- digits after a sign or none

pub record Written (base : ℕ) (text : List ℕ) : Type 0 where
  pub utf8 : IsUtf8 text
  pub numeral : IsNumeral base (without_leading_sign text)
  pub value : signed_digits_value base text ≡ signed_value base text

minus_ascii : (digits : List ℕ) → IsAscii digits → IsAscii (45 ∷ digits)
minus_ascii digits h zero = omega arith
minus_ascii digits h (suc i) = h i

minus_written : (base : ℕ) (digits : List ℕ) → base ≤ 36 → are_digits base digits ≡ true → Written base (45 ∷ digits)
minus_written base [] b h = absurd (false≢true h)
minus_written base (digit ∷ digits) b h = record {
  utf8 = IsUtf8-from_ascii (45 ∷ digit ∷ digits) (minus_ascii (digit ∷ digits) (all_ascii base (digit ∷ digits) b h));
  numeral = (omega arith, all_digits base (digit ∷ digits) h);
  value = refl;
}

plain_written : (base digit : ℕ) (digits : List ℕ) → base ≤ 36 → eqb digit 45 ≡ false → are_digits base (digit ∷ digits) ≡ true → Written base (digit ∷ digits)
plain_written base digit digits b m h =
    let text = digit ∷ digits in
    let p = plus_none base digit digits b (and_parts (is_digit digit base) (list_all (λ d. is_digit d base) digits) h).0 in
    let s : without_leading_sign text ≡ text = ap (λ t. cond t digits (without_leading_plus text)) m ∙ p in
    record {
      utf8 = IsUtf8-from_ascii text (all_ascii base text b h);
      numeral = subst (λ t. IsNumeral base t) (sym s) (omega arith, all_digits base text h);
      value = ap (λ t. cond t (neg_ℤ (pos (digits_value base (without_leading_sign text)))) (pos (digits_value base (without_leading_sign text)))) m
          ∙ ap (λ t. pos (digits_value base t)) s
          ∙ sym (ap (λ t. cond t (neg_ℤ (pos (digits_value base digits))) (pos (digits_value base text))) m);
    }

pub written : (base : ℕ) (text : List ℕ) → base ≤ 36 → are_signed_digits base text ≡ true → Written base text
written base [] b h = absurd (false≢true h)
written base (first ∷ digits) b h = by (eqb first 45) refl h
  where
    by : (minus : Bool) → eqb first 45 ≡ minus → cond minus (are_digits base digits) (are_digits base (first ∷ digits)) ≡ true → Written base (first ∷ digits)
    by true m h = subst (λ c. Written base (c ∷ digits)) (sym (eqb-true first 45 m)) (minus_written base digits b h)
    by false m h = plain_written base first digits b m h

-- 128 bits

pub narrow_from_fits : (n : ℤ) → FitsSigned w128 n → IsNarrow (Int n)
narrow_from_fits n h = (omega (arith, ints, h.sfits), omega (arith, ints, h.sfits))

pub fits_from_narrow : (n : ℤ) → IsNarrow (Int n) → FitsSigned w128 n
fits_from_narrow (pos n) h = record { sfits = omega (arith, ints, h.1) }
fits_from_narrow (negsuc n) h = record { sfits = omega (arith, ints, h.0) }

-- what is parsed

pub value_read : (base : ℕ) (text digits : List ℕ) (n : ℤ) → base ≤ 36 → are_signed_digits base digits ≡ true → text ≡ digits → (IsNumeral base (without_leading_sign text) × FitsSigned w128 (signed_digits_value base text)) × (n ≡ signed_digits_value base text) → IsNarrow (Int (signed_value base digits)) × (to_z w128 (of_z w128 n) ≡ signed_value base digits)
value_read base text digits n b d same h =
    let k = written base digits b d in
    let v : signed_digits_value base text ≡ signed_value base digits = ap (signed_digits_value base) same ∙ k.value in (
      subst (λ z. IsNarrow (Int z)) v (narrow_from_fits (signed_digits_value base text) h.0.1),
      to_z-of_z w128 n (subst (λ z. FitsSigned w128 z) (sym h.1) h.0.1) ∙ h.1 ∙ v,
    )

pub value_refused : (base : ℕ) (text digits : List ℕ) → base ≤ 36 → are_signed_digits base digits ≡ true → text ≡ digits → (IsNumeral base (without_leading_sign text) × FitsSigned w128 (signed_digits_value base text) → ⊥) → IsNarrow (Int (signed_value base digits)) → ⊥
value_refused base text digits b d same refused h =
    let k = written base digits b d in
    let v : signed_digits_value base text ≡ signed_value base digits = ap (signed_digits_value base) same ∙ k.value in
    refused (subst (λ t. IsNumeral base (without_leading_sign t)) (sym same) k.numeral, subst (λ z. FitsSigned w128 z) (sym v) (fits_from_narrow (signed_value base digits) h))
