-- Texts that are the decimal of no number.
use Rattle.std.proofs.Common.{◌≡◌, ℕ, ◌<◌, ◌≤◌, ◌^◌, ◌&&◌, Bool, true, false, cond, List, Option, Some, None, ℤ, pos, negsuc, nat_lt, bytes_eq, refl, sym, ap, ◌∙◌, subst, arith, IsTrue, FitsSigned, w64, ltb-true}
use Rattle.std.specs.Prelude.{Result, Ok, Err, IsErr}
use Rattle.std.specs.Fmt.{signed_decimal}
use Rattle.std.specs.Str.{IsUtf8}
use Rattle.std.specs.Str.Parse.{ParsesSigned, signed_digits_value}
use Rattle.std.proofs.lemmas.Bool.{and_parts}
use Rattle.std.proofs.lemmas.Fmt.{IsAscii-signed, parse-signed_decimal}
use Rattle.std.proofs.lemmas.Slice.Eq.{bytes_eq-Decides}
use Rattle.std.proofs.lemmas.Str.{IsUtf8-from_ascii}
use lib.Signed.{mag}
use Rattle.unit_compile.specs.Faces.{fits, number_if, number_in}

none_if : (b : Bool) (z : ℤ) → (b ≡ true → ⊥) → cond b (Some z) None ≡ None
none_if true z never = absurd (never refl)
none_if false z never = refl

fits_small : (z : ℤ) → fits z ≡ true → mag z < 2 ^ 63
fits_small (pos n) e = ltb-true n 9223372036854775808 e
fits_small (negsuc n) e = ltb-true n 9223372036854775808 e

fits_signed : (z : ℤ) → fits z ≡ true → FitsSigned w64 z
fits_signed (pos n) e = record { sfits = fits_small (pos n) e }
fits_signed (negsuc n) e = record { sfits = fits_small (negsuc n) e }

-- a number that passes the test of its text
record Written (text : List ℕ) : Type 0 where
  small : mag (signed_digits_value 10 text) < 2 ^ 63
  signed : FitsSigned w64 (signed_digits_value 10 text)
  same : signed_decimal (signed_digits_value 10 text) ≡ text

written : (text : List ℕ) → (bytes_eq (signed_decimal (signed_digits_value 10 text)) text && fits (signed_digits_value 10 text)) ≡ true → Written text
written text e =
    let z = signed_digits_value 10 text in
    let parts = and_parts (bytes_eq (signed_decimal z) text) (fits z) e in
    record { small = fits_small z parts.1; signed = fits_signed z parts.1; same = (bytes_eq-Decides (signed_decimal z) text).0 parts.0 }

-- a text that isn't UTF-8
pub none_unless_utf8 : (text : List ℕ) → (IsUtf8 text → ⊥) → number_in text ≡ None
none_unless_utf8 text never =
    none_if (bytes_eq (signed_decimal (signed_digits_value 10 text)) text && fits (signed_digits_value 10 text)) (signed_digits_value 10 text)
    (λ e. let w = written text e in never (subst IsUtf8 w.same (IsUtf8-from_ascii (signed_decimal (signed_digits_value 10 text)) (IsAscii-signed (signed_digits_value 10 text) w.small))))

-- a text that isn't read as a number
pub none_unless_read : {E : Type 0} (text : List ℕ) (r : Result ℤ E) → ParsesSigned w64 10 text r → ((z : ℤ) → r ≡ Ok z → ⊥) → number_in text ≡ None
none_unless_read text r parses never =
    none_if (bytes_eq (signed_decimal (signed_digits_value 10 text)) text && fits (signed_digits_value 10 text)) (signed_digits_value 10 text)
    (λ e. let w = written text e in never (signed_digits_value 10 text) (parse-signed_decimal w64 (signed_digits_value 10 text) text r w.signed w.small (sym w.same) parses))
