-- Digests as hexadecimal digits.
use Rattle.std.proofs.Common.{◌≡◌, ℕ, zero, suc, ◌+◌, ◌*◌, ◌/◌, ◌%◌, ◌<◌, ◌≤◌, ◌==◌, ◌&&◌, Bool, true, List, [], ◌∷◌, ◌++◌, length, take, get_or, replicate, slice_index, Option, Some, refl, sym, ap, ◌∙◌, arith, subst, inl, inr, append_assoc}
use Rattle.std.specs.Prelude.{flat_map, nat_lt, if◌then◌else◌}
use Rattle.std.proofs.Math.ListN.{set}
use Rattle.std.proofs.Math.Seq.{take-length, take-suc-set}
use Rattle.std.proofs.lemmas.Bool.{and_parts, cases_lt, eqb-true}
use Rattle.hex.specs.Hex.{IsBytes, encode_lower, encode_with, hex_digit_value, lower_digits}
use Rattle.hex.proofs.HexLemmas.{IsDigits-lower_digits}
use Rattle.reading.specs.Field.{FitInTurn, ListFits, Stops, TellsItsEnd}
use Rattle.reading.proofs.Fields.{told_otherwise}
use Rattle.reading.proofs.Lists.{same_head, same_tail}
use Rattle.reading.proofs.Repeats.{fit_one_more, flat_map_one_more, list_stops}
use Rattle.mx_base.specs.Digest.{IsDigest}
use Rattle.build_manifest.specs.Fields.{IsByte, byte_text}
use Rattle.build_manifest.proofs.FieldLemmas.{behind_first, first_and_rest}

-- ---- digits

abbrev pub glyph : ℕ → ℕ
glyph d = if nat_lt d 10 then 48 + d else 87 + d

abbrev are_glyphs : ℕ → Bool
are_glyphs zero = true
are_glyphs (suc n) = (slice_index lower_digits n == glyph n) && are_glyphs n

glyph_below : (n k : ℕ) → are_glyphs n ≡ true → k < n → slice_index lower_digits k ≡ glyph k
glyph_below zero k h lt = absurd (omega arith)
glyph_below (suc n) k h lt =
    let parts = and_parts (slice_index lower_digits n == glyph n) (are_glyphs n) h in
    elim (cases_lt k n) [
      | inl below ↦ glyph_below n k parts.1 below
      | inr top ↦ let e : k ≡ n = omega arith in rw e (eqb-true (slice_index lower_digits n) (glyph n) parts.0)
    ]

pub digit_is : (d : ℕ) → d < 16 → slice_index lower_digits d ≡ glyph d
digit_is d below = glyph_below 16 d refl below

pub same_digit : (d e : ℕ) → d < 16 → e < 16 → slice_index lower_digits d ≡ slice_index lower_digits e → d ≡ e
same_digit d e below under h =
    same_Some d e (sym (IsDigits-lower_digits d below) ∙ ap hex_digit_value h ∙ IsDigits-lower_digits e under)
  where
    same_Some : (x y : ℕ) → ◌≡◌ {A = Option ℕ} (Some x) (Some y) → x ≡ y
    same_Some x y e = cc e

-- ---- bytes

abbrev digit : ℕ → ℕ
digit d = slice_index lower_digits d

same_byte : (a b : ℕ) (x y : List ℕ) → IsByte a → IsByte b → byte_text a ++ x ≡ byte_text b ++ y → a ≡ b
same_byte a b x y fa fb e =
    let high = same_digit (a / 16) (b / 16) (omega arith) (omega arith)
    (same_head (digit (a / 16)) (digit (b / 16)) (digit (a % 16) ∷ x) (digit (b % 16) ∷ y) e) in
    let rest = same_tail (digit (a / 16)) (digit (b / 16)) (digit (a % 16) ∷ x) (digit (b % 16) ∷ y) e in
    let low = same_digit (a % 16) (b % 16) (omega arith) (omega arith)
    (same_head (slice_index lower_digits (a % 16)) (slice_index lower_digits (b % 16)) x y rest) in
    omega (arith, high, low)

pub byte_tells : TellsItsEnd byte_text IsByte
byte_tells a b x y fa fb e = same_byte a b x y fa fb e

-- a byte that is no digit
abbrev pub IsNoHex : ℕ → Type 0
IsNoHex byte = (value : ℕ) → value < 16 → slice_index lower_digits value ≡ byte → ⊥

pub first_stops_byte : (text : List ℕ) → ((next : ℕ) (others : List ℕ) → text ≡ next ∷ others → IsNoHex next) → Stops byte_text IsByte text (length text)
first_stops_byte text none = record {
  taken = [];
  rest = text;
  bytes = refl;
  size = refl;
  sticks = record {
    value = 0;
    fits = omega arith;
    byte = slice_index lower_digits 0;
    more = slice_index lower_digits 0 ∷ [];
    begins = refl;
    refuses = λ next others further other e fits whole.
        none next others e (other / 16) (omega arith)
        (same_head (slice_index lower_digits (other / 16)) next (slice_index lower_digits (other % 16) ∷ []) further whole);
  };
}

pub second_stops_byte : (high : ℕ) (after : List ℕ) → high < 16 → ((next : ℕ) (others : List ℕ) → after ≡ next ∷ others → IsNoHex next)
    → Stops byte_text IsByte (slice_index lower_digits high ∷ after) (length after)
second_stops_byte high after below none =
    let top : high * 16 / 16 ≡ high = omega arith in
    let zero_low : high * 16 % 16 ≡ 0 = omega arith in
    record {
      taken = slice_index lower_digits high ∷ [];
      rest = after;
      bytes = refl;
      size = refl;
      sticks = record {
        value = high * 16;
        fits = omega arith;
        byte = slice_index lower_digits 0;
        more = [];
        begins = ap (λ d. slice_index lower_digits d ∷ slice_index lower_digits (high * 16 % 16) ∷ []) top
            ∙ ap (λ d. slice_index lower_digits high ∷ slice_index lower_digits d ∷ []) zero_low;
        refuses = λ next others further other e fits whole.
            none next others e (other % 16) (omega arith)
            (same_head (slice_index lower_digits (other % 16)) next [] further
            (same_tail (digit (other / 16)) (digit high) (digit (other % 16) ∷ []) (next ∷ further) whole));
      };
    }

pub read_as : (high low first second : ℕ) (rest : List ℕ) → high < 16 → low < 16 → slice_index lower_digits high ≡ first
    → slice_index lower_digits low ≡ second → first ∷ second ∷ rest ≡ byte_text (high * 16 + low) ++ rest
read_as high low first second rest below under is also =
    let top : (high * 16 + low) / 16 ≡ high = omega arith in
    let bottom : (high * 16 + low) % 16 ≡ low = omega arith in
    rw (top, bottom, is, also) refl

pub second_stuck : (text : List ℕ) (high : ℕ) → 1 ≤ length text → (high < 16) × (slice_index lower_digits high ≡ get_or text 0 0)
    → ((next : ℕ) (others : List ℕ) → behind_first text ≡ next ∷ others → IsNoHex next) → Stops byte_text IsByte text (length (behind_first text))
second_stuck text high some is none =
    subst (λ t. Stops byte_text IsByte t (length (behind_first text))) (ap (λ b. b ∷ behind_first text) is.1 ∙ sym (first_and_rest text some))
    (second_stops_byte high (behind_first text) is.0 none)

pub two_digits : (text : List ℕ) (high low : ℕ) → 1 ≤ length text → 1 ≤ length (behind_first text)
    → (high < 16) × (slice_index lower_digits high ≡ get_or text 0 0) → (low < 16) × (slice_index lower_digits low ≡ get_or (behind_first text) 0 0)
    → text ≡ byte_text (high * 16 + low) ++ behind_first (behind_first text)
two_digits text high low some more is also =
    first_and_rest text some ∙ ap (λ t. get_or text 0 0 ∷ t) (first_and_rest (behind_first text) more)
    ∙ read_as high low (get_or text 0 0) (get_or (behind_first text) 0 0) (behind_first (behind_first text)) is.0 also.0 is.1 also.1

-- ---- digests are lists of bytes

pub digest_bytes : (bytes : List ℕ) → flat_map byte_text bytes ≡ encode_lower bytes
unfolding encode_with
digest_bytes [] = refl
digest_bytes (b ∷ bytes) = ap (λ t. slice_index lower_digits (b / 16) ∷ slice_index lower_digits (b % 16) ∷ t) (digest_bytes bytes)

abbrev pub ByteFits : List ℕ → ℕ → Type 0
ByteFits before byte = IsByte byte

bytes_fit : (before bytes : List ℕ) → IsBytes bytes → FitInTurn ByteFits before bytes
bytes_fit before [] all = tt
bytes_fit before (b ∷ bytes) all = (all 0, bytes_fit (before ++ b ∷ []) bytes (λ i. all (suc i)))

bytes_from : (before bytes : List ℕ) → FitInTurn ByteFits before bytes → IsBytes bytes
bytes_from before [] fits i = omega arith
bytes_from before (b ∷ bytes) fits zero = fits.0
bytes_from before (b ∷ bytes) fits (suc i) = bytes_from (before ++ b ∷ []) bytes fits.1 i

pub zeros : (before : List ℕ) (n : ℕ) → ListFits ByteFits n before (replicate n 0)
zeros before zero = (refl, tt)
zeros before (suc n) = (ap suc (zeros (before ++ 0 ∷ []) n).0, (omega arith, (zeros (before ++ 0 ∷ []) n).1))

pub digest_from : (bytes : List ℕ) → length bytes ≡ 32 → FitInTurn ByteFits [] bytes → IsDigest bytes
digest_from bytes long fits = record { long = long; fits = bytes_from [] bytes fits }

pub digest_stops : (text after done : List ℕ) (left : ℕ) → length done < 32 → FitInTurn ByteFits [] done → text ≡ flat_map byte_text done ++ after
    → Stops byte_text IsByte after left → Stops encode_lower IsDigest text left
digest_stops text after done left less fits cut s =
    told_otherwise (flat_map byte_text) (ListFits ByteFits 32 []) encode_lower IsDigest (λ b. b) (λ b. b)
    (λ bytes fits. (digest_from bytes fits.0 fits.1, sym (digest_bytes bytes)))
    (λ bytes is. ((is.long, bytes_fit [] bytes is.fits), digest_bytes bytes)) text left
    (list_stops byte_text ByteFits (λ _. byte_tells) 32 (λ before n _ _. (replicate n 0, zeros before n)) [] done 32 refl tt fits text after left less cut s)

-- ---- one byte more

pub more_bytes : (text rest after bytes : List ℕ) (i b : ℕ) → i < length bytes → FitInTurn ByteFits [] (take i bytes)
    → text ≡ flat_map byte_text (take i bytes) ++ rest → IsByte b → rest ≡ byte_text b ++ after
    → FitInTurn ByteFits [] (take (i + 1) (set bytes i b)) × (text ≡ flat_map byte_text (take (i + 1) (set bytes i b)) ++ after)
more_bytes text rest after bytes i b within fits cut is next =
    let step : i + 1 ≡ suc i = omega arith in
    let taken : take (i + 1) (set bytes i b) ≡ take i bytes ++ b ∷ [] =
    ap (λ n. take n (set bytes i b)) step ∙ take-suc-set bytes i b within in (
      subst (FitInTurn ByteFits []) (sym taken) (fit_one_more ByteFits [] (take i bytes) b fits is),
      cut ∙ ap (λ t. flat_map byte_text (take i bytes) ++ t) next ∙ sym (append_assoc (flat_map byte_text (take i bytes)) (byte_text b) after)
          ∙ ap (λ t. t ++ after) (sym (flat_map_one_more byte_text (take i bytes) b)) ∙ ap (λ l. flat_map byte_text l ++ after) (sym taken),
    )

pub whole_digest : (text rest bytes digest : List ℕ) (i : ℕ) → i ≡ 32 → length bytes ≡ 32 → digest ≡ bytes → FitInTurn ByteFits [] (take i bytes)
    → text ≡ flat_map byte_text (take i bytes) ++ rest → IsDigest digest × (text ≡ encode_lower digest ++ rest)
whole_digest text rest bytes digest i end long is fits cut =
    let all : take i bytes ≡ bytes = ap (λ n. take n bytes) (end ∙ sym long) ∙ take-length bytes in
    subst (λ d. IsDigest d × (text ≡ encode_lower d ++ rest)) (sym is) (
      digest_from bytes long (subst (FitInTurn ByteFits []) all fits),
      cut ∙ ap (λ l. flat_map byte_text l ++ rest) all ∙ ap (λ t. t ++ rest) (digest_bytes bytes),
    )
