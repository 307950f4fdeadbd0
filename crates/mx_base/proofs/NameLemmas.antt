-- Names are ASCII.
use Rattle.std.proofs.Common.{◌≡◌, ℕ, zero, suc, ◌<◌, ◌≤◌, ◌==◌, ◌||◌, ◌&&◌, not, Bool, true, false, nat_lt, nat_le, refl, sym, ap, ◌∙◌, bytes_eq, List, [], ◌∷◌, ◌++◌, length, slice_index, IsTrue, IsFalse, arith}
use Rattle.std.specs.Str.{IsUtf8}
use Rattle.std.proofs.Math.Bool.{and-false}
use Rattle.std.proofs.lemmas.Bool.Decides.{nat_tests}
use Rattle.std.proofs.lemmas.Bool.{ltb-true, ltb-false, lt-ltb, le-leb, lt-leb}
use Rattle.std.proofs.lemmas.List.{get_or_past}
use Rattle.std.proofs.lemmas.Str.{IsUtf8-from_ascii}
use Rattle.std.specs.List.{list_any, list_all}
use Rattle.std.proofs.lemmas.List.Elements.{All-from_get_or}
use Rattle.std.proofs.lemmas.List.Folds.{list_any_none, list_any-append, list_all_at}
use Rattle.mx_base.specs.AppName.{IsAppName, IsFirstBadByte, is_app_name, fits_at}
use Rattle.mx_base.specs.Path.{is_outside, is_segment}

fits_ascii : (k byte : ℕ) → IsTrue (fits_at k byte) → byte < 128
fits_ascii k byte e = grind (arith, nat_tests)

ascii_at : (text : List ℕ) (i : ℕ) (b : Bool) → nat_lt i (length text) ≡ b → (i < length text → IsTrue (fits_at i (slice_index text i))) → slice_index text i < 128
ascii_at text i true within fits = fits_ascii i (slice_index text i) (fits (ltb-true i (length text) within))
ascii_at text i false past fits = let none : slice_index text i ≡ 0 = get_or_past text i 0 (ltb-false i (length text) past) in omega arith

-- a text of which each byte may stand in a name is UTF-8
pub name_is_utf8 : (text : List ℕ) → ((k : ℕ) → k < length text → IsTrue (fits_at k (slice_index text k))) → IsUtf8 text
name_is_utf8 text fits = IsUtf8-from_ascii text (λ i. ascii_at text i (nat_lt i (length text)) refl (fits i))

inside_at : (k byte : ℕ) → IsTrue (fits_at k byte) → is_outside byte ≡ false
inside_at k byte e = grind (arith, nat_tests)

no_dot : (byte : ℕ) → IsTrue (fits_at 0 byte) → (byte == 46) ≡ false
no_dot byte e = grind (arith, nat_tests)

inside_name : (text : List ℕ) → ((k : ℕ) → k < length text → IsTrue (fits_at k (slice_index text k))) → list_any is_outside text ≡ false
inside_name text fits = list_any_none is_outside text (All-from_get_or (λ x. is_outside x ≡ false) text 0 (λ k within. inside_at k (slice_index text k) (fits k within)))

-- a name with an ending is a segment
pub name_with_ending : (name ending : List ℕ) → IsAppName name → list_any is_outside ending ≡ false → is_segment (name ++ ending) ≡ true
name_with_ending [] ending is inside = absurd (omega (arith, is.not_empty))
name_with_ending (b ∷ bs) ending is inside =
    let dot = no_dot b (is.bytes 0 is.not_empty) in
    let clean : list_any is_outside ((b ∷ bs) ++ ending) ≡ false = list_any-append is_outside (b ∷ bs) ending ∙ ap (λ (t : Bool). t || list_any is_outside ending) (inside_name (b ∷ bs) is.bytes) ∙ inside in
    ap (λ (t : Bool). not (false || (t && bytes_eq (bs ++ ending) [])) && not (t && bytes_eq (bs ++ ending) (46 ∷ [])) && not (list_any is_outside ((b ∷ bs) ++ ending))) dot ∙ ap not clean

-- past the first place it does not matter where a byte stands
pub later_place : (k byte : ℕ) → fits_at (suc k) byte ≡ fits_at 1 byte
later_place k byte = ap (λ (t : Bool). byte == 95 || (nat_le 97 byte && nat_le byte 122) || (nat_le 65 byte && nat_le byte 90) || (t && nat_le 48 byte && nat_le byte 57)) (lt-ltb 0 (suc k) (omega arith))

all_later : (text : List ℕ) → ((k : ℕ) → k < length text → IsTrue (fits_at 1 (slice_index text k))) → list_all (fits_at 1) text ≡ true
all_later [] fits = refl
all_later (b ∷ bs) fits =
    ap (λ (t : Bool). t && list_all (fits_at 1) bs) (fits 0 (omega arith)) ∙ all_later bs (λ k within. fits (suc k) (omega arith))

pub is_name_of_fits : (text : List ℕ) → (text ≡ [] → ⊥) → length text ≤ 255 → ((k : ℕ) → k < length text → IsTrue (fits_at k (slice_index text k))) → IsTrue (is_app_name text)
is_name_of_fits [] some short fits = absurd (some refl)
is_name_of_fits (b ∷ bs) some short fits =
    ap (λ (t : Bool). t && list_all (fits_at 1) bs && nat_le (length (b ∷ bs)) 255) (fits 0 (omega arith))
    ∙ ap (λ (t : Bool). t && nat_le (length (b ∷ bs)) 255) (all_later bs (λ k within. sym (later_place k (slice_index bs k)) ∙ fits (suc k) (omega arith)))
    ∙ le-leb (length (b ∷ bs)) 255 short

pub no_name_too_long : (text : List ℕ) → 255 < length text → IsFalse (is_app_name text)
no_name_too_long [] long = refl
no_name_too_long (b ∷ bs) long =
    ap (λ (t : Bool). fits_at 0 b && list_all (fits_at 1) bs && t) (lt-leb (length (b ∷ bs)) 255 long) ∙ and-false (fits_at 0 b && list_all (fits_at 1) bs)

pub no_name_with : (text : List ℕ) (at : ℕ) → IsFirstBadByte text at → IsFalse (is_app_name text)
no_name_with [] at bad = refl
no_name_with (b ∷ bs) zero bad = ap (λ (t : Bool). t && list_all (fits_at 1) bs && nat_le (length (b ∷ bs)) 255) bad.bad
no_name_with (b ∷ bs) (suc k) bad =
    ap (λ (t : Bool). fits_at 0 b && t && nat_le (length (b ∷ bs)) 255) (list_all_at (fits_at 1) bs k 0 (omega (arith, bad.within)) (sym (later_place k (slice_index bs k)) ∙ bad.bad))
    ∙ ap (λ (t : Bool). t && nat_le (length (b ∷ bs)) 255) (and-false (fits_at 0 b))
