-- An item with which what stands between quotes can no more become UTF-8.
use lib.Utf8.{encode}
use Rattle.std.proofs.Common.{◌≡◌, ℕ, zero, suc, ◌+◌, ◌*◌, ◌<◌, ◌≤◌, Bool, true, false, ◌&&◌, ◌||◌, List, [], ◌∷◌, ◌++◌, Option, Some, None, length, drop, cond, refl, sym, ap, ◌∙◌, arith, subst, append_assoc, lt-ltb, ⊎_elim}
use Rattle.std.proofs.lemmas.Bool.{and_parts, and_from, or_parts, cases_lt, ltb-true, true≢false}
use Rattle.std.proofs.lemmas.List.{append-nil, length-append}
use Rattle.std.proofs.lemmas.Str.{IsUtf8-append, IsUtf8-encode, digit_value-digit_char}
use Rattle.std.specs.Char.{is_digit, digit_value, digit_char, IsScalar}
use Rattle.std.specs.Prelude.{nat_lt}
use Rattle.std.specs.Str.{IsUtf8}
use Rattle.std.specs.Str.Parse.{digits_value}
use Rattle.term_tokens.specs.Lexed.{can_become, spelt_at, some_low, stuck_digit, stuck_letter, stuck_item}
use Rattle.term_tokens.specs.Lexing.{escape_at, next_at, escaped, quoted_past}
use Rattle.term_tokens.specs.Strings.{are_hex, letter_escape, Escape, by_letter, by_byte, by_scalar, escape}
use Rattle.term_tokens.proofs.OptionLemmas.{none_some, map_some}
use Rattle.term_tokens.proofs.StringLemmas.{becomes, spelt_next, spelt_sound}
use Rattle.term_tokens.proofs.StringParts.{escape_sound, letter_not}
use Rattle.term_tokens.proofs.Utf8Lemmas.{front_can, never, utf8_before}
use Rattle.term_tokens.proofs.StuckItems.{Opens, Never, Stuck, Item, IsFound, literal_found, escape_found}
use Rattle.term_tokens.proofs.StuckItems.Item.{plain, slashed}

-- ---- an item with which the bytes can no more become UTF-8

pub spelt_le : (text : List ℕ) → length (spelt_at text).1 ≤ length text
spelt_le text = let r = spelt_sound text in omega (arith, ap length r.split, length-append r.inside (spelt_at text).1)

pub opens_none : (bytes text : List ℕ) → can_become bytes ≡ true → Opens bytes text []
opens_none bytes text c = let b = becomes bytes c in record { more = b.end; spelled = b.end; quoted = b.quoted; utf8 = b.utf8; seam = λ _. b.clear }

pub opens_slash : (bytes text : List ℕ) → can_become bytes ≡ true → Opens bytes text (92 ∷ [])
opens_slash bytes text c = let b = becomes bytes c in record { more = 120 ∷ b.digits; spelled = b.last; quoted = b.escaped; utf8 = b.last_utf8; seam = λ _. refl }

pub opens_byte : (bytes text : List ℕ) → can_become bytes ≡ true → Opens bytes text (92 ∷ 120 ∷ [])
opens_byte bytes text c = let b = becomes bytes c in record { more = b.digits; spelled = b.last; quoted = b.escaped; utf8 = b.last_utf8; seam = λ _. refl }

-- the bytes and one item that spoils them are no front of UTF-8
pub spoiled : (bytes value text : List ℕ) (found : List ℕ × List ℕ) → can_become (bytes ++ value) ≡ false → IsFound value text found → IsUtf8 (bytes ++ found.0) → ⊥
spoiled bytes value text found n f u = never (bytes ++ value) f.0.0 n (subst IsUtf8 (ap (λ l. bytes ++ l) f.2 ∙ sym (append_assoc bytes value f.0.0)) u)

pub low_some : (bytes : List ℕ) (high n : ℕ) → some_low bytes high n ≡ true → (low : ℕ) × (low < n) × (can_become (bytes ++ (high * 16 + low) ∷ []) ≡ true)
unfolding some_low
low_some bytes high zero h = absurd (true≢false (sym h))
low_some bytes high (suc n) h = by (low_some bytes high n) (can_become (bytes ++ (high * 16 + n) ∷ [])) refl h
  where
    by : (some_low bytes high n ≡ true → (low : ℕ) × (low < n) × (can_become (bytes ++ (high * 16 + low) ∷ []) ≡ true)) → (can : Bool) → can_become (bytes ++ (high * 16 + n) ∷ []) ≡ can → (can || some_low bytes high n) ≡ true → (low : ℕ) × (low < suc n) × (can_become (bytes ++ (high * 16 + low) ∷ []) ≡ true)
    by less true c h = (n, omega arith, c)
    by less false c h = let r = less h in (r.0, omega (arith, r.1), r.2)

pub low_none : (bytes : List ℕ) (high n low : ℕ) → some_low bytes high n ≡ false → low < n → can_become (bytes ++ (high * 16 + low) ∷ []) ≡ false
unfolding some_low
low_none bytes high zero low h l = absurd (omega (arith, l))
low_none bytes high (suc n) low h l =
    let p = or_parts (can_become (bytes ++ (high * 16 + n) ∷ [])) (some_low bytes high n) h in
    ⊎_elim (λ k. low_none bytes high n low p.1 k) (λ k. let same : n ≡ low = omega (arith, k, l) in subst (λ j. can_become (bytes ++ (high * 16 + j) ∷ []) ≡ false) same p.0) (cases_lt low n)

pub two_digits : (high low : ℕ) → digits_value 16 (high ∷ low ∷ []) ≡ digit_value high * 16 + digit_value low
two_digits high low = omega arith

pub char_hex : (low : ℕ) → low < 16 → is_digit (digit_char low) 16 ≡ true
char_hex low l = ap (λ (v : ℕ). nat_lt v 16) (digit_value-digit_char low (omega (arith, l))) ∙ lt-ltb low 16 l

pub opens_digit : (bytes text : List ℕ) (high : ℕ) → is_digit high 16 ≡ true → some_low bytes (digit_value high) 16 ≡ true → Opens bytes text (92 ∷ 120 ∷ high ∷ [])
opens_digit bytes text high d s =
    let l = low_some bytes (digit_value high) 16 s in
    let low = digit_char l.0 in
    let b = becomes (bytes ++ (digit_value high * 16 + l.0) ∷ []) l.2 in
    let value : digits_value 16 (high ∷ low ∷ []) ≡ digit_value high * 16 + l.0 = two_digits high low ∙ ap (λ v. digit_value high * 16 + v) (digit_value-digit_char l.0 (omega (arith, l.1))) in
    let hex : are_hex (high ∷ low ∷ []) ≡ true = and_from (is_digit high 16) (are_hex (low ∷ [])) d (and_from (is_digit low 16) true (char_hex l.0 l.1) refl) in
    record {
      more = low ∷ b.end;
      spelled = digits_value 16 (high ∷ low ∷ []) ∷ b.end;
      quoted = escape (120 ∷ high ∷ low ∷ []) (digits_value 16 (high ∷ low ∷ []) ∷ []) (by_byte high low hex) b.quoted;
      utf8 = subst (λ v. IsUtf8 (bytes ++ v ∷ b.end)) (sym value) (subst IsUtf8 (append_assoc bytes ((digit_value high * 16 + l.0) ∷ []) b.end) b.utf8);
      seam = λ _. refl;
    }

-- no second digit helps
pub never_digit : (bytes : List ℕ) (high : ℕ) → some_low bytes (digit_value high) 16 ≡ false → Never bytes (92 ∷ 120 ∷ high ∷ [])
never_digit bytes high n [] found h u = none_some h
never_digit bytes high n (low ∷ more) found h u = by (are_hex (high ∷ low ∷ [])) refl
  where
    by : (hex : Bool) → are_hex (high ∷ low ∷ []) ≡ hex → ⊥
    by true x =
        let p = and_parts (is_digit high 16) (are_hex (low ∷ [])) x in
        let l : digit_value low < 16 = ltb-true (digit_value low) 16 (and_parts (is_digit low 16) true p.1).0 in
        spoiled bytes (digits_value 16 (high ∷ low ∷ []) ∷ []) more found (subst (λ v. can_become (bytes ++ v ∷ []) ≡ false) (sym (two_digits high low)) (low_none bytes (digit_value high) 16 (digit_value low) n l)) (escape_found (by_byte high low x) more found h) u
    by false x =
        let o : escape_at (120 ∷ high ∷ low ∷ more) ≡ None = ap (λ b. cond b (Some (digits_value 16 (high ∷ low ∷ []) ∷ [], 3)) None) x in
        none_some (sym (ap (λ w. escaped w (quoted_past (120 ∷ high ∷ low ∷ more))) o) ∙ h)

pub scalar_word : {word value : List ℕ} → Escape word value → (text : List ℕ) → word ≡ 117 ∷ text → (c : ℕ) × IsScalar c × (value ≡ encode c)
scalar_word (by_letter {letter = letter} {byte = byte} e) text s = let k : letter ≡ 117 = cc in absurd (none_some (subst (λ l. letter_escape l ≡ Some byte) k e))
scalar_word (by_byte high low h) text s = let k : ◌≡◌ {A = ℕ} 120 117 = cc in absurd (omega (arith, k))
scalar_word (by_scalar digits hex l h s) text w = (digits_value 16 digits, s, refl)

pub no_word : {word value : List ℕ} → Escape word value → word ≡ [] → ⊥
no_word (by_letter e) s = cc
no_word (by_byte high low h) s = cc
no_word (by_scalar digits hex l h s) t = cc

-- a character's escape after a character that isn't whole
pub never_scalar : (bytes : List ℕ) → (IsUtf8 bytes → ⊥) → Never bytes (92 ∷ 117 ∷ [])
never_scalar bytes n more found h u = by (escape_at (117 ∷ more)) refl h
  where
    by : (o : Option (List ℕ × ℕ)) → escape_at (117 ∷ more) ≡ o → escaped o (quoted_past (117 ∷ more)) ≡ Some found → ⊥
    by None e h = none_some h
    by (Some w) e h =
        let s = escape_sound (117 ∷ more) w e in
        let m = map_some (λ f. (w.0 ++ f.0, f.1)) (quoted_past (117 ∷ more) w.1) found h in
        first s.0 s.1 (drop w.1 (117 ∷ more)) s.2 m.0.0 (ap (λ x. x.0) m.2)
      where
        first : (word : List ℕ) → Escape word w.0 → (rest : List ℕ) → 117 ∷ more ≡ word ++ rest → (tail : List ℕ) → w.0 ++ tail ≡ found.0 → ⊥
        first [] x rest s tail t = no_word x refl
        first (letter ∷ word) x rest s tail t =
            let k : letter ≡ 117 = cc in
            let c = scalar_word x word (ap (λ b. b ∷ word) k) in
            n (utf8_before bytes tail c.0 c.1 (subst (λ l. IsUtf8 (bytes ++ l)) (sym t ∙ ap (λ v. v ++ tail) c.2) u))

-- where the item stops the text
pub spoils : (bytes text word value after : List ℕ) → Item text word value after → next_at text ≡ Some (value, after) → can_become bytes ≡ true → can_become (bytes ++ value) ≡ false → Stuck bytes text (stuck_item bytes text)
spoils bytes text word value after i e c n = by i refl refl refl
  where
    late : length (spelt_at text).1 ≤ length after
    late = omega (arith, spelt_le after, ap (λ s. length s.1) (spelt_next text value after e))

    by : {text2 word2 value2 after2 : List ℕ} → Item text2 word2 value2 after2 → text ≡ text2 → value ≡ value2 → after ≡ after2 → Stuck bytes text (stuck_item bytes text)
    by (plain {byte = byte} {after = after2} q s o) t v a = record {
      front = [];
      byte = byte;
      after = after2;
      split = t;
      here = ap (stuck_item bytes) t ∙ ap (λ b. cond b (stuck_letter bytes after2) (byte ∷ after2)) s;
      opens = opens_none bytes text c;
      shut = λ more found h u. spoiled bytes (byte ∷ []) more found (subst (λ l. can_become (bytes ++ l) ≡ false) v n) (literal_found byte more found q s h) u;
      early = omega (arith, late, ap length a, ap length (ap (stuck_item bytes) t ∙ ap (λ b. cond b (stuck_letter bytes after2) (byte ∷ after2)) s));
    }
    by (slashed {after = after2} x) t v a = slash x t v
      where
        slash : {word3 value3 : List ℕ} → Escape word3 value3 → text ≡ 92 ∷ word3 ++ after2 → value ≡ value3 → Stuck bytes text (stuck_item bytes text)
        slash (by_letter {letter = letter} {byte = byte} x) t v =
            let place : stuck_item bytes text ≡ letter ∷ after2 = ap (stuck_item bytes) t ∙ ap (λ b. cond b (stuck_digit bytes after2) (letter ∷ after2)) (letter_not letter 120 byte refl x) in
            record {
              front = 92 ∷ [];
              byte = letter;
              after = after2;
              split = t;
              here = place;
              opens = opens_slash bytes text c;
              shut = λ more found h u. spoiled bytes (byte ∷ []) more found (subst (λ l. can_become (bytes ++ l) ≡ false) v n) (escape_found (by_letter {letter = letter} {byte = byte} x) more found h) u;
              early = omega (arith, late, ap length a, ap length place);
            }
        slash (by_byte high low h) t v = digit (some_low bytes (digit_value high) 16) refl
          where
            hex : is_digit high 16 ≡ true
            hex = (and_parts (is_digit high 16) (are_hex (low ∷ [])) h).0

            place : (some : Bool) → some_low bytes (digit_value high) 16 ≡ some → stuck_item bytes text ≡ cond some (low ∷ after2) (high ∷ low ∷ after2)
            place some k = ap (stuck_item bytes) t ∙ ap (λ b. cond (b && some_low bytes (digit_value high) 16) (low ∷ after2) (high ∷ low ∷ after2)) hex ∙ ap (λ b. cond b (low ∷ after2) (high ∷ low ∷ after2)) k

            digit : (some : Bool) → some_low bytes (digit_value high) 16 ≡ some → Stuck bytes text (stuck_item bytes text)
            digit true k = record {
              front = 92 ∷ 120 ∷ high ∷ [];
              byte = low;
              after = after2;
              split = t;
              here = place true k;
              opens = opens_digit bytes text high hex k;
              shut = λ more found g u. spoiled bytes (digits_value 16 (high ∷ low ∷ []) ∷ []) more found (subst (λ l. can_become (bytes ++ l) ≡ false) v n) (escape_found (by_byte high low h) more found g) u;
              early = omega (arith, late, ap length a, ap length (place true k));
            }
            digit false k = record {
              front = 92 ∷ 120 ∷ [];
              byte = high;
              after = low ∷ after2;
              split = t;
              here = place false k;
              opens = opens_byte bytes text c;
              shut = never_digit bytes high k;
              early = omega (arith, late, ap length a, ap length (place false k));
            }
        slash (by_scalar digits hex l h s) t v =
            let place : stuck_item bytes text ≡ 117 ∷ 123 ∷ (digits ++ 125 ∷ []) ++ after2 = ap (stuck_item bytes) t in
            record {
              front = 92 ∷ [];
              byte = 117;
              after = 123 ∷ (digits ++ 125 ∷ []) ++ after2;
              split = t;
              here = place;
              opens = opens_slash bytes text c;
              shut = never_scalar bytes (λ u. true≢false (sym (front_can (bytes ++ value) [] (subst IsUtf8 (sym (append-nil (bytes ++ value))) (subst (λ l. IsUtf8 (bytes ++ l)) (sym v) (IsUtf8-append bytes (encode (digits_value 16 digits)) u (IsUtf8-encode (digits_value 16 digits) s))))) ∙ n));
              early = omega (arith, late, ap length a, ap length place, length-append (digits ++ 125 ∷ []) after2);
            }
