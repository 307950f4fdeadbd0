-- Characters in UTF-8, by their first bytes (Unicode, table 3-7).
use lib.Utf8.{scalar, scalars, encode, encodes, next, low_scalar, scalar_cases}
use Rattle.std.proofs.Common.{◌≡◌, ℕ, ◌+◌, ◌-◌, ◌*◌, ◌/◌, ◌<◌, ◌≤◌, ◌⊎◌, inl, inr, true, ◌&&◌, List, [], ◌∷◌, ◌++◌, Option, Some, None, refl, sym, ap, ◌∙◌, arith, subst, ⊎_elim, append-nil}
use Rattle.std.specs.Prelude.{◌↔◌}
use Rattle.std.proofs.lemmas.Bool.{and_parts, cases_lt, le-leb, le-ltb, lt-ltb}
use Rattle.std.proofs.lemmas.Str.{IsUtf8-append, encode_ascii}
use Rattle.std.specs.Str.{IsUtf8}
use Rattle.build_manifest.specs.declared.paths.Missing.{Missing}
use Rattle.build_manifest.proofs.CharacterTable.{Row, table, row_above, row_ascii, row_four, row_four_high, row_four_low, row_inner, row_three, row_three_high, row_three_last, row_three_low, row_two}
use Rattle.build_manifest.specs.Paths.{EndsCharacter, EndsCharacters, GoesOnAbove}

-- ---- how characters are written

two : (c : ℕ) → 128 ≤ c → c < 2048 → encode c ≡ (192 + c / 64) ∷ next c ∷ []
unfolding encode
two c l h = rw (le-ltb c 128 l, lt-ltb c 2048 h)

three : (c : ℕ) → 2048 ≤ c → c < 65536 → encode c ≡ (224 + c / 4096) ∷ next (c / 64) ∷ next c ∷ []
unfolding encode
three c l h = rw (le-ltb c 128 (omega arith), le-ltb c 2048 l, lt-ltb c 65536 h)

four : (c : ℕ) → 65536 ≤ c → encode c ≡ (240 + c / 262144) ∷ next (c / 4096) ∷ next (c / 64) ∷ next c ∷ []
unfolding encode
four c l = rw (le-ltb c 128 (omega arith), le-ltb c 2048 (omega arith), le-ltb c 65536 l)

high_scalar : (c : ℕ) → 57344 ≤ c → c < 1114112 → scalar c ≡ true
high_scalar c l h = rw (le-ltb c 55296 (omega arith), le-leb 57344 c l, lt-ltb c 1114112 h)

pub one_char : (c : ℕ) (bytes : List ℕ) → scalar c ≡ true → encode c ≡ bytes → IsUtf8 bytes
one_char c bytes s e = (c ∷ [], (ap (λ t. t && true) s, append-nil (encode c) ∙ e))

-- ---- a text begins so

abbrev LeadsOn : Option Row → List ℕ → Type 0
LeadsOn None bytes = ⊥
LeadsOn (Some row) bytes = EndsCharacter row.0 row.1 row.2 bytes

leads_by : (b : ℕ) (row : Row) (bytes : List ℕ) → table b ≡ Some row → EndsCharacter row.0 row.1 row.2 bytes → LeadsOn (table b) bytes
leads_by b row bytes e ends = subst (λ r. LeadsOn r bytes) (sym e) ends

of_two : (c : ℕ) (rest : List ℕ) → 128 ≤ c → c < 2048 → IsUtf8 rest → LeadsOn (table (192 + c / 64)) (next c ∷ rest)
of_two c rest l h u =
    leads_by (192 + c / 64) (1, 0x80, 0xBF) (next c ∷ rest) (row_two (192 + c / 64) (omega arith) (omega arith)) (omega arith, omega arith, u)

of_three : (c : ℕ) (rest : List ℕ) → 2048 ≤ c → c < 65536 → (c < 55296) ⊎ (57344 ≤ c) → IsUtf8 rest
    → LeadsOn (table (224 + c / 4096)) (next (c / 64) ∷ next c ∷ rest)
of_three c rest l h apart u = ⊎_elim low high (cases_lt c 0x1000)
  where
    low : c < 0x1000 → LeadsOn (table (224 + c / 4096)) (next (c / 64) ∷ next c ∷ rest)
    low k =
        leads_by (224 + c / 4096) (2, 0xA0, 0xBF) (next (c / 64) ∷ next c ∷ rest) (row_three_low (224 + c / 4096) (omega arith))
        (omega arith, omega arith, (omega arith, omega arith, u))

    below : 0x1000 ≤ c → c < 0xD000 → LeadsOn (table (224 + c / 4096)) (next (c / 64) ∷ next c ∷ rest)
    below k m =
        leads_by (224 + c / 4096) (2, 0x80, 0xBF) (next (c / 64) ∷ next c ∷ rest) (row_three (224 + c / 4096) (omega arith) (omega arith))
        (omega arith, omega arith, (omega arith, omega arith, u))

    middle : 0xD000 ≤ c → c < 55296 → LeadsOn (table (224 + c / 4096)) (next (c / 64) ∷ next c ∷ rest)
    middle k m =
        leads_by (224 + c / 4096) (2, 0x80, 0x9F) (next (c / 64) ∷ next c ∷ rest) (row_three_high (224 + c / 4096) (omega arith))
        (omega arith, omega arith, (omega arith, omega arith, u))

    above : 57344 ≤ c → LeadsOn (table (224 + c / 4096)) (next (c / 64) ∷ next c ∷ rest)
    above k =
        leads_by (224 + c / 4096) (2, 0x80, 0xBF) (next (c / 64) ∷ next c ∷ rest) (row_three_last (224 + c / 4096) (omega arith) (omega arith))
        (omega arith, omega arith, (omega arith, omega arith, u))

    high : 0x1000 ≤ c → LeadsOn (table (224 + c / 4096)) (next (c / 64) ∷ next c ∷ rest)
    high k = ⊎_elim (λ s. ⊎_elim (λ m. below k m) (λ m. middle m s) (cases_lt c 0xD000)) above apart

of_four : (c : ℕ) (rest : List ℕ) → 65536 ≤ c → c < 1114112 → IsUtf8 rest
    → LeadsOn (table (240 + c / 262144)) (next (c / 4096) ∷ next (c / 64) ∷ next c ∷ rest)
of_four c rest l h u = ⊎_elim low (λ k. ⊎_elim (middle k) high (cases_lt c 0x10_0000)) (cases_lt c 0x4_0000)
  where
    low : c < 0x4_0000 → LeadsOn (table (240 + c / 262144)) (next (c / 4096) ∷ next (c / 64) ∷ next c ∷ rest)
    low k =
        leads_by (240 + c / 262144) (3, 0x90, 0xBF) (next (c / 4096) ∷ next (c / 64) ∷ next c ∷ rest) (row_four_low (240 + c / 262144) (omega arith))
        (omega arith, omega arith, (omega arith, omega arith, (omega arith, omega arith, u)))

    middle : 0x4_0000 ≤ c → c < 0x10_0000 → LeadsOn (table (240 + c / 262144)) (next (c / 4096) ∷ next (c / 64) ∷ next c ∷ rest)
    middle k m =
        leads_by (240 + c / 262144) (3, 0x80, 0xBF) (next (c / 4096) ∷ next (c / 64) ∷ next c ∷ rest)
        (row_four (240 + c / 262144) (omega arith) (omega arith))
        (omega arith, omega arith, (omega arith, omega arith, (omega arith, omega arith, u)))

    high : 0x10_0000 ≤ c → LeadsOn (table (240 + c / 262144)) (next (c / 4096) ∷ next (c / 64) ∷ next c ∷ rest)
    high k =
        leads_by (240 + c / 262144) (3, 0x80, 0x8F) (next (c / 4096) ∷ next (c / 64) ∷ next c ∷ rest) (row_four_high (240 + c / 262144) (omega arith))
        (omega arith, omega arith, (omega arith, omega arith, (omega arith, omega arith, u)))

-- the head and the tail, told at once
abbrev Told : List ℕ → Type 0
Told [] = Unit {0}
Told (byte ∷ bytes) = LeadsOn (table byte) bytes

told_char : (c : ℕ) (rest : List ℕ) → scalar c ≡ true → IsUtf8 rest → Told (encode c ++ rest)
told_char c rest s u = ⊎_elim one (λ k. ⊎_elim (two_bytes k) (λ m. ⊎_elim (three_bytes m) four_bytes (cases_lt c 65536)) (cases_lt c 2048)) (cases_lt c 128)
  where
    one : c < 128 → Told (encode c ++ rest)
    one k = subst (λ t. Told (t ++ rest)) (sym (encode_ascii c k)) (leads_by c (0, 0x80, 0xBF) rest (row_ascii c k) u)

    two_bytes : 128 ≤ c → c < 2048 → Told (encode c ++ rest)
    two_bytes k m = subst (λ t. Told (t ++ rest)) (sym (two c k m)) (of_two c rest k m u)

    apart : (c < 55296) ⊎ (57344 ≤ c)
    apart = ⊎_elim (λ a. inl a) (λ b. inr b.0) (scalar_cases c s)

    three_bytes : 2048 ≤ c → c < 65536 → Told (encode c ++ rest)
    three_bytes k m = subst (λ t. Told (t ++ rest)) (sym (three c k m)) (of_three c rest k m apart u)

    below : c < 1114112
    below = ⊎_elim (λ a. omega (arith, a)) (λ b. b.1) (scalar_cases c s)

    four_bytes : 65536 ≤ c → Told (encode c ++ rest)
    four_bytes k = subst (λ t. Told (t ++ rest)) (sym (four c k)) (of_four c rest k below u)

told : (cs bytes : List ℕ) → scalars cs ≡ true → encodes cs ≡ bytes → Told bytes
told [] bytes s e = subst Told e tt
told (c ∷ cs) bytes s e =
    let parts = and_parts (scalar c) (scalars cs) s in
    subst Told e (told_char c (encodes cs) parts.0 (cs, (parts.1, refl)))

-- ---- and what begins so is a text

char_two : (a b : ℕ) → 0xC2 ≤ a → a ≤ 0xDF → 0x80 ≤ b → b ≤ 0xBF → IsUtf8 (a ∷ b ∷ [])
char_two a b l h m n =
    let c = (a - 192) * 64 + (b - 128) in
    let p : 192 + c / 64 ≡ a = omega arith in
    let q : next c ≡ b = omega arith in
    one_char c (a ∷ b ∷ []) (low_scalar c (omega arith)) (two c (omega arith) (omega arith) ∙ (λ i. p i ∷ q i ∷ []))

char_three : (a b d : ℕ) → 0xE0 ≤ a → a ≤ 0xEF → 0x80 ≤ b → b ≤ 0xBF → 0x80 ≤ d → d ≤ 0xBF → (a ≡ 0xE0 → 0xA0 ≤ b) → (a ≡ 0xED → b ≤ 0x9F)
    → IsUtf8 (a ∷ b ∷ d ∷ [])
char_three a b d l h bl bh dl dh least most =
    let c = ((a - 224) * 64 + (b - 128)) * 64 + (d - 128) in
    let p : 224 + c / 4096 ≡ a = omega arith in
    let q : next (c / 64) ≡ b = omega arith in
    let r : next c ≡ d = omega arith in
    let low : 2048 ≤ c = ⊎_elim (λ k. omega (arith, least (omega arith))) (λ k. omega arith) (cases_lt a 0xE1) in
    let middle : a < 0xEE → scalar c ≡ true =
    λ k. ⊎_elim (λ m. low_scalar c (omega arith)) (λ m. low_scalar c (omega (arith, most (omega arith)))) (cases_lt a 0xED) in
    let s : scalar c ≡ true = ⊎_elim middle (λ k. high_scalar c (omega arith) (omega arith)) (cases_lt a 0xEE) in
    one_char c (a ∷ b ∷ d ∷ []) s (three c low (omega arith) ∙ (λ i. p i ∷ q i ∷ r i ∷ []))

char_four : (a b d f : ℕ) → 0xF0 ≤ a → a ≤ 0xF4 → 0x80 ≤ b → b ≤ 0xBF → 0x80 ≤ d → d ≤ 0xBF → 0x80 ≤ f → f ≤ 0xBF
    → (a ≡ 0xF0 → 0x90 ≤ b) → (a ≡ 0xF4 → b ≤ 0x8F) → IsUtf8 (a ∷ b ∷ d ∷ f ∷ [])
char_four a b d f l h bl bh dl dh fl fh least most =
    let c = (((a - 240) * 64 + (b - 128)) * 64 + (d - 128)) * 64 + (f - 128) in
    let p : 240 + c / 262144 ≡ a = omega arith in
    let q : next (c / 4096) ≡ b = omega arith in
    let r : next (c / 64) ≡ d = omega arith in
    let s : next c ≡ f = omega arith in
    let low : 65536 ≤ c = ⊎_elim (λ k. omega (arith, least (omega arith))) (λ k. omega arith) (cases_lt a 0xF1) in
    let top : c < 1114112 = ⊎_elim (λ k. omega arith) (λ k. omega (arith, most (omega arith))) (cases_lt a 0xF4) in
    one_char c (a ∷ b ∷ d ∷ f ∷ []) (high_scalar c (omega arith) top) (four c low ∙ (λ i. p i ∷ q i ∷ r i ∷ s i ∷ []))

back_ascii : (a : ℕ) (bytes : List ℕ) → a < 128 → IsUtf8 bytes → IsUtf8 (a ∷ bytes)
back_ascii a bytes h u = IsUtf8-append (a ∷ []) bytes (one_char a (a ∷ []) (low_scalar a (omega arith)) (encode_ascii a h)) u

back_two : (a : ℕ) (bytes : List ℕ) → 0xC2 ≤ a → a ≤ 0xDF → EndsCharacter 1 0x80 0xBF bytes → IsUtf8 (a ∷ bytes)
back_two a [] l h e = absurd e
back_two a (b ∷ rest) l h e = IsUtf8-append (a ∷ b ∷ []) rest (char_two a b l h e.0 e.1) e.2

back_three : (a low high : ℕ) (bytes : List ℕ) → 0xE0 ≤ a → a ≤ 0xEF → 0x80 ≤ low → high ≤ 0xBF → (a ≡ 0xE0 → 0xA0 ≤ low) → (a ≡ 0xED → high ≤ 0x9F)
    → EndsCharacter 2 low high bytes → IsUtf8 (a ∷ bytes)
back_three a low high [] l h m n least most e = absurd e
back_three a low high (b ∷ []) l h m n least most e = absurd e.2
back_three a low high (b ∷ d ∷ rest) l h m n least most e =
    IsUtf8-append (a ∷ b ∷ d ∷ []) rest
    (char_three a b d l h (omega (arith, e.0)) (omega (arith, e.1)) e.2.0 e.2.1 (λ k. omega (arith, e.0, least k)) (λ k. omega (arith, e.1, most k))) e.2.2

back_four : (a low high : ℕ) (bytes : List ℕ) → 0xF0 ≤ a → a ≤ 0xF4 → 0x80 ≤ low → high ≤ 0xBF → (a ≡ 0xF0 → 0x90 ≤ low) → (a ≡ 0xF4 → high ≤ 0x8F)
    → EndsCharacter 3 low high bytes → IsUtf8 (a ∷ bytes)
back_four a low high [] l h m n least most e = absurd e
back_four a low high (b ∷ []) l h m n least most e = absurd e.2
back_four a low high (b ∷ d ∷ []) l h m n least most e = absurd e.2.2
back_four a low high (b ∷ d ∷ f ∷ rest) l h m n least most e =
    IsUtf8-append (a ∷ b ∷ d ∷ f ∷ []) rest
    (char_four a b d f l h (omega (arith, e.0)) (omega (arith, e.1)) e.2.0 e.2.1 e.2.2.0 e.2.2.1 (λ k. omega (arith, e.0, least k))
    (λ k. omega (arith, e.1, most k))) e.2.2.2

from_table : (a : ℕ) (bytes : List ℕ) → LeadsOn (table a) bytes → IsUtf8 (a ∷ bytes)
from_table a bytes e =
    ⊎_elim (λ k. back_ascii a bytes k (at (0, 0x80, 0xBF) (row_ascii a k)))
    (λ l. ⊎_elim (λ k. absurd (none (row_inner a l k)))
    (λ l. ⊎_elim (λ k. back_two a bytes l (omega arith) (at (1, 0x80, 0xBF) (row_two a l k)))
    (λ l. ⊎_elim (λ k. back_three a 0xA0 0xBF bytes l (omega arith) (omega arith) (omega arith) (λ j. omega arith) (λ j. omega arith)
    (at (2, 0xA0, 0xBF) (row_three_low a (omega arith))))
    (λ l. ⊎_elim (λ k. back_three a 0x80 0xBF bytes (omega arith) (omega arith) (omega arith) (omega arith) (λ j. omega arith) (λ j. omega arith)
    (at (2, 0x80, 0xBF) (row_three a l k)))
    (λ l. ⊎_elim (λ k. back_three a 0x80 0x9F bytes (omega arith) (omega arith) (omega arith) (omega arith) (λ j. omega arith) (λ j. omega arith)
    (at (2, 0x80, 0x9F) (row_three_high a (omega arith))))
    (λ l. ⊎_elim (λ k. back_three a 0x80 0xBF bytes (omega arith) (omega arith) (omega arith) (omega arith) (λ j. omega arith) (λ j. omega arith)
    (at (2, 0x80, 0xBF) (row_three_last a l k)))
    (λ l. ⊎_elim (λ k. back_four a 0x90 0xBF bytes l (omega arith) (omega arith) (omega arith) (λ j. omega arith) (λ j. omega arith)
    (at (3, 0x90, 0xBF) (row_four_low a (omega arith))))
    (λ l. ⊎_elim (λ k. back_four a 0x80 0xBF bytes (omega arith) (omega arith) (omega arith) (omega arith) (λ j. omega arith) (λ j. omega arith)
    (at (3, 0x80, 0xBF) (row_four a l k)))
    (λ l. ⊎_elim (λ k. back_four a 0x80 0x8F bytes (omega arith) (omega arith) (omega arith) (omega arith) (λ j. omega arith) (λ j. omega arith)
    (at (3, 0x80, 0x8F) (row_four_high a (omega arith))))
    (λ l. absurd (none (row_above a l)))
    (cases_lt a 0xF5)) (cases_lt a 0xF4)) (cases_lt a 0xF1)) (cases_lt a 0xF0)) (cases_lt a 0xEE)) (cases_lt a 0xED)) (cases_lt a 0xE1)) (cases_lt a 0xE0))
    (cases_lt a 0xC2)) (cases_lt a 0x80)
  where
    at : (row : Row) → table a ≡ Some row → EndsCharacter row.0 row.1 row.2 bytes
    at row is = subst (λ r. LeadsOn r bytes) is e

    none : table a ≡ None → ⊥
    none is = subst (λ r. LeadsOn r bytes) is e

-- ---- what follows the first byte

-- the table has this row
pub leads : (byte n low high : ℕ) → table byte ≡ Some (n, low, high) → (missing : Missing) → missing ≡ record { count = n; low = low; high = high }
    → 0x80 ≤ low → low ≤ high → high ≤ 0xBF
    → GoesOnAbove missing × ((bytes : List ℕ) → IsUtf8 (byte ∷ bytes) ↔ EndsCharacters missing bytes)
leads byte n low high row missing is least some most =
    subst (λ (m : Missing). GoesOnAbove m × ((bytes : List ℕ) → IsUtf8 (byte ∷ bytes) ↔ EndsCharacters m bytes)) (sym is) (
      record { low = least; some = some; high = most },
      λ bytes. (
        λ u. subst (λ r. LeadsOn r bytes) row (told u.0 (byte ∷ bytes) u.1.0 u.1.1),
        λ e. from_table byte bytes (subst (λ r. LeadsOn r bytes) (sym row) e),
      ),
    )

-- the table has none
pub leads_none : (byte : ℕ) → table byte ≡ None → (bytes : List ℕ) → IsUtf8 (byte ∷ bytes) → ⊥
leads_none byte row bytes u = subst (λ r. LeadsOn r bytes) row (told u.0 (byte ∷ bytes) u.1.0 u.1.1)
