-- The tokens of what is printed.
use Rattle.std.proofs.Common.{◌≡◌, ℕ, suc, ◌^◌, ◌<◌, Bool, true, false, ◌||◌, ◌==◌, List, [], ◌∷◌, ◌++◌, length, refl, sym, ◌∙◌, ap, subst, append_assoc, ⊎_elim, arith}
use Rattle.std.specs.Prelude.{ℤ, pos, negsuc, neg_ℤ, ◌≤ℤ◌, ◌<ℤ◌}
use Rattle.std.specs.Char.{digit_value, is_digit}
use Rattle.std.specs.Fmt.{decimal, signed_decimal}
use Rattle.std.specs.Str.{IsUtf8, is_utf8}
use Rattle.std.specs.Str.Parse.{AllDigits}
use Rattle.std.proofs.lemmas.Bool.{eqb-true, lt-ltb, cond_both, or_cases, or_from, and_left, and_right, not_from_false}
use Rattle.std.proofs.lemmas.Fmt.{decimal_is_IsNumeral_wide, IsAscii-decimal_wide}
use Rattle.std.proofs.lemmas.Int.{ints}
use Rattle.std.proofs.lemmas.Str.{IsUtf8-append, IsUtf8-from_ascii}
use Rattle.term_tokens.specs.declared.token.Token.{Token}
use Rattle.term_tokens.specs.declared.token.Token.TheVariants as token
use Rattle.term_tokens.specs.Names.{is_name_start, is_name_byte, is_name_mark, is_name_rest, is_name, is_bare_atom}
use Rattle.term_tokens.specs.Numbers.{Grouped, Numeral, Integer}
use Rattle.term_tokens.specs.Tokens.{ends_name, ends_integer, is_colon, Begins, Blanks, AreTokens}
use Rattle.term_print.specs.Printable.{AreBytes}
use Rattle.term_print.specs.Printed.{escaped, quoted, name_text, atom_text, key_text}
use Rattle.term_print.proofs.PrintedBytes.{quoted_escaped, utf8_quoted, utf8_low}

-- tokens lead from a text to the rest of it
pub data Leads : List Token → List ℕ → List ℕ → Type 0 where
  done : {rest : List ℕ} → Leads [] rest rest
  next : {text start mid rest : List ℕ} {t : Token} {tokens : List Token} → Blanks text start → Begins start t mid → Leads tokens mid rest → Leads (t ∷ tokens) text rest

pub leads-append : {a b : List Token} {text mid rest : List ℕ} → Leads a text mid → Leads b mid rest → Leads (a ++ b) text rest
leads-append done more = more
leads-append (next blanks begins others) more = next blanks begins (leads-append others more)

pub are_tokens : {tokens : List Token} {text rest : List ℕ} → Leads tokens text rest → rest ≡ [] → AreTokens tokens text
are_tokens done e = subst (λ (w : List ℕ). Blanks w []) (sym e) Blanks.none
are_tokens (next {start = start} {mid = mid} blanks begins others) e = (start, mid, blanks, begins, are_tokens others e)

-- ---- what follows a term in what is printed

-- a comma, a closing bracket or a space
abbrev pub is_stop : ℕ → Bool
is_stop byte = byte == 44 || (byte == 93 || (byte == 125 || byte == 32))

abbrev pub Stops : List ℕ → Type 0
Stops [] = Unit {0}
Stops (byte ∷ rest) = is_stop byte ≡ true

at_stop : (P : ℕ → Type 0) → P 44 → P 93 → P 125 → P 32 → (byte : ℕ) → is_stop byte ≡ true → P byte
at_stop P comma square curly space byte e =
    ⊎_elim (λ a. subst P (sym (eqb-true byte 44 a)) comma) (λ e1.
    ⊎_elim (λ b. subst P (sym (eqb-true byte 93 b)) square) (λ e2.
    ⊎_elim (λ c. subst P (sym (eqb-true byte 125 c)) curly) (λ d. subst P (sym (eqb-true byte 32 d)) space)
    (or_cases (byte == 125) (byte == 32) e2)) (or_cases (byte == 93) (byte == 125 || byte == 32) e1)) (or_cases (byte == 44) (byte == 93 || (byte == 125 || byte == 32)) e)

no_name_byte : (byte : ℕ) → is_stop byte ≡ true → is_name_byte byte ≡ false
no_name_byte = at_stop (λ byte. is_name_byte byte ≡ false) refl refl refl refl

no_name_start : (byte : ℕ) → is_stop byte ≡ true → is_name_start byte ≡ false
no_name_start = at_stop (λ byte. is_name_start byte ≡ false) refl refl refl refl

no_name_mark : (byte : ℕ) → is_stop byte ≡ true → is_name_mark byte ≡ false
no_name_mark = at_stop (λ byte. is_name_mark byte ≡ false) refl refl refl refl

no_colon_byte : (byte : ℕ) → is_stop byte ≡ true → (byte == 58) ≡ false
no_colon_byte = at_stop (λ byte. (byte == 58) ≡ false) refl refl refl refl

name_rest-stop : (xs : List ℕ) (byte : ℕ) → is_stop byte ≡ true → is_name_rest (xs ++ byte ∷ []) ≡ false
name_rest-stop [] byte e = or_from (is_name_byte byte) (is_name_mark byte) (no_name_byte byte e) (no_name_mark byte e)
name_rest-stop (x ∷ []) byte e = and_right (is_name_byte x) (is_name_rest (byte ∷ [])) (name_rest-stop [] byte e)
name_rest-stop (x ∷ y ∷ xs) byte e = and_right (is_name_byte x) (is_name_rest (y ∷ xs ++ byte ∷ [])) (name_rest-stop (y ∷ xs) byte e)

name-stop : (name : List ℕ) (byte : ℕ) → is_stop byte ≡ true → is_name (name ++ byte ∷ []) ≡ false
name-stop [] byte e = and_left (is_name_start byte) true (no_name_start byte e)
name-stop (x ∷ xs) byte e = and_right (is_name_start x) (is_name_rest (xs ++ byte ∷ [])) (name_rest-stop xs byte e)

name_ends : (name rest : List ℕ) → Stops rest → ends_name name rest ≡ true
name_ends name [] e = refl
name_ends name (byte ∷ rest) e = not_from_false (is_name (name ++ byte ∷ [])) (name-stop name byte e)

integer_ends : (rest : List ℕ) → Stops rest → ends_integer rest ≡ true
integer_ends [] e = refl
integer_ends (byte ∷ rest) e = not_from_false (is_name_byte byte) (no_name_byte byte e)

no_colon : (rest : List ℕ) → Stops rest → is_colon rest ≡ false
no_colon [] e = refl
no_colon (byte ∷ []) e = refl
no_colon (byte ∷ blank ∷ rest) e = and_left (byte == 58) _ (no_colon_byte byte e)

-- ---- atoms and strings

pub string_begins : (bytes rest : List ℕ) → AreBytes bytes → Stops rest → Begins (quoted bytes ++ rest) (token.Str bytes) rest
string_begins bytes rest fit stops =
    let inside = escaped (is_utf8 bytes) bytes in
    Begins.string {inside = inside} (quoted_escaped (is_utf8 bytes) bytes fit) (no_colon rest stops) (ap (λ (w : List ℕ). 34 ∷ w) (append_assoc inside (34 ∷ []) rest))

pub atom_begins : (name rest : List ℕ) → IsUtf8 name → AreBytes name → Stops rest → Begins (atom_text name ++ rest) (token.Atom name) rest
atom_begins name rest utf8 fit stops =
    let inside = escaped (is_utf8 name) name in
    cond_both (is_bare_atom name) name (58 ∷ name_text name) (λ (w : List ℕ). Begins (w ++ rest) (token.Atom name) rest)
    (λ bare. Begins.bare_atom bare (name_ends name rest stops) (no_colon rest stops) refl)
    (λ not_bare. cond_both (is_name name) name (quoted name) (λ (w : List ℕ). Begins (58 ∷ (w ++ rest)) (token.Atom name) rest)
    (λ named. Begins.atom named (name_ends name rest stops) refl)
    (λ unnamed. Begins.quoted_atom {inside = inside} (quoted_escaped (is_utf8 name) name fit) utf8 (ap (λ (w : List ℕ). 58 ∷ 34 ∷ w) (append_assoc inside (34 ∷ []) rest))))

pub key_begins : (name rest : List ℕ) → IsUtf8 name → AreBytes name → Begins (key_text name ++ rest) (token.Key name) rest
key_begins name rest utf8 fit =
    let inside = escaped (is_utf8 name) name in
    cond_both (is_name name) name (quoted name) (λ (w : List ℕ). Begins ((w ++ 58 ∷ 32 ∷ []) ++ rest) (token.Key name) rest)
    (λ named. Begins.key 32 named refl (append_assoc name (58 ∷ 32 ∷ []) rest))
    (λ unnamed. Begins.quoted_key {inside = inside} 32 (quoted_escaped (is_utf8 name) name fit) utf8 refl
    (ap (λ (w : List ℕ). 34 ∷ w) (append_assoc (inside ++ 34 ∷ []) (58 ∷ 32 ∷ []) rest ∙ append_assoc inside (34 ∷ []) (58 ∷ 32 ∷ rest))))

pub utf8_name_text : (name : List ℕ) → IsUtf8 name → AreBytes name → IsUtf8 (name_text name)
utf8_name_text name utf8 fit = cond_both (is_name name) name (quoted name) IsUtf8 (λ e. utf8) (λ e. utf8_quoted name fit)

pub utf8_atom_text : (name : List ℕ) → IsUtf8 name → AreBytes name → IsUtf8 (atom_text name)
utf8_atom_text name utf8 fit = cond_both (is_bare_atom name) name (58 ∷ name_text name) IsUtf8 (λ e. utf8)
    (λ e. IsUtf8-append (58 ∷ []) (name_text name) (utf8_low (58 ∷ []) (omega arith, tt)) (utf8_name_text name utf8 fit))

pub utf8_key_text : (name : List ℕ) → IsUtf8 name → AreBytes name → IsUtf8 (key_text name)
utf8_key_text name utf8 fit = IsUtf8-append (name_text name) (58 ∷ 32 ∷ []) (utf8_name_text name utf8 fit) (utf8_low (58 ∷ 32 ∷ []) (omega arith, (omega arith, tt)))

-- ---- integers

digit_test : (digit : ℕ) → digit_value digit < 10 → is_digit digit 10 ≡ true
digit_test digit below = lt-ltb (digit_value digit) 10 below

grouped : (ds : List ℕ) → AllDigits 10 ds → 0 < length ds → Grouped 10 ds ds
grouped [] all some = absurd (omega arith)
grouped (d ∷ []) all some = Grouped.last (digit_test d all.0)
grouped (d ∷ e ∷ ds) all some = Grouped.next (digit_test d all.0) (grouped (e ∷ ds) all.1 (omega arith))

numeral : (n : ℕ) → n < 10 ^ 64 → Numeral (decimal n) n
numeral n small =
    let both = decimal_is_IsNumeral_wide n small in
    subst (Numeral (decimal n)) both.1 (Numeral.decimal (grouped (decimal n) both.0.1 both.0.0))

pub integer_begins : (n : ℤ) (rest : List ℕ) → neg_ℤ (pos (2 ^ 127)) ≤ℤ n → n <ℤ pos (2 ^ 127) → Stops rest → Begins (signed_decimal n ++ rest) (token.Int n) rest
integer_begins (pos n) rest low high stops =
    let small : n < 10 ^ 64 = omega (arith, ints) in
    Begins.integer (Integer.plain (numeral n small)) (integer_ends rest stops) refl
integer_begins (negsuc n) rest low high stops =
    let small : suc n < 10 ^ 64 = omega (arith, ints) in
    Begins.integer (Integer.negative (numeral (suc n) small)) (integer_ends rest stops) refl

pub utf8_integer : (n : ℤ) → neg_ℤ (pos (2 ^ 127)) ≤ℤ n → n <ℤ pos (2 ^ 127) → IsUtf8 (signed_decimal n)
utf8_integer (pos n) low high =
    let small : n < 10 ^ 64 = omega (arith, ints) in
    IsUtf8-from_ascii (decimal n) (IsAscii-decimal_wide n small)
utf8_integer (negsuc n) low high =
    let small : suc n < 10 ^ 64 = omega (arith, ints) in
    IsUtf8-append (45 ∷ []) (decimal (suc n)) (utf8_low (45 ∷ []) (omega arith, tt)) (IsUtf8-from_ascii (decimal (suc n)) (IsAscii-decimal_wide (suc n) small))
