-- What a text begins with, the function finds.
use Rattle.std.specs.Prelude.{option_map, codes, ℤ}
use Rattle.std.proofs.Common.{◌≡◌, ℕ, suc, ◌≤◌, true, false, ◌&&◌, ◌||◌, List, [], ◌∷◌, ◌++◌, Some, None, length, take, drop, cond, eqb, refl, sym, ap, ◌∙◌, arith, subst, append_assoc, ⊎_elim}
use Rattle.std.proofs.lemmas.Bool.{and_parts, or_from, or_cases, or_right, eqb-true, ne_eqb, true≢false, false≢true, false_from_ne_true, ltb-true, leb-true}
use Rattle.std.proofs.lemmas.List.{take_at, drop_at}
use Rattle.std.proofs.lemmas.Slice.Eq.{bytes_eq-Decides}
use Rattle.std.proofs.lemmas.Str.Parse.{digit_from_value}
use Rattle.std.specs.Char.{is_digit, digit_value}
use Rattle.std.specs.Str.{bytes_eq}
use Rattle.term_tokens.specs.declared.bracket.Bracket.TheVariants as bracket
use Rattle.term_tokens.specs.declared.token.Closing.TheVariants.{Square, Curly}
use Rattle.term_tokens.specs.declared.token.Token.{Token}
use Rattle.term_tokens.specs.declared.token.Token.TheVariants.{Atom, Int, Key}
use Rattle.term_tokens.specs.Names.{is_from, is_letter, is_name_start, is_name_rest, is_name, is_bare_atom, is_blank}
use Rattle.term_tokens.specs.Numbers.{Integer, plain, negative}
use Rattle.term_tokens.specs.Tokens.{is_colon, ends_integer, Begins, bare_atom, atom, quoted_atom, integer, string, words, key, quoted_key, opens, closes, comma, arrow}
use Rattle.term_tokens.specs.Lexing.{name_atom_of, name_atom_at, after_colon, key_or_atom, name_of, name_at, quoted_atom_of, quoted_atom_at, key_or_string, string_of, integer_of, atom_at, first_token}
use Rattle.term_tokens.proofs.IntegerLemmas.{integer_complete, numeral_first}
use Rattle.term_tokens.proofs.NameLemmas.{EndsName, ends_from_test, name_complete, colon_ends}
use Rattle.term_tokens.proofs.OptionLemmas.{none_some, some_same, cond_some}
use Rattle.term_tokens.proofs.StringParts.{quoted_complete, utf8_kept}
use Rattle.term_tokens.proofs.WordLemmas.{words_complete}

-- the colon of a key

pub colon_none : (rest : List ℕ) → is_colon rest ≡ false → after_colon rest ≡ None
colon_none [] h = refl
colon_none (colon ∷ []) h = refl
colon_none (colon ∷ blank ∷ rest) h = ap (λ t. cond t (Some rest) None) h

pub colon_key : (blank : ℕ) (rest : List ℕ) → is_blank blank ≡ true → after_colon (58 ∷ blank ∷ rest) ≡ Some rest
colon_key blank rest h = ap (λ t. cond t (Some rest) None) h

pub none_colon : (rest : List ℕ) → after_colon rest ≡ None → is_colon rest ≡ false
none_colon [] h = refl
none_colon (colon ∷ []) h = refl
none_colon (colon ∷ blank ∷ rest) h = false_from_ne_true (eqb colon 58 && is_blank blank) (λ t. none_some (sym h ∙ ap (λ x. cond x (Some rest) None) t))

pub colon_found : (rest after : List ℕ) → after_colon rest ≡ Some after → (blank : ℕ) × (is_blank blank ≡ true) × (rest ≡ 58 ∷ blank ∷ after)
colon_found [] after h = absurd (none_some h)
colon_found (colon ∷ []) after h = absurd (none_some h)
colon_found (colon ∷ blank ∷ rest) after h =
    let a = cond_some (eqb colon 58 && is_blank blank) (Some rest) after h in
    let parts = and_parts (eqb colon 58) (is_blank blank) a.0 in
    (blank, parts.1, ap (λ c. c ∷ blank ∷ rest) (eqb-true colon 58 parts.0) ∙ ap (λ l. 58 ∷ blank ∷ l) (some_same a.1))

-- names

pub not_zero : (len : ℕ) → eqb (suc len) 0 ≡ false
not_zero len = ne_eqb (suc len) 0 (λ e. omega arith)

pub name_atom_more : (len : ℕ) (text : List ℕ) → name_atom_of (suc len) text ≡ Some (Atom (take (suc len) text), drop (suc len) text)
name_atom_more len text = ap (λ z. cond z None (Some (Atom (take (suc len) text), drop (suc len) text))) (not_zero len)

pub name_more : (len : ℕ) (text : List ℕ) → name_of (suc len) text ≡ key_or_atom (take (suc len) text) (drop (suc len) text) (after_colon (drop (suc len) text))
name_more len text = ap (λ z. cond z None (key_or_atom (take (suc len) text) (drop (suc len) text) (after_colon (drop (suc len) text)))) (not_zero len)

pub name_atom_complete : (name rest : List ℕ) → is_name name ≡ true → EndsName name rest → name_atom_at (name ++ rest) ≡ Some (Atom name, rest)
name_atom_complete [] rest h ends = absurd (false≢true h)
name_atom_complete (byte ∷ name) rest h ends =
    ap (λ n. name_atom_of n (byte ∷ name ++ rest)) (name_complete (byte ∷ name) rest h ends)
    ∙ name_atom_more (length name) (byte ∷ name ++ rest)
    ∙ ap (λ l. Some (Atom (byte ∷ l), drop (length name) (name ++ rest))) (take_at name rest (length name) refl)
    ∙ ap (λ l. Some (Atom (byte ∷ name), l)) (drop_at name rest (length name) refl)

pub name_at_complete : (name rest : List ℕ) → is_name name ≡ true → EndsName name rest → name_at (name ++ rest) ≡ key_or_atom name rest (after_colon rest)
name_at_complete [] rest h ends = absurd (false≢true h)
name_at_complete (byte ∷ name) rest h ends =
    ap (λ n. name_of n (byte ∷ name ++ rest)) (name_complete (byte ∷ name) rest h ends)
    ∙ name_more (length name) (byte ∷ name ++ rest)
    ∙ ap (λ l. key_or_atom (byte ∷ l) (drop (length name) (name ++ rest)) (after_colon (drop (length name) (name ++ rest)))) (take_at name rest (length name) refl)
    ∙ ap (λ l. key_or_atom (byte ∷ name) l (after_colon l)) (drop_at name rest (length name) refl)

-- a name begins with none of the other tokens' bytes

pub start_high : (byte : ℕ) → is_name_start byte ≡ true → 65 ≤ byte
start_high byte h =
    ⊎_elim (λ l. ⊎_elim (λ u. leb-true 65 byte (and_parts _ _ u).0) (λ d. omega (arith, leb-true 97 byte (and_parts _ _ d).0)) (or_cases (is_from 65 90 byte) (is_from 97 122 byte) l))
    (λ e. omega (arith, eqb-true byte 95 e))
    (or_cases (is_letter byte) (eqb byte 95) h)

pub start_not : (byte other : ℕ) → is_name_start byte ≡ true → is_name_start other ≡ false → eqb byte other ≡ false
start_not byte other s o = ne_eqb byte other (λ e. true≢false (sym (subst (λ b. is_name_start b ≡ true) e s) ∙ o))

pub start_no_digit : (byte : ℕ) → is_name_start byte ≡ true → is_digit byte 10 ≡ false
start_no_digit byte s = false_from_ne_true (is_digit byte 10) (λ d. let r = digit_from_value byte (ltb-true (digit_value byte) 10 d) in omega (arith, start_high byte s, r.1))

pub start_is_name : (byte : ℕ) (text : List ℕ) → is_name_start byte ≡ true → first_token (byte ∷ text) ≡ name_at (byte ∷ text)
start_is_name byte text s =
    let a = start_not byte 58 s refl in
    let b = start_not byte 34 s refl in
    let c = start_not byte 126 s refl in
    let d = or_from (eqb byte 45) (is_digit byte 10) (start_not byte 45 s refl) (start_no_digit byte s) in
    let e = start_not byte 91 s refl in
    let f = start_not byte 93 s refl in
    let g = start_not byte 123 s refl in
    let h = start_not byte 125 s refl in
    let i = start_not byte 37 s refl in
    let j = start_not byte 44 s refl in
    let k = start_not byte 61 s refl in
    rw (a, b, c, d, e, f, g, h, i, j, k) refl

pub name_first : (name rest : List ℕ) → is_name name ≡ true → EndsName name rest → first_token (name ++ rest) ≡ key_or_atom name rest (after_colon rest)
name_first [] rest h ends = absurd (false≢true h)
name_first (byte ∷ name) rest h ends = start_is_name byte (name ++ rest) (and_parts (is_name_start byte) (is_name_rest name) h).0 ∙ name_at_complete (byte ∷ name) rest h ends

pub bytes_same : (a b : List ℕ) → bytes_eq a b ≡ true → a ≡ b
bytes_same a b h = (bytes_eq-Decides a b).0 h

pub bare_named : (name : List ℕ) → is_bare_atom name ≡ true → is_name name ≡ true
bare_named name h =
    ⊎_elim (λ l. ⊎_elim (λ t. ap is_name (bytes_same name (codes "true") t)) (λ f. ap is_name (bytes_same name (codes "false") f)) (or_cases (bytes_eq name (codes "true")) (bytes_eq name (codes "false")) l))
    (λ n. ap is_name (bytes_same name (codes "nil") n))
    (or_cases (bytes_eq name (codes "true") || bytes_eq name (codes "false")) (bytes_eq name (codes "nil")) h)

pub atom_complete : (name rest : List ℕ) → is_name name ≡ true → EndsName name rest → atom_at (name ++ rest) ≡ Some (Atom name, rest)
atom_complete [] rest h ends = absurd (false≢true h)
atom_complete (byte ∷ name) rest h ends =
    ap (λ t. cond t (quoted_atom_at (name ++ rest)) (name_atom_at (byte ∷ name ++ rest))) (start_not byte 34 (and_parts (is_name_start byte) (is_name_rest name) h).0 refl)
    ∙ name_atom_complete (byte ∷ name) rest h ends

-- integers

pub digit_first : (byte : ℕ) (text : List ℕ) → is_digit byte 10 ≡ true → first_token (byte ∷ text) ≡ integer_of false (byte ∷ text)
digit_first byte text d =
    let r = digit_from_value byte (ltb-true (digit_value byte) 10 d) in
    let a = ne_eqb byte 58 (λ e. omega (arith, e, r.1)) in
    let b = ne_eqb byte 34 (λ e. omega (arith, e, r.0)) in
    let c = ne_eqb byte 126 (λ e. omega (arith, e, r.1)) in
    let f = ne_eqb byte 45 (λ e. omega (arith, e, r.0)) in
    rw (a, b, c, or_right (eqb byte 45) (is_digit byte 10) d, f) refl

pub integer_first : {word : List ℕ} {n : ℤ} (rest : List ℕ) → Integer word n → ends_integer rest ≡ true → first_token (word ++ rest) ≡ Some (Int n, rest)
integer_first rest (plain {text = word} h) ends =
    let f = numeral_first h in
    ap (λ w. first_token (w ++ rest)) f.2 ∙ digit_first f.0 (f.1 ++ rest) f.3 ∙ ap (λ w. integer_of false (w ++ rest)) (sym f.2) ∙ integer_complete false rest h ends
integer_first rest (negative {text = word} h) ends = integer_complete true rest h ends

-- what a text begins with, the function finds
pub begins_first : {text : List ℕ} {tok : Token} {rest : List ℕ} → Begins text tok rest → first_token text ≡ Some (tok, rest)
begins_first (bare_atom {name = name} {rest = rest} b ends colon e) =
    ap first_token e ∙ name_first name rest (bare_named name b) (ends_from_test name rest ends)
    ∙ ap (key_or_atom name rest) (colon_none rest colon) ∙ ap (λ t. cond t (Some (Atom name, rest)) None) b
begins_first (atom {name = name} {rest = rest} h ends e) = ap first_token e ∙ atom_complete name rest h (ends_from_test name rest ends)
begins_first (quoted_atom {bytes = bytes} {rest = rest} q u e) =
    ap first_token e ∙ ap quoted_atom_of (quoted_complete q rest) ∙ ap (option_map (λ name. (Atom name, rest))) (utf8_kept bytes u)
begins_first (integer {rest = rest} h ends e) = ap first_token e ∙ integer_first rest h ends
begins_first (string {bytes = bytes} {rest = rest} q colon e) =
    ap first_token e ∙ ap string_of (quoted_complete q rest) ∙ ap (key_or_string bytes rest) (colon_none rest colon)
begins_first (words {inside = inside} {modifier = modifier} {rest = rest} {words = parts} {kind = kind} i c m ends e) =
    ap first_token (e ∙ ap (λ l. 126 ∷ 119 ∷ 40 ∷ l) (append_assoc inside (41 ∷ modifier) rest)) ∙ words_complete inside modifier rest parts kind i c m ends
begins_first (key {name = name} {rest = rest} blank h b e) =
    let tail = 58 ∷ blank ∷ rest in
    ap first_token e ∙ name_first name tail h (colon_ends name (blank ∷ rest) h) ∙ ap (key_or_atom name tail) (colon_key blank rest b)
begins_first (quoted_key {bytes = bytes} {rest = rest} blank q u b e) =
    let tail = 58 ∷ blank ∷ rest in
    ap first_token e ∙ ap string_of (quoted_complete q tail) ∙ ap (key_or_string bytes tail) (colon_key blank rest b) ∙ ap (option_map (λ key. (Key key, rest))) (utf8_kept bytes u)
begins_first (opens {bracket = bracket.List} e) = ap first_token e
begins_first (opens {bracket = bracket.Tuple} e) = ap first_token e
begins_first (opens {bracket = bracket.Map} e) = ap first_token e
begins_first (closes {bracket = Square} e) = ap first_token e
begins_first (closes {bracket = Curly} e) = ap first_token e
begins_first (comma e) = ap first_token e
begins_first (arrow e) = ap first_token e
