-- What holds of the tokens of a text.
use Rattle.std.specs.Prelude.{ℤ}
use Rattle.std.proofs.Common.{◌≡◌, ℕ, ◌<◌, ◌≤◌, Bool, true, false, ◌||◌, List, [], ◌∷◌, ◌++◌, Some, None, length, cond, eqb, refl, sym, ap, ◌∙◌, arith, subst, ⊎_elim}
use Rattle.std.proofs.lemmas.Bool.{or_cases, eqb-true, false≢true}
use Rattle.std.proofs.lemmas.List.{length-append}
use Rattle.term_tokens.specs.declared.bracket.Bracket.TheVariants as bracket
use Rattle.term_tokens.specs.declared.token.Token.{Token}
use Rattle.term_tokens.specs.Names.{is_bare_atom, is_blank}
use Rattle.term_tokens.specs.Numbers.{Integer, plain, negative}
use Rattle.term_tokens.specs.Tokens.{Begins, bare_atom, atom, quoted_atom, integer, string, words, key, quoted_key, opens, closes, comma, arrow, AreTokens, line_end}
use Rattle.term_tokens.specs.Lexing.{past_blank, first_token}
use Rattle.term_tokens.proofs.BlankLemmas.{blanks_meet}
use Rattle.term_tokens.proofs.IntegerLemmas.{numeral_first}
use Rattle.term_tokens.proofs.OptionLemmas.{none_some, some_same}
use Rattle.term_tokens.proofs.BeginLemmas.{begins_first}

-- a text begins with one token at most
pub begins_one : {text : List ℕ} {a b : Token} {r s : List ℕ} → Begins text a r → Begins text b s → (a ≡ b) × (r ≡ s)
begins_one {a = a} {b = b} {r = r} {s = s} first second =
    let same : (a, r) ≡ (b, s) = some_same (sym (begins_first first) ∙ begins_first second) in
    (ap (λ f. f.0) same, ap (λ f. f.1) same)

-- behind these bytes nothing is found
blank_first : (byte : ℕ) (text : List ℕ) → is_blank byte ≡ true → first_token (byte ∷ text) ≡ None
blank_first byte text h =
    ⊎_elim (λ l. ⊎_elim (λ m. ⊎_elim (λ s. ap (λ b. first_token (b ∷ text)) (eqb-true byte 32 s)) (λ t. ap (λ b. first_token (b ∷ text)) (eqb-true byte 9 t)) (or_cases (eqb byte 32) (eqb byte 9) m))
    (λ c. ap (λ b. first_token (b ∷ text)) (eqb-true byte 13 c)) (or_cases (eqb byte 32 || eqb byte 9) (eqb byte 13) l))
    (λ n. ap (λ b. first_token (b ∷ text)) (eqb-true byte 10 n))
    (or_cases ((eqb byte 32 || eqb byte 9) || eqb byte 13) (eqb byte 10) h)

first_solid : (text : List ℕ) (found : Token × List ℕ) → first_token text ≡ Some found → past_blank text ≡ None
first_solid [] found e = refl
first_solid (byte ∷ text) found e = by (eqb byte 35) (is_blank byte) refl refl
  where
    by : (sharp white : Bool) → eqb byte 35 ≡ sharp → is_blank byte ≡ white → cond sharp (Some (line_end text)) (cond white (Some text) None) ≡ None
    by true white s w = absurd (none_some (sym (ap (λ b. first_token (b ∷ text)) (eqb-true byte 35 s)) ∙ e))
    by false true s w = absurd (none_some (sym (blank_first byte text w) ∙ e))
    by false false s w = refl

-- no token begins with a blank or a comment
pub begins_solid : {text : List ℕ} {a : Token} {r : List ℕ} → Begins text a r → past_blank text ≡ None
begins_solid {text = text} {a = a} {r = r} b = first_solid text (a, r) (begins_first b)

not_empty : (p : List ℕ → Bool) (name : List ℕ) → p [] ≡ false → p name ≡ true → 1 ≤ length name
not_empty p [] none h = absurd (false≢true (sym none ∙ h))
not_empty p (byte ∷ name) none h = omega arith

integer_long : {word : List ℕ} {n : ℤ} → Integer word n → 1 ≤ length word
integer_long (plain h) = let f = numeral_first h in omega (arith, ap length f.2)
integer_long (negative h) = omega arith

longer : (word rest : List ℕ) → 1 ≤ length word → length rest < length (word ++ rest)
longer word rest h = omega (arith, h, length-append word rest)

-- a token has at least one byte
pub begins_shorter : {text : List ℕ} {a : Token} {r : List ℕ} → Begins text a r → length r < length text
begins_shorter (bare_atom {name = name} {rest = rest} b ends colon e) = omega (arith, ap length e, longer name rest (not_empty is_bare_atom name refl b))
begins_shorter (atom {name = name} {rest = rest} h ends e) = omega (arith, ap length e, length-append name rest)
begins_shorter (quoted_atom {inside = inside} {rest = rest} q u e) = omega (arith, ap length e, length-append inside (34 ∷ rest))
begins_shorter (integer {word = word} {rest = rest} h ends e) = omega (arith, ap length e, longer word rest (integer_long h))
begins_shorter (string {inside = inside} {rest = rest} q colon e) = omega (arith, ap length e, length-append inside (34 ∷ rest))
begins_shorter (words {inside = inside} {modifier = modifier} {rest = rest} i c m ends e) = omega (arith, ap length e, length-append (inside ++ 41 ∷ modifier) rest)
begins_shorter (key {name = name} {rest = rest} blank h b e) = omega (arith, ap length e, length-append name (58 ∷ blank ∷ rest))
begins_shorter (quoted_key {inside = inside} {rest = rest} blank q u b e) = omega (arith, ap length e, length-append inside (34 ∷ 58 ∷ blank ∷ rest))
begins_shorter (opens {bracket = bracket.List} e) = omega (arith, ap length e)
begins_shorter (opens {bracket = bracket.Tuple} e) = omega (arith, ap length e)
begins_shorter (opens {bracket = bracket.Map} e) = omega (arith, ap length e)
begins_shorter (closes e) = omega (arith, ap length e)
begins_shorter (comma e) = omega (arith, ap length e)
begins_shorter (arrow e) = omega (arith, ap length e)

not_begun : {text : List ℕ} {a : Token} {r : List ℕ} → Begins text a r → text ≡ [] → ⊥
not_begun b e = none_some (sym (ap first_token e) ∙ begins_first b)

-- a text is made of one list of tokens at most
pub tokens_one : (ts us : List Token) (text : List ℕ) → AreTokens ts text → AreTokens us text → ts ≡ us
tokens_one [] [] text a b = refl
tokens_one [] (u ∷ us) text a b = absurd (not_begun b.3 (sym (blanks_meet b.0 refl (begins_solid b.3) a b.2)))
tokens_one (t ∷ ts) [] text a b = absurd (not_begun a.3 (sym (blanks_meet a.0 refl (begins_solid a.3) b a.2)))
tokens_one (t ∷ ts) (u ∷ us) text a b =
    let start : a.0 ≡ b.0 = blanks_meet b.0 (begins_solid a.3) (begins_solid b.3) a.2 b.2 in
    let one = begins_one (subst (λ l. Begins l t a.1) start a.3) b.3 in
    let rest = tokens_one ts us b.1 (subst (λ l. AreTokens ts l) one.1 a.4) b.4 in
    ap (λ x. x ∷ ts) one.0 ∙ ap (λ l. u ∷ l) rest
