-- The first token of a text is the one that the function finds.
use Rattle.std.proofs.Common.{◌≡◌, ℕ, zero, suc, Bool, true, false, ◌&&◌, ◌||◌, List, [], ◌∷◌, ◌++◌, Option, Some, None, take, drop, cond, eqb, refl, sym, ap, ◌∙◌, subst, append_assoc}
use Rattle.std.proofs.lemmas.Bool.{and_parts, eqb-true}
use Rattle.std.proofs.lemmas.List.{take-append-drop}
use Rattle.std.specs.Char.{is_digit}
use Rattle.term_tokens.specs.declared.bracket.Bracket.TheVariants as bracket
use Rattle.term_tokens.specs.declared.token.Closing.TheVariants.{Square, Curly}
use Rattle.term_tokens.specs.declared.token.Token.{Token}
use Rattle.term_tokens.specs.declared.token.Token.TheVariants.{Atom, Key, Open, Close, Comma, Arrow}
use Rattle.term_tokens.specs.Names.{is_name, is_bare_atom}
use Rattle.term_tokens.specs.Numbers.{plain, negative}
use Rattle.term_tokens.specs.Strings.{Quoted}
use Rattle.term_tokens.specs.Tokens.{Begins, bare_atom, atom, quoted_atom, integer, string, words, key, quoted_key, opens, closes, comma, arrow}
use Rattle.term_tokens.specs.Lexing.{Found, name_len, name_atom_of, name_atom_at, after_colon, key_or_atom, name_of, quoted_at, utf8_only, quoted_atom_of, quoted_atom_at, key_or_string, string_of, string_at, integer_of, integer_at, words_in, words_at, second_at, sign_at, atom_at, sign_or_name, first_token}
use Rattle.term_tokens.proofs.IntegerLemmas.{integer_sound}
use Rattle.term_tokens.proofs.NameLemmas.{EndsName, test_from_ends, name_sound}
use Rattle.term_tokens.proofs.OptionLemmas.{none_some, some_same, cond_some, map_some}
use Rattle.term_tokens.proofs.StringParts.{quoted_sound, utf8_found}
use Rattle.term_tokens.proofs.WordLemmas.{words_sound}
use Rattle.term_tokens.proofs.BeginLemmas.{none_colon, colon_found, name_atom_more, name_more}

-- from the function to the relation

abbrev Finds : List ℕ → Token × List ℕ → Type 0
Finds text found = Begins text found.0 found.1

name_atom_found : (text : List ℕ) (len : ℕ) (found : Token × List ℕ) → name_len text ≡ len → name_atom_of len text ≡ Some found → Finds (58 ∷ text) found
name_atom_found text zero found n e = absurd (none_some e)
name_atom_found text (suc len) found n e =
    let cut = name_sound text len n in
    let same : (Atom (take (suc len) text), drop (suc len) text) ≡ found = some_same (sym (name_atom_more len text) ∙ e) in
    subst (λ f. Finds (58 ∷ text) f) same (atom cut.name (test_from_ends (take (suc len) text) (drop (suc len) text) cut.ends) (ap (λ l. 58 ∷ l) (sym (take-append-drop (suc len) text))))

key_or_atom_found : (text name rest : List ℕ) (o : Option (List ℕ)) (found : Token × List ℕ) → after_colon rest ≡ o → is_name name ≡ true → EndsName name rest → text ≡ name ++ rest → key_or_atom name rest o ≡ Some found → Finds text found
key_or_atom_found text name rest None found c h ends s e =
    let a = cond_some (is_bare_atom name) _ found e in
    subst (λ f. Finds text f) (some_same a.1) (bare_atom a.0 (test_from_ends name rest ends) (none_colon rest c) s)
key_or_atom_found text name rest (Some after) found c h ends s e =
    let k = colon_found rest after c in
    subst (λ f. Finds text f) (some_same e) (key k.0 h k.1 (s ∙ ap (λ l. name ++ l) k.2))

name_found : (text : List ℕ) (len : ℕ) (found : Token × List ℕ) → name_len text ≡ len → name_of len text ≡ Some found → Finds text found
name_found text zero found n e = absurd (none_some e)
name_found text (suc len) found n e =
    let cut = name_sound text len n in
    key_or_atom_found text (take (suc len) text) (drop (suc len) text) (after_colon (drop (suc len) text)) found refl cut.name cut.ends (sym (take-append-drop (suc len) text)) (sym (name_more len text) ∙ e)

quoted_atom_found : (text : List ℕ) (o : Found (List ℕ)) (found : Token × List ℕ) → quoted_at text ≡ o → quoted_atom_of o ≡ Some found → Finds (58 ∷ 34 ∷ text) found
quoted_atom_found text None found q e = absurd (none_some e)
quoted_atom_found text (Some f) found q e =
    let cut = quoted_sound text f q in
    let m = map_some (λ name. (Atom name, f.1)) (utf8_only f.0) found e in
    let u = utf8_found f.0 m.0 m.1 in
    subst (λ x. Finds (58 ∷ 34 ∷ text) x) (ap (λ name. (Atom name, f.1)) u.1 ∙ m.2) (quoted_atom cut.1 u.0 (ap (λ l. 58 ∷ 34 ∷ l) cut.2))

atom_found : (text : List ℕ) (found : Token × List ℕ) → atom_at text ≡ Some found → Finds (58 ∷ text) found
atom_found [] found e = absurd (none_some e)
atom_found (byte ∷ text) found e = by (eqb byte 34) refl e
  where
    by : (quote : Bool) → eqb byte 34 ≡ quote → cond quote (quoted_atom_at text) (name_atom_at (byte ∷ text)) ≡ Some found → Finds (58 ∷ byte ∷ text) found
    by true q e = subst (λ b. Finds (58 ∷ b ∷ text) found) (sym (eqb-true byte 34 q)) (quoted_atom_found text (quoted_at text) found refl e)
    by false q e = name_atom_found (byte ∷ text) (name_len (byte ∷ text)) found refl e

key_or_string_found : (text inside bytes rest : List ℕ) (o : Option (List ℕ)) (found : Token × List ℕ) → after_colon rest ≡ o → Quoted inside bytes → text ≡ inside ++ 34 ∷ rest → key_or_string bytes rest o ≡ Some found → Finds (34 ∷ text) found
key_or_string_found text inside bytes rest None found c q s e =
    subst (λ f. Finds (34 ∷ text) f) (some_same e) (string q (none_colon rest c) (ap (λ l. 34 ∷ l) s))
key_or_string_found text inside bytes rest (Some after) found c q s e =
    let k = colon_found rest after c in
    let m = map_some (λ key. (Key key, after)) (utf8_only bytes) found e in
    let u = utf8_found bytes m.0 m.1 in
    subst (λ f. Finds (34 ∷ text) f) (ap (λ key. (Key key, after)) u.1 ∙ m.2) (quoted_key k.0 q u.0 k.1 (ap (λ l. 34 ∷ l) (s ∙ ap (λ l. inside ++ 34 ∷ l) k.2)))

string_found : (text : List ℕ) (o : Found (List ℕ)) (found : Token × List ℕ) → quoted_at text ≡ o → string_of o ≡ Some found → Finds (34 ∷ text) found
string_found text None found q e = absurd (none_some e)
string_found text (Some f) found q e =
    let cut = quoted_sound text f q in
    key_or_string_found text cut.0 f.0 f.1 (after_colon f.1) found refl cut.1 cut.2 e

words_found : (text : List ℕ) (found : Token × List ℕ) → words_at text ≡ Some found → Finds (126 ∷ text) found
words_found [] found e = absurd (none_some e)
words_found (letter ∷ []) found e = absurd (none_some e)
words_found (letter ∷ paren ∷ text) found e =
    let a = cond_some (eqb letter 119 && eqb paren 40) (words_in text) found e in
    let parts = and_parts (eqb letter 119) (eqb paren 40) a.0 in
    let cut = words_sound text found a.1 in
    let first : 126 ∷ letter ∷ paren ∷ text ≡ 126 ∷ 119 ∷ 40 ∷ text = ap (λ l. 126 ∷ l ∷ paren ∷ text) (eqb-true letter 119 parts.0) ∙ ap (λ p. 126 ∷ 119 ∷ p ∷ text) (eqb-true paren 40 parts.1) in
    let whole = first ∙ ap (λ l. 126 ∷ 119 ∷ 40 ∷ l) (cut.split ∙ sym (append_assoc cut.inside (41 ∷ cut.modifier) found.1)) in
    subst (λ t. Begins (126 ∷ letter ∷ paren ∷ text) t found.1) (ap (λ f. f.0) cut.token) (words cut.within cut.cut cut.says cut.ends whole)

integer_found : (byte : ℕ) (text : List ℕ) (found : Token × List ℕ) → integer_at (byte ∷ text) ≡ Some found → Finds (byte ∷ text) found
integer_found byte text found e = by (eqb byte 45) refl e
  where
    by : (minus : Bool) → eqb byte 45 ≡ minus → cond minus (integer_of true text) (integer_of false (byte ∷ text)) ≡ Some found → Finds (byte ∷ text) found
    by true m e =
        let cut = integer_sound true text found e in
        subst (λ t. Begins (byte ∷ text) t found.1) (ap (λ f. f.0) cut.token) (integer (negative cut.numeral) cut.ends (ap (λ b. b ∷ text) (eqb-true byte 45 m) ∙ ap (λ l. 45 ∷ l) cut.split))
    by false m e =
        let cut = integer_sound false (byte ∷ text) found e in
        subst (λ t. Begins (byte ∷ text) t found.1) (ap (λ f. f.0) cut.token) (integer (plain cut.numeral) cut.ends cut.split)

second_found : (byte other : ℕ) (tok : Token) (text : List ℕ) (found : Token × List ℕ) → second_at other tok text ≡ Some found → (rest : List ℕ) × (byte ∷ text ≡ byte ∷ other ∷ rest) × ((tok, rest) ≡ found)
second_found byte other tok [] found e = absurd (none_some e)
second_found byte other tok (next ∷ text) found e =
    let a = cond_some (eqb next other) (Some (tok, text)) found e in
    (text, ap (λ n. byte ∷ n ∷ text) (eqb-true next other a.0), some_same a.1)

sign_found : (byte : ℕ) (text : List ℕ) (found : Token × List ℕ) (a b c d f g h : Bool) → eqb byte 91 ≡ a → eqb byte 93 ≡ b → eqb byte 123 ≡ c → eqb byte 125 ≡ d → eqb byte 37 ≡ f → eqb byte 44 ≡ g → eqb byte 61 ≡ h → sign_or_name (cond a (Some (Open bracket.List, text)) (cond b (Some (Close Square, text)) (cond c (Some (Open bracket.Tuple, text)) (cond d (Some (Close Curly, text)) (cond f (second_at 123 (Open bracket.Map) text) (cond g (Some (Comma, text)) (cond h (second_at 62 Arrow text) None))))))) (byte ∷ text) ≡ Some found → Finds (byte ∷ text) found
sign_found byte text found true b c d f g h p q r s t u v e = subst (λ x. Finds (byte ∷ text) x) (some_same e) (opens (ap (λ x. x ∷ text) (eqb-true byte 91 p)))
sign_found byte text found false true c d f g h p q r s t u v e = subst (λ x. Finds (byte ∷ text) x) (some_same e) (closes (ap (λ x. x ∷ text) (eqb-true byte 93 q)))
sign_found byte text found false false true d f g h p q r s t u v e = subst (λ x. Finds (byte ∷ text) x) (some_same e) (opens (ap (λ x. x ∷ text) (eqb-true byte 123 r)))
sign_found byte text found false false false true f g h p q r s t u v e = subst (λ x. Finds (byte ∷ text) x) (some_same e) (closes (ap (λ x. x ∷ text) (eqb-true byte 125 s)))
sign_found byte text found false false false false true g h p q r s t u v e = two (second_at 123 (Open bracket.Map) text) refl e
  where
    two : (o : Found Token) → second_at 123 (Open bracket.Map) text ≡ o → sign_or_name o (byte ∷ text) ≡ Some found → Finds (byte ∷ text) found
    two None o e = name_found (byte ∷ text) (name_len (byte ∷ text)) found refl e
    two (Some f) o e =
        let k = second_found byte 123 (Open bracket.Map) text f o in
        subst (λ x. Finds (byte ∷ text) x) (k.2 ∙ some_same e) (opens (k.1 ∙ ap (λ x. x ∷ 123 ∷ k.0) (eqb-true byte 37 t)))
sign_found byte text found false false false false false true h p q r s t u v e = subst (λ x. Finds (byte ∷ text) x) (some_same e) (comma (ap (λ x. x ∷ text) (eqb-true byte 44 u)))
sign_found byte text found false false false false false false true p q r s t u v e = two (second_at 62 Arrow text) refl e
  where
    two : (o : Found Token) → second_at 62 Arrow text ≡ o → sign_or_name o (byte ∷ text) ≡ Some found → Finds (byte ∷ text) found
    two None o e = name_found (byte ∷ text) (name_len (byte ∷ text)) found refl e
    two (Some f) o e =
        let k = second_found byte 62 Arrow text f o in
        subst (λ x. Finds (byte ∷ text) x) (k.2 ∙ some_same e) (arrow (k.1 ∙ ap (λ x. x ∷ 62 ∷ k.0) (eqb-true byte 61 v)))
sign_found byte text found false false false false false false false p q r s t u v e = name_found (byte ∷ text) (name_len (byte ∷ text)) found refl e

-- what the function finds, the text begins with
pub first_begins : (text : List ℕ) (found : Token × List ℕ) → first_token text ≡ Some found → Begins text found.0 found.1
first_begins [] found e = absurd (none_some e)
first_begins (byte ∷ text) found e = by (eqb byte 58) (eqb byte 34) (eqb byte 126) (eqb byte 45 || is_digit byte 10) refl refl refl e
  where
    by : (colon quote tilde number : Bool) → eqb byte 58 ≡ colon → eqb byte 34 ≡ quote → eqb byte 126 ≡ tilde → cond colon (atom_at text) (cond quote (string_at text) (cond tilde (words_at text) (cond number (integer_at (byte ∷ text)) (sign_or_name (sign_at (byte ∷ text)) (byte ∷ text))))) ≡ Some found → Finds (byte ∷ text) found
    by true quote tilde number c q t e = subst (λ b. Finds (b ∷ text) found) (sym (eqb-true byte 58 c)) (atom_found text found e)
    by false true tilde number c q t e = subst (λ b. Finds (b ∷ text) found) (sym (eqb-true byte 34 q)) (string_found text (quoted_at text) found refl e)
    by false false true number c q t e = subst (λ b. Finds (b ∷ text) found) (sym (eqb-true byte 126 t)) (words_found text found e)
    by false false false true c q t e = integer_found byte text found e
    by false false false false c q t e = sign_found byte text found _ _ _ _ _ _ _ refl refl refl refl refl refl refl e
