-- Signs, and their first faults.
use Rattle.std.specs.Prelude.{Ok, Err}
use Rattle.std.proofs.Common.{◌≡◌, ℕ, Bool, true, false, ◌&&◌, ◌||◌, inl, inr, List, [], ◌∷◌, Some, None, cond, eqb, refl, sym, ap, ◌∙◌, arith, subst}
use Rattle.std.proofs.lemmas.Bool.{eqb-true, true≢false, false≢true}
use Rattle.std.specs.Char.{is_digit}
use Rattle.term_tokens.specs.declared.bracket.Bracket.TheVariants as bracket
use Rattle.term_tokens.specs.declared.cause.Feature.TheVariants.{Charlist, Bits}
use Rattle.term_tokens.specs.declared.cause.TermCause.{TermCause}
use Rattle.term_tokens.specs.declared.cause.TermCause.TheVariants.{Unsupported, Unexpected}
use Rattle.term_tokens.specs.declared.expected.Expected.{Expected}
use Rattle.term_tokens.specs.declared.token.Closing.TheVariants.{Square, Curly}
use Rattle.term_tokens.specs.declared.token.Token.{Token}
use Rattle.term_tokens.specs.declared.token.Token.TheVariants.{Open, Close, Comma, Arrow}
use Rattle.term_tokens.specs.Lexed.{second_lexed, sign_lexed}
use Rattle.term_tokens.specs.Lexing.{first_token, sign_or_name, IsNarrow}
use Rattle.term_tokens.specs.Local.{starts_with, is_plain, is_closing, takes, IsShut, Locally, charlist, bits}
use Rattle.term_tokens.specs.Names.{is_name_start}
use Rattle.term_tokens.proofs.FaultLemmas.{Right, first_by, unexpected_at, unclosed_at, at_once, shut_none, shut_taken}
use Rattle.term_tokens.proofs.FaultForms.{lead, SignMark, Marked, Least, at_sign, sign_charlist, sign_bits}
use Rattle.term_tokens.proofs.OptionLemmas.{none_some, some_same}
use Rattle.term_tokens.proofs.BeginLemmas.{begins_first}
use Rattle.term_tokens.proofs.TokenLemmas.{first_begins}

-- no sign of what is not read begins so
no_mark : (e : Expected) (byte : ℕ) (text : List ℕ) (place : ℕ) (why : TermCause) → eqb byte 39 ≡ false → eqb byte 60 ≡ false → SignMark e (byte ∷ text) place why → ⊥
no_mark e byte text place why a b (sign_charlist t h) = true≢false (sym h ∙ a)
no_mark e byte text place why a b (sign_bits more t h) = true≢false (sym (ap (starts_with 60) h) ∙ b)

no_term : (e : Expected) (text : List ℕ) (place : ℕ) (why : TermCause) → e.term ≡ false → SignMark e text place why → ⊥
no_term e text place why n (sign_charlist t h) = true≢false (sym t ∙ n)
no_term e text place why n (sign_bits more t h) = true≢false (sym t ∙ n)

-- a token of one byte
one_byte : (e : Expected) (byte : ℕ) (tok : Token) (text : List ℕ) (may : Bool) → takes e tok ≡ may → IsNarrow tok → is_plain (byte ∷ text) tok ≡ false → ((more : List ℕ) → first_token (byte ∷ more) ≡ Some (tok, more)) → ((k : ℕ) (why : TermCause) → Marked (lead (byte ∷ text)) e (byte ∷ text) k why → ⊥) → Right e (byte ∷ text) (cond may (Ok (tok, text)) (Err (byte ∷ text, Unexpected)))
one_byte e byte tok text true t n p at clean = (first_begins (byte ∷ text) (tok, text) (at text), t, n, ap (λ x. x && starts_with 58 text) p, clean)
one_byte e byte tok text false t n p at clean = at_once e byte text (shut_taken e (byte ∷ []) (λ more found s. ap (takes e) (ap (λ f. f.0) (some_same (sym s ∙ at more))) ∙ t)) (λ place other m. absurd (clean place other m))

-- a token of two bytes
abbrev IsPair : ℕ → ℕ → Token → Type 0
IsPair first second tok = (first_token (first ∷ []) ≡ None) × ((next : ℕ) (more : List ℕ) → first_token (first ∷ next ∷ more) ≡ cond (eqb next second) (Some (tok, more)) None)

pair_shut : (e : Expected) (first second : ℕ) (tok : Token) → IsPair first second tok → takes e tok ≡ false → IsShut e (first ∷ [])
pair_shut e first second tok pair n = shut_taken e (first ∷ []) found
  where
    found : (more : List ℕ) (f : Token × List ℕ) → first_token (first ∷ more) ≡ Some f → takes e f.0 ≡ false
    found [] f s = absurd (none_some (sym pair.0 ∙ s))
    found (next ∷ more) f s = by (eqb next second) refl
      where
        by : (same : Bool) → eqb next second ≡ same → takes e f.0 ≡ false
        by true q = ap (takes e) (ap (λ f. f.0) (some_same (sym s ∙ pair.1 next more ∙ ap (λ b. cond b (Some (tok, more)) None) q))) ∙ n
        by false q = absurd (none_some (sym (pair.1 next more ∙ ap (λ b. cond b (Some (tok, more)) None) q) ∙ s))

two_bytes : (e : Expected) (first second : ℕ) (tok : Token) (text : List ℕ) (may : Bool) → takes e tok ≡ may → IsNarrow tok → ((l : List ℕ) → is_plain l tok ≡ false) → eqb second second ≡ true → IsPair first second tok → ((k : ℕ) (why : TermCause) → Marked (lead (first ∷ text)) e (first ∷ text) k why → ⊥) → Right e (first ∷ text) (cond may (second_lexed second tok text) (Err (first ∷ text, Unexpected)))
two_bytes e first second tok text false t n p same pair clean = at_once e first text (pair_shut e first second tok pair t) (λ place other m. absurd (clean place other m))
two_bytes e first second tok [] true t n p same pair clean =
    unclosed_at e (first ∷ []) (inr (tok, second ∷ [], first_begins (first ∷ second ∷ []) (tok, []) (pair.1 second [] ∙ ap (λ b. cond b (Some (tok, [])) None) same), t))
    (λ other after b _ _. none_some (sym pair.0 ∙ begins_first b)) (λ place other m. absurd (clean place other m))
two_bytes e first second tok (next ∷ text) true t n p same pair clean = by (eqb next second) refl
  where
    by : (yes : Bool) → eqb next second ≡ yes → Right e (first ∷ next ∷ text) (cond yes (Ok (tok, text)) (Err (next ∷ text, Unexpected)))
    by true q = (first_begins (first ∷ next ∷ text) (tok, text) (pair.1 next text ∙ ap (λ b. cond b (Some (tok, text)) None) q), t, n, ap (λ x. x && starts_with 58 text) (p (first ∷ next ∷ text)), clean)
    by false q = unexpected_at e (first ∷ next ∷ text) (first ∷ []) text next refl
        (inr (tok, second ∷ [], first_begins (first ∷ second ∷ []) (tok, []) (pair.1 second [] ∙ ap (λ b. cond b (Some (tok, [])) None) same), t))
        (shut_none e (first ∷ next ∷ []) (λ more. pair.1 next more ∙ ap (λ b. cond b (Some (tok, more)) None) q)) (λ place other m. absurd (clean place other m))

map_pair : IsPair 37 123 (Open bracket.Map)
map_pair = (refl, λ next more. by next more (eqb next 123) refl)
  where
    by : (next : ℕ) (more : List ℕ) (yes : Bool) → eqb next 123 ≡ yes → sign_or_name (cond yes (Some (Open bracket.Map, more)) None) (37 ∷ next ∷ more) ≡ cond yes (Some (Open bracket.Map, more)) None
    by next more true q = refl
    by next more false q = refl

arrow_pair : IsPair 61 62 Arrow
arrow_pair = (refl, λ next more. by next more (eqb next 62) refl)
  where
    by : (next : ℕ) (more : List ℕ) (yes : Bool) → eqb next 62 ≡ yes → sign_or_name (cond yes (Some (Arrow, more)) None) (61 ∷ next ∷ more) ≡ cond yes (Some (Arrow, more)) None
    by next more true q = refl
    by next more false q = refl

charlist_right : (e : Expected) (text : List ℕ) (may : Bool) → e.term ≡ may → Right e (39 ∷ text) (cond may (Err (39 ∷ text, Unsupported Charlist)) (Err (39 ∷ text, Unexpected)))
charlist_right e text true t = first_by e (39 ∷ text) [] (39 ∷ text) (Unsupported Charlist) refl (inl refl) (omega arith) (λ h. cc) (charlist t) (λ place other m. at m)
  where
    at : {place : ℕ} {other : TermCause} → SignMark e (39 ∷ text) place other → Least 0 (Unsupported Charlist) place other
    at (sign_charlist t h) = inr (refl, omega arith)
    at (sign_bits more t h) = inr (refl, omega arith)
charlist_right e text false t = at_once e 39 text (shut_none e (39 ∷ []) (λ more. refl)) (λ place other m. absurd (no_term e (39 ∷ text) place other t m))

bits_right : (e : Expected) (text : List ℕ) (may : Bool) → e.term ≡ may → Right e (60 ∷ text) (cond may (cond (starts_with 60 text) (Err (60 ∷ text, Unsupported Bits)) (Err (60 ∷ text, Unexpected))) (Err (60 ∷ text, Unexpected)))
bits_right e text false t = at_once e 60 text (shut_none e (60 ∷ []) (λ more. refl)) (λ place other m. absurd (no_term e (60 ∷ text) place other t m))
bits_right e [] true t = at_once e 60 [] (shut_none e (60 ∷ []) (λ more. refl)) (λ place other m. absurd (at m))
  where
    at : {place : ℕ} {other : TermCause} → SignMark e (60 ∷ []) place other → ⊥
    at (sign_charlist t h) = false≢true h
    at (sign_bits more t h) = cc
bits_right e (next ∷ text) true t = by (eqb next 60) refl
  where
    at : {place : ℕ} {other : TermCause} → SignMark e (60 ∷ next ∷ text) place other → Least 0 (Unsupported Bits) place other
    at (sign_charlist t h) = absurd (false≢true h)
    at (sign_bits more t h) = inr (refl, omega arith)

    none : eqb next 60 ≡ false → {place : ℕ} {other : TermCause} → SignMark e (60 ∷ next ∷ text) place other → ⊥
    none q (sign_charlist t h) = false≢true h
    none q (sign_bits more t h) = let s : next ≡ 60 = cc in true≢false (sym (ap (λ n. eqb n 60) s) ∙ q)

    by : (yes : Bool) → eqb next 60 ≡ yes → Right e (60 ∷ next ∷ text) (cond yes (Err (60 ∷ next ∷ text, Unsupported Bits)) (Err (60 ∷ next ∷ text, Unexpected)))
    by true q = first_by e (60 ∷ next ∷ text) [] (60 ∷ next ∷ text) (Unsupported Bits) refl (inl refl) (omega arith) (λ h. cc)
        (subst (λ n. Locally e (60 ∷ n ∷ text) 0 (Unsupported Bits)) (sym (eqb-true next 60 q)) (bits t)) (λ place other m. at m)
    by false q = at_once e 60 (next ∷ text) (shut_none e (60 ∷ []) (λ more. refl)) (λ place other m. absurd (none q m))

-- a sign is read or refused as it is to be
pub sign_right : (e : Expected) (byte : ℕ) (text : List ℕ) → eqb byte 58 ≡ false → eqb byte 34 ≡ false → eqb byte 126 ≡ false → (eqb byte 45 || is_digit byte 10) ≡ false → is_name_start byte ≡ false → Right e (byte ∷ text) (sign_lexed e (byte ∷ text))
sign_right e byte text colon quote tilde number name = square (eqb byte 91) refl
  where
    at : (b : ℕ) → eqb byte b ≡ true → Right e (b ∷ text) (sign_lexed e (b ∷ text)) → Right e (byte ∷ text) (sign_lexed e (byte ∷ text))
    at b q r = subst (λ x. Right e (x ∷ text) (sign_lexed e (x ∷ text))) (sym (eqb-true byte b q)) r

    clear : (b : ℕ) → lead (b ∷ text) ≡ at_sign → eqb b 39 ≡ false → eqb b 60 ≡ false → (place : ℕ) (other : TermCause) → Marked (lead (b ∷ text)) e (b ∷ text) place other → ⊥
    clear b l a c place other m = (no_mark e b text place other a c (subst (λ x. Marked x e (b ∷ text) place other) l m))

    rest : eqb byte 91 ≡ false → eqb byte 93 ≡ false → eqb byte 123 ≡ false → eqb byte 125 ≡ false → eqb byte 44 ≡ false → eqb byte 37 ≡ false → eqb byte 61 ≡ false → eqb byte 39 ≡ false → eqb byte 60 ≡ false → Right e (byte ∷ text) (sign_lexed e (byte ∷ text))
    rest a b c d f g h i j =
        let l : lead (byte ∷ text) ≡ at_sign = rw (colon, quote, tilde, number, name) refl in
        let k : sign_lexed e (byte ∷ text) ≡ Err (byte ∷ text, Unexpected) = rw (a, b, c, d, f, g, h, i, j) refl in
        subst (λ x. Right e (byte ∷ text) x) (sym k) (at_once e byte text (shut_none e (byte ∷ []) (λ more. rw (colon, quote, tilde, number, a, b, c, d, g, f, h, name) refl)) (λ place other m. absurd (clear byte l i j place other m)))

    less : eqb byte 91 ≡ false → eqb byte 93 ≡ false → eqb byte 123 ≡ false → eqb byte 125 ≡ false → eqb byte 44 ≡ false → eqb byte 37 ≡ false → eqb byte 61 ≡ false → eqb byte 39 ≡ false → (yes : Bool) → eqb byte 60 ≡ yes → Right e (byte ∷ text) (sign_lexed e (byte ∷ text))
    less a b c d f g h i true q = at 60 q (bits_right e text e.term refl)
    less a b c d f g h i false q = rest a b c d f g h i q

    tick : eqb byte 91 ≡ false → eqb byte 93 ≡ false → eqb byte 123 ≡ false → eqb byte 125 ≡ false → eqb byte 44 ≡ false → eqb byte 37 ≡ false → eqb byte 61 ≡ false → (yes : Bool) → eqb byte 39 ≡ yes → Right e (byte ∷ text) (sign_lexed e (byte ∷ text))
    tick a b c d f g h true q = at 39 q (charlist_right e text e.term refl)
    tick a b c d f g h false q = less a b c d f g h q (eqb byte 60) refl

    equals : eqb byte 91 ≡ false → eqb byte 93 ≡ false → eqb byte 123 ≡ false → eqb byte 125 ≡ false → eqb byte 44 ≡ false → eqb byte 37 ≡ false → (yes : Bool) → eqb byte 61 ≡ yes → Right e (byte ∷ text) (sign_lexed e (byte ∷ text))
    equals a b c d f g true q = at 61 q (two_bytes e 61 62 Arrow text e.arrow refl tt (λ l. refl) refl arrow_pair (clear 61 refl refl refl))
    equals a b c d f g false q = tick a b c d f g q (eqb byte 39) refl

    percent : eqb byte 91 ≡ false → eqb byte 93 ≡ false → eqb byte 123 ≡ false → eqb byte 125 ≡ false → eqb byte 44 ≡ false → (yes : Bool) → eqb byte 37 ≡ yes → Right e (byte ∷ text) (sign_lexed e (byte ∷ text))
    percent a b c d f true q = at 37 q (two_bytes e 37 123 (Open bracket.Map) text e.term refl tt (λ l. refl) refl map_pair (clear 37 refl refl refl))
    percent a b c d f false q = equals a b c d f q (eqb byte 61) refl

    comma : eqb byte 91 ≡ false → eqb byte 93 ≡ false → eqb byte 123 ≡ false → eqb byte 125 ≡ false → (yes : Bool) → eqb byte 44 ≡ yes → Right e (byte ∷ text) (sign_lexed e (byte ∷ text))
    comma a b c d true q = at 44 q (one_byte e 44 Comma text e.comma refl tt refl (λ more. refl) (clear 44 refl refl refl))
    comma a b c d false q = percent a b c d q (eqb byte 37) refl

    curly_end : eqb byte 91 ≡ false → eqb byte 93 ≡ false → eqb byte 123 ≡ false → (yes : Bool) → eqb byte 125 ≡ yes → Right e (byte ∷ text) (sign_lexed e (byte ∷ text))
    curly_end a b c true q = at 125 q (one_byte e 125 (Close Curly) text (is_closing e.closing Curly) refl tt refl (λ more. refl) (clear 125 refl refl refl))
    curly_end a b c false q = comma a b c q (eqb byte 44) refl

    curly : eqb byte 91 ≡ false → eqb byte 93 ≡ false → (yes : Bool) → eqb byte 123 ≡ yes → Right e (byte ∷ text) (sign_lexed e (byte ∷ text))
    curly a b true q = at 123 q (one_byte e 123 (Open bracket.Tuple) text e.term refl tt refl (λ more. refl) (clear 123 refl refl refl))
    curly a b false q = curly_end a b q (eqb byte 125) refl

    square_end : eqb byte 91 ≡ false → (yes : Bool) → eqb byte 93 ≡ yes → Right e (byte ∷ text) (sign_lexed e (byte ∷ text))
    square_end a true q = at 93 q (one_byte e 93 (Close Square) text (is_closing e.closing Square) refl tt refl (λ more. refl) (clear 93 refl refl refl))
    square_end a false q = curly a q (eqb byte 123) refl

    square : (yes : Bool) → eqb byte 91 ≡ yes → Right e (byte ∷ text) (sign_lexed e (byte ∷ text))
    square true q = at 91 q (one_byte e 91 (Open bracket.List) text e.term refl tt refl (λ more. refl) (clear 91 refl refl refl))
    square false q = square_end q (eqb byte 93) refl
