-- Lists of words, and their first faults.
use Rattle.std.specs.Prelude.{not, Ok, Err}
use Rattle.std.proofs.Common.{◌≡◌, ℕ, suc, ◌+◌, ◌≤◌, Bool, true, false, ◌&&◌, ◌||◌, inl, inr, List, [], ◌∷◌, ◌++◌, Some, None, length, take, drop, cond, eqb, refl, sym, ap, ◌∙◌, arith, subst, eq-eqb}
use Rattle.std.proofs.lemmas.Bool.{not-true, and_parts, and_from, or_from, eqb-true, true≢false}
use Rattle.std.proofs.lemmas.List.{drop_at, take-append-drop, append-nil}
use Rattle.term_tokens.specs.declared.cause.Feature.TheVariants.{Sigil, Interpolation}
use Rattle.term_tokens.specs.declared.cause.TermCause.{TermCause}
use Rattle.term_tokens.specs.declared.cause.TermCause.TheVariants.{Unsupported, BadEscape, Unclosed, Unexpected}
use Rattle.term_tokens.specs.declared.expected.Expected.{Expected}
use Rattle.term_tokens.specs.declared.token.Token.{Token}
use Rattle.term_tokens.specs.declared.token.Token.TheVariants.{Words}
use Rattle.term_tokens.specs.declared.token.WordKind.{WordKind}
use Rattle.term_tokens.specs.declared.token.WordKind.TheVariants.{Strings}
use Rattle.term_tokens.specs.Lexed.{broken, words_stop, after_tilde_lexed, words_lexed}
use Rattle.term_tokens.specs.Lexing.{first_token, inside_len, kind_of, words_from, words_before, words_in, words_at}
use Rattle.term_tokens.specs.Local.{rank, starts_with, takes, IsPart, Locally, sigil, interpolated_words, escape_in_words}
use Rattle.term_tokens.specs.Strings.{opens_interpolation}
use Rattle.term_tokens.specs.Tokens.{words}
use Rattle.term_tokens.specs.Words.{is_inside, none}
use Rattle.term_tokens.proofs.FaultLemmas.{Right, first_by, unclosed_at, at_once, shut_taken, broken_by_slash, broken_by_opening, broken_one, broken_some, broken_no_brace}
use Rattle.term_tokens.proofs.FaultForms.{Least, IsBroken, TildeMark, tilde_sigil, tilde_broken}
use Rattle.term_tokens.proofs.OptionLemmas.{none_some, some_same, cond_some}
use Rattle.term_tokens.proofs.StringLemmas.{opens_before}
use Rattle.term_tokens.proofs.BeginLemmas.{begins_first}
use Rattle.term_tokens.proofs.TokenLemmas.{first_begins}
use Rattle.term_tokens.proofs.ListedWords.{inside_sound, cut_sound}

-- the token is a list of words
words_token : (text : List ℕ) (found : Token × List ℕ) → words_at text ≡ Some found → (kind : WordKind) × (words : List (List ℕ)) × (found.0 ≡ Words kind words)
words_token [] found h = absurd (none_some h)
words_token (letter ∷ []) found h = absurd (none_some h)
words_token (letter ∷ paren ∷ text) found h = at (take (inside_len text) text) (drop (inside_len text) text) (cond_some (eqb letter 119 && eqb paren 40) (words_in text) found h).1
  where
    at : (inside rest : List ℕ) → words_before inside rest ≡ Some found → (kind : WordKind) × (words : List (List ℕ)) × (found.0 ≡ Words kind words)
    at inside [] h = absurd (none_some h)
    at inside (end ∷ rest) h = let a = cond_some (eqb end 41) _ found h in (_, _, ap (λ f. f.0) (sym (some_same a.1)))

-- how much stands between the parentheses before such a rest

inside_until : (inside rest : List ℕ) → is_inside inside ≡ true → inside_len rest ≡ 0 → starts_with 123 rest ≡ false → inside_len (inside ++ rest) ≡ length inside
inside_until [] rest h z b = z
inside_until (byte ∷ inside) rest h z b =
    let stops = (eqb byte 41 || eqb byte 92) || opens_interpolation byte inside in
    let parts = and_parts (not stops) (is_inside inside) h in
    ap (λ o. cond ((eqb byte 41 || eqb byte 92) || o) 0 (suc (inside_len (inside ++ rest)))) (opens_before byte inside rest b)
    ∙ ap (λ t. cond t 0 (suc (inside_len (inside ++ rest)))) (not-true stops parts.0)
    ∙ ap suc (inside_until inside rest parts.1 z b)

stop_zero : (text : List ℕ) → inside_len (drop (inside_len text) text) ≡ 0
stop_zero [] = refl
stop_zero (byte ∷ text) = by ((eqb byte 41 || eqb byte 92) || opens_interpolation byte text) refl (stop_zero text)
  where
    by : (stops : Bool) → ((eqb byte 41 || eqb byte 92) || opens_interpolation byte text) ≡ stops → inside_len (drop (inside_len text) text) ≡ 0 → inside_len (drop (cond stops 0 (suc (inside_len text))) (byte ∷ text)) ≡ 0
    by true s ih = ap (λ t. cond t 0 (suc (inside_len text))) s
    by false s ih = ih

stop_broken : (byte : ℕ) (after : List ℕ) → inside_len (byte ∷ after) ≡ 0 → eqb byte 41 ≡ false → IsBroken (byte ∷ after) (broken byte)
stop_broken byte after z q = by (eqb byte 92) (opens_interpolation byte after) refl refl
  where
    by : (slash opens : Bool) → eqb byte 92 ≡ slash → opens_interpolation byte after ≡ opens → IsBroken (byte ∷ after) (broken byte)
    by true opens s o = broken_by_slash byte after s
    by false true s o = broken_by_opening byte after s o
    by false false s o =
        let k : inside_len (byte ∷ after) ≡ suc (inside_len after) = ap (λ t. cond t 0 (suc (inside_len after))) (or_from (eqb byte 41 || eqb byte 92) (opens_interpolation byte after) (or_from (eqb byte 41) (eqb byte 92) q s) o) in
        absurd (omega (arith, k, z))

broken_zero : (rest : List ℕ) (why : TermCause) → IsBroken rest why → inside_len rest ≡ 0
broken_zero rest why (more, inl h) = ap inside_len h.0
broken_zero rest why (more, inr h) = ap inside_len h.0

-- marks

no_term : (e : Expected) (after : List ℕ) {place : ℕ} {why : TermCause} → e.term ≡ false → TildeMark e after place why → ⊥
no_term e after n (tilde_sigil t a b c) = true≢false (sym t ∙ n)
no_term e after n (tilde_broken inside rest t i b s p) = true≢false (sym t ∙ n)

sigil_first : (e : Expected) (after : List ℕ) {place : ℕ} {why : TermCause} → TildeMark e after place why → Least 0 (Unsupported Sigil) place why
sigil_first e after (tilde_sigil t a b c) = inr (refl, omega arith)
sigil_first e after (tilde_broken inside rest t i b s p) = inl (omega (arith, p))

sigil_right : (e : Expected) (after : List ℕ) → e.term ≡ true → (after ≡ [] → ⊥) → (after ≡ 119 ∷ [] → ⊥) → ((rest : List ℕ) → after ≡ 119 ∷ 40 ∷ rest → ⊥) → Right e (126 ∷ after) (Err (126 ∷ after, Unsupported Sigil))
sigil_right e after t a b c = first_by e (126 ∷ after) [] (126 ∷ after) (Unsupported Sigil) refl (inl refl) (omega arith) (λ h. cc) (sigil t a b c) (λ place other m. sigil_first e after m)

-- after the opening parenthesis
module _ (e : Expected) (inside rest : List ℕ) (t : e.term ≡ true) (i : is_inside inside ≡ true) (z : inside_len rest ≡ 0) where
  words_part : IsPart e (126 ∷ 119 ∷ 40 ∷ inside)
  words_part =
      let s : (126 ∷ 119 ∷ 40 ∷ inside) ++ 41 ∷ [] ≡ 126 ∷ 119 ∷ 40 ∷ inside ++ 41 ∷ [] ++ [] = ap (λ l. 126 ∷ 119 ∷ 40 ∷ l) (sym (append-nil (inside ++ 41 ∷ []))) in
      inr (Words Strings (words_from [] inside), 41 ∷ [], words {inside = inside} {modifier = []} {rest = []} i (cut_sound inside) none refl s, t)

  words_place : length (126 ∷ 119 ∷ 40 ∷ inside) ≡ 3 + length inside
  words_place = omega arith

  -- the only mark is where the inside stops
  words_mark : {place : ℕ} {why : TermCause} → TildeMark e (119 ∷ 40 ∷ inside ++ rest) place why → starts_with 123 rest ≡ false → (place ≡ length (126 ∷ 119 ∷ 40 ∷ inside)) × IsBroken rest why
  words_mark (tilde_sigil u a b c) n = absurd (c (inside ++ rest) refl)
  words_mark {place = place} {why = why} (tilde_broken other stop u j b s p) n =
      let tail : inside ++ rest ≡ other ++ stop = cc in
      let same : length inside ≡ length other = sym (inside_until inside rest i z n) ∙ ap inside_len tail ∙ inside_until other stop j (broken_zero stop why b) (broken_no_brace stop why b) in
      let cut : rest ≡ stop = sym (drop_at inside rest (length other) same) ∙ ap (drop (length other)) tail ∙ drop_at other stop (length other) refl in
      (omega (arith, p, same), subst (λ l. IsBroken l why) (sym cut) b)

stop_right : (e : Expected) (inside rest : List ℕ) → e.term ≡ true → is_inside inside ≡ true → inside_len rest ≡ 0 → starts_with 123 rest ≡ false → words_before inside rest ≡ first_token (126 ∷ 119 ∷ 40 ∷ inside ++ rest) → Right e (126 ∷ 119 ∷ 40 ∷ inside ++ rest) (words_stop inside rest)
stop_right e inside [] t i z n f = subst (λ l. Right e (126 ∷ 119 ∷ 40 ∷ l) (Err ([], Unclosed))) (sym (append-nil inside)) (unclosed_at e (126 ∷ 119 ∷ 40 ∷ inside) (words_part e inside [] t i z)
    (λ tok after b u g. none_some (f ∙ ap (λ l. first_token (126 ∷ 119 ∷ 40 ∷ l)) (append-nil inside) ∙ begins_first b))
    (λ place other m. let x = words_mark e inside [] t i z (subst (λ l. TildeMark e (119 ∷ 40 ∷ l) place other) (sym (append-nil inside)) m) refl in absurd (broken_some [] other x.1 refl)))
stop_right e inside (byte ∷ after) t i z n f = by (eqb byte 41) refl
  where
    holds : IsBroken (byte ∷ after) (broken byte) → Locally e (126 ∷ 119 ∷ 40 ∷ inside ++ byte ∷ after) (3 + length inside) (broken byte)
    holds (more, inl h) = subst (λ c. Locally e (126 ∷ 119 ∷ 40 ∷ inside ++ byte ∷ after) (3 + length inside) c) (sym h.1) (interpolated_words inside more t i (ap (λ l. 126 ∷ 119 ∷ 40 ∷ inside ++ l) h.0))
    holds (more, inr h) = subst (λ c. Locally e (126 ∷ 119 ∷ 40 ∷ inside ++ byte ∷ after) (3 + length inside) c) (sym h.1) (escape_in_words inside more t i (ap (λ l. 126 ∷ 119 ∷ 40 ∷ inside ++ l) h.0))

    closed : eqb byte 41 ≡ true → {why : TermCause} → IsBroken (byte ∷ after) why → ⊥
    closed q (more, inl h) = let same : byte ≡ 35 = cc in omega (arith, same, eqb-true byte 41 q)
    closed q (more, inr h) = let same : byte ≡ 92 = cc in omega (arith, same, eqb-true byte 41 q)

    low : (b : ℕ) → rank (broken b) ≤ 14
    low b = at (eqb b 92)
      where
        at : (slash : Bool) → rank (cond slash BadEscape (Unsupported Interpolation)) ≤ 14
        at true = omega arith
        at false = omega arith

    by : (end : Bool) → eqb byte 41 ≡ end → Right e (126 ∷ 119 ∷ 40 ∷ inside ++ byte ∷ after) (cond end (Ok (Words (kind_of after).0 (words_from [] inside), (kind_of after).1)) (Err (byte ∷ after, broken byte)))
    by true q =
        let found : Token × List ℕ = (Words (kind_of after).0 (words_from [] inside), (kind_of after).1) in
        (first_begins (126 ∷ 119 ∷ 40 ∷ inside ++ byte ∷ after) found (sym f ∙ ap (λ x. cond x (Some found) None) q), t, tt, refl, λ place why m. closed q (words_mark e inside (byte ∷ after) t i z m n).1)
    by false q =
        let b = stop_broken byte after z q in
        first_by e (126 ∷ 119 ∷ 40 ∷ inside ++ byte ∷ after) (126 ∷ 119 ∷ 40 ∷ inside) (byte ∷ after) (broken byte) refl (words_part e inside (byte ∷ after) t i z) (low byte) (λ h. cc)
        (subst (λ k. Locally e (126 ∷ 119 ∷ 40 ∷ inside ++ byte ∷ after) k (broken byte)) (sym (words_place e inside (byte ∷ after) t i z)) (holds b))
        (λ place other m. let x = words_mark e inside (byte ∷ after) t i z m n in inr (sym x.0, omega (arith, ap rank (broken_one (byte ∷ after) other byte after x.1 refl))))

-- nothing that opens a string's value stands where the inside stops
stop_no_brace : (rest : List ℕ) → inside_len rest ≡ 0 → starts_with 123 rest ≡ false
stop_no_brace [] z = refl
stop_no_brace (byte ∷ rest) z = by (eqb byte 123) refl
  where
    by : (brace : Bool) → eqb byte 123 ≡ brace → brace ≡ false
    by false q = refl
    by true q = let b = eqb-true byte 123 q in let k : inside_len (byte ∷ rest) ≡ inside_len (123 ∷ rest) = ap (λ x. inside_len (x ∷ rest)) b in absurd (one rest (sym k ∙ z))
      where
        one : (rest : List ℕ) → inside_len (123 ∷ rest) ≡ 0 → ⊥
        one [] h = omega (arith, h)
        one (next ∷ rest) h = omega (arith, h)

inside_right : (e : Expected) (text : List ℕ) → e.term ≡ true → Right e (126 ∷ 119 ∷ 40 ∷ text) (words_stop (take (inside_len text) text) (drop (inside_len text) text))
inside_right e text t =
    let split = take-append-drop (inside_len text) text in
    let z = stop_zero text in
    subst (λ l. Right e (126 ∷ 119 ∷ 40 ∷ l) (words_stop (take (inside_len text) text) (drop (inside_len text) text))) split
    (stop_right e (take (inside_len text) text) (drop (inside_len text) text) t (inside_sound text) z (stop_no_brace (drop (inside_len text) text) z) (ap (λ l. first_token (126 ∷ 119 ∷ 40 ∷ l)) (sym split)))

open_right : (e : Expected) (text : List ℕ) → e.term ≡ true → Right e (126 ∷ text) (after_tilde_lexed (126 ∷ text) text)
open_right e [] t = unclosed_at e (126 ∷ []) (inr (Words Strings [], 119 ∷ 40 ∷ 41 ∷ [], first_begins (126 ∷ 119 ∷ 40 ∷ 41 ∷ []) (Words Strings [], []) refl, t)) (λ tok after b u f. none_some (begins_first b)) (λ place other m. absurd (late m))
  where
    late : {place : ℕ} {why : TermCause} → TildeMark e [] place why → ⊥
    late (tilde_sigil u a b c) = a refl
    late (tilde_broken inside rest u i b s p) = cc
open_right e (letter ∷ []) t = by (eqb letter 119) refl
  where
    late : {place : ℕ} {why : TermCause} → TildeMark e (119 ∷ []) place why → ⊥
    late (tilde_sigil u a b c) = b refl
    late (tilde_broken inside rest u i b s p) = cc

    by : (w : Bool) → eqb letter 119 ≡ w → Right e (126 ∷ letter ∷ []) (cond w (Err ([], Unclosed)) (Err (126 ∷ letter ∷ [], Unsupported Sigil)))
    by true q = subst (λ b. Right e (126 ∷ b ∷ []) (Err ([], Unclosed))) (sym (eqb-true letter 119 q)) (unclosed_at e (126 ∷ 119 ∷ []) (inr (Words Strings [], 40 ∷ 41 ∷ [], first_begins (126 ∷ 119 ∷ 40 ∷ 41 ∷ []) (Words Strings [], []) refl, t)) (λ tok after b u f. none_some (begins_first b)) (λ place other m. absurd (late m)))
    by false q = sigil_right e (letter ∷ []) t (λ h. cc) (λ h. let same : letter ≡ 119 = cc in true≢false (sym (eq-eqb letter 119 same) ∙ q)) (λ rest h. cc)
open_right e (letter ∷ paren ∷ text) t = by (eqb letter 119 && eqb paren 40) refl
  where
    by : (w : Bool) → (eqb letter 119 && eqb paren 40) ≡ w → Right e (126 ∷ letter ∷ paren ∷ text) (cond w (words_stop (take (inside_len text) text) (drop (inside_len text) text)) (Err (126 ∷ letter ∷ paren ∷ text, Unsupported Sigil)))
    by true q =
        let p = and_parts (eqb letter 119) (eqb paren 40) q in
        let s : letter ∷ paren ∷ text ≡ 119 ∷ 40 ∷ text = ap (λ l. l ∷ paren ∷ text) (eqb-true letter 119 p.0) ∙ ap (λ l. 119 ∷ l ∷ text) (eqb-true paren 40 p.1) in
        subst (λ l. Right e (126 ∷ l) (words_stop (take (inside_len text) text) (drop (inside_len text) text))) (sym s) (inside_right e text t)
    by false q = sigil_right e (letter ∷ paren ∷ text) t (λ h. cc) (λ h. cc) (λ rest h. let a : letter ≡ 119 = cc in let b : paren ≡ 40 = cc in true≢false (sym (and_from (eqb letter 119) (eqb paren 40) (eq-eqb letter 119 a) (eq-eqb paren 40 b)) ∙ q))

-- a list of words is read or refused as it is to be
pub words_right : (e : Expected) (text : List ℕ) → Right e (126 ∷ text) (words_lexed e (126 ∷ text) text)
words_right e text = by e.term refl
  where
    by : (term : Bool) → e.term ≡ term → Right e (126 ∷ text) (cond term (after_tilde_lexed (126 ∷ text) text) (Err (126 ∷ text, Unexpected)))
    by true t = open_right e text t
    by false t = at_once e 126 text (shut_taken e (126 ∷ []) (λ more found h. ap (takes e) (words_token more found h).2 ∙ t)) (λ place other m. absurd (no_term e text t m))
