-- Where a token stands nothing is to refuse, but a fraction behind an integer and three quotes.
use Rattle.std.specs.Prelude.{IsTrue, codes, option_map, ℤ}
use Rattle.std.proofs.Common.{◌≡◌, ℕ, zero, suc, ◌+◌, Bool, true, false, not, ◌&&◌, ◌||◌, ◌==◌, eqb, cond, List, [], ◌∷◌, ◌++◌, Option, Some, None, length, take, drop, refl, sym, ap, ◌∙◌, subst, arith, append_assoc, ⊎_elim}
use Rattle.std.proofs.lemmas.Bool.{and_parts, and_right, or_cases, or_parts, eqb-true, not-true, true≢false, false≢true}
use Rattle.std.proofs.lemmas.List.{take_at, drop_at, take-append-drop, length-append, append-nil}
use Rattle.term_tokens.specs.declared.cause.Feature.TheVariants.{Heredoc, Float}
use Rattle.term_tokens.specs.declared.cause.TermCause.{TermCause}
use Rattle.term_tokens.specs.declared.cause.TermCause.TheVariants as cause
use Rattle.term_tokens.specs.declared.expected.Expected.{Expected}
use Rattle.term_tokens.specs.declared.token.Token.{Token}
use Rattle.term_tokens.specs.declared.token.Token.TheVariants.{Atom, Int, Str, Key}
use Rattle.term_tokens.specs.Lexing.{Found, IsNarrow, after_colon, escape_at, escaped, quoted_past, quoted_at, before, utf8_only, quoted_atom_of, key_or_atom, key_or_string, string_of, inside_len, words_before, words_in, words_at, name_len, name_of, first_token}
use Rattle.term_tokens.specs.Local.{IsOpening, IsDecimal, IsNoEscape, IsFloat, starts_with, is_plain, IsFree, takes, Locally, charlist, sigil, heredoc, bits, interpolation, interpolated_words, float, alias_alone, alias, escape, escape_in_words, atom_utf8, key_utf8, number, colon_after, unclosed, unexpected}
use Rattle.term_tokens.specs.Names.{is_from, is_name_start, is_name, is_bare_atom}
use Rattle.term_tokens.specs.Numbers.{decimal, plain, negative}
use Rattle.term_tokens.specs.Strings.{opens_interpolation, Quoted, end, literal, escape as quoted_escape}
use Rattle.term_tokens.proofs.FollowLemmas.{bare_first}
use Rattle.term_tokens.specs.Tokens.{ends_name, is_colon, Begins, bare_atom, integer, string, atom, quoted_atom, words, key, quoted_key, opens, closes, comma, arrow}
use Rattle.term_tokens.specs.Words.{is_inside}
use Rattle.term_tokens.proofs.NameLemmas.{ends_from_test, colon_ends}
use Rattle.term_tokens.proofs.OptionLemmas.{none_some, some_same, cond_some, map_some}
use Rattle.term_tokens.proofs.StringParts.{escape_complete, escape_sound, quoted_complete, quoted_drop, utf8_refused}
use Rattle.term_tokens.proofs.TokenLaws.{begins_one}
use Rattle.term_tokens.proofs.BeginLemmas.{begins_first, name_first, start_is_name, name_more, colon_key, colon_none, bytes_same, bare_named}

-- what is refused although a token stands there
pub data Marred : List ℕ → Token → List ℕ → ℕ → TermCause → Type 0 where
  fraction : {text : List ℕ} {tok : Token} {after : List ℕ} {k : ℕ} (n : ℤ) (more : List ℕ) → tok ≡ Int n → IsFloat text → k + length after ≡ length text → after ≡ 46 ∷ more → Marred text tok after k (cause.Unsupported Float)
  quotes : {text : List ℕ} {tok : Token} {after : List ℕ} (more : List ℕ) → text ≡ 34 ∷ 34 ∷ 34 ∷ more → tok ≡ Str [] → after ≡ 34 ∷ more → Marred text tok after 0 (cause.Unsupported Heredoc)

nothing_begins : {text : List ℕ} {tok : Token} {after : List ℕ} → first_token text ≡ None → Begins text tok after → ⊥
nothing_begins e h = none_some (sym e ∙ begins_first h)

-- strings that go on with what refuses them

opens_either : (byte : ℕ) (text : List ℕ) (b : Bool) → opens_interpolation byte text ≡ b → eqb byte 34 ≡ false → eqb byte 92 ≡ false → quoted_at text ≡ None → quoted_at (byte ∷ text) ≡ None
opens_either byte text true o a c h = rw (a, c, o) refl
opens_either byte text false o a c h = rw (a, c, o) (ap (before (byte ∷ [])) h)

quoted_none : {inside bytes : List ℕ} → Quoted inside bytes → (tail : List ℕ) → quoted_at tail ≡ None → quoted_at (inside ++ tail) ≡ None
quoted_none end tail h = h
quoted_none (literal {byte = byte} {text = text} l q) tail h =
    let p = or_parts (eqb byte 34 || eqb byte 92) (opens_interpolation byte text) (not-true _ l) in
    let r = or_parts (eqb byte 34) (eqb byte 92) p.0 in
    opens_either byte (text ++ tail) (opens_interpolation byte (text ++ tail)) refl r.0 r.1 (quoted_none q tail h)
quoted_none (quoted_escape word value {text = text} e q) tail h =
    let more = text ++ tail in
    ap (λ t. escaped (escape_at t) (quoted_past t)) (append_assoc word text tail)
    ∙ ap (λ o. escaped o (quoted_past (word ++ more))) (escape_complete e more)
    ∙ ap (before value) (quoted_drop (word ++ more) (length word) ∙ ap (λ t. quoted_past t 0) (drop_at word more (length word) refl) ∙ quoted_none q tail h)

no_escape : (more : List ℕ) → IsNoEscape more → quoted_at (92 ∷ more) ≡ None
no_escape more h = by (escape_at more) refl
  where
    by : (o : Option (List ℕ × ℕ)) → escape_at more ≡ o → escaped o (quoted_past more) ≡ None
    by None e = refl
    by (Some found) e = let k = escape_sound more found e in absurd (h k.0 found.0 (drop found.1 more) k.1 k.2)

quoted_nothing : (opening inside tail : List ℕ) → IsOpening opening → quoted_at (inside ++ tail) ≡ None → first_token (opening ++ (inside ++ tail)) ≡ None
quoted_nothing opening inside tail o h = ⊎_elim (λ e. rw e (ap string_of h)) (λ e. rw e (ap quoted_atom_of h)) o

-- words that go on with what refuses them

inside_stop : (inside tail : List ℕ) → is_inside inside ≡ true → inside_len tail ≡ 0 → starts_with 123 tail ≡ false → inside_len (inside ++ tail) ≡ length inside
inside_stop [] tail h z s = z
inside_stop (byte ∷ inside) tail h z s =
    let stops = (eqb byte 41 || eqb byte 92) || opens_interpolation byte inside in
    let parts = and_parts (not stops) (is_inside inside) h in
    ap (λ o. cond ((eqb byte 41 || eqb byte 92) || o) 0 (suc (inside_len (inside ++ tail)))) (opens_alike inside tail s)
    ∙ ap (λ t. cond t 0 (suc (inside_len (inside ++ tail)))) (not-true stops parts.0)
    ∙ ap suc (inside_stop inside tail parts.1 z s)
  where
    opens_alike : (inside tail : List ℕ) → starts_with 123 tail ≡ false → opens_interpolation byte (inside ++ tail) ≡ opens_interpolation byte inside
    opens_alike [] [] s = refl
    opens_alike [] (next ∷ tail) s = and_right (eqb byte 35) (eqb next 123) s
    opens_alike (next ∷ inside) tail s = refl

words_nothing : (inside tail : List ℕ) → is_inside inside ≡ true → inside_len tail ≡ 0 → starts_with 123 tail ≡ false → words_before inside tail ≡ None → words_in (inside ++ tail) ≡ None
words_nothing inside tail i z s h =
    ap (λ n. words_before (take n (inside ++ tail)) (drop n (inside ++ tail))) (inside_stop inside tail i z s)
    ∙ ap (λ l. words_before l (drop (length inside) (inside ++ tail))) (take_at inside tail (length inside) refl)
    ∙ ap (words_before inside) (drop_at inside tail (length inside) refl)
    ∙ h

-- a sigil

sigil_nothing : (more : List ℕ) → ((rest : List ℕ) → more ≡ 119 ∷ 40 ∷ rest → ⊥) → words_at more ≡ None
sigil_nothing [] h = refl
sigil_nothing (letter ∷ []) h = refl
sigil_nothing (letter ∷ paren ∷ text) h = by (letter == 119 && paren == 40) refl
  where
    by : (b : Bool) → (letter == 119 && paren == 40) ≡ b → cond b (words_in text) None ≡ None
    by false e = refl
    by true e =
        let p = and_parts (eqb letter 119) (eqb paren 40) e in
        absurd (h text (ap (λ l. l ∷ paren ∷ text) (eqb-true letter 119 p.0) ∙ ap (λ l. 119 ∷ l ∷ text) (eqb-true paren 40 p.1)))

-- names with a capital first

not_capital : (byte : ℕ) → is_from 65 90 byte ≡ true → (name more : List ℕ) → name ≡ byte ∷ more → is_bare_atom name ≡ true → ⊥
not_capital byte c name more e h =
    let first = λ (other : ℕ) (rest : List ℕ) (s : name ≡ other ∷ rest). head byte other more rest (sym e ∙ s) in
    ⊎_elim (λ l. ⊎_elim (λ t. false≢true (subst (λ b. is_from 65 90 b ≡ true) (first 116 _ (bytes_same name (codes "true") t)) c))
    (λ f. false≢true (subst (λ b. is_from 65 90 b ≡ true) (first 102 _ (bytes_same name (codes "false") f)) c)) (or_cases _ _ l))
    (λ n. false≢true (subst (λ b. is_from 65 90 b ≡ true) (first 110 _ (bytes_same name (codes "nil") n)) c))
    (or_cases _ _ h)
  where
    head : (a b : ℕ) (x y : List ℕ) → a ∷ x ≡ b ∷ y → a ≡ b
    head a b x y e = cc

capital_start : (byte : ℕ) → is_from 65 90 byte ≡ true → is_name_start byte ≡ true
capital_start byte c = rw c refl

-- where no keyword's colon follows
capital_nothing : (byte : ℕ) (name more : List ℕ) → is_from 65 90 byte ≡ true → is_name (byte ∷ name) ≡ true → IsTrue (ends_name (byte ∷ name) more) → is_colon more ≡ false → first_token (byte ∷ name ++ more) ≡ None
capital_nothing byte name more c n ends colon =
    name_first (byte ∷ name) more n (ends_from_test (byte ∷ name) more ends) ∙ ap (key_or_atom (byte ∷ name) more) (colon_none more colon) ∙ by (is_bare_atom (byte ∷ name)) refl
  where
    by : (b : Bool) → is_bare_atom (byte ∷ name) ≡ b → cond {A = Found Token} b (Some (Atom (byte ∷ name), more)) None ≡ None
    by false e = refl
    by true e = absurd (not_capital byte c (byte ∷ name) name refl e)

-- a token with a capital first is a key
capital_key : (byte : ℕ) (more : List ℕ) {tok : Token} {after : List ℕ} → is_from 65 90 byte ≡ true → Begins (byte ∷ more) tok after → (name : List ℕ) × (tok ≡ Key name)
capital_key byte more {tok = tok} {after = after} c h = named (name_len (byte ∷ more)) refl (sym (start_is_name byte more (capital_start byte c)) ∙ begins_first h)
  where
    by : (len : ℕ) (o : Option (List ℕ)) → key_or_atom (byte ∷ take len more) (drop len more) o ≡ Some (tok, after) → (name : List ℕ) × (tok ≡ Key name)
    by len (Some a) e = (byte ∷ take len more, ap (λ (f : Token × List ℕ). f.0) (sym (some_same e)))
    by len None e = absurd (not_capital byte c (byte ∷ take len more) (take len more) refl (cond_some (is_bare_atom (byte ∷ take len more)) _ _ e).0)

    named : (len : ℕ) → name_len (byte ∷ more) ≡ len → name_of len (byte ∷ more) ≡ Some (tok, after) → (name : List ℕ) × (tok ≡ Key name)
    named zero e h = absurd (none_some h)
    named (suc len) e h = by len (after_colon (drop len more)) (sym (name_more len (byte ∷ more)) ∙ h)

-- a colon directly behind a string or a bare atom

key_term : (e : Expected) (tok : Token) (name : List ℕ) → e.key ≡ false → tok ≡ Key name → takes e tok ≡ true → ⊥
key_term e tok name k same h = true≢false (sym (subst (λ t. takes e t ≡ true) same h) ∙ k)

bare_colon : (e : Expected) (name more : List ℕ) (tok : Token) (after : List ℕ) → e.key ≡ false → is_bare_atom name ≡ true → Begins (name ++ 58 ∷ more) tok after → takes e tok ≡ true → IsFree (name ++ 58 ∷ more) tok after → ⊥
bare_colon e name more tok after k b h t free = by (after_colon (58 ∷ more)) (sym (name_first name (58 ∷ more) (bare_named name b) (colon_ends name more (bare_named name b))) ∙ begins_first h)
  where
    by : (o : Option (List ℕ)) → key_or_atom name (58 ∷ more) o ≡ Some (tok, after) → ⊥
    by (Some a) f = key_term e tok name k (ap (λ (x : Token × List ℕ). x.0) (sym (some_same f))) t
    by None f =
        let c = some_same (cond_some (is_bare_atom name) (Some (Atom name, 58 ∷ more)) (tok, after) f).1 in
        let same : tok ≡ Atom name = ap (λ (x : Token × List ℕ). x.0) (sym c) in
        let rest : after ≡ 58 ∷ more = ap (λ (x : Token × List ℕ). x.1) (sym c) in
        let tied : (is_plain (name ++ 58 ∷ more) (Atom name) && starts_with 58 (58 ∷ more)) ≡ false = subst (λ l. IsFree (name ++ 58 ∷ more) (Atom name) l) rest (subst (λ u. IsFree (name ++ 58 ∷ more) u after) same free) in
        true≢false (sym (ap (λ c. not c && true) (bare_first name (58 ∷ more) b)) ∙ tied)

string_colon : (e : Expected) {inside bytes : List ℕ} (more : List ℕ) (tok : Token) (after : List ℕ) → e.key ≡ false → Quoted inside bytes → Begins (34 ∷ inside ++ 34 ∷ 58 ∷ more) tok after → takes e tok ≡ true → IsFree (34 ∷ inside ++ 34 ∷ 58 ∷ more) tok after → ⊥
string_colon e {inside = inside} {bytes = bytes} more tok after k q h t free = by (after_colon (58 ∷ more)) (sym (ap string_of (quoted_complete q (58 ∷ more))) ∙ begins_first h)
  where
    by : (o : Option (List ℕ)) → key_or_string bytes (58 ∷ more) o ≡ Some (tok, after) → ⊥
    by (Some a) f = let m = map_some (λ key. (Key key, a)) (utf8_only bytes) (tok, after) f in key_term e tok m.0 k (ap (λ (x : Token × List ℕ). x.0) (sym m.2)) t
    by None f =
        let c = some_same f in
        let same : tok ≡ Str bytes = ap (λ (x : Token × List ℕ). x.0) (sym c) in
        let rest : after ≡ 58 ∷ more = ap (λ (x : Token × List ℕ). x.1) (sym c) in
        let tied : IsFree (34 ∷ inside ++ 34 ∷ 58 ∷ more) (Str bytes) (58 ∷ more) = subst (λ l. IsFree (34 ∷ inside ++ 34 ∷ 58 ∷ more) (Str bytes) l) rest (subst (λ u. IsFree (34 ∷ inside ++ 34 ∷ 58 ∷ more) u after) same free) in
        true≢false tied

colon_marred : (e : Expected) {word : List ℕ} {token : Token} (more : List ℕ) (tok : Token) (after rest : List ℕ) → e.key ≡ false → Begins word token rest → rest ≡ [] → is_plain word token ≡ true → Begins (word ++ 58 ∷ more) tok after → takes e tok ≡ true → IsFree (word ++ 58 ∷ more) tok after → ⊥
colon_marred e more tok after rest k (bare_atom {name = name} {rest = r} b ends colon s) n p h t free =
    let same = s ∙ ap (λ l. name ++ l) n ∙ append-nil name in
    bare_colon e name more tok after k b (subst (λ l. Begins (l ++ 58 ∷ more) tok after) same h) t (subst (λ l. IsFree (l ++ 58 ∷ more) tok after) same free)
colon_marred e more tok after rest k (string {inside = inside} {rest = r} q colon s) n p h t free =
    let same = s ∙ ap (λ l. 34 ∷ inside ++ 34 ∷ l) n in
    let whole = ap (λ l. l ++ 58 ∷ more) same ∙ ap (λ l. 34 ∷ l) (append_assoc inside (34 ∷ []) (58 ∷ more)) in
    string_colon e more tok after k q (subst (λ l. Begins l tok after) whole h) t (subst (λ l. IsFree l tok after) whole free)
colon_marred e more tok after rest k (atom a b s) n p h t free = absurd (false≢true (sym (ap (λ l. not (starts_with 58 l)) s) ∙ p))
colon_marred e more tok after rest k (quoted_atom a b s) n p h t free = absurd (false≢true (sym (ap (λ l. not (starts_with 58 l)) s) ∙ p))
colon_marred e more tok after rest k (integer a b c) n p h t free = absurd (false≢true p)
colon_marred e more tok after rest k (words a b c d f) n p h t free = absurd (false≢true p)
colon_marred e more tok after rest k (key white a b c) n p h t free = absurd (false≢true p)
colon_marred e more tok after rest k (quoted_key white a b c d) n p h t free = absurd (false≢true p)
colon_marred e more tok after rest k (opens a) n p h t free = absurd (false≢true p)
colon_marred e more tok after rest k (closes a) n p h t free = absurd (false≢true p)
colon_marred e more tok after rest k (comma a) n p h t free = absurd (false≢true p)
colon_marred e more tok after rest k (arrow a) n p h t free = absurd (false≢true p)

pub decimal_begins : (word digit_rest : List ℕ) → IsDecimal word → (n : ℤ) × Begins (word ++ 46 ∷ digit_rest) (Int n) (46 ∷ digit_rest)
decimal_begins word more d = ⊎_elim (λ g. (_, integer (plain (decimal g)) refl refl)) (λ t. (_, integer (negative (decimal t.1)) refl (ap (λ w. w ++ 46 ∷ more) t.2))) d.1

quotes_first : (more : List ℕ) → first_token (34 ∷ 34 ∷ 34 ∷ more) ≡ Some (Str [], 34 ∷ more)
quotes_first [] = refl
quotes_first (byte ∷ more) = refl

-- nothing else is
pub calm : (e : Expected) {text : List ℕ} {tok : Token} {after : List ℕ} {k : ℕ} {why : TermCause} → (e.outermost ≡ true → e.key ≡ false) → Begins text tok after → takes e tok ≡ true → IsNarrow tok → IsFree text tok after → Locally e text k why → Marred text tok after k why
calm e outer h t small free (charlist x) = absurd (nothing_begins refl h)
calm e outer h t small free (sigil x a b c) = absurd (nothing_begins (sigil_nothing _ c) h)
calm e {tok = tok} {after = after} outer h t small free (heredoc {more = more} x) =
    let c = some_same (sym (quotes_first more) ∙ begins_first h) in
    quotes more refl (ap (λ (x : Token × List ℕ). x.0) (sym c)) (ap (λ (x : Token × List ℕ). x.1) (sym c))
calm e outer h t small free (bits x) = absurd (nothing_begins refl h)
calm e outer h t small free (interpolation {opening = opening} {inside = inside} more x o q s) = absurd (nothing_begins (ap first_token s ∙ quoted_nothing opening inside (35 ∷ 123 ∷ more) o (quoted_none q (35 ∷ 123 ∷ more) refl)) h)
calm e outer h t small free (interpolated_words inside more x i s) = absurd (nothing_begins (ap first_token s ∙ words_nothing inside (35 ∷ 123 ∷ more) i refl refl refl) h)
calm e {text = text} {tok = tok} {after = after} outer h t small free (float {word = word} digit more x d g s) =
    let b = decimal_begins word (digit ∷ more) d in
    let one = begins_one h (subst (λ l. Begins l (Int b.0) (46 ∷ digit ∷ more)) (sym s) b.1) in
    fraction b.0 (digit ∷ more) one.0 (word, digit, more, d, g, s) (omega (arith, ap length s, length-append word (46 ∷ digit ∷ more), ap length one.1)) one.1
calm e outer h t small free (alias_alone {byte = byte} {more = more} x k c) = let n = capital_key byte more c h in absurd (key_term e _ n.0 k n.1 t)
calm e outer h t small free (alias byte name more x c n ends colon s) = absurd (nothing_begins (ap first_token s ∙ capital_nothing byte name more c n ends colon) h)
calm e outer h t small free (escape {opening = opening} {inside = inside} more x o q s lacks) = absurd (nothing_begins (ap first_token s ∙ quoted_nothing opening inside (92 ∷ more) o (quoted_none q (92 ∷ more) (no_escape more lacks))) h)
calm e outer h t small free (escape_in_words inside more x i s) = absurd (nothing_begins (ap first_token s ∙ words_nothing inside (92 ∷ more) i refl refl refl) h)
calm e outer h t small free (atom_utf8 {bytes = bytes} more x q u s) = absurd (nothing_begins (ap first_token s ∙ ap quoted_atom_of (quoted_complete q more) ∙ ap (option_map (λ name. (Atom name, more))) (utf8_refused bytes u)) h)
calm e outer h t small free (key_utf8 {bytes = bytes} white more x q u b s) =
    absurd (nothing_begins (ap first_token s ∙ ap string_of (quoted_complete q (58 ∷ white ∷ more)) ∙ ap (key_or_string bytes (58 ∷ white ∷ more)) (colon_key white more b) ∙ ap (option_map (λ key. (Key key, more))) (utf8_refused bytes u)) h)
calm e {tok = tok} outer h t small free (number {n = n} x b wide) = let one = begins_one h b in absurd (wide (subst (λ u. IsNarrow u) one.0 small))
calm e {tok = tok} {after = after} outer h t small free (colon_after {word = word} more x b p s) =
    absurd (colon_marred e more tok after [] (outer x) b refl p (subst (λ l. Begins l tok after) s h) t (subst (λ l. IsFree l tok after) s free))
calm e {tok = tok} {after = after} outer h t small free (unclosed p none) = absurd (none tok after h t free)
calm e {text = text} {tok = tok} {after = after} {k = k} outer h t small free (unexpected x p shut) =
    let whole = take-append-drop (suc k) text in
    absurd (shut (drop (suc k) text) tok after (subst (λ l. Begins l tok after) (sym whole) h) t (subst (λ l. IsFree l tok after) (sym whole) free))
