-- The first fault of a text.
use Rattle.std.specs.Prelude.{IsTrue, not, ℤ, Ok, Err}
use Rattle.std.proofs.Common.{◌≡◌, ℕ, suc, ◌+◌, ◌<◌, ◌≤◌, Bool, true, false, ◌⊎◌, inl, inr, List, [], ◌∷◌, ◌++◌, Some, None, length, take, drop, cond, eqb, refl, sym, ap, ◌∙◌, arith, subst, append_assoc, ⊎_elim}
use Rattle.std.proofs.lemmas.Bool.{and_parts, or_left, or_right, or_from, eqb-true, ne_eqb, ltb-true, true≢false, false≢true}
use Rattle.std.proofs.lemmas.List.{take_at, take-append-drop, append-nil, length-append}
use Rattle.std.proofs.lemmas.Str.Parse.{digit_from_value}
use Rattle.std.specs.Char.{is_digit, digit_value}
use Rattle.term_tokens.specs.declared.cause.Feature.TheVariants.{Interpolation, Float, Alias}
use Rattle.term_tokens.specs.declared.cause.TermCause.{TermCause}
use Rattle.term_tokens.specs.declared.cause.TermCause.TheVariants.{Unsupported, BadEscape, BadUtf8, NumberTooBig, TrailingText, Unclosed, Unexpected}
use Rattle.term_tokens.specs.declared.expected.Expected.{Expected}
use Rattle.term_tokens.specs.declared.token.Token.{Token}
use Rattle.term_tokens.specs.declared.token.Token.TheVariants.{Int}
use Rattle.term_tokens.specs.Lexed.{Lexed, cut_off, broken}
use Rattle.term_tokens.specs.Lexing.{first_token, next_at, IsNarrow}
use Rattle.term_tokens.specs.Local.{rank, starts_with, is_plain, IsFree, takes, IsPart, IsShut, IsOpening, IsDecimal, Locally, charlist, sigil, heredoc, bits, interpolation, interpolated_words, float, alias_alone, alias, escape, escape_in_words, atom_utf8, key_utf8, number, colon_after, unclosed, unexpected, IsFirst}
use Rattle.term_tokens.specs.Names.{is_from, is_letter, is_name_start, is_name_rest, is_bare_atom}
use Rattle.term_tokens.specs.Numbers.{Grouped, last, next, mark, Integer, plain, negative}
use Rattle.term_tokens.specs.Strings.{Quoted, opens_interpolation}
use Rattle.term_tokens.specs.Tokens.{Begins, bare_atom, atom, quoted_atom, integer, string, words, key, quoted_key, opens, closes, comma, arrow}
use Rattle.term_tokens.proofs.IntegerLemmas.{numeral_first}
use Rattle.term_tokens.proofs.OptionLemmas.{none_some}
use Rattle.term_tokens.proofs.StringLemmas.{spelt_complete, slash_stops}
use Rattle.term_tokens.proofs.BeginLemmas.{begins_first, start_not, start_no_digit, bare_named}
use Rattle.term_tokens.proofs.FaultForms.{Least, IsNone, Plain, plain_late, lead_by, lead, IsBroken, NumberMark, NameMark, Marked}
use Rattle.term_tokens.proofs.FaultForms.Lead.{at_number, at_name}
use Rattle.term_tokens.proofs.FaultForms.ColonMark.{colon_broken, colon_utf8}
use Rattle.term_tokens.proofs.FaultForms.QuoteMark.{quote_heredoc, quote_broken, quote_key, quote_colon}
use Rattle.term_tokens.proofs.FaultForms.TildeMark.{tilde_sigil, tilde_broken}
use Rattle.term_tokens.proofs.FaultForms.NumberMark.{number_float, number_wide}
use Rattle.term_tokens.proofs.FaultForms.NameMark.{name_alone, name_alias, name_colon}
use Rattle.term_tokens.proofs.FaultForms.SignMark.{sign_charlist, sign_bits}

-- an answer that is right: where it is a token, no form tells of a cause
abbrev pub Right : Expected → List ℕ → Lexed → Type 0
Right e text (Ok found) = Begins text found.0 found.1 × IsTrue (takes e found.0) × IsNarrow found.0 × IsFree text found.0 found.1 × ((place : ℕ) (why : TermCause) → Marked (lead text) e text place why → ⊥)
Right e text (Err stop) = (front : List ℕ) × (text ≡ front ++ stop.0) × IsFirst e text (length front) stop.1

-- which way a cause holds
abbrev Way : Expected → List ℕ → ℕ → TermCause → Type 0
Way e text place other = Plain e text place other ⊎ Marked (lead text) e text place other

by_opening : (e : Expected) (text : List ℕ) {opening inside bytes : List ℕ} (rest : List ℕ) (why : TermCause) → IsOpening opening → Quoted inside bytes → next_at rest ≡ None → starts_with 123 rest ≡ false → IsBroken rest why → text ≡ opening ++ (inside ++ rest) → Way e text (length opening + length inside) why
by_opening e text {opening = opening} {inside = inside} {bytes = bytes} rest why (inl o) q n b broke s =
    let t : text ≡ 34 ∷ inside ++ rest = s ∙ ap (λ l. l ++ (inside ++ rest)) o in
    subst (λ l. Way e l (length opening + length inside) why) (sym t) (inr (quote_broken bytes rest (spelt_complete q rest n b) broke (omega (arith, ap length o, length-append inside rest))))
by_opening e text {opening = opening} {inside = inside} {bytes = bytes} rest why (inr o) q n b broke s =
    let t : text ≡ 58 ∷ 34 ∷ inside ++ rest = s ∙ ap (λ l. l ++ (inside ++ rest)) o in
    subst (λ l. Way e l (length opening + length inside) why) (sym t) (inr (colon_broken (inside ++ rest) bytes rest refl (spelt_complete q rest n b) broke (omega (arith, ap length o, length-append inside rest))))

lead_name : (a b c d f : Bool) → a ≡ false → b ≡ false → c ≡ false → d ≡ false → f ≡ true → lead_by a b c d f ≡ at_name
lead_name a b c d f p q r s t = ap (λ x. lead_by x b c d f) p ∙ ap (λ x. lead_by false x c d f) q ∙ ap (λ x. lead_by false false x d f) r ∙ ap (λ x. lead_by false false false x f) s ∙ ap (λ x. lead_by false false false false x) t

pub start_lead : (byte : ℕ) (text : List ℕ) → is_name_start byte ≡ true → lead (byte ∷ text) ≡ at_name
start_lead byte text s = lead_name _ _ _ _ _ (start_not byte 58 s refl) (start_not byte 34 s refl) (start_not byte 126 s refl) (or_from (eqb byte 45) (is_digit byte 10) (start_not byte 45 s refl) (start_no_digit byte s)) s

lead_number : (a b c d f : Bool) → a ≡ false → b ≡ false → c ≡ false → d ≡ true → lead_by a b c d f ≡ at_number
lead_number a b c d f p q r s = ap (λ x. lead_by x b c d f) p ∙ ap (λ x. lead_by false x c d f) q ∙ ap (λ x. lead_by false false x d f) r ∙ ap (λ x. lead_by false false false x f) s

pub digit_lead : (byte : ℕ) (text : List ℕ) → is_digit byte 10 ≡ true → lead (byte ∷ text) ≡ at_number
digit_lead byte text d =
    let r = digit_from_value byte (ltb-true (digit_value byte) 10 d) in
    lead_number _ _ _ _ _ (ne_eqb byte 58 (λ e. omega (arith, e, r.1))) (ne_eqb byte 34 (λ e. omega (arith, e, r.0))) (ne_eqb byte 126 (λ e. omega (arith, e, r.1))) (or_right (eqb byte 45) (is_digit byte 10) d)

-- a byte from A to Z begins a name
pub capital_start : (byte : ℕ) → is_from 65 90 byte ≡ true → is_name_start byte ≡ true
capital_start byte c = or_left (is_letter byte) (eqb byte 95) (or_left (is_from 65 90 byte) (is_from 97 122 byte) c)

decimal_lead : {word digits : List ℕ} (rest : List ℕ) → Grouped 10 word digits → lead (word ++ rest) ≡ at_number
decimal_lead rest (last {digit = digit} d) = digit_lead digit rest d
decimal_lead rest (next {digit = digit} {text = text} d g) = digit_lead digit (text ++ rest) d
decimal_lead rest (mark {digit = digit} {text = text} d g) = digit_lead digit (95 ∷ text ++ rest) d

number_lead : (word rest : List ℕ) → IsDecimal word → lead (word ++ rest) ≡ at_number
number_lead word rest h = ⊎_elim (λ g. decimal_lead rest g) (λ m. ap (λ l. lead (l ++ rest)) m.2) h.1

integer_lead : {word : List ℕ} {n : ℤ} (rest : List ℕ) → Integer word n → lead (word ++ rest) ≡ at_number
integer_lead rest (plain h) = let f = numeral_first h in ap (λ w. lead (w ++ rest)) f.2 ∙ digit_lead f.0 (f.1 ++ rest) f.3
integer_lead rest (negative h) = refl

pub int_lead : {text : List ℕ} {n : ℤ} {tok : Token} {after : List ℕ} → Begins text tok after → tok ≡ Int n → lead text ≡ at_number
int_lead (integer {rest = rest} h ends s) e = ap lead s ∙ integer_lead rest h
int_lead (bare_atom b ends colon s) e = cc
int_lead (atom n ends s) e = cc
int_lead (quoted_atom q u s) e = cc
int_lead (string q colon s) e = cc
int_lead (words i c m ends s) e = cc
int_lead (key blank h b s) e = cc
int_lead (quoted_key blank q u b s) e = cc
int_lead (opens s) e = cc
int_lead (closes s) e = cc
int_lead (comma s) e = cc
int_lead (arrow s) e = cc

-- the marks of a text that isn't empty, by its first byte
marked_number : (e : Expected) (text : List ℕ) (place : ℕ) (why : TermCause) → lead text ≡ at_number → NumberMark e text place why → Way e text place why
marked_number e [] place why l m = cc
marked_number e (byte ∷ text) place why l m = inr (subst (λ k. Marked k e (byte ∷ text) place why) (sym l) m)

marked_name : (e : Expected) (byte : ℕ) (text : List ℕ) (place : ℕ) (why : TermCause) → is_name_start byte ≡ true → NameMark e (byte ∷ text) place why → Way e (byte ∷ text) place why
marked_name e byte text place why s m = inr (subst (λ k. Marked k e (byte ∷ text) place why) (sym (start_lead byte text s)) m)

bare_start : (word : List ℕ) → is_bare_atom word ≡ true → (byte : ℕ) × (name : List ℕ) × (word ≡ byte ∷ name) × (is_name_start byte ≡ true)
bare_start [] h = absurd (false≢true h)
bare_start (byte ∷ name) h = (byte, name, refl, (and_parts (is_name_start byte) (is_name_rest name) (bare_named (byte ∷ name) h)).0)

-- a whole string or an atom without a colon, and a colon after it
plain_colon : (e : Expected) {word after : List ℕ} {tok : Token} (text more : List ℕ) → IsTrue e.outermost → Begins word tok after → after ≡ [] → IsTrue (is_plain word tok) → text ≡ word ++ 58 ∷ more → Way e text (length word) TrailingText
plain_colon e {word = word} text more o (bare_atom {name = name} {rest = rest} b ends colon s) a p t =
    let w : word ≡ name = s ∙ ap (λ l. name ++ l) a ∙ append-nil name in
    let f = bare_start name b in
    let k : text ≡ f.0 ∷ f.1 ++ 58 ∷ more = t ∙ ap (λ l. l ++ 58 ∷ more) (w ∙ f.2) in
    subst (λ l. Way e l (length word) TrailingText) (sym k) (marked_name e f.0 (f.1 ++ 58 ∷ more) (length word) TrailingText f.3 (name_colon name more o b (ap (λ l. l ++ 58 ∷ more) (sym f.2)) (ap length w)))
plain_colon e text more o (atom {name = name} {rest = rest} n ends s) a p t = absurd (true≢false (sym p ∙ ap (λ l. not (starts_with 58 l)) s))
plain_colon e text more o (quoted_atom q u s) a p t = absurd (true≢false (sym p ∙ ap (λ l. not (starts_with 58 l)) s))
plain_colon e {word = word} text more o (string {inside = inside} {bytes = bytes} {rest = rest} q colon s) a p t =
    let w : word ≡ 34 ∷ inside ++ 34 ∷ [] = s ∙ ap (λ l. 34 ∷ inside ++ 34 ∷ l) a in
    let k : text ≡ 34 ∷ inside ++ 34 ∷ 58 ∷ more = t ∙ ap (λ l. l ++ 58 ∷ more) w ∙ ap (λ l. 34 ∷ l) (append_assoc inside (34 ∷ []) (58 ∷ more)) in
    subst (λ l. Way e l (length word) TrailingText) (sym k) (inr (quote_colon bytes more o (spelt_complete q (34 ∷ 58 ∷ more) refl refl) (omega (arith, ap length w, length-append inside (34 ∷ []), length-append inside (34 ∷ 58 ∷ more)))))
plain_colon e text more o (integer h ends s) a p t = absurd (false≢true p)
plain_colon e text more o (words i c m ends s) a p t = absurd (false≢true p)
plain_colon e text more o (key blank h b s) a p t = absurd (false≢true p)
plain_colon e text more o (quoted_key blank q u b s) a p t = absurd (false≢true p)
plain_colon e text more o (opens s) a p t = absurd (false≢true p)
plain_colon e text more o (closes s) a p t = absurd (false≢true p)
plain_colon e text more o (comma s) a p t = absurd (false≢true p)
plain_colon e text more o (arrow s) a p t = absurd (false≢true p)

-- each cause tells of a form or of none
pub ways : {e : Expected} {text : List ℕ} {place : ℕ} {other : TermCause} → Locally e text place other → Way e text place other
ways (charlist t) = inr (sign_charlist t refl)
ways (sigil t a b c) = inr (tilde_sigil t a b c)
ways (heredoc {more = more} t) = inr (quote_heredoc more t refl)
ways (bits {more = more} t) = inr (sign_bits more t refl)
ways {e = e} {text = text} (interpolation more t o q s) = by_opening e text (35 ∷ 123 ∷ more) (Unsupported Interpolation) o q refl refl (more, inl (refl, refl)) s
ways {e = e} (interpolated_words inside more t i s) = subst (λ l. Way e l (3 + length inside) (Unsupported Interpolation)) (sym s) (inr (tilde_broken inside (35 ∷ 123 ∷ more) t i (more, inl (refl, refl)) refl refl))
ways {e = e} {text = text} (float {word = word} digit more t d h s) = marked_number e text (length word) (Unsupported Float) (ap lead s ∙ number_lead word (46 ∷ digit ∷ more) d) (number_float word digit more t d h s refl)
ways {e = e} (alias_alone {byte = byte} {more = more} t k c) = marked_name e byte more 0 (Unsupported Alias) (capital_start byte c) (name_alone t k c)
ways {e = e} (alias byte name more t c n ends colon s) = subst (λ l. Way e l 0 (Unsupported Alias)) (sym s) (marked_name e byte (name ++ more) 0 (Unsupported Alias) (capital_start byte c) (name_alias (byte ∷ name) more t c n ends colon refl))
ways {e = e} {text = text} (escape more t o q s n) = by_opening e text (92 ∷ more) BadEscape o q (slash_stops more n) refl (more, inr (refl, refl)) s
ways {e = e} (escape_in_words inside more t i s) = subst (λ l. Way e l (3 + length inside) BadEscape) (sym s) (inr (tilde_broken inside (92 ∷ more) t i (more, inr (refl, refl)) refl refl))
ways {e = e} (atom_utf8 {inside = inside} {bytes = bytes} more t q u s) = subst (λ l. Way e l 1 BadUtf8) (sym s) (inr (colon_utf8 (inside ++ 34 ∷ more) bytes more t refl (spelt_complete q (34 ∷ more) refl refl) u))
ways {e = e} (key_utf8 {inside = inside} {bytes = bytes} blank more t q u b s) = subst (λ l. Way e l 0 BadUtf8) (sym s) (inr (quote_key bytes blank more t (spelt_complete q (34 ∷ 58 ∷ blank ∷ more) refl refl) b u))
ways {e = e} {text = text} (number {after = after} {n = n} t b w) = marked_number e text 0 NumberTooBig (int_lead b refl) (number_wide n after t b w)
ways {e = e} {text = text} (colon_after more o b p s) = plain_colon e text more o b refl p s
ways (unclosed part none) = inl (inl (refl, refl, none))
ways (unexpected l part shut) = inl (inr (l, shut, refl))

-- where a token is taken no cause holds
pub no_fault : (e : Expected) (text : List ℕ) (tok : Token) (after : List ℕ) → Begins text tok after → IsTrue (takes e tok) → IsFree text tok after → ((place : ℕ) (why : TermCause) → Marked (lead text) e text place why → ⊥) → (place : ℕ) (why : TermCause) → Locally e text place why → ⊥
no_fault e text tok after b t f clean place why h = ⊎_elim (λ p. ⊎_elim (λ u. u.2 tok after b t f) (λ x. shut x.1) p) (λ m. clean place why m) (ways h)
  where
    shut : IsShut e (take (suc place) text) → ⊥
    shut s =
        let whole : take (suc place) text ++ drop (suc place) text ≡ text = take-append-drop (suc place) text in
        s (drop (suc place) text) tok after (subst (λ l. Begins l tok after) (sym whole) b) t (subst (λ l. IsFree l tok after) (sym whole) f)

-- what holds at the end of an open front, with no form that tells of an earlier cause, is the first
pub first_by : (e : Expected) (text front rest : List ℕ) (why : TermCause) → text ≡ front ++ rest → IsPart e front → rank why ≤ 14 → (rest ≡ [] → why ≡ Unclosed) → Locally e text (length front) why → ((place : ℕ) (other : TermCause) → Marked (lead text) e text place other → Least (length front) why place other) → Right e text (Err (rest, why))
first_by e text front rest why s part r ended holds late = (
  front,
  s,
  record {
    holds = holds;
    open_so_far = subst (λ l. IsPart e l) (sym (ap (take (length front)) s ∙ take_at front rest (length front) refl)) part;
    first = λ place other h. ⊎_elim (λ p. plain_late e text front rest why place other s part r ended p) (λ m. late place other m) (ways h);
  },
)

-- the front of a text and one byte more
next_cut : (text front rest : List ℕ) (byte : ℕ) → text ≡ front ++ byte ∷ rest → take (suc (length front)) text ≡ front ++ byte ∷ []
next_cut text front rest byte s =
    ap (take (suc (length front))) (s ∙ sym (append_assoc front (byte ∷ []) rest))
    ∙ take_at (front ++ byte ∷ []) rest (suc (length front)) (omega (arith, length-append front (byte ∷ [])))

abbrev pub Late : Expected → List ℕ → ℕ → Type 0
Late e text k = (place : ℕ) (other : TermCause) → Marked (lead text) e text place other → k < place

pub unexpected_at : (e : Expected) (text front rest : List ℕ) (byte : ℕ) → text ≡ front ++ byte ∷ rest → IsPart e front → IsShut e (front ++ byte ∷ []) → Late e text (length front) → Right e text (Err (byte ∷ rest, Unexpected))
unexpected_at e text front rest byte s part shut late =
    let start : IsPart e (take (length front) text) = subst (λ l. IsPart e l) (sym (ap (take (length front)) s ∙ take_at front (byte ∷ rest) (length front) refl)) part in
    first_by e text front (byte ∷ rest) Unexpected s part (omega arith) (λ h. cc)
    (unexpected (omega (arith, ap length s, length-append front (byte ∷ rest))) start (subst (λ l. IsShut e l) (sym (next_cut text front rest byte s)) shut))
    (λ place other m. inl (late place other m))

pub unclosed_at : (e : Expected) (text : List ℕ) → IsPart e text → IsNone e text → Late e text (length text) → Right e text (Err ([], Unclosed))
unclosed_at e text part none late = first_by e text text [] Unclosed (sym (append-nil text)) part (omega arith) (λ _. refl) (unclosed part none) (λ place other m. inl (late place other m))

-- what begins so can't go on with the rest
pub cut_right : (e : Expected) (text front rest : List ℕ) → text ≡ front ++ rest → IsPart e front → (rest ≡ [] → IsNone e text) → ((byte : ℕ) (more : List ℕ) → rest ≡ byte ∷ more → IsShut e (front ++ byte ∷ [])) → Late e text (length front) → Right e text (cut_off rest)
cut_right e text front [] s part none shut late =
    let same : front ≡ text = sym (append-nil front) ∙ sym s in
    unclosed_at e text (subst (λ l. IsPart e l) same part) (none refl) (subst (λ l. Late e text (length l)) same late)
cut_right e text front (byte ∷ rest) s part none shut late = unexpected_at e text front rest byte s part (shut byte rest refl) late

-- nothing that may stand there begins with the first byte
pub at_once : (e : Expected) (byte : ℕ) (text : List ℕ) → IsShut e (byte ∷ []) → Late e (byte ∷ text) 0 → Right e (byte ∷ text) (Err (byte ∷ text, Unexpected))
at_once e byte text shut late = unexpected_at e (byte ∷ text) [] text byte refl (inl refl) shut late

pub shut_none : (e : Expected) (part : List ℕ) → ((more : List ℕ) → first_token (part ++ more) ≡ None) → IsShut e part
shut_none e part h more tok after b t f = none_some (sym (h more) ∙ begins_first b)

-- no token that begins so may stand there
pub shut_taken : (e : Expected) (part : List ℕ) → ((more : List ℕ) (found : Token × List ℕ) → first_token (part ++ more) ≡ Some found → takes e found.0 ≡ false) → IsShut e part
shut_taken e part h more tok after b t f = true≢false (sym t ∙ h more (tok, after) (begins_first b))

-- where a string or words stop before their end

pub opens_found : (byte : ℕ) (after : List ℕ) → opens_interpolation byte after ≡ true → (more : List ℕ) × (byte ∷ after ≡ 35 ∷ 123 ∷ more)
opens_found byte [] h = absurd (false≢true h)
opens_found byte (second ∷ more) h = let p = and_parts (eqb byte 35) (eqb second 123) h in (more, ap (λ b. b ∷ second ∷ more) (eqb-true byte 35 p.0) ∙ ap (λ b. 35 ∷ b ∷ more) (eqb-true second 123 p.1))

pub broken_by_slash : (byte : ℕ) (after : List ℕ) → eqb byte 92 ≡ true → IsBroken (byte ∷ after) (broken byte)
broken_by_slash byte after s = (after, inr (ap (λ b. b ∷ after) (eqb-true byte 92 s), ap (λ t. cond t BadEscape (Unsupported Interpolation)) s))

pub broken_by_opening : (byte : ℕ) (after : List ℕ) → eqb byte 92 ≡ false → opens_interpolation byte after ≡ true → IsBroken (byte ∷ after) (broken byte)
broken_by_opening byte after s o = let f = opens_found byte after o in (f.0, inl (f.1, ap (λ t. cond t BadEscape (Unsupported Interpolation)) s))

pub broken_one : (rest : List ℕ) (why : TermCause) (byte : ℕ) (after : List ℕ) → IsBroken rest why → rest ≡ byte ∷ after → why ≡ broken byte
broken_one rest why byte after (more, inl h) e = let same : byte ≡ 35 = cc in h.1 ∙ ap broken (sym same)
broken_one rest why byte after (more, inr h) e = let same : byte ≡ 92 = cc in h.1 ∙ ap broken (sym same)

pub broken_some : (rest : List ℕ) (why : TermCause) → IsBroken rest why → rest ≡ [] → ⊥
broken_some rest why (more, inl h) e = cc
broken_some rest why (more, inr h) e = cc

pub broken_no_quote : (rest : List ℕ) (why : TermCause) (more2 : List ℕ) → IsBroken rest why → rest ≡ 34 ∷ more2 → ⊥
broken_no_quote rest why more2 (more, inl h) e = let same : ◌≡◌ {A = ℕ} 35 34 = cc in omega (arith, same)
broken_no_quote rest why more2 (more, inr h) e = let same : ◌≡◌ {A = ℕ} 92 34 = cc in omega (arith, same)

pub broken_no_brace : (rest : List ℕ) (why : TermCause) → IsBroken rest why → starts_with 123 rest ≡ false
broken_no_brace rest why (more, inl h) = ap (starts_with 123) h.0
broken_no_brace rest why (more, inr h) = ap (starts_with 123) h.0
