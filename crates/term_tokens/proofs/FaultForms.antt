-- The forms of the first fault of a text.
use Rattle.std.specs.Prelude.{IsTrue, IsFalse, ℤ}
use Rattle.std.proofs.Common.{◌≡◌, ℕ, suc, ◌+◌, ◌<◌, ◌≤◌, Bool, true, false, ◌||◌, ◌⊎◌, inl, inr, List, [], ◌∷◌, ◌++◌, length, take, drop, eqb, refl, sym, ap, ◌∙◌, arith, subst, append_assoc, ⊎_elim}
use Rattle.std.proofs.lemmas.Bool.{cases_lt, and_right}
use Rattle.std.proofs.lemmas.List.{take-append-drop, take-append-le, append-nil, length-append}
use Rattle.std.specs.Char.{is_digit, is_ascii_digit}
use Rattle.std.specs.Str.{IsUtf8}
use Rattle.term_tokens.specs.declared.cause.Feature.TheVariants.{Charlist, Sigil, Heredoc, Interpolation, Float, Alias, Bits}
use Rattle.term_tokens.specs.declared.cause.TermCause.{TermCause}
use Rattle.term_tokens.specs.declared.cause.TermCause.TheVariants.{Unsupported, BadEscape, BadUtf8, NumberTooBig, TrailingText, Unclosed, Unexpected}
use Rattle.term_tokens.specs.declared.expected.Expected.{Expected}
use Rattle.term_tokens.specs.declared.token.Token.{Token}
use Rattle.term_tokens.specs.declared.token.Token.TheVariants.{Int}
use Rattle.term_tokens.specs.Lexed.{is_capital, spelt_at}
use Rattle.term_tokens.specs.Lexing.{IsWide}
use Rattle.term_tokens.specs.Local.{rank, starts_with, is_plain, IsFree, takes, IsPart, IsShut, IsDecimal}
use Rattle.term_tokens.specs.Names.{is_name_start, is_name, is_bare_atom, is_blank}
use Rattle.term_tokens.specs.Tokens.{ends_name, is_colon, Begins, key}
use Rattle.term_tokens.specs.Words.{is_inside}

-- one place and cause comes before another, or is the same
abbrev pub Least : ℕ → TermCause → ℕ → TermCause → Type 0
Least k why place other = (k < place) ⊎ ((k ≡ place) × (rank why ≤ rank other))

-- no token that may stand there, and that no colon follows, begins the text
abbrev pub IsNone : Expected → List ℕ → Type 0
IsNone e text = (tok : Token) (after : List ℕ) → Begins text tok after → IsTrue (takes e tok) → IsFree text tok after → ⊥

pub free_end : (text : List ℕ) (tok : Token) → IsFree text tok []
free_end text tok = and_right (is_plain text tok) false refl

-- what may stand here up to some place isn't shut before
pub front_open : (e : Expected) (text front rest : List ℕ) (place : ℕ) → text ≡ front ++ rest → IsPart e front → IsShut e (take (suc place) text) → length front ≤ place
front_open e text front rest place s part shut = ⊎_elim (λ l. absurd (early l part)) (λ l. l) (cases_lt place (length front))
  where
    early : place < length front → IsPart e front → ⊥
    early l (inl none) = omega (arith, l, ap length none)
    early l (inr w) =
        let cut : take (suc place) text ≡ take (suc place) front = ap (take (suc place)) s ∙ take-append-le (suc place) front rest (omega (arith, l)) in
        let rejoined : take (suc place) text ++ (drop (suc place) front ++ w.1) ≡ front ++ w.1 = ap (λ l. l ++ (drop (suc place) front ++ w.1)) cut ∙ sym (append_assoc (take (suc place) front) (drop (suc place) front) w.1) ∙ ap (λ l. l ++ w.1) (take-append-drop (suc place) front) in
        shut (drop (suc place) front ++ w.1) w.0 [] (subst (λ l. Begins l w.0 []) (sym rejoined) w.2) w.3 (free_end (take (suc place) text ++ (drop (suc place) front ++ w.1)) w.0)

-- the causes that tell of no form
abbrev pub Plain : Expected → List ℕ → ℕ → TermCause → Type 0
Plain e text place other = ((place ≡ length text) × (other ≡ Unclosed) × IsNone e text) ⊎ ((place < length text) × IsShut e (take (suc place) text) × (other ≡ Unexpected))

pub plain_late : (e : Expected) (text front rest : List ℕ) (why : TermCause) (place : ℕ) (other : TermCause) → text ≡ front ++ rest → IsPart e front → rank why ≤ 14 → (rest ≡ [] → why ≡ Unclosed) → Plain e text place other → Least (length front) why place other
plain_late e text front [] why place other s part r ended (inl h) =
    let whole : length front ≡ length text = ap length (sym (append-nil front) ∙ sym s) in
    inr (whole ∙ sym h.0, omega (arith, ap rank (ended refl), ap rank h.1))
plain_late e text front (byte ∷ rest) why place other s part r ended (inl h) = inl (omega (arith, h.0, ap length s, length-append front (byte ∷ rest)))
plain_late e text front rest why place other s part r ended (inr h) =
    let l = front_open e text front rest place s part h.1 in
    ⊎_elim (λ e. inl e) (λ g. inr (omega (arith, l, g), omega (arith, r, ap rank h.2))) (cases_lt (length front) place)

-- the forms that a text may begin with, by its first byte

pub data Lead : Type 0 where
  at_nothing : Lead
  at_colon : Lead
  at_quote : Lead
  at_tilde : Lead
  at_number : Lead
  at_name : Lead
  at_sign : Lead

abbrev pub lead_by : Bool → Bool → Bool → Bool → Bool → Lead
lead_by true b c d f = at_colon
lead_by false true c d f = at_quote
lead_by false false true d f = at_tilde
lead_by false false false true f = at_number
lead_by false false false false true = at_name
lead_by false false false false false = at_sign

abbrev pub lead : List ℕ → Lead
lead [] = at_nothing
lead (byte ∷ text) = lead_by (eqb byte 58) (eqb byte 34) (eqb byte 126) (eqb byte 45 || is_digit byte 10) (is_name_start byte)

-- where a string's inside stops before its end, and why
abbrev pub IsBroken : List ℕ → TermCause → Type 0
IsBroken rest why = (more : List ℕ) × (((rest ≡ 35 ∷ 123 ∷ more) × (why ≡ Unsupported Interpolation)) ⊎ ((rest ≡ 92 ∷ more) × (why ≡ BadEscape)))

-- the causes that tell of a form, where the text begins so; before its first byte or after it

pub data ColonMark (e : Expected) (after : List ℕ) : ℕ → TermCause → Type 0 where
  colon_broken : {place : ℕ} {why : TermCause} (inside bytes rest : List ℕ) → after ≡ 34 ∷ inside → spelt_at inside ≡ (bytes, rest) → IsBroken rest why → place + length rest ≡ suc (length after) → ColonMark e after place why
  colon_utf8 : (inside bytes more : List ℕ) → IsTrue e.term → after ≡ 34 ∷ inside → spelt_at inside ≡ (bytes, 34 ∷ more) → (IsUtf8 bytes → ⊥) → ColonMark e after 1 BadUtf8

pub data QuoteMark (e : Expected) (inside : List ℕ) : ℕ → TermCause → Type 0 where
  quote_heredoc : (more : List ℕ) → IsTrue e.term → inside ≡ 34 ∷ 34 ∷ more → QuoteMark e inside 0 (Unsupported Heredoc)
  quote_broken : {place : ℕ} {why : TermCause} (bytes rest : List ℕ) → spelt_at inside ≡ (bytes, rest) → IsBroken rest why → place + length rest ≡ suc (length inside) → QuoteMark e inside place why
  quote_key : (bytes : List ℕ) (blank : ℕ) (more : List ℕ) → IsTrue e.key → spelt_at inside ≡ (bytes, 34 ∷ 58 ∷ blank ∷ more) → is_blank blank ≡ true → (IsUtf8 bytes → ⊥) → QuoteMark e inside 0 BadUtf8
  quote_colon : {place : ℕ} (bytes more : List ℕ) → IsTrue e.outermost → spelt_at inside ≡ (bytes, 34 ∷ 58 ∷ more) → place + suc (length more) ≡ suc (length inside) → QuoteMark e inside place TrailingText

pub data TildeMark (e : Expected) (after : List ℕ) : ℕ → TermCause → Type 0 where
  tilde_sigil : IsTrue e.term → (after ≡ [] → ⊥) → (after ≡ 119 ∷ [] → ⊥) → ((rest : List ℕ) → after ≡ 119 ∷ 40 ∷ rest → ⊥) → TildeMark e after 0 (Unsupported Sigil)
  tilde_broken : {place : ℕ} {why : TermCause} (inside rest : List ℕ) → IsTrue e.term → IsTrue (is_inside inside) → IsBroken rest why → after ≡ 119 ∷ 40 ∷ inside ++ rest → place ≡ 3 + length inside → TildeMark e after place why

pub data NumberMark (e : Expected) (text : List ℕ) : ℕ → TermCause → Type 0 where
  number_float : {place : ℕ} (word : List ℕ) (digit : ℕ) (more : List ℕ) → IsTrue e.term → IsDecimal word → IsTrue (is_ascii_digit digit) → text ≡ word ++ 46 ∷ digit ∷ more → place ≡ length word → NumberMark e text place (Unsupported Float)
  number_wide : (n : ℤ) (after : List ℕ) → IsTrue e.term → Begins text (Int n) after → IsWide (Int n) → NumberMark e text 0 NumberTooBig

pub data NameMark (e : Expected) (text : List ℕ) : ℕ → TermCause → Type 0 where
  name_alone : IsTrue e.term → IsFalse e.key → is_capital text ≡ true → NameMark e text 0 (Unsupported Alias)
  name_alias : (name more : List ℕ) → IsTrue e.term ⊎ IsTrue e.key → is_capital text ≡ true → is_name name ≡ true → IsTrue (ends_name name more) → IsFalse (is_colon more) → text ≡ name ++ more → NameMark e text 0 (Unsupported Alias)
  name_colon : {place : ℕ} (word more : List ℕ) → IsTrue e.outermost → is_bare_atom word ≡ true → text ≡ word ++ 58 ∷ more → place ≡ length word → NameMark e text place TrailingText

pub data SignMark (e : Expected) (text : List ℕ) : ℕ → TermCause → Type 0 where
  sign_charlist : IsTrue e.term → starts_with 39 text ≡ true → SignMark e text 0 (Unsupported Charlist)
  sign_bits : (more : List ℕ) → IsTrue e.term → text ≡ 60 ∷ 60 ∷ more → SignMark e text 0 (Unsupported Bits)

abbrev pub Marked : Lead → Expected → List ℕ → ℕ → TermCause → Type 0
Marked lead e [] place other = ⊥
Marked at_nothing e (byte ∷ text) place other = ⊥
Marked at_colon e (byte ∷ text) place other = ColonMark e text place other
Marked at_quote e (byte ∷ text) place other = QuoteMark e text place other
Marked at_tilde e (byte ∷ text) place other = TildeMark e text place other
Marked at_number e (byte ∷ text) place other = NumberMark e (byte ∷ text) place other
Marked at_name e (byte ∷ text) place other = NameMark e (byte ∷ text) place other
Marked at_sign e (byte ∷ text) place other = SignMark e (byte ∷ text) place other
