-- Strings and quoted keys, and the causes that they have.
use Rattle.std.specs.Prelude.{IsTrue}
use Rattle.std.proofs.Common.{◌≡◌, ℕ, suc, ◌+◌, ◌<◌, ◌≤◌, Bool, true, false, ◌&&◌, ◌||◌, ◌⊎◌, inl, inr, List, [], ◌∷◌, ◌++◌, Option, Some, None, length, eqb, refl, sym, ap, ◌∙◌, arith, subst, append_assoc, ⊎_elim}
use Rattle.std.proofs.lemmas.Bool.{and_parts, and_from, or_cases, eqb-true, true≢false, false≢true}
use Rattle.std.proofs.lemmas.List.{append-nil, length-append}
use Rattle.std.specs.Str.{IsUtf8}
use Rattle.term_tokens.specs.declared.cause.Feature.TheVariants.{Heredoc}
use Rattle.term_tokens.specs.declared.cause.TermCause.{TermCause}
use Rattle.term_tokens.specs.declared.cause.TermCause.TheVariants.{Unsupported, BadUtf8, TrailingText}
use Rattle.term_tokens.specs.declared.expected.Expected.{Expected}
use Rattle.term_tokens.specs.declared.token.Token.{Token}
use Rattle.term_tokens.specs.declared.token.Token.TheVariants.{Str, Key}
use Rattle.term_tokens.specs.Lexed.{spelt_at, is_heredoc}
use Rattle.term_tokens.specs.Lexing.{Found, utf8_only, quoted_at, after_colon, key_or_string, string_of, string_at}
use Rattle.term_tokens.specs.Local.{takes, IsPart, IsShut, heredoc}
use Rattle.term_tokens.specs.Names.{is_blank}
use Rattle.term_tokens.specs.Strings.{Quoted}
use Rattle.term_tokens.specs.Tokens.{string, quoted_key}
use Rattle.term_tokens.proofs.FaultForms.{IsBroken, QuoteMark, quote_heredoc, quote_broken, quote_key, quote_colon}
use Rattle.term_tokens.proofs.OptionLemmas.{none_some, some_same, map_some}
use Rattle.term_tokens.proofs.StringLemmas.{spelt_sound, quoted_is_spelt, quoted_from_spelt}
use Rattle.term_tokens.proofs.StringParts.{utf8_found}
use Rattle.term_tokens.proofs.StuckItems.{Opens, Never}
use Rattle.term_tokens.proofs.BeginLemmas.{begins_first}

-- the token is a string or a key, as its quotes and its colon say

pub key_or_string_cases : (bytes rest : List ℕ) (o : Option (List ℕ)) (found : Token × List ℕ) → key_or_string bytes rest o ≡ Some found → ((found ≡ (Str bytes, rest)) × (o ≡ None)) ⊎ ((found.0 ≡ Key bytes) × (o ≡ Some found.1) × IsUtf8 bytes)
key_or_string_cases bytes rest None found h = inl (sym (some_same h), refl)
key_or_string_cases bytes rest (Some after) found h =
    let m = map_some (λ key. (Key key, after)) (utf8_only bytes) found h in
    let u = utf8_found bytes m.0 m.1 in
    inr (ap (λ f. f.0) (sym m.2) ∙ ap Key (sym u.1), ap (λ f. Some f.1) m.2, u.0)

abbrev pub IsClosed : List ℕ → Token × List ℕ → Type 0
IsClosed inside found = (bytes : List ℕ) × (rest : List ℕ) × (spelt_at inside ≡ (bytes, 34 ∷ rest)) × (((found ≡ (Str bytes, rest)) × (after_colon rest ≡ None)) ⊎ ((found.0 ≡ Key bytes) × (after_colon rest ≡ Some found.1) × IsUtf8 bytes))

pub string_closed : (inside : List ℕ) (found : Token × List ℕ) → string_at inside ≡ Some found → IsClosed inside found
string_closed inside found h = by (quoted_at inside) refl h
  where
    by : (o : Found (List ℕ)) → quoted_at inside ≡ o → string_of o ≡ Some found → IsClosed inside found
    by None q h = absurd (none_some h)
    by (Some f) q h = (f.0, f.1, quoted_is_spelt inside f q, key_or_string_cases f.0 f.1 (after_colon f.1) found h)

pub string_taken : (e : Expected) (inside : List ℕ) (found : Token × List ℕ) → e.term ≡ false → e.key ≡ false → string_at inside ≡ Some found → takes e found.0 ≡ false
string_taken e inside found t k h =
    let c = string_closed inside found h in
    ⊎_elim (λ x. ap (λ f. takes e f.0) x.0 ∙ t) (λ x. ap (takes e) x.0 ∙ k) c.3

-- marks

pub inside_long : (inside bytes rest : List ℕ) → spelt_at inside ≡ (bytes, rest) → length rest ≤ length inside
inside_long inside bytes rest f =
    let r = spelt_sound inside in
    let same : ◌≡◌ {A = List ℕ} (spelt_at inside).1 rest = ap (λ x. x.1) f in
    omega (arith, ap length r.split, length-append r.inside (spelt_at inside).1, ap length same)

-- a mark stands at the first byte, or what it says is there
pub first_mark : (e : Expected) (inside : List ℕ) {place : ℕ} {why : TermCause} → QuoteMark e inside place why → (0 < place) ⊎ ((place ≡ 0) × ((IsTrue e.term × (why ≡ Unsupported Heredoc)) ⊎ (IsTrue e.key × (why ≡ BadUtf8))))
first_mark e inside (quote_heredoc more t s) = inr (refl, inl (t, refl))
first_mark e inside (quote_broken bytes rest f b p) = inl (omega (arith, p, inside_long inside bytes rest f))
first_mark e inside (quote_key bytes blank more k f b u) = inr (refl, inr (k, refl))
first_mark e inside (quote_colon bytes more o f p) = inl (omega (arith, p, inside_long inside bytes (34 ∷ 58 ∷ more) f))

pub heredoc_two : (more : List ℕ) (inside : List ℕ) → inside ≡ 34 ∷ 34 ∷ more → is_heredoc inside ≡ true
heredoc_two more inside s = ap is_heredoc s

pub two_heredoc : (inside : List ℕ) → is_heredoc inside ≡ true → (more : List ℕ) × (inside ≡ 34 ∷ 34 ∷ more)
two_heredoc [] h = absurd (false≢true h)
two_heredoc (byte ∷ []) h = absurd (true≢false (sym (and_parts (eqb byte 34) false h).1))
two_heredoc (byte ∷ second ∷ more) h = let p = and_parts (eqb byte 34) (eqb second 34) h in (more, ap (λ b. b ∷ second ∷ more) (eqb-true byte 34 p.0) ∙ ap (λ b. 34 ∷ b ∷ more) (eqb-true second 34 p.1))

-- what a mark says of where the quotes end, where no heredoc begins
pub data Says (e : Expected) (inside bytes rest : List ℕ) : ℕ → TermCause → Type 0 where
  says_broken : {place : ℕ} {why : TermCause} → IsBroken rest why → place + length rest ≡ suc (length inside) → Says e inside bytes rest place why
  says_key : (blank : ℕ) (more : List ℕ) → rest ≡ 34 ∷ 58 ∷ blank ∷ more → IsTrue e.key → is_blank blank ≡ true → (IsUtf8 bytes → ⊥) → Says e inside bytes rest 0 BadUtf8
  says_colon : {place : ℕ} (more : List ℕ) → rest ≡ 34 ∷ 58 ∷ more → IsTrue e.outermost → place + suc (length more) ≡ suc (length inside) → Says e inside bytes rest place TrailingText

pub says : (e : Expected) (inside bytes rest : List ℕ) {place : ℕ} {why : TermCause} → spelt_at inside ≡ (bytes, rest) → (e.term && is_heredoc inside) ≡ false → QuoteMark e inside place why → Says e inside bytes rest place why
says e inside bytes rest f h (quote_heredoc more t s) = absurd (true≢false (sym (and_from e.term (is_heredoc inside) t (heredoc_two more inside s)) ∙ h))
says e inside bytes rest {why = why} f h (quote_broken bytes2 rest2 g b p) =
    let stop : rest2 ≡ rest = ap (λ x. x.1) (sym g ∙ f) in
    says_broken (subst (λ l. IsBroken l why) stop b) (omega (arith, p, ap length stop))
says e inside bytes rest f h (quote_key bytes2 blank more k g b u) = says_key blank more (ap (λ x. x.1) (sym f ∙ g)) k b (subst (λ l. IsUtf8 l → ⊥) (ap (λ x. x.0) (sym g ∙ f)) u)
says e inside bytes rest f h (quote_colon bytes2 more o g p) = says_colon more (ap (λ x. x.1) (sym f ∙ g)) o p

-- parts of strings

pub string_part : (e : Expected) (inside bytes : List ℕ) → e.term ≡ true → Quoted inside bytes → IsPart e (34 ∷ inside)
string_part e inside bytes t q = inr (Str bytes, 34 ∷ [], string q refl refl, t)

pub closed_part : (e : Expected) (inside bytes : List ℕ) → e.term ≡ true → Quoted inside bytes → IsPart e (34 ∷ inside ++ 34 ∷ [])
closed_part e inside bytes t q = inr (Str bytes, [], string q refl (append-nil (34 ∷ inside ++ 34 ∷ [])), t)

pub closed_key_part : (e : Expected) (inside bytes : List ℕ) → e.key ≡ true → Quoted inside bytes → IsUtf8 bytes → IsPart e (34 ∷ inside ++ 34 ∷ [])
closed_key_part e inside bytes k q u = inr (Key bytes, 58 ∷ 32 ∷ [], quoted_key 32 q u refl (append_assoc (34 ∷ inside) (34 ∷ []) (58 ∷ 32 ∷ [])), k)

pub colon_part : (e : Expected) (inside bytes : List ℕ) → e.key ≡ true → Quoted inside bytes → IsUtf8 bytes → IsPart e (34 ∷ inside ++ 34 ∷ 58 ∷ [])
colon_part e inside bytes k q u = inr (Key bytes, 32 ∷ [], quoted_key 32 q u refl (append_assoc (34 ∷ inside) (34 ∷ 58 ∷ []) (32 ∷ [])), k)

pub key_part : (e : Expected) (text inside : List ℕ) → e.key ≡ true → Opens [] text inside → IsPart e (34 ∷ inside)
key_part e text inside k o = inr (Key o.spelled, o.more ++ 34 ∷ 58 ∷ 32 ∷ [], quoted_key 32 o.quoted o.utf8 refl (ap (λ l. 34 ∷ l) (sym (append_assoc inside o.more (34 ∷ 58 ∷ 32 ∷ [])))), k)

pub other_key : (e : Expected) → (e.term || e.key) ≡ true → e.term ≡ false → e.key ≡ true
other_key e o t = ⊎_elim (λ x. absurd (true≢false (sym x ∙ t))) (λ k. k) (or_cases e.term e.key o)

pub end_part : (e : Expected) (inside bytes : List ℕ) → (e.term || e.key) ≡ true → Quoted inside bytes → (e.term ≡ false → IsUtf8 bytes) → IsPart e (34 ∷ inside ++ 34 ∷ [])
end_part e inside bytes o q fit = by e.term refl
  where
    by : (term : Bool) → e.term ≡ term → IsPart e (34 ∷ inside ++ 34 ∷ [])
    by true t = closed_part e inside bytes t q
    by false t = closed_key_part e inside bytes (other_key e o t) q (fit t)

pub never_shut : (e : Expected) (part : List ℕ) → e.term ≡ false → Never [] part → IsShut e (34 ∷ part)
never_shut e part t n more tok after b u f =
    let c = string_closed (part ++ more) (tok, after) (begins_first b) in
    ⊎_elim (λ x. true≢false (sym u ∙ ap (λ g. takes e g.0) x.0 ∙ t)) (λ x. n more (c.0, c.1) (quoted_from_spelt (part ++ more) c.0 c.1 c.2) x.2) c.3
