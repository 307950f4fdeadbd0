-- Strings and quoted keys whose quotes are closed, and their first faults.
use Rattle.std.specs.Prelude.{IsTrue, IsFalse, option_map, Ok, Err}
use Rattle.std.proofs.Common.{◌≡◌, ℕ, ◌+◌, Bool, true, false, ◌&&◌, ◌||◌, ◌⊎◌, inl, inr, List, [], ◌∷◌, ◌++◌, Option, Some, None, length, cond, eqb, refl, sym, ap, ◌∙◌, arith, subst, append_assoc, ⊎_elim}
use Rattle.std.proofs.lemmas.Bool.{eqb-true, true≢false}
use Rattle.std.proofs.lemmas.List.{length-append}
use Rattle.std.proofs.lemmas.Str.{IsUtf8-from_is_utf8, is_utf8-from_IsUtf8}
use Rattle.std.specs.Str.{IsUtf8, is_utf8}
use Rattle.term_tokens.specs.declared.cause.TermCause.{TermCause}
use Rattle.term_tokens.specs.declared.cause.TermCause.TheVariants.{BadUtf8, TrailingText, Unexpected}
use Rattle.term_tokens.specs.declared.expected.Expected.{Expected}
use Rattle.term_tokens.specs.declared.token.Token.{Token}
use Rattle.term_tokens.specs.declared.token.Token.TheVariants.{Str, Key}
use Rattle.term_tokens.specs.Lexed.{cut_off, stray_colon, key_only, colon_lexed, no_quoted_key, closed_lexed, is_heredoc}
use Rattle.term_tokens.specs.Lexing.{utf8_only, after_colon, key_or_string, string_of}
use Rattle.term_tokens.specs.Local.{rank, starts_with, is_plain, IsFree, takes, IsShut, key_utf8, colon_after}
use Rattle.term_tokens.specs.Names.{is_blank}
use Rattle.term_tokens.specs.Strings.{Quoted}
use Rattle.term_tokens.specs.Tokens.{Begins, string}
use Rattle.term_tokens.proofs.FaultLemmas.{Right, first_by, unexpected_at, cut_right, broken_no_quote}
use Rattle.term_tokens.proofs.FaultForms.{Least, IsNone, QuoteMark}
use Rattle.term_tokens.proofs.OptionLemmas.{none_some}
use Rattle.term_tokens.proofs.StringLemmas.{spelt_complete}
use Rattle.term_tokens.proofs.StringParts.{quoted_complete, utf8_found, utf8_kept}
use Rattle.term_tokens.proofs.BeginLemmas.{begins_first, colon_found}
use Rattle.term_tokens.proofs.TokenLemmas.{first_begins}
use Rattle.term_tokens.proofs.StringMarks.{key_or_string_cases, Says, says, colon_part, other_key, end_part}
use Rattle.term_tokens.proofs.StringMarks.Says.{says_broken, says_key, says_colon}

-- after the closing quote

pub closed_found : (inside bytes rest : List ℕ) (tok : Token) (after : List ℕ) → Quoted inside bytes → Begins (34 ∷ inside ++ 34 ∷ rest) tok after → ((◌≡◌ {A = Token × List ℕ} (tok, after) (Str bytes, rest)) × (after_colon rest ≡ None)) ⊎ ((tok ≡ Key bytes) × (after_colon rest ≡ Some after) × IsUtf8 bytes)
closed_found inside bytes rest tok after q b = key_or_string_cases bytes rest (after_colon rest) (tok, after) (sym (ap string_of (quoted_complete q rest)) ∙ begins_first b)

-- no key may stand there, or the colon or the bytes make none
abbrev pub NoKey : Expected → List ℕ → List ℕ → Type 0
NoKey e bytes rest = (e.key ≡ false) ⊎ ((after_colon rest ≡ None) ⊎ (IsUtf8 bytes → ⊥))

pub no_key : (e : Expected) (bytes rest : List ℕ) (tok : Token) (after : List ℕ) → NoKey e bytes rest → (tok ≡ Key bytes) × (after_colon rest ≡ Some after) × IsUtf8 bytes → IsTrue (takes e tok) → ⊥
no_key e bytes rest tok after (inl k) x t = true≢false (sym t ∙ ap (takes e) x.0 ∙ k)
no_key e bytes rest tok after (inr (inl n)) x t = none_some (sym n ∙ x.1)
no_key e bytes rest tok after (inr (inr u)) x t = u x.2

pub colon_bad : (e : Expected) (inside bytes rest : List ℕ) → Quoted inside bytes → NoKey e bytes (58 ∷ rest) → IsNone e (34 ∷ inside ++ 34 ∷ 58 ∷ rest)
colon_bad e inside bytes rest q n tok after b t f =
    ⊎_elim (λ x. true≢false (sym (ap (λ g. is_plain (34 ∷ inside ++ 34 ∷ 58 ∷ rest) g.0 && starts_with 58 g.1) x.0) ∙ f))
    (λ x. no_key e bytes (58 ∷ rest) tok after n x t) (closed_found inside bytes (58 ∷ rest) tok after q b)

pub none_bad : (e : Expected) (inside bytes rest : List ℕ) → Quoted inside bytes → e.term ≡ false → after_colon rest ≡ None → IsNone e (34 ∷ inside ++ 34 ∷ rest)
none_bad e inside bytes rest q n c tok after b t f =
    ⊎_elim (λ x. true≢false (sym t ∙ ap (λ g. takes e g.0) x.0 ∙ n))
    (λ x. none_some (sym c ∙ x.1)) (closed_found inside bytes rest tok after q b)

pub no_colon : (first : ℕ) (more : List ℕ) → eqb first 58 ≡ false → after_colon (first ∷ more) ≡ None
no_colon first [] q = refl
no_colon first (next ∷ more) q = ap (λ x. cond (x && is_blank next) (Some more) None) q

pub no_colon_at : (rest : List ℕ) → starts_with 58 rest ≡ false → after_colon rest ≡ None
no_colon_at [] c = refl
no_colon_at (first ∷ more) c = no_colon first more c

pub blank_found : (blank : ℕ) (more rest : List ℕ) → rest ≡ 34 ∷ 58 ∷ blank ∷ more → is_blank blank ≡ true → {after : List ℕ} → rest ≡ 34 ∷ after → after_colon after ≡ None → ⊥
blank_found blank more rest s b {after = after} r n =
    let same : after ≡ 58 ∷ blank ∷ more = cc in
    none_some (sym n ∙ ap after_colon same ∙ ap (λ x. cond x (Some more) None) b)

module _ (e : Expected) (inside bytes after : List ℕ) (q : Quoted inside bytes) (o : (e.term || e.key) ≡ true) (h : (e.term && is_heredoc (inside ++ 34 ∷ after)) ≡ false) (outer : IsTrue e.outermost → IsFalse e.key) where
  pub marked : {place : ℕ} {why : TermCause} → QuoteMark e (inside ++ 34 ∷ after) place why → Says e (inside ++ 34 ∷ after) bytes (34 ∷ after) place why
  marked m = says e (inside ++ 34 ∷ after) bytes (34 ∷ after) (spelt_complete q (34 ∷ after) refl refl) h m

  pub split_end : 34 ∷ inside ++ 34 ∷ after ≡ (34 ∷ inside ++ 34 ∷ []) ++ after
  split_end = sym (append_assoc (34 ∷ inside) (34 ∷ []) after)

  -- no colon follows
  pub late_plain : starts_with 58 after ≡ false → {place : ℕ} {why : TermCause} → Says e (inside ++ 34 ∷ after) bytes (34 ∷ after) place why → ⊥
  late_plain c {why = why} (says_broken b p) = broken_no_quote (34 ∷ after) why after b refl
  late_plain c (says_key blank more s k b u) = let same : after ≡ 58 ∷ blank ∷ more = cc in true≢false (sym (ap (starts_with 58) same) ∙ c)
  late_plain c (says_colon more s p r) = let same : after ≡ 58 ∷ more = cc in true≢false (sym (ap (starts_with 58) same) ∙ c)

  pub plain_right : (e.term ≡ false → IsUtf8 bytes) → starts_with 58 after ≡ false → (term : Bool) → e.term ≡ term → Right e (34 ∷ inside ++ 34 ∷ after) (cond term (Ok (Str bytes, after)) (cut_off after))
  plain_right fit c true t = (first_begins (34 ∷ inside ++ 34 ∷ after) (Str bytes, after) (ap string_of (quoted_complete q after) ∙ ap (key_or_string bytes after) (no_colon_at after c)), t, tt, c, λ place why m. late_plain c (marked m))
  plain_right fit c false t = cut_right e (34 ∷ inside ++ 34 ∷ after) (34 ∷ inside ++ 34 ∷ []) after split_end (end_part e inside bytes o q fit)
      (λ none. none_bad e inside bytes after q t (no_colon_at after c)) shut (λ place other m. absurd (late_plain c (marked m)))
    where
      shut : (byte : ℕ) (more : List ℕ) → after ≡ byte ∷ more → IsShut e ((34 ∷ inside ++ 34 ∷ []) ++ byte ∷ [])
      shut byte more s more2 tok rest b u f =
          let joined : ((34 ∷ inside ++ 34 ∷ []) ++ byte ∷ []) ++ more2 ≡ 34 ∷ inside ++ 34 ∷ byte ∷ more2 = append_assoc (34 ∷ inside ++ 34 ∷ []) (byte ∷ []) more2 ∙ append_assoc (34 ∷ inside) (34 ∷ []) (byte ∷ more2) in
          none_bad e inside bytes (byte ∷ more2) q t (no_colon byte more2 (sym (ap (starts_with 58) s) ∙ c)) tok rest (subst (λ l. Begins l tok rest) joined b) u (subst (λ l. IsFree l tok rest) joined f)

module _ (e : Expected) (inside bytes rest : List ℕ) (q : Quoted inside bytes) (o : (e.term || e.key) ≡ true) (h : (e.term && is_heredoc (inside ++ 34 ∷ 58 ∷ rest)) ≡ false) (outer : IsTrue e.outermost → IsFalse e.key) (why : (e.key ≡ false) ⊎ (after_colon (58 ∷ rest) ≡ None)) where
  pub split_colon : 34 ∷ inside ++ 34 ∷ 58 ∷ rest ≡ (34 ∷ inside ++ 34 ∷ []) ++ 58 ∷ rest
  split_colon = sym (append_assoc (34 ∷ inside) (34 ∷ []) (58 ∷ rest))

  pub only_stray : {place : ℕ} {other : TermCause} → Says e (inside ++ 34 ∷ 58 ∷ rest) bytes (34 ∷ 58 ∷ rest) place other → IsTrue e.outermost × (place ≡ length (34 ∷ inside ++ 34 ∷ [])) × (other ≡ TrailingText)
  only_stray {other = other} (says_broken b p) = absurd (broken_no_quote (34 ∷ 58 ∷ rest) other (58 ∷ rest) b refl)
  only_stray (says_key blank more s k b u) = absurd (⊎_elim (λ x. true≢false (sym k ∙ x)) (λ x. blank_found blank more (34 ∷ 58 ∷ rest) s b refl x) why)
  only_stray (says_colon more s p r) =
      let same : rest ≡ more = cc in
      (p, omega (arith, r, ap length same, length-append inside (34 ∷ 58 ∷ rest), length-append inside (34 ∷ [])), refl)

  pub stray_right : (e.term ≡ false → IsUtf8 bytes) → (e.key ≡ false) ⊎ (IsUtf8 bytes → ⊥) → (out : Bool) → e.outermost ≡ out → Right e (34 ∷ inside ++ 34 ∷ 58 ∷ rest) (Err (58 ∷ rest, cond out TrailingText Unexpected))
  stray_right fit n true p = first_by e (34 ∷ inside ++ 34 ∷ 58 ∷ rest) (34 ∷ inside ++ 34 ∷ []) (58 ∷ rest) TrailingText split_colon (end_part e inside bytes o q fit) (omega arith) (λ x. cc)
      (colon_after rest {token = Str bytes} p (string q refl refl) refl split_colon)
      (λ place other m. let x = only_stray (marked e inside bytes (58 ∷ rest) q o h outer m) in inr (sym x.1, omega (arith, ap rank x.2)))
  stray_right fit n false p = unexpected_at e (34 ∷ inside ++ 34 ∷ 58 ∷ rest) (34 ∷ inside ++ 34 ∷ []) rest 58 split_colon (end_part e inside bytes o q fit) shut
      (λ place other m. let x = only_stray (marked e inside bytes (58 ∷ rest) q o h outer m) in absurd (true≢false (sym x.0 ∙ p)))
    where
      no_more : (more : List ℕ) → NoKey e bytes (58 ∷ more)
      no_more more = ⊎_elim (λ k. inl k) (λ u. inr (inr u)) n

      shut : IsShut e ((34 ∷ inside ++ 34 ∷ []) ++ 58 ∷ [])
      shut more2 tok rest2 b u f =
          let joined : ((34 ∷ inside ++ 34 ∷ []) ++ 58 ∷ []) ++ more2 ≡ 34 ∷ inside ++ 34 ∷ 58 ∷ more2 = append_assoc (34 ∷ inside ++ 34 ∷ []) (58 ∷ []) more2 ∙ append_assoc (34 ∷ inside) (34 ∷ []) (58 ∷ more2) in
          colon_bad e inside bytes more2 q (no_more more2) tok rest2 (subst (λ l. Begins l tok rest2) joined b) u (subst (λ l. IsFree l tok rest2) joined f)

  pub after_key : e.key ≡ true → IsUtf8 bytes → Right e (34 ∷ inside ++ 34 ∷ 58 ∷ rest) (cut_off rest)
  after_key k u =
      let c : after_colon (58 ∷ rest) ≡ None = ⊎_elim (λ x. absurd (true≢false (sym k ∙ x))) (λ x. x) why in
      cut_right e (34 ∷ inside ++ 34 ∷ 58 ∷ rest) (34 ∷ inside ++ 34 ∷ 58 ∷ []) rest (sym (append_assoc (34 ∷ inside) (34 ∷ 58 ∷ []) rest)) (colon_part e inside bytes k q u)
      (λ none. colon_bad e inside bytes rest q (inr (inl c))) (shut c)
      (λ place other m. let x = only_stray (marked e inside bytes (58 ∷ rest) q o h outer m) in absurd (true≢false (sym k ∙ outer x.0)))
    where
      same_blank : (next : ℕ) (more more2 : List ℕ) → after_colon (58 ∷ next ∷ more) ≡ None → after_colon (58 ∷ next ∷ more2) ≡ None
      same_blank next more more2 n = at (is_blank next) n
        where
          at : (blank : Bool) → cond blank (Some more) None ≡ None → cond blank (Some more2) None ≡ None
          at true n = absurd (none_some (sym n))
          at false n = refl

      shut : after_colon (58 ∷ rest) ≡ None → (byte : ℕ) (more : List ℕ) → rest ≡ byte ∷ more → IsShut e ((34 ∷ inside ++ 34 ∷ 58 ∷ []) ++ byte ∷ [])
      shut c byte more s more2 tok rest2 b u f =
          let joined : ((34 ∷ inside ++ 34 ∷ 58 ∷ []) ++ byte ∷ []) ++ more2 ≡ 34 ∷ inside ++ 34 ∷ 58 ∷ byte ∷ more2 = append_assoc (34 ∷ inside ++ 34 ∷ 58 ∷ []) (byte ∷ []) more2 ∙ append_assoc (34 ∷ inside) (34 ∷ 58 ∷ []) (byte ∷ more2) in
          let n : after_colon (58 ∷ byte ∷ more2) ≡ None = same_blank byte more more2 (ap (λ l. after_colon (58 ∷ l)) (sym s) ∙ c) in
          colon_bad e inside bytes (byte ∷ more2) q (inr (inl n)) tok rest2 (subst (λ l. Begins l tok rest2) joined b) u (subst (λ l. IsFree l tok rest2) joined f)

  pub colon_right : (e.term ≡ false → IsUtf8 bytes) → Right e (34 ∷ inside ++ 34 ∷ 58 ∷ rest) (colon_lexed e bytes (58 ∷ rest))
  colon_right fit = by e.key (is_utf8 bytes) refl refl
    where
      by : (key utf8 : Bool) → e.key ≡ key → is_utf8 bytes ≡ utf8 → Right e (34 ∷ inside ++ 34 ∷ 58 ∷ rest) (cond (key && utf8) (cut_off rest) (stray_colon e (58 ∷ rest)))
      by true true k u = after_key k (IsUtf8-from_is_utf8 bytes u)
      by true false k u = stray_right fit (inr (λ v. true≢false (sym (is_utf8-from_IsUtf8 bytes v) ∙ u))) e.outermost refl
      by false utf8 k u = stray_right fit (inl k) e.outermost refl

pub no_quoted_right : (e : Expected) (inside bytes after : List ℕ) → Quoted inside bytes → (e.term || e.key) ≡ true → (e.term && is_heredoc (inside ++ 34 ∷ after)) ≡ false → (IsTrue e.outermost → IsFalse e.key) → (e.key ≡ false) ⊎ (after_colon after ≡ None) → (e.term ≡ false → IsUtf8 bytes) → Right e (34 ∷ inside ++ 34 ∷ after) (no_quoted_key e bytes after)
no_quoted_right e inside bytes [] q o h outer why fit = plain_right e inside bytes [] q o h outer fit refl e.term refl
no_quoted_right e inside bytes (first ∷ rest) q o h outer why fit = by (eqb first 58) refl
  where
    by : (colon : Bool) → eqb first 58 ≡ colon → Right e (34 ∷ inside ++ 34 ∷ first ∷ rest) (cond colon (colon_lexed e bytes (first ∷ rest)) (cond e.term (Ok (Str bytes, first ∷ rest)) (cut_off (first ∷ rest))))
    by true c =
        let s = eqb-true first 58 c in
        subst (λ b. Right e (34 ∷ inside ++ 34 ∷ b ∷ rest) (colon_lexed e bytes (b ∷ rest))) (sym s)
        (colon_right e inside bytes rest q o (subst (λ b. (e.term && is_heredoc (inside ++ 34 ∷ b ∷ rest)) ≡ false) s h) outer (subst (λ b. (e.key ≡ false) ⊎ (after_colon (b ∷ rest) ≡ None)) s why) fit)
    by false c = plain_right e inside bytes (first ∷ rest) q o h outer fit c e.term refl

-- a quoted key
pub whole_key : (e : Expected) (inside bytes after rest : List ℕ) → Quoted inside bytes → (e.term || e.key) ≡ true → (e.term && is_heredoc (inside ++ 34 ∷ after)) ≡ false → (IsTrue e.outermost → IsFalse e.key) → e.key ≡ true → after_colon after ≡ Some rest → (u : Option (List ℕ)) → utf8_only bytes ≡ u → Right e (34 ∷ inside ++ 34 ∷ after) (key_only (34 ∷ inside ++ 34 ∷ after) rest u)
whole_key e inside bytes after rest q o h outer k c None u =
    let f = colon_found after rest c in
    first_by e (34 ∷ inside ++ 34 ∷ after) [] (34 ∷ inside ++ 34 ∷ after) BadUtf8 refl (inl refl) (omega arith) (λ x. cc)
    (key_utf8 f.0 rest k q (λ v. none_some (sym u ∙ utf8_kept bytes v)) f.1 (ap (λ l. 34 ∷ inside ++ 34 ∷ l) f.2))
    (λ place other m. at (marked e inside bytes after q o h outer m))
  where
    at : {place : ℕ} {other : TermCause} → Says e (inside ++ 34 ∷ after) bytes (34 ∷ after) place other → Least 0 BadUtf8 place other
    at {other = other} (says_broken b p) = absurd (broken_no_quote (34 ∷ after) other after b refl)
    at (says_key blank more s key b v) = inr (refl, omega arith)
    at (says_colon more s p r) = absurd (true≢false (sym k ∙ outer p))
whole_key e inside bytes after rest q o h outer k c (Some name) u =
    let v = utf8_found bytes name u in
    (first_begins (34 ∷ inside ++ 34 ∷ after) (Key name, rest) (ap string_of (quoted_complete q after) ∙ ap (key_or_string bytes after) c ∙ ap (option_map (λ key. (Key key, rest))) u), k, tt, refl, λ place why m. at v.0 (marked e inside bytes after q o h outer m))
  where
    at : IsUtf8 bytes → {place : ℕ} {other : TermCause} → Says e (inside ++ 34 ∷ after) bytes (34 ∷ after) place other → ⊥
    at v {other = other} (says_broken b p) = broken_no_quote (34 ∷ after) other after b refl
    at v (says_key blank more s key b n) = n v
    at v (says_colon more s p r) = true≢false (sym k ∙ outer p)

pub closed_right : (e : Expected) (inside bytes after : List ℕ) → Quoted inside bytes → (e.term || e.key) ≡ true → (e.term && is_heredoc (inside ++ 34 ∷ after)) ≡ false → (IsTrue e.outermost → IsFalse e.key) → (e.term ≡ false → after_colon after ≡ None → IsUtf8 bytes) → (c : Option (List ℕ)) → after_colon after ≡ c → Right e (34 ∷ inside ++ 34 ∷ after) (closed_lexed e (34 ∷ inside ++ 34 ∷ after) bytes after c)
closed_right e inside bytes after q o h outer fit None c = no_quoted_right e inside bytes after q o h outer (inr c) (λ t. fit t c)
closed_right e inside bytes after q o h outer fit (Some rest) c = by e.key refl
  where
    by : (key : Bool) → e.key ≡ key → Right e (34 ∷ inside ++ 34 ∷ after) (cond key (key_only (34 ∷ inside ++ 34 ∷ after) rest (utf8_only bytes)) (no_quoted_key e bytes after))
    by true k = whole_key e inside bytes after rest q o h outer k c (utf8_only bytes) refl
    by false k = no_quoted_right e inside bytes after q o h outer (inl k) (λ t. absurd (true≢false (sym (other_key e o t) ∙ k)))
