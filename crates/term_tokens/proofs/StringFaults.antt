-- Strings and quoted keys, and their first faults.
use Rattle.std.specs.Prelude.{IsTrue, IsFalse, not, Err}
use Rattle.std.proofs.Common.{◌≡◌, ℕ, ◌+◌, ◌<◌, Bool, true, false, ◌&&◌, ◌||◌, ◌⊎◌, inl, inr, List, [], ◌∷◌, ◌++◌, Option, Some, None, length, cond, eqb, refl, sym, ap, ◌∙◌, arith, subst, append_assoc, eq-eqb, ⊎_elim}
use Rattle.std.proofs.lemmas.Bool.{not-true, and_parts, or_parts, or_cases, eqb-true, true≢false, false≢true}
use Rattle.std.proofs.lemmas.List.{append-nil, length-append}
use Rattle.std.proofs.lemmas.Str.{IsUtf8-from_is_utf8, is_utf8-from_IsUtf8}
use Rattle.std.specs.Str.{IsUtf8, is_utf8}
use Rattle.term_tokens.specs.declared.cause.Feature.TheVariants.{Heredoc}
use Rattle.term_tokens.specs.declared.cause.TermCause.{TermCause}
use Rattle.term_tokens.specs.declared.cause.TermCause.TheVariants.{Unsupported, Unclosed, Unexpected}
use Rattle.term_tokens.specs.declared.expected.Expected.{Expected}
use Rattle.term_tokens.specs.Lexed.{broken, spelt_at, stuck_at, stopped, is_no_key, closed_lexed, string_stop, is_heredoc, string_lexed}
use Rattle.term_tokens.specs.Lexing.{next_at, after_colon}
use Rattle.term_tokens.specs.Local.{rank, starts_with, takes, IsPart, IsShut, Locally, heredoc}
use Rattle.term_tokens.specs.Names.{is_blank}
use Rattle.term_tokens.specs.Strings.{Quoted}
use Rattle.term_tokens.specs.Tokens.{Begins, string}
use Rattle.term_tokens.proofs.AtomFaults.{low, stop_broken, holds_broken}
use Rattle.term_tokens.proofs.FaultLemmas.{Right, first_by, unexpected_at, unclosed_at, at_once, shut_taken, broken_one, broken_some, broken_no_quote, broken_no_brace}
use Rattle.term_tokens.proofs.FaultForms.{Least, IsNone}
use Rattle.term_tokens.proofs.OptionLemmas.{none_some}
use Rattle.term_tokens.proofs.StringLemmas.{spelt_sound, spelt_complete}
use Rattle.term_tokens.proofs.StuckItems.{Stuck}
use Rattle.term_tokens.proofs.StuckLemmas.{Walked, walked, free_front}
use Rattle.term_tokens.proofs.BeginLemmas.{begins_first}
use Rattle.term_tokens.proofs.StringMarks.{string_closed, string_taken, first_mark, two_heredoc, Says, says, string_part, key_part, other_key, never_shut}
use Rattle.term_tokens.proofs.ClosedStrings.{closed_found, blank_found, marked, closed_right}
use Rattle.term_tokens.proofs.StringMarks.Says.{says_broken, says_key, says_colon}

-- where the quotes are not closed

open_none : (e : Expected) (inside bytes rest : List ℕ) → spelt_at inside ≡ (bytes, rest) → ((more : List ℕ) → rest ≡ 34 ∷ more → ⊥) → IsNone e (34 ∷ inside)
open_none e inside bytes rest f closes tok after b t g =
    let c = string_closed inside (tok, after) (begins_first b) in
    closes c.1 (ap (λ x. x.1) (sym f ∙ c.2))

ended_right : (e : Expected) (inside bytes : List ℕ) → Quoted inside bytes → (e.term && is_heredoc inside) ≡ false → IsPart e (34 ∷ inside) → Right e (34 ∷ inside) (Err ([], Unclosed))
ended_right e inside bytes q h part =
    let f : spelt_at inside ≡ (bytes, []) = ap spelt_at (sym (append-nil inside)) ∙ spelt_complete q [] refl refl in
    unclosed_at e (34 ∷ inside) part (open_none e inside bytes [] f (λ more x. cc)) (λ place other m. absurd (at (says e inside bytes [] f h m)))
  where
    at : {place : ℕ} {other : TermCause} → Says e inside bytes [] place other → ⊥
    at {other = other} (says_broken b p) = broken_some [] other b refl
    at (says_key blank more s k b u) = cc
    at (says_colon more s p r) = cc

broken_right : (e : Expected) (inside bytes : List ℕ) (byte : ℕ) (after : List ℕ) → Quoted inside bytes → next_at (byte ∷ after) ≡ None → eqb byte 34 ≡ false → (e.term || e.key) ≡ true → (e.term && is_heredoc (inside ++ byte ∷ after)) ≡ false → IsPart e (34 ∷ inside) → Right e (34 ∷ inside ++ byte ∷ after) (Err (byte ∷ after, broken byte))
broken_right e inside bytes byte after q n c o h part =
    let b = stop_broken byte after n c in
    let f = spelt_complete q (byte ∷ after) n (broken_no_brace (byte ∷ after) (broken byte) b) in
    let place : length (34 ∷ inside) ≡ 1 + length inside = omega arith in
    first_by e (34 ∷ inside ++ byte ∷ after) (34 ∷ inside) (byte ∷ after) (broken byte) refl part (low byte) (λ x. cc)
    (subst (λ k. Locally e (34 ∷ inside ++ byte ∷ after) k (broken byte)) (sym place) (holds_broken e (34 ∷ inside ++ byte ∷ after) (34 ∷ []) inside bytes byte after (or_cases e.term e.key o) (inl refl) q n c refl))
    (λ place other m. at (says e (inside ++ byte ∷ after) bytes (byte ∷ after) f h m))
  where
    at : {place : ℕ} {other : TermCause} → Says e (inside ++ byte ∷ after) bytes (byte ∷ after) place other → Least (length (34 ∷ inside)) (broken byte) place other
    at {other = other} (says_broken b p) = inr (omega (arith, p, length-append inside (byte ∷ after)), omega (arith, ap rank (broken_one (byte ∷ after) other byte after b refl)))
    at (says_key blank more s k b u) = let x : byte ≡ 34 = cc in absurd (true≢false (sym (eq-eqb byte 34 x) ∙ c))
    at (says_colon more s p r) = let x : byte ≡ 34 = cc in absurd (true≢false (sym (eq-eqb byte 34 x) ∙ c))

-- no keyword's colon follows the closing quote
abbrev NoColon : List ℕ → Type 0
NoColon rest = (blank : ℕ) (more : List ℕ) → rest ≡ 34 ∷ 58 ∷ blank ∷ more → is_blank blank ≡ true → ⊥

-- a key that can become UTF-8 no more before its quotes stop
stuck_right : (e : Expected) (inside bytes rest place : List ℕ) → e.term ≡ false → e.key ≡ true → (IsTrue e.outermost → IsFalse e.key) → spelt_at inside ≡ (bytes, rest) → NoColon rest → Stuck [] inside place → Right e (34 ∷ inside) (Err (place, Unexpected))
stuck_right e inside bytes rest place t k outer f ends w =
    subst (λ l. Right e (34 ∷ inside) (Err (l, Unexpected))) (sym w.here)
    (unexpected_at e (34 ∷ inside) (34 ∷ w.front) w.after w.byte (ap (λ l. 34 ∷ l) w.split) (key_part e inside w.front k w.opens) (never_shut e (w.front ++ w.byte ∷ []) t w.shut)
    (λ place other m. at (says e inside bytes rest f (ap (λ x. x && is_heredoc inside) t) m)))
  where
    at : {place : ℕ} {other : TermCause} → Says e inside bytes rest place other → length (34 ∷ w.front) < place
    at (says_broken b p) = omega (arith, p, w.early, ap length w.here, ap length w.split, length-append w.front (w.byte ∷ w.after), ap (λ s. length s.1) f)
    at (says_key blank more s key b u) = absurd (ends blank more s b)
    at (says_colon more s p r) = absurd (true≢false (sym k ∙ outer p))

stopped_right : (e : Expected) (inside bytes rest : List ℕ) (why : TermCause) → Quoted inside bytes → (e.term || e.key) ≡ true → (IsTrue e.outermost → IsFalse e.key) → spelt_at (inside ++ rest) ≡ (bytes, rest) → NoColon rest → (IsPart e (34 ∷ inside) → Right e (34 ∷ inside ++ rest) (Err (rest, why))) → Right e (34 ∷ inside ++ rest) (stopped e.term (stuck_at (inside ++ rest)) (Err (rest, why)))
stopped_right e inside bytes rest why q o outer f ends good = by e.term refl
  where
    walk : e.term ≡ false → (s : Option (List ℕ)) → Walked [] (inside ++ rest) s → Right e (34 ∷ inside ++ rest) (stopped false s (Err (rest, why)))
    walk t None w = good (key_part e (inside ++ rest) inside (other_key e o t) (free_front (inside ++ rest) inside w (ap (λ l. inside ++ l) (sym (ap (λ x. x.1) f)))))
    walk t (Some place) w = stuck_right e (inside ++ rest) bytes rest place t (other_key e o t) outer f ends w

    by : (term : Bool) → e.term ≡ term → Right e (34 ∷ inside ++ rest) (stopped term (stuck_at (inside ++ rest)) (Err (rest, why)))
    by true t = good (string_part e inside bytes t q)
    by false t = walk t (stuck_at (inside ++ rest)) (walked (inside ++ rest))

-- a string where only a key may begin
no_key_means : (e : Expected) (bytes : List ℕ) (c : Option (List ℕ)) → is_no_key e bytes c ≡ true → (c ≡ None) × (e.term ≡ false) × (is_utf8 bytes ≡ false)
no_key_means e bytes None h = let p = or_parts e.term (is_utf8 bytes) (not-true (e.term || is_utf8 bytes) h) in (refl, p.0, p.1)
no_key_means e bytes (Some after) h = absurd (false≢true h)

key_fits : (e : Expected) (bytes : List ℕ) (c : Option (List ℕ)) → is_no_key e bytes c ≡ false → e.term ≡ false → c ≡ None → IsUtf8 bytes
key_fits e bytes (Some after) h t n = absurd (none_some (sym n))
key_fits e bytes None h t n = by (is_utf8 bytes) refl
  where
    by : (whole : Bool) → is_utf8 bytes ≡ whole → IsUtf8 bytes
    by true u = IsUtf8-from_is_utf8 bytes u
    by false u = let k : is_no_key e bytes None ≡ true = (λ i. not (t i || u i)) in absurd (true≢false (sym k ∙ h))

no_key_right : (e : Expected) (inside bytes after : List ℕ) → Quoted inside bytes → (e.term || e.key) ≡ true → (e.term && is_heredoc (inside ++ 34 ∷ after)) ≡ false → (IsTrue e.outermost → IsFalse e.key) → is_no_key e bytes (after_colon after) ≡ true → Right e (34 ∷ inside ++ 34 ∷ after) (stopped e.term (stuck_at (inside ++ 34 ∷ after)) (Err (34 ∷ after, Unexpected)))
no_key_right e inside bytes after q o h outer n = stopped_right e inside bytes (34 ∷ after) Unexpected q o outer (spelt_complete q (34 ∷ after) refl refl) ends
    (λ part. unexpected_at e (34 ∷ inside ++ 34 ∷ after) (34 ∷ inside) after 34 refl part shut (λ place other m. absurd (at (marked e inside bytes after q o h outer m))))
  where
    bad : IsUtf8 bytes → ⊥
    bad v = true≢false (sym (is_utf8-from_IsUtf8 bytes v) ∙ (no_key_means e bytes (after_colon after) n).2)

    ends : NoColon (34 ∷ after)
    ends blank more s b = blank_found blank more (34 ∷ after) s b refl (no_key_means e bytes (after_colon after) n).0

    shut : IsShut e ((34 ∷ inside) ++ 34 ∷ [])
    shut more tok rest b u f =
        ⊎_elim (λ x. true≢false (sym u ∙ ap (λ g. takes e g.0) x.0 ∙ (no_key_means e bytes (after_colon after) n).1)) (λ x. bad x.2)
        (closed_found inside bytes more tok rest q (subst (λ l. Begins l tok rest) (append_assoc (34 ∷ inside) (34 ∷ []) more) b))

    at : {place : ℕ} {other : TermCause} → Says e (inside ++ 34 ∷ after) bytes (34 ∷ after) place other → ⊥
    at {other = other} (says_broken b p) = broken_no_quote (34 ∷ after) other after b refl
    at (says_key blank more s key b u) = ends blank more s b
    at (says_colon more s p r) = true≢false (sym (other_key e o (no_key_means e bytes (after_colon after) n).1) ∙ outer p)

stop_right : (e : Expected) (inside bytes rest : List ℕ) → Quoted inside bytes → next_at rest ≡ None → starts_with 123 rest ≡ false → (e.term || e.key) ≡ true → (e.term && is_heredoc (inside ++ rest)) ≡ false → (IsTrue e.outermost → IsFalse e.key) → Right e (34 ∷ inside ++ rest) (string_stop e (34 ∷ inside ++ rest) bytes rest (stuck_at (inside ++ rest)))
stop_right e inside bytes [] q n brace o h outer =
    let s = append-nil inside in
    stopped_right e inside bytes [] Unclosed q o outer (spelt_complete q [] refl refl) (λ blank more s b. cc)
    (λ part. subst (λ l. Right e (34 ∷ l) (Err ([], Unclosed))) (sym s) (ended_right e inside bytes q (subst (λ l. (e.term && is_heredoc l) ≡ false) s h) part))
stop_right e inside bytes (byte ∷ after) q n brace o h outer = by (eqb byte 34) refl
  where
    quoted : (bad : Bool) → is_no_key e bytes (after_colon after) ≡ bad → (e.term && is_heredoc (inside ++ 34 ∷ after)) ≡ false → Right e (34 ∷ inside ++ 34 ∷ after) (cond bad (stopped e.term (stuck_at (inside ++ 34 ∷ after)) (Err (34 ∷ after, Unexpected))) (closed_lexed e (34 ∷ inside ++ 34 ∷ after) bytes after (after_colon after)))
    quoted true k h = no_key_right e inside bytes after q o h outer k
    quoted false k h = closed_right e inside bytes after q o h outer (key_fits e bytes (after_colon after) k) (after_colon after) refl

    by : (quote : Bool) → eqb byte 34 ≡ quote → Right e (34 ∷ inside ++ byte ∷ after) (cond quote (cond (is_no_key e bytes (after_colon after)) (stopped e.term (stuck_at (inside ++ byte ∷ after)) (Err (byte ∷ after, Unexpected))) (closed_lexed e (34 ∷ inside ++ byte ∷ after) bytes after (after_colon after))) (stopped e.term (stuck_at (inside ++ byte ∷ after)) (Err (byte ∷ after, broken byte))))
    by true c =
        let s = eqb-true byte 34 c in
        subst (λ b. Right e (34 ∷ inside ++ b ∷ after) (cond (is_no_key e bytes (after_colon after)) (stopped e.term (stuck_at (inside ++ b ∷ after)) (Err (b ∷ after, Unexpected))) (closed_lexed e (34 ∷ inside ++ b ∷ after) bytes after (after_colon after)))) (sym s)
        (quoted (is_no_key e bytes (after_colon after)) refl (subst (λ b. (e.term && is_heredoc (inside ++ b ∷ after)) ≡ false) s h))
    by false c = stopped_right e inside bytes (byte ∷ after) (broken byte) q o outer (spelt_complete q (byte ∷ after) n brace) (λ blank more s b. let x : byte ≡ 34 = cc in true≢false (sym (eq-eqb byte 34 x) ∙ c)) (broken_right e inside bytes byte after q n c o h)

-- what stops a string is no brace
stop_brace : (rest : List ℕ) → next_at rest ≡ None → starts_with 123 rest ≡ false
stop_brace [] n = refl
stop_brace (byte ∷ after) n = by (eqb byte 34) refl
  where
    by : (quote : Bool) → eqb byte 34 ≡ quote → starts_with 123 (byte ∷ after) ≡ false
    by true c = ap (λ b. starts_with 123 (b ∷ after)) (eqb-true byte 34 c)
    by false c = broken_no_brace (byte ∷ after) (broken byte) (stop_broken byte after n c)

-- a string or a quoted key is read or refused as it is to be
pub string_right : (e : Expected) (text : List ℕ) → (IsTrue e.outermost → IsFalse e.key) → Right e (34 ∷ text) (string_lexed e (34 ∷ text) text)
string_right e text outer = by (e.term || e.key) refl
  where
    neither : (e.term || e.key) ≡ false → Right e (34 ∷ text) (Err (34 ∷ text, Unexpected))
    neither o =
        let p = or_parts e.term e.key o in
        at_once e 34 text (shut_taken e (34 ∷ []) (λ more found x. string_taken e more found p.0 p.1 x))
        (λ place other m. ⊎_elim (λ x. x) (λ x. absurd (⊎_elim (λ y. true≢false (sym y.0 ∙ p.0)) (λ y. true≢false (sym y.0 ∙ p.1)) x.1)) (first_mark e text m))

    three : (e.term && is_heredoc text) ≡ true → Right e (34 ∷ text) (Err (34 ∷ text, Unsupported Heredoc))
    three h =
        let p = and_parts e.term (is_heredoc text) h in
        let s = two_heredoc text p.1 in
        first_by e (34 ∷ text) [] (34 ∷ text) (Unsupported Heredoc) refl (inl refl) (omega arith) (λ x. cc)
        (subst (λ l. Locally e (34 ∷ l) 0 (Unsupported Heredoc)) (sym s.1) (heredoc p.0))
        (λ place other m. ⊎_elim (λ x. inl x) (λ x. inr (sym x.0, ⊎_elim (λ y. omega (arith, ap rank y.1)) (λ y. omega (arith, ap rank y.1)) x.1)) (first_mark e text m))

    inner : (e.term || e.key) ≡ true → (e.term && is_heredoc text) ≡ false → Right e (34 ∷ text) (string_stop e (34 ∷ text) (spelt_at text).0 (spelt_at text).1 (stuck_at text))
    inner o h =
        let r = spelt_sound text in
        subst (λ l. Right e (34 ∷ l) (string_stop e (34 ∷ l) (spelt_at text).0 (spelt_at text).1 (stuck_at l))) (sym r.split)
        (stop_right e r.inside (spelt_at text).0 (spelt_at text).1 r.quoted r.stops (stop_brace (spelt_at text).1 r.stops) o (subst (λ l. (e.term && is_heredoc l) ≡ false) r.split h) outer)

    either : (three : Bool) → (e.term && is_heredoc text) ≡ three → (e.term || e.key) ≡ true → Right e (34 ∷ text) (cond three (Err (34 ∷ text, Unsupported Heredoc)) (string_stop e (34 ∷ text) (spelt_at text).0 (spelt_at text).1 (stuck_at text)))
    either true h o = three h
    either false h o = inner o h

    by : (some : Bool) → (e.term || e.key) ≡ some → Right e (34 ∷ text) (cond some (cond (e.term && is_heredoc text) (Err (34 ∷ text, Unsupported Heredoc)) (string_stop e (34 ∷ text) (spelt_at text).0 (spelt_at text).1 (stuck_at text))) (Err (34 ∷ text, Unexpected)))
    by true o = either (e.term && is_heredoc text) refl o
    by false o = neither o
