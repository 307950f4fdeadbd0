-- A text has one refusal at most.
use Rattle.std.proofs.Common.{◌≡◌, ℕ, ◌<◌, ◌≤◌, ◌⊎◌, cond, eqb, List, length, refl, sym, ap, ◌∙◌, subst, arith, ⊎_elim}
use Rattle.std.specs.Prelude.{IsFalse}
use Rattle.std.specs.Str.{IsUtf8, IsValidUpTo}
use Rattle.std.proofs.lemmas.Str.{utf8_valid_len-IsValidUpTo}
use Rattle.std.proofs.lemmas.List.{take_all}
use Rattle.term_tokens.specs.declared.cause.Feature.TheVariants.{Charlist, Sigil, Heredoc, Interpolation, Float, Alias, Bits}
use Rattle.term_tokens.specs.declared.cause.TermCause.{TermCause}
use Rattle.term_tokens.specs.declared.cause.TermCause.TheVariants as cause
use Rattle.term_tokens.specs.Local.{rank}
use Rattle.term_tokens.specs.Refused.{is_memory}
use Rattle.elixir_terms.specs.Refusals as far
use Rattle.elixir_terms.specs.Refusals.{Holds, IsRefusal, long, utf8, first}

-- the cause at a place in the order
abbrev ranked : ℕ → TermCause
ranked n =
    cond (eqb n 0) (cause.Unsupported Charlist) (
    cond (eqb n 1) (cause.Unsupported Sigil) (
    cond (eqb n 2) (cause.Unsupported Heredoc) (
    cond (eqb n 3) (cause.Unsupported Interpolation) (
    cond (eqb n 4) (cause.Unsupported Float) (
    cond (eqb n 5) (cause.Unsupported Alias) (
    cond (eqb n 6) (cause.Unsupported Bits) (
    cond (eqb n 7) cause.BadEscape (
    cond (eqb n 8) cause.BadUtf8 (
    cond (eqb n 9) cause.NumberTooBig (
    cond (eqb n 10) cause.TooDeep (
    cond (eqb n 11) cause.DuplicateKey (
    cond (eqb n 12) cause.TrailingText (
    cond (eqb n 13) cause.Unclosed (
    cond (eqb n 14) cause.Unexpected (
    cond (eqb n 15) cause.TooLong (
    cause.OutOfMemory))))))))))))))))

rank_back : (a : TermCause) → ranked (rank a) ≡ a
rank_back (cause.Unsupported Charlist) = refl
rank_back (cause.Unsupported Sigil) = refl
rank_back (cause.Unsupported Heredoc) = refl
rank_back (cause.Unsupported Interpolation) = refl
rank_back (cause.Unsupported Float) = refl
rank_back (cause.Unsupported Alias) = refl
rank_back (cause.Unsupported Bits) = refl
rank_back cause.BadEscape = refl
rank_back cause.BadUtf8 = refl
rank_back cause.NumberTooBig = refl
rank_back cause.TooDeep = refl
rank_back cause.DuplicateKey = refl
rank_back cause.TrailingText = refl
rank_back cause.Unclosed = refl
rank_back cause.Unexpected = refl
rank_back cause.TooLong = refl
rank_back cause.OutOfMemory = refl

pub rank_one : (a b : TermCause) → rank a ≡ rank b → a ≡ b
rank_one a b e = sym (rank_back a) ∙ ap ranked e ∙ rank_back b

pub not_both : (text : List ℕ) (at : ℕ) → IsUtf8 text → IsValidUpTo text at → ⊥
not_both text at u v = v.longest (length text) v.short (subst (λ l. IsUtf8 l) (sym (take_all (length text) text (omega arith))) u)

meet : (at place : ℕ) (why other : TermCause) → (at < place) ⊎ ((at ≡ place) × (rank why ≤ rank other)) → (place < at) ⊎ ((place ≡ at) × (rank other ≤ rank why)) → (at ≡ place) × (why ≡ other)
meet at place why other a b =
    ⊎_elim (λ l. ⊎_elim (λ m. absurd (omega arith)) (λ m. let e = m.0 in absurd (omega arith)) b)
    (λ l. let e = l.0 in ⊎_elim (λ m. absurd (omega arith)) (λ m. let x = l.1 in let y = m.1 in let same : rank why ≡ rank other = omega arith in (e, rank_one why other same)) b) a

-- no text is refused in two ways
pub refusal_one : (text : List ℕ) (at place : ℕ) (why other : TermCause) → IsRefusal text at why → IsRefusal text place other → (at ≡ place) × (why ≡ other)
refusal_one text at place why other (long a) (long b) = (refl, refl)
refusal_one text at place why other (long a) (utf8 b v) = absurd (omega arith)
refusal_one text at place why other (long a) (first b u h k) = absurd (omega arith)
refusal_one text at place why other (utf8 a v) (long b) = absurd (omega arith)
refusal_one text at place why other (utf8 a v) (utf8 b w) = (sym (utf8_valid_len-IsValidUpTo text at v) ∙ utf8_valid_len-IsValidUpTo text place w, refl)
refusal_one text at place why other (utf8 a v) (first b u h k) = absurd (not_both text at u v)
refusal_one text at place why other (first a u h k) (long b) = absurd (omega arith)
refusal_one text at place why other (first a u h k) (utf8 b v) = absurd (not_both text place u v)
refusal_one text at place why other (first a u h k) (first b v i l) = meet at place why other (k place other i) (l at why h)

-- want of memory is no refusal
holds_not_memory : {text : List ℕ} {at : ℕ} {why : TermCause} → Holds text at why → IsFalse (is_memory why)
holds_not_memory (far.charlist a b) = refl
holds_not_memory (far.sigil a b c d e) = refl
holds_not_memory (far.heredoc a b) = refl
holds_not_memory (far.bits a b) = refl
holds_not_memory (far.interpolation a b c d e f) = refl
holds_not_memory (far.interpolated_words a b c d e f) = refl
holds_not_memory (far.float a b c d e f g) = refl
holds_not_memory (far.alias_alone a b c d) = refl
holds_not_memory (far.alias a b c d e f g h i j) = refl
holds_not_memory (far.escape a b c d e f g) = refl
holds_not_memory (far.escape_in_words a b c d e f) = refl
holds_not_memory (far.atom_utf8 a b c d e f) = refl
holds_not_memory (far.key_utf8 a b c d e f g h) = refl
holds_not_memory (far.number a b c d) = refl
holds_not_memory (far.deep a b c) = refl
holds_not_memory (far.repeated a b c d e f g) = refl
holds_not_memory (far.trailing a b c) = refl
holds_not_memory (far.trailing_colon a b c d e f g) = refl
holds_not_memory (far.unclosed a b) = refl
holds_not_memory (far.unexpected a b c) = refl

pub not_memory : {text : List ℕ} {at : ℕ} {why : TermCause} → IsRefusal text at why → IsFalse (is_memory why)
not_memory (long a) = refl
not_memory (utf8 a v) = refl
not_memory (first a u h k) = holds_not_memory h
