use Rattle.std.proofs.Common.{◌≡◌, ℕ, Bool, true, false, List, Result, Ok, Err, is_ok, MatchResult, refl, sym, ◌∙◌}
use Rattle.std.specs.Str.{IsUtf8, is_utf8}
use Rattle.std.proofs.lemmas.Str.{IsUtf8-from_is_utf8, is_utf8-from_IsUtf8}
use Rattle.term_tokens.proofs.bytes.is_utf8.Goals as goal

no_utf8 : (bs : List ℕ) (b : Bool) → is_utf8 bs ≡ b → (IsUtf8 bs → ⊥) → false ≡ b
no_utf8 bs true e never = absurd (never (IsUtf8-from_is_utf8 bs e))
no_utf8 bs false e never = refl

is_test : {X E : Type 0} (P : X → Type 0) (Q : E → Type 0) (bs : List ℕ) (r : Result X E) → MatchResult r (λ x. P x × IsUtf8 bs) (λ e. ¬ (IsUtf8 bs) × Q e) → is_ok r ≡ is_utf8 bs
is_test P Q bs (Ok x) h = sym (is_utf8-from_IsUtf8 bs h.1)
is_test P Q bs (Err e) h = no_utf8 bs (is_utf8 bs) refl h.0

pub returns : goal.returns
returns c = c.is_ok.ensures.value ∙ is_test _ _ c.args.bytes.now _ c.from_utf8.ensures.cases
