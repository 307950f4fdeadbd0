-- What a text is read as is one thing, by the laws of reading.
use Rattle.std.proofs.Common.{◌≡◌, ℕ, List, ◌∙◌, ap}
use Rattle.term_values.specs.declared.term.Term.{Term}
use Rattle.term_tokens.specs.declared.cause.TermCause.{TermCause}
use Rattle.term_print.specs.Spells.{Spells}
use Rattle.elixir_terms.specs.declared.error.TermError.{TermError}
use Rattle.elixir_terms.specs.ReadAs.{IsReadAs, IsRefusedText}
use Rattle.elixir_terms.specs.Refusals.{IsRefusal}
use Rattle.elixir_terms.specs.Within.{Within}

-- no text spells two terms, is refused in two ways, or both spells a term within the limits and is refused
pub record OneReading : Type 0 where
  pub terms : (text : List ℕ) (t u : Term) → Spells text t → Spells text u → t ≡ u
  pub refusals : (text : List ℕ) (at place : ℕ) (why other : TermCause) → IsRefusal text at why → IsRefusal text place other → (at ≡ place) × (why ≡ other)
  pub apart : (text : List ℕ) (t : Term) (at : ℕ) (why : TermCause) → Spells text t → Within text t → IsRefusal text at why → ⊥

same_error : (d e : TermError) → d.at ≡ e.at → d.cause ≡ e.cause → d ≡ e
same_error d e places causes =
    ap (λ (at : ℕ). record { at = at; cause = d.cause }) places
    ∙ ap (λ (cause : TermCause). record { at = e.at; cause = cause }) causes

pub same_refusal : OneReading → (text : List ℕ) (d e : TermError) → IsRefusedText text d → IsRefusedText text e → d ≡ e
same_refusal reading text d e why also =
    let same = reading.refusals text d.at e.at d.cause e.cause why.1 also.1 in
    same_error d e same.0 same.1

pub not_both : OneReading → (text : List ℕ) (error : TermError) (t : Term) → IsRefusedText text error → IsReadAs text t → ⊥
not_both reading text error t why spelled = reading.apart text t error.at error.cause spelled.0 spelled.1 why.1
