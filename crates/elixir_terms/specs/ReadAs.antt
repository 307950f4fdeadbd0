-- What a text is read as.
use Rattle.std.specs.Prelude.{ℕ, List, IsFalse}
use Rattle.term_values.specs.declared.term.Term.{Term}
use Rattle.term_tokens.specs.Refused.{is_memory}
use Rattle.term_print.specs.Spells.{Spells}
use Rattle.elixir_terms.specs.declared.error.TermError.{TermError}
use Rattle.elixir_terms.specs.Refusals.{IsRefusal}
use Rattle.elixir_terms.specs.Within.{Within}

-- the term is read from the text, within the limits
abbrev pub IsReadAs : List ℕ → Term → Type 0
IsReadAs text t = Spells text t × Within text t

-- the text is refused, and not for want of memory
abbrev pub IsRefusedText : List ℕ → TermError → Type 0
IsRefusedText text error = IsFalse (is_memory error.cause) × IsRefusal text error.at error.cause
