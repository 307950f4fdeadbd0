-- No text spells two terms.
use Rattle.std.proofs.Common.{◌≡◌, ℕ, List, subst}
use Rattle.term_values.specs.declared.term.Term.{Term}
use Rattle.term_print.specs.Grammar.{IsTerm}
use Rattle.term_print.specs.Spells.{Spells}
use Rattle.elixir_terms.proofs.Runs.{term_one}
use Rattle.term_tokens.proofs.TokenLaws.{tokens_one}

pub spells_one : (text : List ℕ) (t u : Term) → Spells text t → Spells text u → t ≡ u
spells_one text t u a b = term_one b.tokens t u (subst (λ l. IsTerm l t) (tokens_one a.tokens b.tokens text a.spelled b.spelled) a.grammar) b.grammar
