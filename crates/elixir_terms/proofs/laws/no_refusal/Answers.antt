use Rattle.elixir_terms.proofs.SpelledLemmas.{spelled_not_refused}
use Rattle.elixir_terms.proofs.laws.no_refusal.Goals as goal

pub returns : goal.returns
returns c = spelled_not_refused
