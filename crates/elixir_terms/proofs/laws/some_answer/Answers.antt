use Rattle.elixir_terms.proofs.SomeLemmas.{some_told}
use Rattle.elixir_terms.proofs.laws.some_answer.Goals as goal

pub returns : goal.returns
returns c = some_told
