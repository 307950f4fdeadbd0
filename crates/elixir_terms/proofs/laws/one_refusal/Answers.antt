use Rattle.elixir_terms.proofs.RefusalLaws.{refusal_one}
use Rattle.elixir_terms.proofs.laws.one_refusal.Goals as goal

pub returns : goal.returns
returns c = refusal_one
