use Rattle.elixir_terms.proofs.SpellLemmas.{spells_one}
use Rattle.elixir_terms.proofs.reading.one_reading.Goals as goal

pub returns : goal.returns
returns c = spells_one
