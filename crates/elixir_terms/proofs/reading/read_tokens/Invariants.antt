use Rattle.std.proofs.Common.{length}
use Rattle.elixir_terms.proofs.ReaderLemmas.{Loop}
use Rattle.elixir_terms.proofs.reading.read_tokens.Given as goal

-- the tokens that were read of the text, and the places of keys
abbrev pub invariant-loop-rest : goal.invariant-loop-rest
invariant-loop-rest l = Loop l.text l.state l.rest l.begun.items

abbrev pub decreases-loop-rest : goal.decreases-loop-rest
decreases-loop-rest l = length l.rest
