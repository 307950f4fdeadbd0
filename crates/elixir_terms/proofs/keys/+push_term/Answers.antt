use Rattle.std.proofs.Common.{arith}
use Rattle.std.proofs.lemmas.Grind.{common_steps}
use Rattle.elixir_terms.proofs.KeyCodes.{term_code-map}
use Rattle.elixir_terms.proofs.keys.+push_term.Goals as goal

pub push_term-returns-in-Map : goal.push_term-returns-in-Map
push_term-returns-in-Map t c = grind (arith, common_steps, term_code-map c.in-Map.pairs)
