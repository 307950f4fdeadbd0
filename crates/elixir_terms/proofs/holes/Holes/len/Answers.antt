use Rattle.std.proofs.Common.{arith}
use Rattle.elixir_terms.proofs.DepthLemmas.{few_holes}
use Rattle.elixir_terms.proofs.holes.Holes.len.Goals as goal

pub returns-clause-few : goal.returns-clause-few
returns-clause-few c = let few = few_holes c.self.inside.open in let deep = c.self.invariant in omega (arith, deep.0, deep.1)
