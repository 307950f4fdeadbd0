use Rattle.std.proofs.Common.{map}
use Rattle.unit_compile.specs.Views.{needs_in, source_in}
use Rattle.unit_compile.proofs.ProductLemmas.{Gave}
use Rattle.unit_compile.proofs.compile.outcome_of.Given as goal

abbrev pub invariant-loop-source : goal.invariant-loop-source
invariant-loop-source l = Gave (needs_in l.needs) (map source_in l.sources) l.source-index l.product.text.items l.product.faces.entries l.product.failed l.units
