use Rattle.unit_lang.proofs.HeadLemmas.{unit_line_test}
use Rattle.unit_lang.proofs.line.is_unit_line.Goals as goal

pub returns : goal.returns
returns c = unit_line_test c.args.line.now c.heading.result (λ name. name.now) c.is_some.result c.heading.ensures c.is_some.ensures
