use Rattle.std.proofs.Common.{ap, arith, length}
use Rattle.build_manifest.proofs.needs.after_newline.Goals as goal

pub returns-in_default-clause-none : goal.returns-in_default-clause-none
returns-in_default-clause-none c = λ others e. omega (arith, ap length e, c.in_default.len_below)
