use Rattle.std.proofs.Common.{arith}
use Rattle.unit_lang.proofs.FileOutcomes.{long_said}
use Rattle.unit_lang.proofs.parse.line_said.Goals as goal

pub returns-then-line-gt-LONGEST_LINE : goal.returns-then-line-gt-LONGEST_LINE
returns-then-line-gt-LONGEST_LINE c = long_said c.args.line.now (omega arith)
