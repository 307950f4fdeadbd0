use Rattle.std.proofs.Common.{arith}
use Rattle.unit_lang.specs.Progress.{deep}
use Rattle.unit_lang.proofs.Outcomes.{stops_by}
use Rattle.unit_lang.proofs.progress.Progress.advanced.Goals as goal

pub returns-in-Err : goal.returns-in-Err
returns-in-Err c = stops_by c.args.self c.args.token c.in-Err.cause c.fault.result c.in-Err.ensures c.fault.ensures

pub returns-then-depth-gt-DEEPEST : goal.returns-then-depth-gt-DEEPEST
returns-then-depth-gt-DEEPEST c = deep c.in-Ok.ensures (omega (arith, c.depth.ensures))
