use Rattle.std.proofs.Common.{arith}
use Rattle.reading.proofs.Numbers.{bytes_stop}
use Rattle.build_manifest.proofs.fields.read_bytes.Goals as goal

pub returns-then-count-text : goal.returns-then-count-text
returns-then-count-text c = bytes_stop c.args.count c.args.text.now (omega arith)
