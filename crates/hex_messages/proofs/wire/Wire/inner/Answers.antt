use Rattle.std.proofs.Common.{arith}
use Rattle.hex_messages.proofs.wire.Wire.inner.Goals as goal

pub returns-in_default-clause-after : goal.returns-in_default-clause-after
returns-in_default-clause-after c = let p = c.requires.ends in omega arith
