use Rattle.std.proofs.Common.{arith}
use Rattle.term_tokens.proofs.NumberLemmas.{written, value_read, value_refused}
use Rattle.term_tokens.proofs.numbers.value.Goals as goal

pub unreachable-requires : goal.unreachable-requires
unreachable-requires c = c.in-Err.ensures.cases.0 (written c.args.base c.args.written.now (omega (arith, c.requires.most)) c.requires.digits).utf8

pub returns-in-Ok-value : goal.returns-in-Ok-value
returns-in-Ok-value c = value_read c.args.base c.in-Ok.text.now c.args.written.now c.in-Ok-value.value (omega (arith, c.requires.most)) c.requires.digits c.in-Ok.ensures.cases.0 c.in-Ok-value.ensures.value

pub returns-in-Err-value : goal.returns-in-Err-value
returns-in-Err-value c = value_refused c.args.base c.in-Ok.text.now c.args.written.now (omega (arith, c.requires.most)) c.requires.digits c.in-Ok.ensures.cases.0 c.in-Err-value.ensures.value
