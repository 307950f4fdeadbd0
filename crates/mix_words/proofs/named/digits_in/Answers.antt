use Rattle.std.proofs.Common.{arith}
use Rattle.mix_words.proofs.ChoiceLemmas.{one_digit, two_digits, three_digits}
use Rattle.mix_words.proofs.named.digits_in.Goals as goal

pub returns-then-number-lt10-clause-digits : goal.returns-then-number-lt10-clause-digits
returns-then-number-lt10-clause-digits c = one_digit c.args.number c.if-number-lt10.true

pub returns-then-number-lt100-clause-digits : goal.returns-then-number-lt100-clause-digits
returns-then-number-lt100-clause-digits c = two_digits c.args.number c.if-number-lt10.false c.if-number-lt100.true

pub returns-else-number-lt100-clause-digits : goal.returns-else-number-lt100-clause-digits
returns-else-number-lt100-clause-digits c = three_digits c.args.number c.if-number-lt100.false (omega arith)
