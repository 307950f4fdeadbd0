use Rattle.std.proofs.Common.{◌≡◌, true, false, sym}
use Rattle.mix_words.specs.Numbers.{is_plain}
use Rattle.mix_words.proofs.NumberLemmas.{decimal_is_read, no_decimal, read_is_decimal}
use Rattle.mix_words.proofs.number.spelled.Goals as goal

pub returns-then-not-is_plain-clause-none : goal.returns-then-not-is_plain-clause-none
returns-then-not-is_plain-clause-none c = λ number small same.
    no_decimal c.args.text.now number (sym c.if-not-is_plain.ensures) small same

pub returns-in-Ok-clause-some : goal.returns-in-Ok-clause-some
returns-in-Ok-clause-some c =
    read_is_decimal c.args.text.now c.in-Ok.number c.parse.result (sym c.if-not-is_plain.ensures) c.parse.ensures.value.0 c.in-Ok.is

pub returns-in-Err-clause-none : goal.returns-in-Err-clause-none
returns-in-Err-clause-none c = λ number small same.
    decimal_is_read c.args.text.now number c.parse.result c.in-Err.field-0 small same c.parse.ensures.value.0 c.in-Err.is
