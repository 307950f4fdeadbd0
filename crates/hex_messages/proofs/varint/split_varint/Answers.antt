use Rattle.std.proofs.Common.{arith, ◌∙◌, refl}
use Rattle.hex_messages.proofs.VarintLemmas.{number_more, on_more, begins_at, great_at, cut_at, long_at, unit_fits, digit_fits, no_number}
use Rattle.std.proofs.lemmas.Grind.{pow_more}
use Rattle.hex_messages.proofs.varint.split_varint.Goals as goal

pub overflow_add-number : goal.overflow_add-number
overflow_add-number c =
    let f = digit_fits c.loop-index.number c.loop-index.unit c.from.result c.loop-index.invariant.small (omega arith) in
    omega (arith, f, unit_fits c.loop-index.index c.loop-index.unit (omega arith) c.loop-index.invariant.unit)

pub overflow_mul-unit : goal.overflow_mul-unit
overflow_mul-unit c = omega (arith, unit_fits c.loop-index.index c.loop-index.unit (omega arith) c.loop-index.invariant.unit)

pub returns-in-Ok-clause-read : goal.returns-in-Ok-clause-read
returns-in-Ok-clause-read c =
    let i = c.loop-index.invariant in
    let n = number_more c.args.text.now c.loop-index.index c.loop-index.number c.loop-index.unit c.from.result (omega arith) i.value i.unit
    (c.from.ensures ∙ c.digit.ensures.value) in
    let e = c.in-Ok.ensures in
    begins_at c.args.text.now c.loop-index.index c.in-Ok.number (omega arith) (omega arith) i.on c.if-byte-lt128.true (e.1 ∙ n) (omega arith)

pub returns-in-Err-clause-refused : goal.returns-in-Err-clause-refused
returns-in-Err-clause-refused c =
    let i = c.loop-index.invariant in
    let n = number_more c.args.text.now c.loop-index.index c.loop-index.number c.loop-index.unit c.from.result (omega arith) i.value i.unit
    (c.from.ensures ∙ c.digit.ensures.value) in
    great_at c.args.text.now c.loop-index.index (omega arith) (omega arith) i.on c.if-byte-lt128.true (no_number _ _ n c.in-Err.ensures)

pub loop-index-preserved : goal.loop-index-preserved
loop-index-preserved c =
    let i = c.loop-index.invariant in
    record {
      value = number_more c.args.text.now c.loop-index.index c.loop-index.number c.loop-index.unit c.from.result (omega arith) i.value i.unit
          (c.from.ensures ∙ c.digit.ensures.value);
      unit = rw (pow_more 128 c.loop-index.index, i.unit) refl;
      small = digit_fits c.loop-index.number c.loop-index.unit c.from.result i.small (omega arith);
      on = on_more c.args.text.now c.loop-index.index (omega arith) i.on c.if-byte-lt128.false;
    }

pub returns-then-most-lt-MAX_BYTES-clause-refused : goal.returns-then-most-lt-MAX_BYTES-clause-refused
returns-then-most-lt-MAX_BYTES-clause-refused c = cut_at c.args.text.now c.loop-index.index (omega arith) (omega arith) c.loop-index.invariant.on

pub returns-else-most-lt-MAX_BYTES-clause-refused : goal.returns-else-most-lt-MAX_BYTES-clause-refused
returns-else-most-lt-MAX_BYTES-clause-refused c = long_at c.args.text.now c.loop-index.index (omega arith) (omega arith) c.loop-index.invariant.on
