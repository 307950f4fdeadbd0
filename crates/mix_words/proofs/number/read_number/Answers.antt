use Rattle.std.proofs.Common.{arith}
use Rattle.mix_words.proofs.NumberLemmas.{none_within}
use Rattle.mix_words.proofs.number.read_number.Goals as goal
use Rattle.mix_words.proofs.number.read_number.Goals.{else-low-number-via-then-low-number+else-number-high, else-low-number-via-else-low-number}

pub returns-else-low-number-clause-none : goal.returns-else-low-number-clause-none
returns-else-low-number-clause-none c =
    none_within c.args.low c.args.high c.in_ok-number.number c.args.text.now (omega arith) (omega arith) c.in_ok-number.ensures.some
    (λ low high. elim c.else-low-number.branch [
      | else-low-number-via-then-low-number+else-number-high w ↦ omega arith
      | else-low-number-via-else-low-number w ↦ omega arith
    ])
