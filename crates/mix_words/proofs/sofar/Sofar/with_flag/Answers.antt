use Rattle.std.proofs.Common.{sym}
use Rattle.mix_words.specs.Sofar.{state_of}
use Rattle.mix_words.proofs.BarLemmas.{may_not_raise}
use Rattle.mix_words.proofs.sofar.Sofar.with_flag.Goals as goal

pub returns-then-not-may_raise : goal.returns-then-not-may_raise
returns-then-not-may_raise c = λ is. may_not_raise (state_of c.args.self) c.args.flag (sym c.if-not-may_raise.ensures)
