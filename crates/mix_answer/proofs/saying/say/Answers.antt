use Rattle.std.proofs.Common.{refl}
use Rattle.mix_answer.specs.Says.Says.{cut}
use Rattle.mix_answer.proofs.saying.say.Goals as goal

pub returns-in-Err : goal.returns-in-Err
returns-in-Err g c =
    let took = c.in-Err.ensures in
    cut took.taken.0 (rw c.text_in.ensures at took.taken.1) (took.cause.rose refl) refl
