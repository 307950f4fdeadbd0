use Rattle.std.proofs.Common.{subst}
use Rattle.unit_lang.specs.Gives.{Gives}
use Rattle.unit_lang.specs.Machine.{whole_settled}
use Rattle.unit_lang.proofs.state.whole.Goals as goal

pub returns-in-Ok : goal.returns-in-Ok
returns-in-Ok c = subst (λ p. Gives c.whole_settled.result (whole_settled c.args.level p)) c.in-Ok.ensures c.whole_settled.ensures

pub returns-in-Err : goal.returns-in-Err
returns-in-Err c = λ m. absurd (cc)
