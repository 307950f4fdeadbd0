use Rattle.std.proofs.Common.{subst}
use Rattle.unit_lang.specs.Gives.{Gives}
use Rattle.unit_lang.specs.Machine.{at_settled}
use Rattle.unit_lang.proofs.state.at_operator.Goals as goal

pub returns-in-Ok : goal.returns-in-Ok
returns-in-Ok c = subst (λ p. Gives c.at_settled.result (at_settled c.args.name c.args.level p c.args.token)) c.in-Ok.ensures c.at_settled.ensures

pub returns-in-Err : goal.returns-in-Err
returns-in-Err c = λ m. absurd (cc)
