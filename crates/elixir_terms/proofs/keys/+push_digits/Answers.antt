use Rattle.std.proofs.Common.{arith}
use Rattle.std.proofs.lemmas.Grind.{common_steps}
use Rattle.elixir_terms.proofs.KeyCodes.{marked_digits_step}
use Rattle.elixir_terms.proofs.keys.+push_digits.Goals as goal

pub returns-in_ok-push-2 : goal.returns-in_ok-push-2
returns-in_ok-push-2 t c = grind (arith, common_steps, marked_digits_step c.args.n c.if-n-gt0.true)
