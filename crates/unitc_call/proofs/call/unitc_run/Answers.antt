use Rattle.std.proofs.Common.{Contains, refl, sym, subst}
use Rattle.unitc_call.specs.Compile.{reply_of}
use Rattle.unitc_call.specs.Ends.{statuses}
use Rattle.unitc_call.specs.Ends.Ends.{heard, broken}
use Rattle.unitc_call.proofs.CallLemmas.{says_among, stop_among}
use Rattle.unitc_call.proofs.call.unitc_run.Goals as goal

pub returns-in-Ok-clause-ends : goal.returns-in-Ok-clause-ends
returns-in-Ok-clause-ends g c = heard (reply_of c.in-Ok.reply) c.in-Ok.ensures.comes c.say.ensures

pub returns-in-Ok-clause-status : goal.returns-in-Ok-clause-status
returns-in-Ok-clause-status g c = says_among (reply_of c.in-Ok.reply) _ _ c.say.result c.in-Ok.ensures.few c.say.ensures

pub returns-in-Err-clause-ends : goal.returns-in-Err-clause-ends
returns-in-Err-clause-ends g c = broken c.in-Err.fault c.in-Err.ensures.breaks refl c.status_of.ensures

pub returns-in-Err-clause-status : goal.returns-in-Err-clause-status
returns-in-Err-clause-status g c = subst (Contains statuses) (sym c.status_of.ensures) (stop_among c.in-Err.fault)
