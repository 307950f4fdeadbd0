use Rattle.build_plan.proofs.RootLemmas.{if_settings}
use Rattle.build_plan.proofs.root.settings.Goals as goal

pub returns-in-Err-clause-answer : goal.returns-in-Err-clause-answer
returns-in-Err-clause-answer g c =
    rw c.of_settings.ensures (if_settings (g.S.Store.known c.args.store.now).sources c.in-Err.fault c.in-Err.ensures.answer)
