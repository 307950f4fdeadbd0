use Rattle.build_plan.proofs.SearchLemmas.{child_found, child_missing}
use Rattle.build_plan.proofs.needs.declarer.Goals as goal

pub returns-in-Ok-clause-some : goal.returns-in-Ok-clause-some
returns-in-Ok-clause-some c =
    child_found c.args.places.now c.requires c.in_ok-by.by c.in-Ok.at c.args.row.now.by c.in_ok-by.was c.in-Ok.ensures.position

pub returns-in-Err-clause-none : goal.returns-in-Err-clause-none
returns-in-Err-clause-none c =
    child_missing c.args.places.now c.requires c.in_ok-by.by c.in-Err.field-0 c.args.row.now.by c.in_ok-by.was c.in-Err.ensures.position
