use Rattle.std.proofs.Common.{◌≡◌, Err}
use Rattle.version_req.specs.Machine.{Lead, empty, run}
use Rattle.version_req.proofs.Complete.{one_requirement}
use Rattle.version_req.proofs.Refused.{refused}
use Rattle.version_req.proofs.RunSound.{Spells-run}
use Rattle.version_req.proofs.requirement.Requirement.parse.Goals as goal

pub overflow_sub-at : goal.overflow_sub-at
overflow_sub-at c =
    let stuck : run c.args.text.now Lead empty ≡ Err c.in-Err-Stuck.stuck.left = rw c.in-Err-Stuck.field-0-is at c.in-Err-Stuck.ensures.err in
    (refused c.args.text.now c.in-Err-Stuck.stuck.left stuck).0

pub returns-in-Ok-clause-ok : goal.returns-in-Ok-clause-ok
returns-in-Ok-clause-ok c = Spells-run c.args.text.now c.in-Ok.alternatives c.in-Ok.ensures.ok

pub returns-in-Ok-clause-only : goal.returns-in-Ok-clause-only
returns-in-Ok-clause-only c = λ requirement spells.
    one_requirement c.args.text.now c.in-Ok.alternatives requirement (Spells-run c.args.text.now c.in-Ok.alternatives c.in-Ok.ensures.ok) spells

pub returns-in-Err-Stuck-clause-err : goal.returns-in-Err-Stuck-clause-err
returns-in-Err-Stuck-clause-err c =
    let stuck : run c.args.text.now Lead empty ≡ Err c.in-Err-Stuck.stuck.left = rw c.in-Err-Stuck.field-0-is at c.in-Err-Stuck.ensures.err in
    (refused c.args.text.now c.in-Err-Stuck.stuck.left stuck).1
