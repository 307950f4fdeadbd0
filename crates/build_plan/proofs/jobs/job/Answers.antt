use Rattle.std.proofs.lemmas.Result.{err_from_is_err_and}
use Rattle.build_plan.proofs.JobLemmas.{if_refused, store_failed}
use Rattle.build_plan.proofs.jobs.job.Goals as goal

pub returns-in_err-job-clause-answer : goal.returns-in_err-job-clause-answer
returns-in_err-job-clause-answer g c =
    let p = err_from_is_err_and c.from_residual-in_err-job.result c.from_residual-in_err-job.ensures.1 in
    rw (p.1, p.2) (λ input. absurd (store_failed c.in_err-job.field-0.0 input))

pub returns-clause-answer : goal.returns-clause-answer
returns-clause-answer g c = λ input.
    let missed = rw c.in-None.is at c.in_ok-job.ensures.job in
    if_refused c.args.scene.now.schedule (g.S.Store.known c.args.store.now).sources c.args.opening c.in_ok-post.post.row.now c.too_large.result (c.too_large.ensures.app input) missed
