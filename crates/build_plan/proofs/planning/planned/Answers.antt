use Rattle.std.proofs.Common.{List, IfSome, Ok, sym, subst}
use Rattle.std.proofs.lemmas.Result.{err_from_is_err_and}
use Rattle.compile_model.specs.declared.job.Job.{Job}
use Rattle.project_file.specs.Files.{AreSettings}
use Rattle.build_plan.specs.Plan.{IsPlanOf, build_of}
use Rattle.build_plan.proofs.planning.planned.Goals as goal

pub returns-in_err-jobs-clause-answer : goal.returns-in_err-jobs-clause-answer
returns-in_err-jobs-clause-answer g c =
    let p = err_from_is_err_and c.from_residual-in_err-jobs.result c.from_residual-in_err-jobs.ensures.1 in
    rw (p.1, p.2) (λ input. c.in_err-jobs.ensures.answer input)

pub returns-clause-answer : goal.returns-clause-answer
returns-clause-answer g c =
    let told = (g.S.Store.known c.args.store.now).sources in
    subst (λ (all : List Job). IfSome told (λ files. AreSettings files (Ok c.args.settings.now)
    → IsPlanOf files c.args.root.now (build_of c.args.env.now c.args.target.now) (Ok all))) (sym c.from_vec.ensures) c.in_ok-jobs.ensures.answer
