use Rattle.std.proofs.Common.{sym, subst, IfSome}
use Rattle.compile_model.specs.declared.job.Job.{Job}
use Rattle.tree_store.specs.FolderKnown.{FolderKnown}
use Rattle.tree_store.proofs.MomentLemmas.{if_told, told_has}
use Rattle.honest_tree.specs.Given.{outcome_of}
use Rattle.partition_crew.specs.declared.worked.Worked.{Worked}
use Rattle.partition_crew.specs.Work.{HasWorked, IsMeant, StaysHonest, given_at, given_by, worked_of}
use Rattle.partition_crew.proofs.Planning.{for_given, has_needs, job_here, planned_differ, planned_named}
use Rattle.partition_crew.proofs.Settling.{meant_told, worked_done}
use Rattle.partition_crew.proofs.working.work.Goals as goal

pub compile_into-requires : goal.compile_into-requires
compile_into-requires g c =
    let job : Job = c.index-as_slice-lease.result in
    let plan = c.args.plan.now in
    let place = c.args.lease.now.place in
    let here = job_here c.as_slice.result.now plan.jobs place job c.as_slice.ensures c.requires.place c.index-as_slice-lease.is in (
      c.type_bounds.send-P,
      (
        planned_named plan.jobs place job c.requires.planned here,
        (
          planned_differ plan.jobs place job c.requires.planned here,
          (has_needs plan place c.args.needs.now job here c.requires.needs, c.requires.able),
        ),
      ),
    )

pub returns-clause-worked : goal.returns-clause-worked
returns-clause-worked g c =
    let job : Job = c.index-as_slice-lease.result in
    let plan = c.args.plan.now in
    let place = c.args.lease.now.place in
    let needs = c.args.needs.now in
    let old : FolderKnown = g.F.Folder.known c.args.lease.now.folder in
    let new : FolderKnown = g.F.Folder.known c.compile_into.new.folder in
    let here = job_here c.as_slice.result.now plan.jobs place job c.as_slice.ensures c.requires.place c.index-as_slice-lease.is in
    subst (λ (worked : Worked). IfSome (given_at plan place needs) (λ given. HasWorked given worked old new)) (sym c.of.ensures)
    (for_given (λ given. HasWorked given (worked_of c.compile_into.result) old new) plan place needs job here
    (worked_done (given_by job needs) c.compile_into.result old new c.compile_into.ensures.done))

pub returns-clause-meant : goal.returns-clause-meant
returns-clause-meant g c = λ honest.
    let compile = g.P.Meaning.compile_of in
    let job : Job = c.index-as_slice-lease.result in
    let plan = c.args.plan.now in
    let place = c.args.lease.now.place in
    let needs = c.args.needs.now in
    let told = (g.F.Folder.known c.args.lease.now.folder).held in
    let here = job_here c.as_slice.result.now plan.jobs place job c.as_slice.ensures c.requires.place c.index-as_slice-lease.is in
    subst (λ (worked : Worked). IfSome told (λ _. IfSome (given_at plan place needs) (λ given. IsMeant (outcome_of compile given) worked))) (sym c.of.ensures)
    (if_told told (λ held is. for_given (λ given. IsMeant (outcome_of compile given) (worked_of c.compile_into.result)) plan place needs job here
    (told_has (λ _. IsMeant (outcome_of compile (given_by job needs)) (worked_of c.compile_into.result)) told held is
    (meant_told (outcome_of compile (given_by job needs)) told c.compile_into.result (c.compile_into.ensures.meant honest)))))

pub returns-clause-honest : goal.returns-clause-honest
returns-clause-honest g c = λ honest.
    let job : Job = c.index-as_slice-lease.result in
    let plan = c.args.plan.now in
    let place = c.args.lease.now.place in
    let old : FolderKnown = g.F.Folder.known c.args.lease.now.folder in
    let new : FolderKnown = g.F.Folder.known c.compile_into.new.folder in
    let here = job_here c.as_slice.result.now plan.jobs place job c.as_slice.ensures c.requires.place c.index-as_slice-lease.is in
    for_given (λ given. StaysHonest g.P.Meaning.compile_of given old new) plan place c.args.needs.now job here (c.compile_into.ensures.honest honest)
