use Rattle.std.proofs.Common.{List, Option, IfSome, All, sym, subst}
use Rattle.std.proofs.lemmas.Result.{err_from_is_err_and}
use Rattle.mx_base.specs.Blame.{is_outside}
use Rattle.mx_base.specs.Causes.{Counted}
use Rattle.mx_base.specs.declared.file.File.{File}
use Rattle.build_plan.specs.Blame.{blame_of}
use Rattle.build_plan.specs.Found.{IsFound}
use Rattle.build_plan.specs.Kept.{RefusesWinner}
use Rattle.build_plan.specs.Refusals.{of_rows}
use Rattle.build_plan.proofs.ReadLemmas.{made_reads, made_reference, made_sources}
use Rattle.build_plan.proofs.WinnerLemmas.{if_lists, if_refuses, refused_later, rows_blamed}
use Rattle.build_plan.proofs.dependencies.take_stock.Goals as goal

pub returns-in_err-rows-clause-answer : goal.returns-in_err-rows-clause-answer
returns-in_err-rows-clause-answer g c =
    let told = (g.S.Store.known c.args.manifests.now.store.now).sources in
    let error = c.in_err-rows.field-0.0 in
    let p = err_from_is_err_and c.from_residual.result c.from_residual.ensures.1 in
    rw (p.1, p.2) (if_refuses told c.args.root.now error c.in_err-rows.ensures.answer)

pub returns-in_err-rows-clause-same_reference : goal.returns-in_err-rows-clause-same_reference
returns-in_err-rows-clause-same_reference g c = made_reference _ _ (g.S.Store.known c.args.manifests.now.store.now) (g.S.Store.known c.rows.new.children.store.now) c.in_err-rows.ensures.made_over

pub returns-in_err-rows-clause-reads : goal.returns-in_err-rows-clause-reads
returns-in_err-rows-clause-reads g c =
    let old = g.S.Store.known c.args.manifests.now.store.now in
    let new = g.S.Store.known c.rows.new.children.store.now in
    let error = c.in_err-rows.field-0.0 in
    let p = err_from_is_err_and c.from_residual.result c.from_residual.ensures.1 in
    rw (p.1, p.2)
    (made_reads _ _ old new (is_outside (blame_of (of_rows error))) c.in_err-rows.ensures.made_over
    (subst (λ blame. Counted old.faults new.faults (is_outside blame)) (sym (rows_blamed error)) c.in_err-rows.ensures.cause))

pub returns-in_err-found-clause-answer : goal.returns-in_err-found-clause-answer
returns-in_err-found-clause-answer g c =
    let old = g.S.Store.known c.args.manifests.now.store.now in
    let new = g.S.Store.known c.rows.new.children.store.now in
    let rows = c.in_ok-rows.rows in
    let error = c.in_err-found.field-0.0 in
    let p = err_from_is_err_and c.from_residual-in_err-found.result c.from_residual-in_err-found.ensures.1 in
    rw (p.1, p.2) (λ input.
    refused_later c.one_project.ensures old.sources c.args.root.now rows error c.in_ok-rows.ensures.answer
    (subst (λ (o : Option (List File)). IfSome o (λ files. RefusesWinner files rows error)) (made_sources _ _ old new c.in_ok-rows.ensures.made_over) (c.in_err-found.ensures.answer input)))

pub returns-clause-answer : goal.returns-clause-answer
returns-clause-answer g c =
    if_lists (g.S.Store.known c.args.manifests.now.store.now).sources c.args.root.now c.in_ok-rows.rows c.in_ok-rows.ensures.within c.in_ok-rows.ensures.answer

pub returns-clause-found : goal.returns-clause-found
returns-clause-found g c =
    let old = g.S.Store.known c.args.manifests.now.store.now in
    let new = g.S.Store.known c.rows.new.children.store.now in
    subst (λ (o : Option (List File)). IfSome o (λ files. All (IsFound files) c.in_ok-found.found.items)) (made_sources _ _ old new c.in_ok-rows.ensures.made_over) c.in_ok-found.ensures.answer
