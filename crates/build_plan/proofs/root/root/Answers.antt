use Rattle.std.proofs.Common.{◌≡◌, [], Err, IfSome, ◌∙◌, ap, subst}
use Rattle.mx_base.specs.Blame.Blame.{Input}
use Rattle.project_file.specs.Blame.{project_blame}
use Rattle.project_file.specs.Files.{IsLoaded, manifest_at}
use Rattle.build_plan.proofs.RootLemmas.{if_project}
use Rattle.build_plan.proofs.root.root.Goals as goal

pub returns-clause-answer : goal.returns-clause-answer
returns-clause-answer g c =
    let told = (g.S.Store.known c.args.store.now).sources in
    let fault = c.in-Err.fault in
    let place : c.in_ok-path.path ≡ manifest_at [] = c.in_ok-path.ensures ∙ ap manifest_at c.root-dir.ensures in
    let says = subst (λ dir. project_blame fault ≡ Input → IfSome told (λ files. IsLoaded files dir (Err fault))) c.root-dir.ensures c.in-Err.ensures.answer in
    rw c.of_project.ensures (if_project told c.in_ok-path.path fault place says)
