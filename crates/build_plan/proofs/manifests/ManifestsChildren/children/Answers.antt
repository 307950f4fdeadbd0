use Rattle.build_plan.proofs.FolderLemmas.{declared_here}
use Rattle.build_plan.proofs.manifests.ManifestsChildren.children.Goals as goal

pub returns-clause-answer : goal.returns-clause-answer
returns-clause-answer g c =
    declared_here (g.S.Store.known c.args.self.now.store.now).sources c.args.app.now c.args.winner.now c.in_ok-found.found c.in_ok-decls.decls.items c.in_ok-found.ensures.answer.0 c.in_ok-found.ensures.answer.1.says c.in_ok-decls.ensures
