use Rattle.std.proofs.Common.{◌≡◌, subst, IfSome}
use Rattle.mx_base.specs.Order.{bytes_at}
use Rattle.mx_base.proofs.BlameLemmas.{answers_as}
use Rattle.tree_store.specs.Known.{Told}
use Rattle.project_file.specs.Blame.{project_blame}
use Rattle.project_file.specs.Files.{manifest_at, SaysProject, IsLoaded, IsOfText}
use Rattle.project_file.proofs.PathLemmas.{place_outside}
use Rattle.project_file.proofs.TextLemmas.{told_of}
use Rattle.project_file.proofs.loading.load_project.Goals as goal

pub get-requires : goal.get-requires
get-requires g c = place_outside c.args.dir.now c.in_ok-path.path c.in_ok-path.ensures c.requires

pub returns-clause-found : goal.returns-clause-found
returns-clause-found g c =
    let dir = c.args.dir.now in
    let known = g.S.Store.known c.args.store.now in
    let text = c.in_ok-text.text in
    let found = subst (λ path. IfSome known.sources (λ files. text ≡ bytes_at path files)) c.in_ok-path.ensures c.in_ok-text.ensures.found in
    answers_as project_blame (SaysProject dir text) (IsOfText known (manifest_at dir) (SaysProject dir)) c.project_found.result
    (λ answer says. record { text = text; in_file = found; says = says }) c.project_found.ensures.answer

pub returns-clause-answer : goal.returns-clause-answer
returns-clause-answer g c =
    let dir = c.args.dir.now in
    let known = g.S.Store.known c.args.store.now in
    answers_as project_blame (IsOfText known (manifest_at dir) (SaysProject dir)) (Told known (λ files. IsLoaded files dir)) c.project_found.result
    (told_of known (manifest_at dir) (SaysProject dir)) (returns-clause-found g c)
