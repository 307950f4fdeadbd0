use Rattle.std.proofs.Common.{◌≡◌, ◌∙◌, ap, subst, IfSome}
use Rattle.mx_base.specs.Order.{bytes_at}
use Rattle.mx_base.specs.Path.{child_of}
use Rattle.mx_base.proofs.BlameLemmas.{answers_as}
use Rattle.tree_store.specs.Known.{Told}
use Rattle.project_file.specs.Blame.{settings_blame}
use Rattle.project_file.specs.Files.{settings_path, SaysSettings, AreSettings, IsOfText}
use Rattle.project_file.proofs.TextLemmas.{told_of}
use Rattle.project_file.proofs.loading.load_settings.Goals as goal

pub returns-clause-found : goal.returns-clause-found
returns-clause-found g c =
    let known = g.S.Store.known c.args.store.now in
    let text = c.in_ok-text.text in
    let place : c.in_ok-path.path ≡ settings_path = c.in_ok-path.ensures ∙ ap (λ root. child_of root settings_path) c.root.ensures in
    let found = subst (λ path. IfSome known.sources (λ files. text ≡ bytes_at path files)) place c.in_ok-text.ensures.found in
    answers_as settings_blame (SaysSettings text) (IsOfText known settings_path SaysSettings) c.settings_found.result
    (λ answer says. record { text = text; in_file = found; says = says }) c.settings_found.ensures.answer

pub returns-clause-answer : goal.returns-clause-answer
returns-clause-answer g c =
    let known = g.S.Store.known c.args.store.now in
    answers_as settings_blame (IsOfText known settings_path SaysSettings) (Told known AreSettings) c.settings_found.result
    (told_of known settings_path SaysSettings) (returns-clause-found g c)
