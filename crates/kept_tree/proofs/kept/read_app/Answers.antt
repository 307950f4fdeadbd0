use Rattle.std.proofs.Common.{ap, ◌∙◌, false, refl, Option}
use Rattle.std.proofs.lemmas.Result.{err_from_is_err_and}
use Rattle.staleness.specs.declared.kept.Kept.{Kept}
use Rattle.tree_store.specs.declared.key.BuildKey.{BuildKey}
use Rattle.tree_store.specs.FolderKnown.{FolderKnown}
use Rattle.tree_store.specs.Slot.Slot.{Out}
use Rattle.tree_store.proofs.StoreLemmas.{slot_after_set}
use Rattle.kept_tree.proofs.KeptLemmas.{calm_back, lent_read}
use Rattle.kept_tree.proofs.kept.read_app.Goals as goal

pub give_back-requires : goal.give_back-requires
give_back-requires g c =
    let key : BuildKey = record { env = c.args.env.now; app = c.args.app.now } in
    slot_after_set key (g.S.F.Folder.known c.read_folder-entry.new.folder).key Out (g.S.Store.known c.args.store.now).slot
    (g.S.Store.known c.folder.new.self).slot c.in_ok-folder.ensures.lends.out
    (ap (λ (f : FolderKnown). f.key) c.read_folder-entry.ensures.looks.same ∙ c.in_ok-folder.ensures.folder.build)

pub returns-in_err-entry-clause-reads : goal.returns-in_err-entry-clause-reads
returns-in_err-entry-clause-reads g c =
    let key : BuildKey = record { env = c.args.env.now; app = c.args.app.now } in
    let p = err_from_is_err_and c.from_residual-in_err-entry.result c.from_residual-in_err-entry.ensures.1 in
    rw (p.1, p.2)
    (lent_read (Option Kept) key (g.S.F.Folder.known c.in_ok-folder.folder) (g.S.F.Folder.known c.read_folder-entry.new.folder)
    (g.S.Store.known c.args.store.now) (g.S.Store.known c.folder.new.self) (g.S.Store.known c.give_back.new.self) c.in_err-entry.field-0.0
    c.in_ok-folder.ensures.lends.out c.in_ok-folder.ensures.lends.rest (c.in_ok-folder.ensures.lends.cause.kept refl)
    c.in_ok-folder.ensures.folder c.in_err-entry.ensures.looks c.give_back.ensures)

pub returns-clause-reads : goal.returns-clause-reads
returns-clause-reads g c =
    let key : BuildKey = record { env = c.args.env.now; app = c.args.app.now } in
    calm_back key (g.S.F.Folder.known c.in_ok-folder.folder) (g.S.F.Folder.known c.read_folder-entry.new.folder)
    (g.S.Store.known c.args.store.now) (g.S.Store.known c.folder.new.self) (g.S.Store.known c.give_back.new.self) false
    c.in_ok-folder.ensures.lends.out c.in_ok-folder.ensures.lends.rest (c.in_ok-folder.ensures.lends.cause.kept refl)
    c.in_ok-folder.ensures.folder c.in_ok-entry.ensures.looks c.give_back.ensures refl
