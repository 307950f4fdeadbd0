use Rattle.std.proofs.Common.{ap, ◌∙◌, false, refl, List}
use Rattle.std.proofs.lemmas.Result.{err_from_is_err_and}
use Rattle.mx_base.specs.declared.file.File.{File}
use Rattle.tree_store.specs.declared.key.BuildKey.{BuildKey}
use Rattle.tree_store.specs.FolderKnown.{FolderKnown}
use Rattle.tree_store.specs.Slot.Slot.{Out}
use Rattle.tree_store.proofs.StoreLemmas.{slot_after_set}
use Rattle.kept_tree.proofs.KeptLemmas.{calm_back, lent_read}
use Rattle.unitc_call.proofs.NeedLemmas.{files_told}
use Rattle.unitc_call.proofs.needs.read_build.Goals as goal

pub give_back-requires : goal.give_back-requires
give_back-requires g c =
    let key : BuildKey = record { env = c.args.env.now; app = c.args.app.now } in
    slot_after_set key (g.S.F.Folder.known c.files-files.new.self).key Out (g.S.Store.known c.args.store.now).slot
    (g.S.Store.known c.folder.new.self).slot c.in_ok-folder.ensures.lends.out
    (ap (λ (f : FolderKnown). f.key) c.files-files.ensures.looks.same ∙ c.in_ok-folder.ensures.folder.build)

pub returns-in_err-files-clause-reads : goal.returns-in_err-files-clause-reads
returns-in_err-files-clause-reads g c =
    let key : BuildKey = record { env = c.args.env.now; app = c.args.app.now } in
    let p = err_from_is_err_and c.from_residual-in_err-files.result c.from_residual-in_err-files.ensures.1 in
    rw (p.1, p.2)
    (lent_read (List File) key (g.S.F.Folder.known c.in_ok-folder.folder) (g.S.F.Folder.known c.files-files.new.self)
    (g.S.Store.known c.args.store.now) (g.S.Store.known c.folder.new.self) (g.S.Store.known c.give_back.new.self) c.in_err-files.field-0.0
    c.in_ok-folder.ensures.lends.out c.in_ok-folder.ensures.lends.rest (c.in_ok-folder.ensures.lends.cause.kept refl)
    c.in_ok-folder.ensures.folder c.in_err-files.ensures.looks c.give_back.ensures)

pub returns-clause-reads : goal.returns-clause-reads
returns-clause-reads g c =
    let key : BuildKey = record { env = c.args.env.now; app = c.args.app.now } in
    calm_back key (g.S.F.Folder.known c.in_ok-folder.folder) (g.S.F.Folder.known c.files-files.new.self)
    (g.S.Store.known c.args.store.now) (g.S.Store.known c.folder.new.self) (g.S.Store.known c.give_back.new.self) false
    c.in_ok-folder.ensures.lends.out c.in_ok-folder.ensures.lends.rest (c.in_ok-folder.ensures.lends.cause.kept refl)
    c.in_ok-folder.ensures.folder c.in_ok-files.ensures.looks c.give_back.ensures refl

pub returns-clause-files : goal.returns-clause-files
returns-clause-files g c =
    files_told _ (g.S.F.Folder.known c.in_ok-folder.folder).held c.in_ok-files.field-0 c.in_ok-folder.ensures.folder.held c.in_ok-files.ensures.files
