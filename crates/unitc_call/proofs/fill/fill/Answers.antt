use Rattle.std.proofs.Common.{◌∙◌, List, ap, option_map}
use Rattle.mx_base.specs.declared.file.File.{File}
use Rattle.tree_store.specs.declared.key.BuildKey.{BuildKey}
use Rattle.tree_store.specs.FolderKnown.{FolderKnown}
use Rattle.tree_store.specs.Holding.{with_all}
use Rattle.tree_store.specs.Slot.Slot.{Out}
use Rattle.tree_store.proofs.StoreLemmas.{slot_after_set}
use Rattle.unitc_call.proofs.FillLemmas.{filled_after, lent_unmarked, others_back, others_still, unmarked_back, unmarked_still}
use Rattle.unitc_call.proofs.fill.fill.Goals as goal

pub put_files-filled-requires : goal.put_files-filled-requires
put_files-filled-requires g c =
    let key : BuildKey = record { env = c.args.env.now; app = c.args.app.now } in
    lent_unmarked ((g.S.Store.known c.args.store.now).slot key) (g.S.F.Folder.known c.in_ok-folder.folder) c.in_ok-folder.ensures.folder.held
    c.requires.empty

pub give_back-requires : goal.give_back-requires
give_back-requires g c =
    let key : BuildKey = record { env = c.args.env.now; app = c.args.app.now } in
    slot_after_set key (g.S.F.Folder.known c.put_files-filled.new.folder).key Out (g.S.Store.known c.args.store.now).slot
    (g.S.Store.known c.folder.new.self).slot c.in_ok-folder.ensures.lends.out
    (c.put_files-filled.ensures.unmarked.key ∙ c.in_ok-folder.ensures.folder.build)

pub returns-in-Ok-clause-filled : goal.returns-in-Ok-clause-filled
returns-in-Ok-clause-filled g c =
    let key : BuildKey = record { env = c.args.env.now; app = c.args.app.now } in
    let first : FolderKnown = g.S.F.Folder.known c.in_ok-folder.folder in
    let last : FolderKnown = g.S.F.Folder.known c.put_files-filled.new.folder in
    filled_after key c.args.files.now first last (g.S.Store.known c.args.store.now).slot (g.S.Store.known c.folder.new.self).slot
    (g.S.Store.known c.give_back.new.self).slot c.in_ok-folder.ensures.lends.out c.in_ok-folder.ensures.folder.held
    (c.put_files-filled.ensures.unmarked.key ∙ c.in_ok-folder.ensures.folder.build) c.give_back.ensures.back
    c.as_slice.ensures.in_order c.requires.empty
    (c.in-Ok.ensures.held ∙ ap (λ (fs : List File). option_map (with_all fs) first.held) c.as_slice.ensures.value)

pub returns-in_err-folder-clause-unmarked : goal.returns-in_err-folder-clause-unmarked
returns-in_err-folder-clause-unmarked g c =
    let key : BuildKey = record { env = c.args.env.now; app = c.args.app.now } in
    unmarked_still key (g.S.Store.known c.args.store.now).slot (g.S.Store.known c.folder.new.self).slot c.in_err-folder.ensures.lends.kept
    c.requires.empty (c.requires.here key)

pub returns-in_err-folder-clause-others : goal.returns-in_err-folder-clause-others
returns-in_err-folder-clause-others g c =
    let key : BuildKey = record { env = c.args.env.now; app = c.args.app.now } in
    others_still key (g.S.Store.known c.args.store.now).slot (g.S.Store.known c.folder.new.self).slot c.in_err-folder.ensures.lends.kept

pub returns-in-Ok-clause-unmarked : goal.returns-in-Ok-clause-unmarked
returns-in-Ok-clause-unmarked g c =
    let key : BuildKey = record { env = c.args.env.now; app = c.args.app.now } in
    unmarked_back key c.args.files.now (g.S.F.Folder.known c.in_ok-folder.folder) (g.S.F.Folder.known c.put_files-filled.new.folder)
    (g.S.Store.known c.args.store.now).slot (g.S.Store.known c.folder.new.self).slot (g.S.Store.known c.give_back.new.self).slot
    c.in_ok-folder.ensures.lends.out c.in_ok-folder.ensures.folder.held
    (c.put_files-filled.ensures.unmarked.key ∙ c.in_ok-folder.ensures.folder.build) c.give_back.ensures.back c.put_files-filled.ensures.unmarked

pub returns-in-Err-clause-unmarked : goal.returns-in-Err-clause-unmarked
returns-in-Err-clause-unmarked g c =
    let key : BuildKey = record { env = c.args.env.now; app = c.args.app.now } in
    unmarked_back key c.args.files.now (g.S.F.Folder.known c.in_ok-folder.folder) (g.S.F.Folder.known c.put_files-filled.new.folder)
    (g.S.Store.known c.args.store.now).slot (g.S.Store.known c.folder.new.self).slot (g.S.Store.known c.give_back.new.self).slot
    c.in_ok-folder.ensures.lends.out c.in_ok-folder.ensures.folder.held
    (c.put_files-filled.ensures.unmarked.key ∙ c.in_ok-folder.ensures.folder.build) c.give_back.ensures.back c.put_files-filled.ensures.unmarked

pub returns-in-Ok-clause-others : goal.returns-in-Ok-clause-others
returns-in-Ok-clause-others g c =
    let key : BuildKey = record { env = c.args.env.now; app = c.args.app.now } in
    others_back key c.args.files.now (g.S.F.Folder.known c.in_ok-folder.folder) (g.S.F.Folder.known c.put_files-filled.new.folder)
    (g.S.Store.known c.args.store.now).slot (g.S.Store.known c.folder.new.self).slot (g.S.Store.known c.give_back.new.self).slot
    c.in_ok-folder.ensures.lends.out c.in_ok-folder.ensures.folder.held
    (c.put_files-filled.ensures.unmarked.key ∙ c.in_ok-folder.ensures.folder.build) c.give_back.ensures.back

pub returns-in-Err-clause-others : goal.returns-in-Err-clause-others
returns-in-Err-clause-others g c =
    let key : BuildKey = record { env = c.args.env.now; app = c.args.app.now } in
    others_back key c.args.files.now (g.S.F.Folder.known c.in_ok-folder.folder) (g.S.F.Folder.known c.put_files-filled.new.folder)
    (g.S.Store.known c.args.store.now).slot (g.S.Store.known c.folder.new.self).slot (g.S.Store.known c.give_back.new.self).slot
    c.in_ok-folder.ensures.lends.out c.in_ok-folder.ensures.folder.held
    (c.put_files-filled.ensures.unmarked.key ∙ c.in_ok-folder.ensures.folder.build) c.give_back.ensures.back
