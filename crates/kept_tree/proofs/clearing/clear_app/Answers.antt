use Rattle.std.proofs.Common.{sym, ap, ◌∙◌}
use Rattle.tree_store.specs.Slot.{emptied_slot}
use Rattle.tree_store.specs.Slot.Slot.{Here, Out}
use Rattle.tree_store.specs.declared.key.BuildKey.{BuildKey}
use Rattle.tree_store.specs.Key.{is_same_build}
use Rattle.tree_store.proofs.StoreLemmas.{slot_after_set, lent_and_back}
use Rattle.kept_tree.proofs.ClearLemmas.{same_partly}
use Rattle.kept_tree.proofs.LeftLemmas.{left_after, lent_left}
use Rattle.kept_tree.proofs.clearing.clear_app.Goals as goal

pub give_back-requires : goal.give_back-requires
give_back-requires g c =
    let key : BuildKey = record { env = c.args.env.now; app = c.args.app.now } in
    slot_after_set key (g.S.F.Folder.known c.empty-cleared.new.folder).key Out (g.S.Store.known c.args.store.now).slot
    (g.S.Store.known c.folder.new.self).slot c.in_ok-folder.ensures.lends.out
    (c.empty-cleared.ensures.stops.key ∙ c.in_ok-folder.ensures.folder.build)

pub returns-in-Ok-clause-cleared : goal.returns-in-Ok-clause-cleared
returns-in-Ok-clause-cleared g c =
    let key : BuildKey = record { env = c.args.env.now; app = c.args.app.now } in
    lent_and_back key (g.S.F.Folder.known c.empty-cleared.new.folder).key emptied_slot (g.S.F.Folder.known c.empty-cleared.new.folder).held
    (g.S.Store.known c.args.store.now).slot (g.S.Store.known c.folder.new.self).slot (g.S.Store.known c.give_back.new.self).slot
    c.in_ok-folder.ensures.lends.out (c.empty-cleared.ensures.stops.key ∙ c.in_ok-folder.ensures.folder.build) c.give_back.ensures.back
    (ap emptied_slot (sym c.in_ok-folder.ensures.folder.held) ∙ ap Here (sym c.in-Ok.ensures.emptied))

pub returns-in_err-folder-clause-part : goal.returns-in_err-folder-clause-part
returns-in_err-folder-clause-part g c =
    let key : BuildKey = record { env = c.args.env.now; app = c.args.app.now } in
    same_partly (is_same_build key) (g.S.Store.known c.args.store.now).slot (g.S.Store.known c.folder.new.self).slot c.in_err-folder.ensures.lends.kept

pub returns-in-Ok-clause-part : goal.returns-in-Ok-clause-part
returns-in-Ok-clause-part g c =
    let key : BuildKey = record { env = c.args.env.now; app = c.args.app.now } in
    lent_left key (g.S.F.Folder.known c.empty-cleared.new.folder).key (g.S.F.Folder.known c.in_ok-folder.folder).held
    (g.S.F.Folder.known c.empty-cleared.new.folder).held (g.S.Store.known c.args.store.now).slot (g.S.Store.known c.folder.new.self).slot
    (g.S.Store.known c.give_back.new.self).slot c.in_ok-folder.ensures.lends.out
    (c.empty-cleared.ensures.stops.key ∙ c.in_ok-folder.ensures.folder.build) c.give_back.ensures.back c.in_ok-folder.ensures.folder.held
    (left_after (g.S.F.Folder.known c.in_ok-folder.folder) (g.S.F.Folder.known c.empty-cleared.new.folder) c.empty-cleared.ensures.stops)

pub returns-in-Err-clause-part : goal.returns-in-Err-clause-part
returns-in-Err-clause-part g c =
    let key : BuildKey = record { env = c.args.env.now; app = c.args.app.now } in
    lent_left key (g.S.F.Folder.known c.empty-cleared.new.folder).key (g.S.F.Folder.known c.in_ok-folder.folder).held
    (g.S.F.Folder.known c.empty-cleared.new.folder).held (g.S.Store.known c.args.store.now).slot (g.S.Store.known c.folder.new.self).slot
    (g.S.Store.known c.give_back.new.self).slot c.in_ok-folder.ensures.lends.out
    (c.empty-cleared.ensures.stops.key ∙ c.in_ok-folder.ensures.folder.build) c.give_back.ensures.back c.in_ok-folder.ensures.folder.held
    (left_after (g.S.F.Folder.known c.in_ok-folder.folder) (g.S.F.Folder.known c.empty-cleared.new.folder) c.empty-cleared.ensures.stops)
