use Rattle.std.proofs.Common.{sym, ap, ◌∙◌}
use Rattle.tree_store.specs.declared.key.BuildKey.{BuildKey}
use Rattle.tree_store.specs.Holding.{marked, only_files}
use Rattle.tree_store.specs.Slot.{Slot, changed_slot}
use Rattle.tree_store.specs.Slot.Slot.{Here, Out}
use Rattle.tree_store.proofs.MomentLemmas.{stops_end}
use Rattle.tree_store.proofs.StoreLemmas.{lent_and_back, slot_after_set}
use Rattle.mix_plain.specs.Filling.{IsFilling, IsFillingAt}
use Rattle.mix_plain.proofs.PutLemmas.{lent_bare, lent_filled, same_filled}
use Rattle.mix_plain.proofs.fill.fill_app.Goals as goal

pub put_marked-filled-requires-clause-bare : goal.put_marked-filled-requires-clause-bare
put_marked-filled-requires-clause-bare g c =
    let key : BuildKey = record { env = c.args.env.now; app = c.args.app.now } in
    lent_bare ((g.S.Store.known c.args.store.now).slot key) (g.S.F.Folder.known c.in_ok-folder.folder) c.in_ok-folder.ensures.folder.held c.requires.empty

pub give_back-requires : goal.give_back-requires
give_back-requires g c =
    let key : BuildKey = record { env = c.args.env.now; app = c.args.app.now } in
    slot_after_set key (g.S.F.Folder.known c.put_marked-filled.new.folder).key Out (g.S.Store.known c.args.store.now).slot
    (g.S.Store.known c.folder.new.self).slot c.in_ok-folder.ensures.lends.out
    (c.put_marked-filled.ensures.stops.key ∙ c.in_ok-folder.ensures.folder.build)

pub returns-in-Ok-clause-filled : goal.returns-in-Ok-clause-filled
returns-in-Ok-clause-filled g c =
    let key : BuildKey = record { env = c.args.env.now; app = c.args.app.now } in
    let step = λ (slot : Slot). changed_slot (λ held. marked c.args.mark.now (only_files c.args.files.now)) slot in
    lent_and_back key (g.S.F.Folder.known c.put_marked-filled.new.folder).key step (g.S.F.Folder.known c.put_marked-filled.new.folder).held
    (g.S.Store.known c.args.store.now).slot (g.S.Store.known c.folder.new.self).slot (g.S.Store.known c.give_back.new.self).slot
    c.in_ok-folder.ensures.lends.out (c.put_marked-filled.ensures.stops.key ∙ c.in_ok-folder.ensures.folder.build) c.give_back.ensures.back
    (ap step (sym c.in_ok-folder.ensures.folder.held) ∙ ap Here (sym c.in-Ok.ensures.held))

pub returns-in_err-folder-clause-part : goal.returns-in_err-folder-clause-part
returns-in_err-folder-clause-part g c =
    let key : BuildKey = record { env = c.args.env.now; app = c.args.app.now } in
    same_filled key (IsFillingAt c.args.files.now c.args.mark.now) (g.S.Store.known c.args.store.now).slot (g.S.Store.known c.folder.new.self).slot
    c.in_err-folder.ensures.lends.kept

pub returns-in-Ok-clause-part : goal.returns-in-Ok-clause-part
returns-in-Ok-clause-part g c =
    let key : BuildKey = record { env = c.args.env.now; app = c.args.app.now } in
    lent_filled c.args.files.now c.args.mark.now key (g.S.F.Folder.known c.put_marked-filled.new.folder).key
    (g.S.F.Folder.known c.put_marked-filled.new.folder).held (g.S.Store.known c.args.store.now).slot (g.S.Store.known c.folder.new.self).slot
    (g.S.Store.known c.give_back.new.self).slot c.in_ok-folder.ensures.lends.out
    (c.put_marked-filled.ensures.stops.key ∙ c.in_ok-folder.ensures.folder.build) c.give_back.ensures.back
    (stops_end (IsFilling c.args.files.now c.args.mark.now) (g.S.F.Folder.known c.in_ok-folder.folder) (g.S.F.Folder.known c.put_marked-filled.new.folder)
    c.put_marked-filled.ensures.stops)

pub returns-in-Err-clause-part : goal.returns-in-Err-clause-part
returns-in-Err-clause-part g c =
    let key : BuildKey = record { env = c.args.env.now; app = c.args.app.now } in
    lent_filled c.args.files.now c.args.mark.now key (g.S.F.Folder.known c.put_marked-filled.new.folder).key
    (g.S.F.Folder.known c.put_marked-filled.new.folder).held (g.S.Store.known c.args.store.now).slot (g.S.Store.known c.folder.new.self).slot
    (g.S.Store.known c.give_back.new.self).slot c.in_ok-folder.ensures.lends.out
    (c.put_marked-filled.ensures.stops.key ∙ c.in_ok-folder.ensures.folder.build) c.give_back.ensures.back
    (stops_end (IsFilling c.args.files.now c.args.mark.now) (g.S.F.Folder.known c.in_ok-folder.folder) (g.S.F.Folder.known c.put_marked-filled.new.folder)
    c.put_marked-filled.ensures.stops)
