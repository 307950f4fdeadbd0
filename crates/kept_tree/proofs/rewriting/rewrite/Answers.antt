use Rattle.std.proofs.Common.{sym, ◌∙◌}
use Rattle.tree_store.specs.declared.key.BuildKey.{BuildKey}
use Rattle.tree_store.specs.FolderKnown.{FolderKnown}
use Rattle.tree_store.specs.Slot.Slot.{Here, Out}
use Rattle.tree_store.proofs.StoreLemmas.{slot_after_set}
use Rattle.kept_tree.proofs.RewriteLemmas.{rewriting_at, rewritten_at}
use Rattle.kept_tree.proofs.rewriting.rewrite.Goals as goal

pub give_back-requires : goal.give_back-requires
give_back-requires g c =
    let key : BuildKey = record { env = c.args.env.now; app = c.args.app.now } in
    slot_after_set key (g.S.F.Folder.known c.rewrite_mark-rewritten.new.folder).key Out (g.S.Store.known c.args.store.now).slot
    (g.S.Store.known c.folder.new.self).slot c.in_ok-folder.ensures.lends.out
    (c.rewrite_mark-rewritten.ensures.stops.key ∙ c.in_ok-folder.ensures.folder.build)

pub returns-in-Ok-clause-rewritten : goal.returns-in-Ok-clause-rewritten
returns-in-Ok-clause-rewritten g c =
    let key : BuildKey = record { env = c.args.env.now; app = c.args.app.now } in
    let first : FolderKnown = g.S.F.Folder.known c.in_ok-folder.folder in
    let last : FolderKnown = g.S.F.Folder.known c.rewrite_mark-rewritten.new.folder in
    rewritten_at first.held last.held ((g.S.Store.known c.args.store.now).slot key) ((g.S.Store.known c.give_back.new.self).slot key)
    c.in-Ok.ensures.rewritten c.in_ok-folder.ensures.folder.held
    (slot_after_set last.key key (Here last.held) (g.S.Store.known c.folder.new.self).slot (g.S.Store.known c.give_back.new.self).slot
    c.give_back.ensures.back (sym (c.rewrite_mark-rewritten.ensures.stops.key ∙ c.in_ok-folder.ensures.folder.build)))

pub returns-in-Ok-clause-part : goal.returns-in-Ok-clause-part
returns-in-Ok-clause-part g c =
    let key : BuildKey = record { env = c.args.env.now; app = c.args.app.now } in
    let first : FolderKnown = g.S.F.Folder.known c.in_ok-folder.folder in
    let last : FolderKnown = g.S.F.Folder.known c.rewrite_mark-rewritten.new.folder in
    rewriting_at first last ((g.S.Store.known c.args.store.now).slot key) ((g.S.Store.known c.give_back.new.self).slot key)
    c.rewrite_mark-rewritten.ensures.stops c.in_ok-folder.ensures.folder.held
    (slot_after_set last.key key (Here last.held) (g.S.Store.known c.folder.new.self).slot (g.S.Store.known c.give_back.new.self).slot
    c.give_back.ensures.back (sym (c.rewrite_mark-rewritten.ensures.stops.key ∙ c.in_ok-folder.ensures.folder.build)))

pub returns-in-Err-clause-part : goal.returns-in-Err-clause-part
returns-in-Err-clause-part g c =
    let key : BuildKey = record { env = c.args.env.now; app = c.args.app.now } in
    let first : FolderKnown = g.S.F.Folder.known c.in_ok-folder.folder in
    let last : FolderKnown = g.S.F.Folder.known c.rewrite_mark-rewritten.new.folder in
    rewriting_at first last ((g.S.Store.known c.args.store.now).slot key) ((g.S.Store.known c.give_back.new.self).slot key)
    c.rewrite_mark-rewritten.ensures.stops c.in_ok-folder.ensures.folder.held
    (slot_after_set last.key key (Here last.held) (g.S.Store.known c.folder.new.self).slot (g.S.Store.known c.give_back.new.self).slot
    c.give_back.ensures.back (sym (c.rewrite_mark-rewritten.ensures.stops.key ∙ c.in_ok-folder.ensures.folder.build)))
