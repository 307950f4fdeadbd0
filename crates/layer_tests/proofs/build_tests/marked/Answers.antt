use Rattle.std.proofs.Common.{◌∙◌}
use Rattle.tree_store.specs.Slot.Slot.{Out}
use Rattle.tree_store.proofs.StoreLemmas.{slot_after_set}
use Rattle.layer_tests.proofs.build_tests.marked.Goals as goal

pub give_back-requires : goal.give_back-requires
give_back-requires g c =
    slot_after_set (record { env = c.args.name.now; app = c.args.name.now }) (g.S.F.Folder.known c.marked_twice-mark.new.folder).key Out
    (g.S.Store.known c.args.store.now).slot (g.S.Store.known c.folder.new.self).slot
    c.in_ok-folder.ensures.lends.out (c.marked_twice-mark.ensures ∙ c.in_ok-folder.ensures.folder.build)
