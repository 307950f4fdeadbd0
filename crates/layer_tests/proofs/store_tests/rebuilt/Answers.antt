use Rattle.std.proofs.Common.{◌∙◌}
use Rattle.tree_store.specs.Slot.Slot.{Out}
use Rattle.tree_store.proofs.StoreLemmas.{slot_after_set}
use Rattle.layer_tests.proofs.store_tests.rebuilt.Goals as goal

pub give_back-requires : goal.give_back-requires
give_back-requires g c =
    slot_after_set (record { env = c.args.name.now; app = c.args.name.now }) (g.S.F.Folder.known c.refilled-files.new.folder).key Out (g.S.Store.known c.get.new.self).slot (g.S.Store.known c.folder.new.self).slot
    c.in_ok-folder.ensures.lends.out (c.refilled-files.ensures ∙ c.in_ok-folder.ensures.folder.build)
