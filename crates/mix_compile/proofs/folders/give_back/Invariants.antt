use Rattle.std.proofs.Common.{map, vec_len}
use Rattle.mix_compile.proofs.GiveLemmas.{Giving}
use Rattle.mix_compile.proofs.folders.give_back.Given as goal

abbrev pub invariant-giving : goal.invariant-giving
invariant-giving g l = Giving (map g.S.F.Folder.known l.fn.folders.items) (map g.S.F.Folder.known l.folders.items) (g.S.Store.known l.fn.store) (g.S.Store.known l.store)

abbrev pub decreases-giving : goal.decreases-giving
decreases-giving g l = vec_len l.folders
