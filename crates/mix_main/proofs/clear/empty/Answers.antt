use Rattle.std.proofs.Common.{ap}
use Rattle.tree_store.specs.FolderKnown.{FolderKnown}
use Rattle.tree_store.proofs.MomentLemmas.{unmarked_after}
use Rattle.mix_main.proofs.PartLemmas.{clear_stopped, unmark_stopped}
use Rattle.mix_main.proofs.StandLemmas.{on_err, map_err}
use Rattle.mix_main.proofs.clear.empty.Goals as goal

pub clear-requires : goal.clear-requires
clear-requires g c = unmarked_after (g.F.Folder.known c.args.folder.now) (g.F.Folder.known c.unmark.new.self) c.in_ok-unmark.ensures.ended

pub returns-in_err-unmark-clause-part : goal.returns-in_err-unmark-clause-part
returns-in_err-unmark-clause-part g c =
    on_err c.from_residual.result _
    (unmark_stopped (g.F.Folder.known c.args.folder.now) (g.F.Folder.known c.unmark.new.self) c.in_err-unmark.ensures.stopped)

pub returns-clause-part : goal.returns-clause-part
returns-clause-part g c =
    map_err c.clear.result _ _
    (clear_stopped (g.F.Folder.known c.args.folder.now) (g.F.Folder.known c.unmark.new.self) (g.F.Folder.known c.clear.new.self)
    (ap (λ (f : FolderKnown). f.held) c.in_ok-unmark.ensures.ended))
    c.clear.ensures.stopped
