use Rattle.tree_store.specs.FolderKnown.{FolderKnown}
use Rattle.tree_store.specs.Moment.Write.{Unmark, Clear}
use Rattle.tree_store.proofs.MomentLemmas.{stops_then, unmarked_after}
use Rattle.partition_crew.specs.Work.{IsAsBefore}
use Rattle.partition_crew.proofs.Courses.{on_emptied, touches_then, touches_write}
use Rattle.partition_crew.proofs.Stopping.{stops_clear, stops_unmark}
use Rattle.partition_crew.proofs.compiling.empty.Goals as goal

pub returns-in_err-unmark-clause-stops : goal.returns-in_err-unmark-clause-stops
returns-in_err-unmark-clause-stops g c = stops_unmark (g.F.Folder.known c.args.folder.now)
    (g.F.Folder.known c.unmark.new.self) c.unmark.result c.unmark.ensures

pub returns-clause-emptied : goal.returns-clause-emptied
returns-clause-emptied g c =
    on_emptied (g.F.Folder.known c.args.folder.now) (g.F.Folder.known c.unmark.new.self)
    (g.F.Folder.known c.clear.new.self) c.clear.result c.in_ok-unmark.ensures.ended c.clear.ensures

pub returns-clause-stops : goal.returns-clause-stops
returns-clause-stops g c =
    let a : FolderKnown = g.F.Folder.known c.args.folder.now in
    let b : FolderKnown = g.F.Folder.known c.unmark.new.self in
    let end : FolderKnown = g.F.Folder.known c.clear.new.self in
    stops_then (IsAsBefore a.held) a b end (stops_unmark a b c.unmark.result c.unmark.ensures)
    (stops_clear a.held b end c.clear.result (unmarked_after a b c.in_ok-unmark.ensures.ended) c.clear.ensures)

pub returns-clause-folder : goal.returns-clause-folder
returns-clause-folder g c =
    let a : FolderKnown = g.F.Folder.known c.args.folder.now in
    let b : FolderKnown = g.F.Folder.known c.unmark.new.self in
    touches_then a b (g.F.Folder.known c.clear.new.self) _ (touches_write Unmark a b _ c.in_ok-unmark.ensures)
    (touches_write Clear b _ c.clear.result c.clear.ensures)
