use Rattle.std.proofs.Common.{ap}
use Rattle.tree_store.specs.FolderKnown.{FolderKnown}
use Rattle.tree_store.proofs.MomentLemmas.{stops_then}
use Rattle.kept_tree.specs.Clearing.{IsLeftIn}
use Rattle.kept_tree.proofs.LeftLemmas.{clear_stops, unmark_stops}
use Rattle.kept_tree.proofs.clearing.empty.Goals as goal

pub returns-in_err-unmark-clause-stops : goal.returns-in_err-unmark-clause-stops
returns-in_err-unmark-clause-stops g c =
    unmark_stops (g.F.Folder.known c.args.folder.now) (g.F.Folder.known c.unmark.new.self) c.unmark.result c.unmark.ensures

pub returns-clause-stops : goal.returns-clause-stops
returns-clause-stops g c =
    let old : FolderKnown = g.F.Folder.known c.args.folder.now in
    let mid : FolderKnown = g.F.Folder.known c.unmark.new.self in
    let new : FolderKnown = g.F.Folder.known c.clear.new.self in
    stops_then (IsLeftIn old.held) old mid new (unmark_stops old mid c.unmark.result c.unmark.ensures)
    (clear_stops old mid new c.clear.result (ap (λ (f : FolderKnown). f.held) c.in_ok-unmark.ensures.ended) c.clear.ensures)
