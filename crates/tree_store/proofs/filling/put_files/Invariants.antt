use Rattle.std.proofs.Common.{◌≡◌, None, drop, option_map}
use Rattle.tree_store.specs.FolderKnown.{StopsIn}
use Rattle.tree_store.specs.Holding.{with_all}
use Rattle.tree_store.proofs.filling.put_files.Given as goal

abbrev pub invariant-loop-file : goal.invariant-loop-file
invariant-loop-file g l = record {
  rest : option_map (with_all (drop l.file-index l.files)) (g.F.Folder.known l.folder).held ≡ option_map (with_all l.files) (g.F.Folder.known l.fn.folder).held;
  stops : StopsIn (λ image. image.mark ≡ None) (g.F.Folder.known l.fn.folder) (g.F.Folder.known l.folder);
  faults : (g.F.Folder.known l.folder).faults ≡ (g.F.Folder.known l.fn.folder).faults;
}
