use Rattle.std.proofs.Common.{◌≡◌, ◌++◌, map}
use Rattle.tree_store.specs.Contents.{file_of}
use Rattle.tree_store.specs.Files.{paths_below}
use Rattle.tree_store.proofs.contents.Contents.below.Given as goal

abbrev pub invariant-loop-path : goal.invariant-loop-path
invariant-loop-path l = l.paths.items ++ paths_below l.dir (map file_of l.path-iterator) ≡ paths_below l.dir l.self
