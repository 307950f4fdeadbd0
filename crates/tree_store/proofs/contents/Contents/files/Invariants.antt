use Rattle.std.proofs.Common.{◌≡◌, ◌++◌, map}
use Rattle.tree_store.specs.Contents.{file_of}
use Rattle.tree_store.proofs.contents.Contents.files.Given as goal

abbrev pub invariant-loop-path : goal.invariant-loop-path
invariant-loop-path l = l.files.items ++ map file_of l.path-iterator ≡ l.self
