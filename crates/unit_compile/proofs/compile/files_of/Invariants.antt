use Rattle.std.proofs.Common.{◌≡◌, ◌++◌, map}
use Rattle.unit_compile.specs.Units.{file_of}
use Rattle.unit_compile.proofs.compile.files_of.Given as goal

abbrev pub invariant-loop-path : goal.invariant-loop-path
invariant-loop-path l = l.files.items ++ map file_of l.path-iterator ≡ map file_of l.fn.faces.entries
