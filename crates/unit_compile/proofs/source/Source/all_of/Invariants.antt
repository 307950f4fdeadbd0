use Rattle.std.proofs.Common.{◌≡◌, ◌++◌, map, filter, drop}
use Rattle.unit_compile.specs.Units.{is_unit_file, source_of}
use Rattle.unit_compile.specs.Views.{source_in}
use Rattle.unit_compile.proofs.source.Source.all_of.Given as goal

abbrev pub invariant-loop-file : goal.invariant-loop-file
invariant-loop-file l = map source_in l.sources.items ++ map source_of (filter is_unit_file (drop l.file-index l.files)) ≡ map source_of (filter is_unit_file l.files)
